use Rattle.std.proofs.Common.{◌∙◌, length, sym, ap}
use Rattle.flame_nest.specs.KindTables.{reach}
use Rattle.flame_nest.proofs.Measures.{has_long-inside, is_far, far_true, far_false}
use Rattle.flame_nest.proofs.fields.Fields.are_long_in.Goals as goal

pub returns-then-self-gt0 : goal.returns-then-self-gt0
returns-then-self-gt0 c =
    sym (far_true (length c.args.name.now) c.self.inside.longest c.if-self-gt0.true)
    ∙ ap (is_far (length c.args.name.now)) (c.self.invariant.1 ∙ ap reach c.self.view_is)
    ∙ sym (has_long-inside c.args.name.now c.args.self.now)

pub returns-else-self-gt0 : goal.returns-else-self-gt0
returns-else-self-gt0 c =
    sym (far_false (length c.args.name.now) c.self.inside.longest c.if-self-gt0.false)
    ∙ ap (is_far (length c.args.name.now)) (c.self.invariant.1 ∙ ap reach c.self.view_is)
    ∙ sym (has_long-inside c.args.name.now c.args.self.now)
