-- The set has one node more.
use Rattle.std.proofs.Common.{ap, ◌∙◌}
use Rattle.std.specs.Prelude.{◌==◌, ◌||◌}
use Rattle.flame_spec.specs.Below.{is_in}
use Rattle.flame_graph.proofs.ReadySets.{added_is}
use Rattle.flame_graph.proofs.ready.Ready.add.Goals as goal

pub returns : goal.returns
returns c = λ g. added_is c.self.inside.nodes c.insert.new.self c.args.node c.in_ok-insert.ensures.updates g ∙ ap (λ fs. is_in g fs || (c.args.node == g)) c.self.view_is
