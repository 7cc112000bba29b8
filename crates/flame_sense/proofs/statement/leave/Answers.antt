use Rattle.std.proofs.Common.{ap, ◌∙◌, List}
use Rattle.flame_sense.specs.declared.scene.Local as variable
use Rattle.flame_meaning.specs.Scenes.{Progress}
use Rattle.flame_sense.specs.StandsFor.{progress_seen, visible}
use Rattle.flame_sense.proofs.Locals.{visible-take}
use Rattle.flame_sense.proofs.statement.leave.Goals as goal

pub returns : goal.returns
returns c =
    let With : List variable.Local → Progress = λ locals. record (progress_seen c.args.s.now) { locals = visible locals } in
    ap With c.truncate.ensures.items
    ∙ ap (λ locals. record (progress_seen c.args.s.now) { locals = locals }) (visible-take c.args.depth c.args.s.now.locals.items)
