use Rattle.std.proofs.Common.{sym, subst, w32, to_z, of_z}
use Rattle.flame_world.specs.Fields.{Field}
use Rattle.flame_world.specs.WorldFits.{FitsField}
use Rattle.flame_world.proofs.WidthsKept.{fitting_worlds_open}
use Rattle.flame_round.specs.Choices.{choice_at}
use Rattle.flame_nodes.proofs.iterations.iterate.Goals as goal

pub run_all-requires-clause-fits : goal.run_all-requires-clause-fits
run_all-requires-clause-fits g c κs within =
    let model = c.args.program.now.model in
    subst (λ (field : Field). FitsField model field) (sym c.in_ok-field.ensures.field)
    (fitting_worlds_open model c.args.world c.requires.fits)

pub run_all-requires-clause-dealt : goal.run_all-requires-clause-dealt
run_all-requires-clause-dealt g c κs within =
    c.in_ok-field.ensures.dealt (choice_at c.args.program.now.model (to_z w32 (of_z w32 c.args.iteration)))
