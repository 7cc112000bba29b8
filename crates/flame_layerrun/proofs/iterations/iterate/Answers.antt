use Rattle.std.proofs.Common.{refl, w32, to_z, of_z}
use Rattle.flame_round.specs.Choices.{choice_at}
use Rattle.flame_layerrun.proofs.iterations.iterate.Goals as goal

pub run_all-requires-clause-begun : goal.run_all-requires-clause-begun
run_all-requires-clause-begun g c κs within = record {
  world = c.args.world;
  fits = c.requires.fits;
  constants = refl;
  field_is = c.in_ok-field.ensures.field;
}

pub run_all-requires-clause-dealt : goal.run_all-requires-clause-dealt
run_all-requires-clause-dealt g c κs within =
    c.in_ok-field.ensures.dealt (choice_at c.args.program.now.model (to_z w32 (of_z w32 c.args.iteration)))
