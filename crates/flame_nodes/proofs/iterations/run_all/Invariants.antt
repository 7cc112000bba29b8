use Rattle.std.proofs.Common.{◌≡◌, drop}
use Rattle.flame_world.specs.Iterations.{steps}
use Rattle.flame_world.specs.WorldFits.{FitsField}
use Rattle.flame_field.specs.KeptFields.{field_of}
use Rattle.flame_field.specs.KeptPools.{AreDealt}
use Rattle.flame_round.specs.Choices.{choice_at}
use Rattle.flame_round.specs.KeptRounds.{round_of}
use Rattle.flame_nodes.proofs.iterations.run_all.Given as goal

abbrev pub invariant-loop-function : goal.invariant-loop-function
invariant-loop-function g l = record {
  fits : FitsField l.round.program.now.model (field_of l.field);
  dealt : AreDealt (choice_at l.round.program.now.model l.round.iteration) l.field.pools;
  rest : steps (round_of l.round) (drop l.function-index l.function-items) (field_of l.field)
      ≡ steps (round_of l.round) l.function-items (field_of l.fn.field);
}
