use Rattle.std.proofs.Common.{◌≡◌, List, length}
use Rattle.std.specs.Prelude.{ℤ}
use Rattle.flame_world.specs.Fields.{opening}
use Rattle.flame_field.specs.KeptFields.{field_of}
use Rattle.flame_field.specs.KeptPools.{AreDealt}
use Rattle.flame_round.specs.Choices.{choice_at}
use Rattle.flame_round.specs.KeptRounds.{round_of}
use Rattle.flame_layers.specs.LayerStates.{HasComeTo}
use Rattle.flame_layerrun.proofs.iterations.run_all.Given as goal

abbrev pub invariant-loop-own : goal.invariant-loop-own
invariant-loop-own g l = record {
  come : (agents : List (List (List ℤ)))
      → length agents ≡ length l.round.program.now.model.agents
      → field_of l.fn.field ≡ opening l.round.program.now.model agents
      → HasComeTo (round_of l.round) agents l.own-index l.stop (field_of l.field);
  dealt : AreDealt (choice_at l.round.program.now.model l.round.iteration) l.field.pools;
}
