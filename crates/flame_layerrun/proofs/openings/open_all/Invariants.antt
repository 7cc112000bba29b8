use Rattle.std.proofs.Common.{◌≡◌, ◌++◌, drop, map}
use Rattle.flame_field.specs.KeptFields.{field_of}
use Rattle.flame_field.specs.KeptPools.{AreDealt}
use Rattle.flame_round.specs.Choices.{choice_at}
use Rattle.flame_layerrun.specs.declared.openings.Reading.{Reading}
use Rattle.flame_layerrun.specs.declared.schedules.Ranked.{Ranked}
use Rattle.flame_layerrun.proofs.OpenedFunctions.{HaveBegun}
use Rattle.flame_layerrun.proofs.openings.open_all.Given as goal

abbrev pub invariant-loop-ranked : goal.invariant-loop-ranked
invariant-loop-ranked g l = record {
  begun : HaveBegun l.round (map (λ (ranked : Ranked). ranked.function) l.functions)
      (map (λ (ranked : Ranked). ranked.function) (drop l.ranked-index l.functions))
      (field_of l.fn.field) (field_of l.field) l.readings.items l.tasks.items;
  ranks : map (λ (reading : Reading). reading.rank) l.readings.items
      ++ map (λ (ranked : Ranked). ranked.rank) (drop l.ranked-index l.functions)
      ≡ map (λ (ranked : Ranked). ranked.rank) l.functions;
  dealt : AreDealt (choice_at l.round.program.now.model l.round.iteration) l.field.pools;
}
