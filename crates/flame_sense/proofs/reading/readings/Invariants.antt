use Rattle.std.proofs.Common.{◌≡◌, map, take}
use Rattle.flame_meaning.specs.Outcomes.{reading_of}
use Rattle.flame_sense.specs.StandsFor.{rows_seen}
use Rattle.flame_sense.proofs.reading.readings.Given as goal

abbrev pub invariant-loop-input : goal.invariant-loop-input
invariant-loop-input l =
    map (λ rows. rows_seen rows.items) l.readings.items
    ≡ map (reading_of l.model l.agent l.memory l.boards) (take l.input-index l.inputs)
