use Rattle.std.proofs.Common.{◌≡◌, [], map, take}
use Rattle.flame_field.specs.KeptGatherings.{bags_of}
use Rattle.flame_round.proofs.closing.no_births.Given as goal

abbrev pub invariant-loop-pools : goal.invariant-loop-pools
invariant-loop-pools l = bags_of l.born ≡ map (λ pools. []) (take l._pools-index l.types)
