use Rattle.std.proofs.Common.{◌≡◌, ◌++◌, map, take}
use Rattle.flame_spec.specs.Functions.{at_type}
use Rattle.flame_depend.specs.PlacedFunctions.{shown}
use Rattle.flame_depend.proofs.place.place_type.Given as goal

abbrev pub invariant-loop-function : goal.invariant-loop-function
invariant-loop-function l = map shown l.places.items ≡ map shown l.initial.places.items ++ map (at_type l.agent l.kind) (take l.function-index l.kind.functions)
