use Rattle.std.proofs.Common.{◌≡◌, take}
use Rattle.std.specs.List.{flat_map}
use Rattle.flame_nest.proofs.joining.constants.Given as goal

abbrev pub invariant-loop-wide : goal.invariant-loop-wide
invariant-loop-wide l = l.joined.items ≡ flat_map (λ wide. wide.constants) (take l.wide-index l.wides)
