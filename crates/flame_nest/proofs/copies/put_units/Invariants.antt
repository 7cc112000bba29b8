use Rattle.std.proofs.Common.{◌≡◌, ◌++◌, take}
use Rattle.flame_nest.proofs.copies.put_units.Given as goal

abbrev pub invariant-loop-unit : goal.invariant-loop-unit
invariant-loop-unit l = l.put.items ≡ l.fn.put.items ++ take l.unit-index l.units
