use Rattle.std.proofs.Common.{◌≡◌, take}
use Rattle.flame_nest.specs.FlatModels.{flat_variables}
use Rattle.flame_nest.proofs.kinds.Kinds.flat.Given as goal

abbrev pub invariant-loop-variable : goal.invariant-loop-variable
invariant-loop-variable l =
    l.flat.items ≡ flat_variables l.self (take l.variable-index l.variables)
