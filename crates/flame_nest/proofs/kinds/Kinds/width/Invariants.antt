use Rattle.std.proofs.Common.{◌≡◌, take}
use Rattle.std.specs.Prelude.{min}
use Rattle.flame_spec.specs.Columns.{width}
use Rattle.flame_nest.specs.FlatModels.{flat_variables}
use Rattle.flame_nest.proofs.kinds.Kinds.width.Given as goal

abbrev pub invariant-loop-variable : goal.invariant-loop-variable
invariant-loop-variable l =
    l.columns ≡ min (width (flat_variables l.self (take l.variable-index l.variables))) 4097
