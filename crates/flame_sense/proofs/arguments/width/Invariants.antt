use Rattle.std.proofs.Common.{◌≡◌, ◌+◌, drop}
use Rattle.flame_spec.specs.Columns.{width}
use Rattle.flame_sense.proofs.arguments.width.Given as goal

abbrev pub invariant-loop-variable : goal.invariant-loop-variable
invariant-loop-variable l = width l.variables ≡ l.wide + width (drop l.variable-index l.variables)
