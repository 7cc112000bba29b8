use Rattle.std.proofs.Common.{◌≡◌, ◌+◌, ◌-◌}
use Rattle.flame_compile.specs.Pieces.{row, written}
use Rattle.flame_compile.specs.Emit.{column_of, each_column}
use Rattle.flame_compile.proofs.expression.write_each.Given as goal

abbrev pub invariant-loop-place : goal.invariant-loop-place
invariant-loop-place l =
    written (row (each_column (column_of l.input) (l.first + l.place) (l.count - l.place))) l.out.items
    ≡ written (row (each_column (column_of l.input) l.first l.count)) l.fn.out.items
