use Rattle.std.proofs.Common.{◌≡◌, ◌≤◌, length, take}
use Rattle.flame_compile.specs.Pieces.{row, written}
use Rattle.flame_compile.specs.Emit.{signs_code}
use Rattle.flame_compile.proofs.expression.write_signs.Given as goal

abbrev pub invariant-loop-at : goal.invariant-loop-at
invariant-loop-at l = record {
  within : l.at ≤ length l.signs;
  rest : written (row (signs_code (take l.at l.signs))) l.out.items ≡ written (row (signs_code l.signs)) l.fn.out.items;
}

abbrev pub decreases-loop-at : goal.decreases-loop-at
decreases-loop-at l = l.at
