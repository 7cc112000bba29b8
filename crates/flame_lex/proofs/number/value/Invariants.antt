use Rattle.std.proofs.Common.{◌≡◌, ◌≤◌, take}
use Rattle.flame_lex.specs.Numerals.{value_in}
use Rattle.flame_lex.proofs.number.value.Given as goal

abbrev pub invariant-loop-b : goal.invariant-loop-b
invariant-loop-b l = record {
  so_far : l.value ≡ value_in l.base (take l.b-index l.digits);
  small : l.value ≤ 2147483647;
}
