use Rattle.std.proofs.Common.{◌≡◌, ◌≤◌, length, take}
use Rattle.flame_meaning.specs.Expressions.{signs_value}
use Rattle.flame_sense.proofs.expression.signs_value.Given as goal

abbrev pub invariant-loop-at : goal.invariant-loop-at
invariant-loop-at l = record {
  within : l.at ≤ length l.signs;
  value : signs_value l.signs l.value ≡ signs_value (take l.at l.signs) l.outer;
}

abbrev pub decreases-loop-at : goal.decreases-loop-at
decreases-loop-at l = l.at
