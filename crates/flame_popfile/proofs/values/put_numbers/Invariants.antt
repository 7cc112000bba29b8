-- What was put is the text of the numbers from a place on.
use Rattle.std.proofs.Common.{◌≡◌, ◌≤◌, ◌++◌, length, drop}
use Rattle.flame_popfile.specs.RowTexts.{numbers_text}
use Rattle.flame_popfile.specs.CommaTexts.{has_some}
use Rattle.flame_popfile.specs.TailTexts.{held}
use Rattle.flame_popfile.proofs.values.put_numbers.Given as goal

abbrev pub decreases-loop-left : goal.decreases-loop-left
decreases-loop-left l = l.left

abbrev pub invariant-loop-left : goal.invariant-loop-left
invariant-loop-left l = record {
  within : l.left ≤ length l.numbers;
  some : l.more ≡ has_some (drop l.left l.numbers);
  written : held l.tail ≡ numbers_text (drop l.left l.numbers) ++ held l.fn.tail;
}
