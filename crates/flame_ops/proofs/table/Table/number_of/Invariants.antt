-- None of the spellings that were read is the word.
use Rattle.std.proofs.Common.{◌≡◌, ℕ, ◌<◌, slice_index_or}
use Rattle.flame_ops.proofs.table.Table.number_of.Given as goal

abbrev pub invariant-loop-number : goal.invariant-loop-number
invariant-loop-number g l =
    (number : ℕ)
    → number < l.number
    → ¬ (slice_index_or l.spelling-items number l.word ≡ l.word)
