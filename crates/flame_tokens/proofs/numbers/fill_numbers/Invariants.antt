-- The tokens so far are those of the numbers so far.
use Rattle.std.proofs.Common.{◌≡◌, ◌++◌, length, map, All, true}
use Rattle.flame_ops.specs.Integers.{is_int}
use Rattle.flame_tokens.specs.NumberTrees.{number_tree, begun}
use Rattle.flame_tokens.proofs.numbers.fill_numbers.Given as goal

abbrev pub invariant-loop-turn : goal.invariant-loop-turn
invariant-loop-turn l = record {
  tokens : l.fn.reader ≡ begun (map number_tree l.row.items) ++ l.reader;
  count : length l.row.items ≡ l._turn;
  ints : All (λ number. is_int number ≡ true) l.row.items;
}
