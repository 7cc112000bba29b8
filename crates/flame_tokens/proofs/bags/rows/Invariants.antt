-- The tokens so far are those of the rows so far.
use Rattle.std.proofs.Common.{◌≡◌, ◌∷◌, ◌++◌, map, All}
use Rattle.json.specs.Token.{begin_array}
use Rattle.flame_tokens.specs.NumberTrees.{row_tree, begun}
use Rattle.flame_tokens.specs.MemberTrees.{IsWide}
use Rattle.flame_tokens.proofs.bags.rows.Given as goal

abbrev pub invariant-loop-turn : goal.invariant-loop-turn
invariant-loop-turn l = record {
  tokens : l.fn.reader ≡ begin_array ∷ (begun (map row_tree l.rows.items) ++ l.reader);
  wide : All (IsWide l.wide) l.rows.items;
}
