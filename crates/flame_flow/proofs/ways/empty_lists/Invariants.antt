use Rattle.std.proofs.Common.{◌≡◌, ℕ, [], length, map}
use Rattle.std.specs.Prelude.{slice_index_or}
use Rattle.flame_flow.proofs.ways.empty_lists.Given as goal

abbrev pub invariant-loop-list : goal.invariant-loop-list
invariant-loop-list l = record {
  long : length l.lists.items ≡ l._list;
  empty : (place : ℕ) → slice_index_or (map (λ list. list.items) l.lists.items) place [] ≡ [];
}
