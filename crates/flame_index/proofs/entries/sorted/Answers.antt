use Rattle.std.proofs.Common.{rules}
use Rattle.std.specs.Ordering.{is_lt}
use Rattle.std.proofs.lemmas.List.Sorted.{ranks_by}
use Rattle.std.proofs.lemmas.Fn.{always_returns_same}
use Rattle.flame_rows.proofs.Sorting.{sorted_by-map}
use Rattle.flame_index.specs.Indexes.{entry_order}
use Rattle.flame_index.specs.IndexBodies.{entry_of}
use Rattle.flame_index.proofs.Entered.{entry_total, entry_tied}
use Rattle.flame_index.proofs.entries.sorted.Goals as goal

pub returns : goal.returns
returns c =
    sorted_by-map (entry_order c.args.descending) (entry_total c.args.descending) (entry_tied c.args.descending) entry_of
    c.args.pairs.items _ c.sort_unstable_by.ensures.permutation
    (c.sort_unstable_by.ensures.sorted (λ a b. is_lt (entry_order c.args.descending (entry_of a) (entry_of b)))
    (ranks_by (entry_total c.args.descending) entry_of) (always_returns_same _ _ _ (λ a r g h. search rules)))
