-- Agents of all states of a type that are collected, pool by pool.
use Rattle.std.proofs.Common.{◌≡◌, List, [], ◌∷◌, length, sym, ap, ◌∙◌, arith}
use Rattle.std.specs.Prelude.{ℤ}
use Rattle.std.specs.List.{flat_map}
use Rattle.flame_rows.specs.Bags.{ascending, merge, merge_all}
use Rattle.flame_rows.proofs.Merging.{ascending-append, merge-append}
use Rattle.flame_field.proofs.Gathered.{merge-none}

abbrev Rows : Type 0
Rows = List (List ℤ)

abbrev all_rows : List Rows → Rows
all_rows pools = flat_map (λ pool. pool) pools

-- one pool more
pub collected-more : (whole so_far bag after : Rows) (pools left : List Rows)
    → whole ≡ merge so_far (all_rows pools)
    → pools ≡ bag ∷ left
    → after ≡ merge so_far bag
    → whole ≡ merge after (all_rows left)
collected-more whole so_far bag after pools left is next more =
    is
    ∙ ap (λ ps. merge so_far (all_rows ps)) next
    ∙ sym (merge-append so_far bag (all_rows left))
    ∙ ap (λ rows. merge rows (all_rows left)) (sym more)

-- where no pool is left, all are collected
pub collected-all : (whole rows : Rows) (pools : List Rows)
    → whole ≡ merge (ascending rows) (all_rows pools)
    → length pools ≡ 0
    → ascending rows ≡ whole
collected-all whole rows [] is none = sym (is ∙ merge-none rows)
collected-all whole rows (pool ∷ pools) is none = absurd (omega (arith, none))

-- those of all pools and some more
pub collected-and : (pools : List Rows) (more : Rows) → merge (merge_all pools) more ≡ merge (all_rows pools) more
collected-and pools more = sym (ascending-append (all_rows pools) more)
