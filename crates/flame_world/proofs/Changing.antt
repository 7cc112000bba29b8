-- Lists of which one element is changed, and bags to which rows are added.
use Rattle.std.proofs.Common.{◌≡◌, ℕ, zero, suc, ◌+◌, Bool, true, false, cond, List, [], ◌∷◌, refl, ap, ◌∙◌}
use Rattle.std.specs.Prelude.{ℤ, not, slice_index_or}
use Rattle.std.specs.List.{filter}
use Rattle.flame_rows.specs.Order.{row_order}
use Rattle.flame_rows.specs.Sorted.{IsAscending}
use Rattle.flame_rows.specs.Bags.{merge}
use Rattle.flame_rows.proofs.BagLaws.{empty_is_unit}
use Rattle.flame_meaning.specs.RangeLaws.{Each}
use Rattle.flame_meaning.proofs.Eachs.{each_index}
use Rattle.flame_world.specs.Fields.{changed, changed_pool, pool_in, joined_from}

-- what is changed to itself stays
pub changed-same : {X : Type 0} (change : X → X) (d : X) (place : ℕ) (xs : List X)
    → change (slice_index_or xs place d) ≡ slice_index_or xs place d
    → changed place change xs ≡ xs
changed-same change d place [] same = refl
changed-same change d zero (x ∷ xs) same = ap (λ y. y ∷ xs) same
changed-same change d (suc place) (x ∷ xs) same = ap (λ ys. x ∷ ys) (changed-same change d place xs same)

pub changed_pool-same : (change : List (List ℤ) → List (List ℤ)) (agent state : ℕ) (pools : List (List (List (List ℤ))))
    → change (pool_in pools agent state) ≡ pool_in pools agent state
    → changed_pool agent state change pools ≡ pools
changed_pool-same change agent state pools same =
    changed-same (changed state change) [] agent pools
    (changed-same change [] state (slice_index_or pools agent []) same)

pub pool-IsAscending : (pools : List (List (List (List ℤ)))) (agent state : ℕ)
    → Each (λ pools. Each (IsAscending row_order) pools) pools
    → IsAscending row_order (pool_in pools agent state)
pool-IsAscending pools agent state bags =
    each_index (IsAscending row_order) [] (slice_index_or pools agent []) state tt (each_index (λ pools. Each (IsAscending row_order) pools) [] pools agent tt bags)

-- where no rows come, bags stay
pub joined_from-none : (rows : ℕ → List (List ℤ)) (i : ℕ) (bags : List (List (List ℤ)))
    → ((n : ℕ) → rows n ≡ [])
    → Each (IsAscending row_order) bags
    → joined_from i rows bags ≡ bags
joined_from-none rows i [] none all = refl
joined_from-none rows i (bag ∷ bags) none all =
    (λ j. (ap (merge bag) (none i) ∙ (empty_is_unit bag all.0).1) j ∷ joined_from-none rows (i + 1) bags none all.1 j)

-- where nothing passes, everything fails
pub filter-none : {X : Type 0} (p : X → Bool) (xs : List X) → filter p xs ≡ [] → filter (λ x. not (p x)) xs ≡ xs
filter-none p [] none = refl
filter-none {X} p (x ∷ xs) none =
    (elim (p x) as (λ t. cond t (x ∷ filter p xs) (filter p xs) ≡ []
    → cond (not t) (x ∷ filter (λ y. not (p y)) xs) (filter (λ y. not (p y)) xs) ≡ x ∷ xs) [
      | true ↦ λ some. absurd cc
      | false ↦ λ rest. ap (λ ys. x ∷ ys) (filter-none p xs rest)
    ])
    none
