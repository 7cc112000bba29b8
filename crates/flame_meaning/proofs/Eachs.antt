-- What holds of each element of a list.
use Rattle.std.proofs.Common.{◌≡◌, ℕ, zero, suc, Bool, true, false, cond, List, [], ◌∷◌, drop, Some, refl, subst}
use Rattle.std.specs.Prelude.{slice_get, slice_index_or}
use Rattle.std.specs.List.{filter}
use Rattle.std.specs.declared.cmp.Ordering.{Ordering}
use Rattle.std.specs.Ordering.{is_gt}
use Rattle.flame_rows.specs.Sorted.{with_one, sorted_by}
use Rattle.flame_meaning.specs.RangeLaws.{Each}

pub each_at : {X : Type 0} (P : X → Type 0) (xs : List X) (k : ℕ) (x : X) → Each P xs → slice_get xs k ≡ Some x → P x
each_at P [] k x all at = absurd (cc)
each_at P (y ∷ xs) zero x all at = let same : y ≡ x = cc in subst P same all.0
each_at P (y ∷ xs) (suc k) x all at = each_at P xs k x all.1 at

pub each_from : {X : Type 0} (P : X → Type 0) (xs : List X) → ((k : ℕ) (x : X) → slice_get xs k ≡ Some x → P x) → Each P xs
each_from P [] go = tt
each_from P (x ∷ xs) go = (go 0 x refl, each_from P xs (λ k y at. go (suc k) y at))

pub each_index : {X : Type 0} (P : X → Type 0) (d : X) (xs : List X) (k : ℕ) → P d → Each P xs → P (slice_index_or xs k d)
each_index P d [] k none all = none
each_index P d (x ∷ xs) zero none all = all.0
each_index P d (x ∷ xs) (suc k) none all = each_index P d xs k none all.1

pub each_drop : {X : Type 0} (P : X → Type 0) (n : ℕ) (xs : List X) → Each P xs → Each P (drop n xs)
each_drop P zero xs all = all
each_drop P (suc n) [] all = tt
each_drop P (suc n) (x ∷ xs) all = each_drop P n xs all.1

pub each_filter : {X : Type 0} (P : X → Type 0) (p : X → Bool) (xs : List X) → Each P xs → Each P (filter p xs)
each_filter P p [] all = tt
each_filter P p (x ∷ xs) all =
    elim (p x) as (λ t. Each P (cond t (x ∷ filter p xs) (filter p xs))) [
      | true ↦ (all.0, each_filter P p xs all.1)
      | false ↦ each_filter P p xs all.1
    ]

each_with_one : {X : Type 0} (P : X → Type 0) (order : X → X → Ordering) (x : X) (xs : List X) → P x → Each P xs → Each P (with_one order x xs)
each_with_one P order x [] here all = (here, tt)
each_with_one P order x (y ∷ ys) here all =
    elim (is_gt (order x y)) as (λ t. Each P (cond t (y ∷ with_one order x ys) (x ∷ y ∷ ys))) [
      | true ↦ (all.0, each_with_one P order x ys here all.1)
      | false ↦ (here, all)
    ]

pub each_sorted : {X : Type 0} (P : X → Type 0) (order : X → X → Ordering) (xs : List X) → Each P xs → Each P (sorted_by order xs)
each_sorted P order [] all = tt
each_sorted P order (x ∷ xs) all = each_with_one P order x (sorted_by order xs) all.0 (each_sorted P order xs all.1)

-- what holds of each element of a list in order holds of each element of the list
each_with_one-back : {X : Type 0} (P : X → Type 0) (order : X → X → Ordering) (x : X) (xs : List X) → Each P (with_one order x xs) → P x × Each P xs
each_with_one-back P order x [] all = (all.0, tt)
each_with_one-back P order x (y ∷ ys) all =
    (elim (is_gt (order x y)) as (λ t. Each P (cond t (y ∷ with_one order x ys) (x ∷ y ∷ ys)) → P x × (P y × Each P ys)) [
      | true ↦ λ these. let later = each_with_one-back P order x ys these.1 in (later.0, (these.0, later.1))
      | false ↦ λ these. (these.0, (these.1.0, these.1.1))
    ])
    all

pub each_sorted-back : {X : Type 0} (P : X → Type 0) (order : X → X → Ordering) (xs : List X) → Each P (sorted_by order xs) → Each P xs
each_sorted-back P order [] all = tt
each_sorted-back P order (x ∷ xs) all =
    let both = each_with_one-back P order x (sorted_by order xs) all in (both.0, each_sorted-back P order xs both.1)
