-- Sorted lists: what each element meets, what a filter leaves, what the elements stand for; and ranges of lists.
use Rattle.std.proofs.Common.{◌≡◌, ℕ, zero, suc, ◌+◌, ◌-◌, ◌<◌, ◌≤◌, Bool, true, false, cond, List, [], ◌∷◌, map, length, take, drop, Some, refl, sym, ap, ◌∙◌, subst, arith, zero-add, Ordering, Equal, All, filter, slice_get, slice_range}
use Rattle.std.specs.List.{sum_by}
use Rattle.std.specs.Ordering.{is_gt, is_eq}
use Rattle.std.specs.Cmp.{IsTotalOrder}
use Rattle.std.proofs.lemmas.List.{take-map, drop-map}
use Rattle.std.proofs.lemmas.List.Sums.{sum_by-cons}
use Rattle.std.proofs.lemmas.List.Elements.{All-cons, All-head, All-tail}
use Rattle.flame_rows.specs.Sorted.{IsBelowAll, IsAscending, with_one, sorted_by}
use Rattle.flame_rows.proofs.Sorting.{sum_by-sorted_by, IsAscending-sorted_by, ascending_once}

pub sum_by-map : {X Y : Type 0} (g : Y → ℕ) (f : X → Y) (xs : List X) → sum_by g (map f xs) ≡ sum_by (λ x. g (f x)) xs
sum_by-map g f [] = refl
sum_by-map g f (x ∷ xs) =
    sum_by-cons g (f x) (map f xs) ∙ ap (λ n. g (f x) + n) (sum_by-map g f xs) ∙ sym (sum_by-cons (λ y. g (f y)) x xs)

sum_by-filter : {X : Type 0} (p : X → Bool) (f : X → ℕ) (xs : List X) → sum_by f (filter p xs) ≡ sum_by (λ x. cond (p x) (f x) 0) xs
sum_by-filter p f [] = refl
sum_by-filter p f (x ∷ xs) =
    (elim (p x) as (λ t. sum_by f (cond t (x ∷ filter p xs) (filter p xs)) ≡ cond t (f x) 0 + sum_by (λ y. cond (p y) (f y) 0) xs) [
      | true ↦ sum_by-cons f x (filter p xs) ∙ ap (λ n. f x + n) (sum_by-filter p f xs)
      | false ↦ sum_by-filter p f xs ∙ sym (zero-add (sum_by (λ y. cond (p y) (f y) 0) xs))
    ]) ∙ sym (sum_by-cons (λ y. cond (p y) (f y) 0) x xs)

module _ {X : Type 0} (order : X → X → Ordering) where
  -- ---- what each element meets

  module _ (P : X → Type 0) where
    All-with_one : (x : X) (ys : List X) → P x → All P ys → All P (with_one order x ys)
    All-with_one x [] here all = All-cons P x [] here all
    All-with_one x (y ∷ ys) here all =
        elim (is_gt (order x y)) as (λ t. All P (cond t (y ∷ with_one order x ys) (x ∷ y ∷ ys))) [
          | true ↦ All-cons P y (with_one order x ys) (All-head P y ys all) (All-with_one x ys here (All-tail P y ys all))
          | false ↦ All-cons P x (y ∷ ys) here all
        ]

    pub All-sorted_by : (xs : List X) → All P xs → All P (sorted_by order xs)
    All-sorted_by [] all = all
    All-sorted_by (x ∷ xs) all =
        All-with_one x (sorted_by order xs) (All-head P x xs all) (All-sorted_by xs (All-tail P x xs all))

  length-with_one : (x : X) (ys : List X) → length (with_one order x ys) ≡ suc (length ys)
  length-with_one x [] = refl
  length-with_one x (y ∷ ys) =
      elim (is_gt (order x y)) as (λ t. length (cond t (y ∷ with_one order x ys) (x ∷ y ∷ ys)) ≡ suc (suc (length ys))) [
        | true ↦ ap suc (length-with_one x ys)
        | false ↦ refl
      ]

  pub length-sorted_by : (xs : List X) → length (sorted_by order xs) ≡ length xs
  length-sorted_by [] = refl
  length-sorted_by (x ∷ xs) = length-with_one x (sorted_by order xs) ∙ ap suc (length-sorted_by xs)

  -- ---- what stands at two places

  IsBelowAll-at : (x : X) (ys : List X) (j : ℕ) (y : X) → IsBelowAll order x ys → slice_get ys j ≡ Some y → is_gt (order x y) ≡ false
  IsBelowAll-at x [] j y below at = absurd (cc)
  IsBelowAll-at x (z ∷ ys) zero y below at =
      let same : z ≡ y = cc in subst (λ w. is_gt (order x w) ≡ false) same below.0
  IsBelowAll-at x (z ∷ ys) (suc j) y below at = IsBelowAll-at x ys j y below.1 at

  pub IsAscending-at : (xs : List X) (i j : ℕ) (x y : X) → i < j → IsAscending order xs
      → slice_get xs i ≡ Some x → slice_get xs j ≡ Some y → is_gt (order x y) ≡ false
  IsAscending-at [] i j x y less up one two = absurd (cc)
  IsAscending-at (z ∷ xs) zero zero x y less up one two = absurd (omega (arith, less))
  IsAscending-at (z ∷ xs) zero (suc j) x y less up one two =
      let same : z ≡ x = cc in IsBelowAll-at x xs j y (subst (λ w. IsBelowAll order w xs) same up.0) two
  IsAscending-at (z ∷ xs) (suc i) zero x y less up one two = absurd (omega (arith, less))
  IsAscending-at (z ∷ xs) (suc i) (suc j) x y less up one two = IsAscending-at xs i j x y (omega (arith, less)) up.1 one two

  -- ---- what a filter leaves

  module _ (p : X → Bool) where
    IsBelowAll-filter : (x : X) (ys : List X) → IsBelowAll order x ys → IsBelowAll order x (filter p ys)
    IsBelowAll-filter x [] below = tt
    IsBelowAll-filter x (y ∷ ys) below =
        elim (p y) as (λ t. IsBelowAll order x (cond t (y ∷ filter p ys) (filter p ys))) [
          | true ↦ (below.0, IsBelowAll-filter x ys below.1)
          | false ↦ IsBelowAll-filter x ys below.1
        ]

    pub IsAscending-filter : (xs : List X) → IsAscending order xs → IsAscending order (filter p xs)
    IsAscending-filter [] up = tt
    IsAscending-filter (x ∷ xs) up =
        elim (p x) as (λ t. IsAscending order (cond t (x ∷ filter p xs) (filter p xs))) [
          | true ↦ (IsBelowAll-filter x xs up.0, IsAscending-filter xs up.1)
          | false ↦ IsAscending-filter xs up.1
        ]

    -- what is left of the sorted list is what is left, sorted
    pub filter-sorted_by : IsTotalOrder order → ((x y : X) → order x y ≡ Equal → x ≡ y)
        → (xs : List X) → filter p (sorted_by order xs) ≡ sorted_by order (filter p xs)
    filter-sorted_by total tied xs =
        ascending_once order total tied (filter p (sorted_by order xs)) (sorted_by order (filter p xs))
        (IsAscending-filter (sorted_by order xs) (IsAscending-sorted_by order total xs))
        (IsAscending-sorted_by order total (filter p xs))
        (λ z.
        sum_by-filter p (λ x. cond (is_eq (order z x)) 1 0) (sorted_by order xs)
        ∙ sum_by-sorted_by order (λ x. cond (p x) (cond (is_eq (order z x)) 1 0) 0) xs
        ∙ sym (sum_by-filter p (λ x. cond (is_eq (order z x)) 1 0) xs)
        ∙ sym (sum_by-sorted_by order (λ x. cond (is_eq (order z x)) 1 0) (filter p xs)))

-- ---- what the elements stand for, where that goes by another order

module _ {X Y : Type 0} (order : X → X → Ordering) (seen : Y → Y → Ordering) (f : X → Y) (P : X → Type 0)
    (keeps : (x y : X) → P x → P y → is_gt (order x y) ≡ false → is_gt (seen (f x) (f y)) ≡ false) where
  IsBelowAll-seen : (x : X) (ys : List X) → P x → All P ys → IsBelowAll order x ys → IsBelowAll seen (f x) (map f ys)
  IsBelowAll-seen x [] here all below = tt
  IsBelowAll-seen x (y ∷ ys) here all below =
      (keeps x y here (All-head P y ys all) below.0, IsBelowAll-seen x ys here (All-tail P y ys all) below.1)

  pub IsAscending-seen : (xs : List X) → All P xs → IsAscending order xs → IsAscending seen (map f xs)
  IsAscending-seen [] all up = tt
  IsAscending-seen (x ∷ xs) all up =
      (IsBelowAll-seen x xs (All-head P x xs all) (All-tail P x xs all) up.0, IsAscending-seen xs (All-tail P x xs all) up.1)

  pub sorted_by-seen : IsTotalOrder order → IsTotalOrder seen → ((a b : Y) → seen a b ≡ Equal → a ≡ b)
      → (xs : List X) → All P xs → map f (sorted_by order xs) ≡ sorted_by seen (map f xs)
  sorted_by-seen total seen_total tied xs all =
      ascending_once seen seen_total tied (map f (sorted_by order xs)) (sorted_by seen (map f xs))
      (IsAscending-seen (sorted_by order xs) (All-sorted_by order P xs all) (IsAscending-sorted_by order total xs))
      (IsAscending-sorted_by seen seen_total (map f xs))
      (λ z.
      sum_by-map (λ b. cond (is_eq (seen z b)) 1 0) f (sorted_by order xs)
      ∙ sum_by-sorted_by order (λ x. cond (is_eq (seen z (f x))) 1 0) xs
      ∙ sym (sum_by-map (λ b. cond (is_eq (seen z b)) 1 0) f xs)
      ∙ sym (sum_by-sorted_by seen (λ b. cond (is_eq (seen z b)) 1 0) (map f xs)))

-- ---- lists that are filtered and mapped

pub map-filter : {X Y : Type 0} (f : X → Y) (p : X → Bool) (q : Y → Bool) (xs : List X)
    → All (λ x. p x ≡ q (f x)) xs → map f (filter p xs) ≡ filter q (map f xs)
map-filter f p q [] all = refl
map-filter f p q (x ∷ xs) all =
    let same : p x ≡ q (f x) = All-head (λ y. p y ≡ q (f y)) x xs all in
    let rest : map f (filter p xs) ≡ filter q (map f xs) = map-filter f p q xs (All-tail (λ y. p y ≡ q (f y)) x xs all) in
    ap (λ t. map f (cond t (x ∷ filter p xs) (filter p xs))) same
    ∙ (elim (q (f x)) as (λ t. map f (cond t (x ∷ filter p xs) (filter p xs)) ≡ cond t (f x ∷ filter q (map f xs)) (filter q (map f xs))) [
      | true ↦ ap (λ ys. f x ∷ ys) rest
      | false ↦ rest
    ])

filter-none : {X : Type 0} (p : X → Bool) (xs : List X) → ((at : ℕ) (x : X) → slice_get xs at ≡ Some x → p x ≡ false) → filter p xs ≡ []
filter-none p [] fails = refl
filter-none p (x ∷ xs) fails =
    ap (λ t. cond t (x ∷ filter p xs) (filter p xs)) (fails 0 x refl) ∙ filter-none p xs (λ at y is. fails (suc at) y is)

pub map-slice_range : {X Y : Type 0} (f : X → Y) (xs : List X) (low high : ℕ)
    → slice_range (map f xs) low high ≡ map f (slice_range xs low high)
map-slice_range f xs low high =
    ap (take (high - low)) (drop-map f low xs) ∙ take-map f (high - low) (drop low xs)

-- a range is what passes a test that the elements pass there alone
pub slice_range-filter : {X : Type 0} (p : X → Bool) (xs : List X) (low high : ℕ) → low ≤ high → high ≤ length xs
    → ((at : ℕ) (x : X) → slice_get xs at ≡ Some x → at < low → p x ≡ false)
    → ((at : ℕ) (x : X) → slice_get xs at ≡ Some x → low ≤ at → at < high → p x ≡ true)
    → ((at : ℕ) (x : X) → slice_get xs at ≡ Some x → high ≤ at → p x ≡ false)
    → slice_range xs low high ≡ filter p xs
slice_range-filter p [] zero zero order within before inside after = refl
slice_range-filter p [] zero (suc high) order within before inside after = absurd (omega (arith, within))
slice_range-filter p [] (suc low) zero order within before inside after = absurd (omega (arith, order))
slice_range-filter p [] (suc low) (suc high) order within before inside after = absurd (omega (arith, within))
slice_range-filter p (x ∷ xs) zero zero order within before inside after =
    sym (filter-none p (x ∷ xs) (λ at y is. after at y is (omega arith)))
slice_range-filter p (x ∷ xs) zero (suc high) order within before inside after =
    let all : suc high - zero ≡ suc high = omega arith in
    let less : high ≡ high - zero = omega arith in
    let rest : slice_range xs zero high ≡ filter p xs =
    slice_range-filter p xs zero high (omega arith) (omega (arith, within))
    (λ at y is h. absurd (omega (arith, h)))
    (λ at y is h k. inside (suc at) y is (omega arith) (omega (arith, k)))
    (λ at y is h. after (suc at) y is (omega (arith, h))) in
    ap (λ n. take n (x ∷ xs)) all
    ∙ ap (λ ys. x ∷ ys) (ap (λ n. take n xs) less ∙ rest)
    ∙ sym (ap (λ t. cond t (x ∷ filter p xs) (filter p xs)) (inside 0 x refl (omega arith) (omega arith)))
slice_range-filter p (x ∷ xs) (suc low) zero order within before inside after = absurd (omega (arith, order))
slice_range-filter p (x ∷ xs) (suc low) (suc high) order within before inside after =
    let same : suc high - suc low ≡ high - low = omega arith in
    let rest : slice_range xs low high ≡ filter p xs =
    slice_range-filter p xs low high (omega (arith, order)) (omega (arith, within))
    (λ at y is h. before (suc at) y is (omega (arith, h)))
    (λ at y is h k. inside (suc at) y is (omega (arith, h)) (omega (arith, k)))
    (λ at y is h. after (suc at) y is (omega (arith, h))) in
    ap (λ n. take n (drop low xs)) same
    ∙ rest
    ∙ sym (ap (λ t. cond t (x ∷ filter p xs) (filter p xs)) (before 0 x refl (omega arith)))
