-- Rows in content order of which none is empty go by column 0.
use Rattle.std.proofs.Common.{◌≡◌, ℕ, ◌<◌, ◌≤◌, zero, suc, Bool, true, false, cond, not, ◌&&◌, List, [], ◌∷◌, length, get_or, Some, refl, sym, ap, ◌∙◌, subst, arith, true≢false, Ordering, Less, Equal, Greater, int_cmp, int_eq, is_gt, is_eq}
use Rattle.std.specs.Prelude.{ℤ, int_le, int_lt, ◌==◌}
use Rattle.std.specs.List.{filter}
use Rattle.std.specs.List.Sorted.{IsPartitionedBy}
use Rattle.std.specs.Ordering.{ordering_then, then_cmp}
use Rattle.std.specs.Cmp.{IsTotalOrder}
use Rattle.std.proofs.lemmas.Bool.{and_parts, eqb-true, not-true}
use Rattle.std.proofs.lemmas.Cmp.{tied_itself}
use borrow.Author.Differences.{le-true, le-false, lt-true, lt-false}
use Rattle.flame_rows.specs.Order.{row_order}
use Rattle.flame_rows.specs.Sorted.{IsBelowAll, IsAscending, sorted_by}
use Rattle.flame_rows.proofs.Sorting.{sorted_by-IsAscending}
use Rattle.flame_spec.specs.Conditions.{number_at}
use Rattle.flame_spec.specs.Views.{Key, column_order, view_order}
use Rattle.flame_spec.proofs.Viewed.{column_total, view_total, view_tied, first_not_gt}
use Rattle.flame_view.specs.ViewWays.{first_has_number, goes_by_first}
use Rattle.flame_index.proofs.SortedParts.{IsAscending-filter}
use Rattle.flame_view.proofs.Filtered.{filter-filter}

-- ---- two orders, one after the other

both_not_gt : (o p : Ordering) → is_gt o ≡ false → is_gt p ≡ false → is_gt (ordering_then o p) ≡ false
both_not_gt Less p first second = refl
both_not_gt Equal p first second = second
both_not_gt Greater p first second = first

module _ {X : Type 0} (order other : X → X → Ordering) where
  IsBelowAll-then : (x : X) (ys : List X) → IsBelowAll order x ys → IsBelowAll other x ys → IsBelowAll (then_cmp order other) x ys
  IsBelowAll-then x [] first second = tt
  IsBelowAll-then x (y ∷ ys) first second =
      (both_not_gt (order x y) (other x y) first.0 second.0, IsBelowAll-then x ys first.1 second.1)

  IsAscending-then : (xs : List X) → IsAscending order xs → IsAscending other xs → IsAscending (then_cmp order other) xs
  IsAscending-then [] first second = tt
  IsAscending-then (x ∷ xs) first second =
      (IsBelowAll-then x xs first.0 second.0, IsAscending-then xs first.1 second.1)

-- ---- column 0

-- a row that stands behind one with a number has one, which is not less
abbrev IsBehind : List ℤ → List ℤ → Type 0
IsBehind row other = (first_has_number (other ∷ []) ≡ true) × (is_gt (column_order 0 row other) ≡ false)

goes_on : (row other : List ℤ) → first_has_number (row ∷ []) ≡ true → is_gt (row_order row other) ≡ false → IsBehind row other
goes_on [] other filled up = absurd (true≢false (sym filled))
goes_on (number ∷ row) [] filled up = absurd (true≢false up)
goes_on (number ∷ row) (next ∷ other) filled up = (refl, first_not_gt (int_cmp number next) (row_order row other) up)

IsBelowAll-first : (row : List ℤ) → first_has_number (row ∷ []) ≡ true → (rows : List (List ℤ)) → IsBelowAll row_order row rows → IsBelowAll (column_order 0) row rows
IsBelowAll-first row filled [] below = tt
IsBelowAll-first row filled (other ∷ rows) below =
    ((goes_on row other filled below.0).1, IsBelowAll-first row filled rows below.1)

first_alone : (row : List ℤ) (rows : List (List ℤ)) → first_has_number (row ∷ rows) ≡ true → first_has_number (row ∷ []) ≡ true
first_alone [] rows filled = filled
first_alone (number ∷ row) rows filled = refl

first-alone : (row : List ℤ) (rows : List (List ℤ)) → first_has_number (row ∷ []) ≡ true → first_has_number (row ∷ rows) ≡ true
first-alone [] rows filled = filled
first-alone (number ∷ row) rows filled = refl

rest_filled : (row : List ℤ) (rows : List (List ℤ)) → first_has_number (row ∷ []) ≡ true → IsBelowAll row_order row rows → first_has_number rows ≡ true
rest_filled row [] filled below = refl
rest_filled row (other ∷ rows) filled below = first-alone other rows (goes_on row other filled below.0).0

pub IsAscending-first : (rows : List (List ℤ)) → first_has_number rows ≡ true → IsAscending row_order rows → IsAscending (column_order 0) rows
IsAscending-first [] filled up = tt
IsAscending-first (row ∷ rows) filled up =
    let here = first_alone row rows filled in
    (IsBelowAll-first row here rows up.0, IsAscending-first rows (rest_filled row rows here up.0) up.1)

ascends_by : (key : Key) → key.column ≡ 0 → key.descending ≡ false → (rows : List (List ℤ))
    → first_has_number rows ≡ true → IsAscending row_order rows → IsAscending (view_order (Some key)) rows
ascends_by key at_first least rows filled up =
    subst (λ order. IsAscending (then_cmp order row_order) rows)
    (λ i. cond (sym least i) (λ row other. column_order (sym at_first i) other row) (column_order (sym at_first i)))
    (IsAscending-then (column_order 0) row_order rows (IsAscending-first rows filled up) up)

module _ (key : Key) (goes : goes_by_first key ≡ true) (rows : List (List ℤ)) (filled : first_has_number rows ≡ true) (up : IsAscending row_order rows) where
  ascends_by_first : IsAscending (view_order (Some key)) rows
  ascends_by_first =
      let parts = and_parts (key.column == 0) (not key.descending) goes in
      ascends_by key (eqb-true key.column 0 parts.0) (not-true key.descending parts.1) rows filled up

  -- by column 0 with the least number first they stand as by content
  pub sorted_by-first : sorted_by (view_order (Some key)) rows ≡ rows
  sorted_by-first = sorted_by-IsAscending (view_order (Some key)) (view_total (Some key)) (view_tied (Some key)) rows ascends_by_first

  -- and so do those of them that are picked
  pub sorted_by-first_picked : (p : List ℤ → Bool) → sorted_by (view_order (Some key)) (filter p rows) ≡ filter p rows
  sorted_by-first_picked p =
      sorted_by-IsAscending (view_order (Some key)) (view_total (Some key)) (view_tied (Some key)) (filter p rows)
      (IsAscending-filter (view_order (Some key)) p rows ascends_by_first)

-- ---- what two searches ask

module _ {X : Type 0} (order : X → X → Ordering) (total : IsTotalOrder order) where
  below_at : (x : X) (ys : List X) → IsBelowAll order x ys → (j : ℕ) (d : X) → j < length ys → is_gt (order x (get_or ys j d)) ≡ false
  below_at x [] below j d within = absurd (omega (arith, within))
  below_at x (y ∷ ys) below zero d within = below.0
  below_at x (y ∷ ys) below (suc j) d within = below_at x ys below.1 j d (omega (arith, within))

  ascending_at : (xs : List X) → IsAscending order xs → (i j : ℕ) (d : X) → i ≤ j → j < length xs → is_gt (order (get_or xs i d) (get_or xs j d)) ≡ false
  ascending_at [] up i j d order within = absurd (omega (arith, within))
  ascending_at (x ∷ xs) up zero zero d least within = ap is_gt (tied_itself total x)
  ascending_at (x ∷ xs) up zero (suc j) d least within = below_at x xs up.0 j d (omega (arith, within))
  ascending_at (x ∷ xs) up (suc i) zero d least within = absurd (omega (arith, least))
  ascending_at (x ∷ xs) up (suc i) (suc j) d least within = ascending_at xs up.1 i j d (omega (arith, least)) (omega (arith, within))

not_gt-not_lt : (a b : ℤ) → is_gt (int_cmp a b) ≡ false → int_lt b a ≡ false
not_gt-not_lt a b up =
    elim (int_lt b a) as (λ t. int_lt b a ≡ t → t ≡ false) [
      | true ↦ λ e.
          let over = lt-true b a e in
          elim (int_lt a b) as (λ s. int_lt a b ≡ s → is_gt (cond s Less (cond (int_lt b a) Greater Equal)) ≡ false → true ≡ false) [
            | true ↦ λ f. λ g. let under = lt-true a b f in absurd (omega arith)
            | false ↦ λ f. λ g. ap (λ t. is_gt (cond t Greater Equal)) (sym e) ∙ g
          ] refl up
      | false ↦ λ e. refl
    ] refl

lt_along : (a b value : ℤ) → int_lt b a ≡ false → int_lt b value ≡ true → int_lt a value ≡ true
lt_along a b value up less =
    elim (int_lt a value) as (λ t. int_lt a value ≡ t → t ≡ true) [
      | true ↦ λ e. refl
      | false ↦ λ e.
          let one = lt-false b a up in
          let two = lt-true b value less in
          let three = lt-false a value e in
          absurd (omega arith)
    ] refl

le_along : (a b value : ℤ) → int_lt b a ≡ false → int_le b value ≡ true → int_le a value ≡ true
le_along a b value up less =
    elim (int_le a value) as (λ t. int_le a value ≡ t → t ≡ true) [
      | true ↦ λ e. refl
      | false ↦ λ e.
          let one = lt-false b a up in
          let two = le-true b value less in
          let three = le-false a value e in
          absurd (omega arith)
    ] refl

module _ (column : ℕ) (value : ℤ) (rows : List (List ℤ)) (up : IsAscending (column_order column) rows) where
  not_less : (i j : ℕ) (d : List ℤ) → i ≤ j → j < length rows → int_lt (number_at (get_or rows j d) column) (number_at (get_or rows i d) column) ≡ false
  not_less i j d least within =
      not_gt-not_lt (number_at (get_or rows i d) column) (number_at (get_or rows j d) column)
      (ascending_at (column_order column) (column_total column) rows up i j d least within)

  pub IsPartitionedBy-less : IsPartitionedBy (λ row. int_lt (number_at row column) value) rows
  IsPartitionedBy-less i j d least within less =
      lt_along (number_at (get_or rows i d) column) (number_at (get_or rows j d) column) value (not_less i j d least within) less

  pub IsPartitionedBy-at_most : IsPartitionedBy (λ row. int_le (number_at row column) value) rows
  IsPartitionedBy-at_most i j d least within less =
      le_along (number_at (get_or rows i d) column) (number_at (get_or rows j d) column) value (not_less i j d least within) less

-- what is neither less nor greater
between : (x value : ℤ) → (not (int_lt x value) && int_le x value) ≡ int_eq x value
between x value =
    elim (int_lt x value) as (λ t. int_lt x value ≡ t → (not t && int_le x value) ≡ is_eq (cond t Less (cond (int_lt value x) Greater Equal))) [
      | true ↦ λ e. refl
      | false ↦ λ e.
          elim (int_lt value x) as (λ s. int_lt value x ≡ s → int_le x value ≡ is_eq (cond s Greater Equal)) [
            | true ↦ λ f.
                elim (int_le x value) as (λ l. int_le x value ≡ l → l ≡ false) [
                  | true ↦ λ g. let one = lt-true value x f in let two = le-true x value g in absurd (omega arith)
                  | false ↦ λ g. refl
                ] refl
            | false ↦ λ f.
                elim (int_le x value) as (λ l. int_le x value ≡ l → l ≡ true) [
                  | true ↦ λ g. refl
                  | false ↦ λ g. let one = lt-false value x f in let two = le-false x value g in absurd (omega arith)
                ] refl
          ] refl
    ] refl

-- the rows with a number are those with no less of which the number is at most this
pub filter-between : (column : ℕ) (value : ℤ) (rows : List (List ℤ))
    → filter (λ row. int_le (number_at row column) value) (filter (λ row. not (int_lt (number_at row column) value)) rows)
    ≡ filter (λ row. int_eq (number_at row column) value) rows
filter-between column value =
    filter-filter (λ row. int_le (number_at row column) value) (λ row. not (int_lt (number_at row column) value))
    (λ row. int_eq (number_at row column) value) (λ row. between (number_at row column) value)
