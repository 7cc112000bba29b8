-- Views have the rows that pass as often as the board has them, in order, and are the only such lists.
use Rattle.std.proofs.Common.{◌≡◌, ℕ, ◌+◌, Bool, true, false, cond, List, [], ◌∷◌, Option, Some, None, refl, sym, ap, ◌∙◌, zero-add, Ordering, Less, Equal, Greater}
use Rattle.std.specs.Prelude.{ℤ}
use Rattle.std.specs.List.{sum_by, filter}
use Rattle.std.specs.Ordering.{is_eq, is_gt, eq_by_cmp, flip_args, ordering_then, ordering_reverse}
use Rattle.std.specs.Cmp.{IsTotalOrder, int_cmp_total, on_total, back_total, then_total}
use Rattle.std.proofs.lemmas.Cmp.{tied_itself}
use Rattle.std.proofs.lemmas.List.Sums.{sum_by-cons}
use Rattle.std.proofs.lemmas.List.Recursion.{is_count_by}
use Rattle.flame_rows.specs.Order.{row_order}
use Rattle.flame_rows.specs.Sorted.{IsBelowAll, IsAscending, sorted_by}
use Rattle.flame_rows.specs.Bags.{count_of}
use Rattle.flame_rows.proofs.Sorting.{sum_by-sorted_by, IsAscending-sorted_by, ascending_once, sorted_by-IsAscending}
use Rattle.flame_rows.proofs.BagLaws.{rows_total, rows_tied}
use Rattle.flame_rows.proofs.Truths.{cond-add}
use Rattle.flame_rows.proofs.Lists.{filter-all}
use Rattle.flame_spec.specs.Conditions.{number_at}
use Rattle.flame_spec.specs.Views.{Key, column_order, key_order, view_order, view}
use Rattle.flame_spec.specs.ViewLaws.{ViewKeepsCounts, ViewAscends, ViewGoesByKey, tie_order, ViewTiesByContent, ViewIsTheOne, PlainViewIsBoard}

-- ---- the orders

pub column_total : (place : ℕ) → IsTotalOrder (column_order place)
column_total place = on_total (λ row. number_at row place) int_cmp_total

pub key_total : (key : Key) → IsTotalOrder (key_order key)
key_total key =
    elim key.descending as (λ t. IsTotalOrder (cond t (flip_args (column_order key.column)) (column_order key.column))) [
      | true ↦ back_total (column_total key.column)
      | false ↦ column_total key.column
    ]

pub view_total : (key : Option Key) → IsTotalOrder (view_order key)
view_total None = rows_total
view_total (Some key) = then_total (key_total key) rows_total

second : (o p : Ordering) → ordering_then o p ≡ Equal → p ≡ Equal
second Less p h = cc
second Equal p h = h
second Greater p h = cc

pub view_tied : (key : Option Key) (row other : List ℤ) → view_order key row other ≡ Equal → row ≡ other
view_tied None row other h = rows_tied row other h
view_tied (Some key) row other h = rows_tied row other (second (key_order key row other) (row_order row other) h)

-- ---- how often a row stands

-- one for the row itself, and nothing for each other
abbrev ones : List ℤ → List ℤ → ℕ
ones row other = cond (is_eq (row_order row other)) 1 0

count_of-sum_by : (row : List ℤ) (rows : List (List ℤ)) → count_of rows row ≡ sum_by (ones row) rows
count_of-sum_by row rows = sym (is_count_by (sum_by (ones row)) (eq_by_cmp row_order row) refl step rows)
  where
    step : (other : List ℤ) (rest : List (List ℤ)) → sum_by (ones row) (other ∷ rest) ≡ cond (eq_by_cmp row_order row other) (1 + sum_by (ones row) rest) (sum_by (ones row) rest)
    step other rest = sum_by-cons (ones row) other rest ∙ cond-add (eq_by_cmp row_order row other) (sum_by (ones row) rest)

equal_from : (o : Ordering) → is_eq o ≡ true → o ≡ Equal
equal_from Less h = cc
equal_from Equal h = refl
equal_from Greater h = cc

none_more : (t : Bool) (n : ℕ) → 0 + cond t n 0 ≡ cond t (0 + n) 0
none_more true n = refl
none_more false n = refl

none : (t : Bool) → ◌≡◌ {A = ℕ} 0 (cond t 0 0)
none true = refl
none false = refl

module _ (passes : List ℤ → Bool) where
  kept_ones : (row other : List ℤ) (rest : List (List ℤ)) (p e : Bool) → passes other ≡ p → is_eq (row_order row other) ≡ e
      → sum_by (ones row) (filter passes rest) ≡ cond (passes row) (sum_by (ones row) rest) 0
      → sum_by (ones row) (cond p (other ∷ filter passes rest) (filter passes rest))
      ≡ cond (passes row) (cond e 1 0 + sum_by (ones row) rest) 0
  kept_ones row other rest true true hp he again =
      let same : passes row ≡ true = ap passes (rows_tied row other (equal_from _ he)) ∙ hp in
      sum_by-cons (ones row) other (filter passes rest)
      ∙ (λ i. cond (he i) 1 0 + again i)
      ∙ (rw same refl)
  kept_ones row other rest false true hp he again =
      let same : passes row ≡ false = ap passes (rows_tied row other (equal_from _ he)) ∙ hp in
      again ∙ (rw same refl)
  kept_ones row other rest true false hp he again =
      sum_by-cons (ones row) other (filter passes rest)
      ∙ (λ i. cond (he i) 1 0 + again i)
      ∙ (none_more (passes row) (sum_by (ones row) rest))
  kept_ones row other rest false false hp he again =
      again ∙ ap (λ n. cond (passes row) n 0) (sym (zero-add (sum_by (ones row) rest)))

  sum_by-filter : (row : List ℤ) (board : List (List ℤ)) → sum_by (ones row) (filter passes board) ≡ cond (passes row) (sum_by (ones row) board) 0
  sum_by-filter row [] = none (passes row)
  sum_by-filter row (other ∷ rest) =
      kept_ones row other rest (passes other) (is_eq (row_order row other)) refl refl (sum_by-filter row rest)
      ∙ ap (λ n. cond (passes row) n 0) (sym (sum_by-cons (ones row) other rest))

  pub count_of-filter : (board : List (List ℤ)) (row : List ℤ) → count_of (filter passes board) row ≡ cond (passes row) (count_of board row) 0
  count_of-filter board row =
      count_of-sum_by row (filter passes board)
      ∙ sum_by-filter row board
      ∙ ap (λ n. cond (passes row) n 0) (sym (count_of-sum_by row board))

pub view_keeps_counts : ViewKeepsCounts
view_keeps_counts passes key board row =
    count_of-sum_by row (view passes key board)
    ∙ sum_by-sorted_by (view_order key) (ones row) (filter passes board)
    ∙ sym (count_of-sum_by row (filter passes board))
    ∙ count_of-filter passes board row

-- ---- the order of a view

pub view_ascends : ViewAscends
view_ascends passes key board = IsAscending-sorted_by (view_order key) (view_total key) (filter passes board)

-- a list that goes by one order goes by another that never turns what the one leaves
module _ (order other : List ℤ → List ℤ → Ordering) (keeps : (x y : List ℤ) → is_gt (order x y) ≡ false → is_gt (other x y) ≡ false) where
  IsBelowAll-by : (x : List ℤ) (ys : List (List ℤ)) → IsBelowAll order x ys → IsBelowAll other x ys
  IsBelowAll-by x [] below = tt
  IsBelowAll-by x (y ∷ ys) below = (keeps x y below.0, IsBelowAll-by x ys below.1)

  IsAscending-by : (xs : List (List ℤ)) → IsAscending order xs → IsAscending other xs
  IsAscending-by [] up = tt
  IsAscending-by (x ∷ xs) up = (IsBelowAll-by x xs up.0, IsAscending-by xs up.1)

-- what does not come after by two orders does not by the first
pub first_not_gt : (o p : Ordering) → is_gt (ordering_then o p) ≡ false → is_gt o ≡ false
first_not_gt Less p h = refl
first_not_gt Equal p h = refl
first_not_gt Greater p h = h

pub view_goes_by_key : ViewGoesByKey
view_goes_by_key passes key board =
    IsAscending-by (view_order (Some key)) (key_order key) (λ x y h. first_not_gt (key_order key x y) (row_order x y) h)
    _ (view_ascends passes (Some key) board)

-- rows with equal numbers in the column are tied by the key, in both directions
key_ties : (key : Key) (x y : List ℤ) → column_order key.column x y ≡ Equal → key_order key x y ≡ Equal
key_ties key x y h =
    elim key.descending as (λ t. cond t (flip_args (column_order key.column)) (column_order key.column) x y ≡ Equal) [
      | true ↦ (column_total key.column).antisymm y x ∙ ap ordering_reverse h
      | false ↦ h
    ]

ties_by_content : (key : Key) (x y : List ℤ) → is_gt (view_order (Some key) x y) ≡ false → is_gt (tie_order key.column x y) ≡ false
ties_by_content key x y h =
    elim (is_eq (column_order key.column x y)) as (λ t. is_eq (column_order key.column x y) ≡ t → is_gt (cond t (row_order x y) Less) ≡ false) [
      | true ↦ λ e. ap (λ o. is_gt (ordering_then o (row_order x y))) (sym (key_ties key x y (equal_from _ e))) ∙ h
      | false ↦ λ e. refl
    ] refl

pub view_ties_by_content : ViewTiesByContent
view_ties_by_content passes key board =
    IsAscending-by (view_order (Some key)) (tie_order key.column) (ties_by_content key)
    _ (view_ascends passes (Some key) board)

-- ---- one list only

same_ties : (key : Option Key) (row other : List ℤ) → is_eq (view_order key row other) ≡ is_eq (row_order row other)
same_ties None row other = refl
same_ties (Some key) row other = by_case (is_eq (row_order row other)) refl
  where
    tied : row ≡ other → is_eq (view_order (Some key) row other) ≡ true
    tied e = ap (λ x. is_eq (view_order (Some key) row x)) (sym e) ∙ ap is_eq (tied_itself (view_total (Some key)) row)

    apart : is_eq (row_order row other) ≡ false → (o : Ordering) → view_order (Some key) row other ≡ o → is_eq o ≡ false
    apart differ Less e = refl
    apart differ Equal e =
        let same : row ≡ other = view_tied (Some key) row other e in
        sym (ap is_eq (tied_itself rows_total row)) ∙ ap (λ x. is_eq (row_order row x)) same ∙ differ
    apart differ Greater e = refl

    by_case : (t : Bool) → is_eq (row_order row other) ≡ t → is_eq (view_order (Some key) row other) ≡ is_eq (row_order row other)
    by_case true e = tied (rows_tied row other (equal_from _ e)) ∙ sym e
    by_case false e = apart e (view_order (Some key) row other) refl ∙ sym e

pub view_is_the_one : ViewIsTheOne
view_is_the_one passes key board rows up same =
    ascending_once (view_order key) (view_total key) (view_tied key) rows (view passes key board) up (view_ascends passes key board)
    (λ z. ap (λ test. sum_by test rows) (by_content z)
    ∙ sym (count_of-sum_by z rows)
    ∙ same z
    ∙ sym (view_keeps_counts passes key board z)
    ∙ count_of-sum_by z (view passes key board)
    ∙ sym (ap (λ test. sum_by test (view passes key board)) (by_content z)))
  where
    by_content : (z : List ℤ) → (λ other. cond (is_eq (view_order key z other)) 1 0) ≡ ones z
    by_content z = λ i other. cond (same_ties key z other i) 1 0

pub plain_view_is_board : PlainViewIsBoard
plain_view_is_board board up =
    ap (sorted_by row_order) (filter-all board) ∙ sorted_by-IsAscending row_order rows_total rows_tied board up
