-- Rows in content order that need no sort.
use Rattle.std.proofs.Common.{◌≡◌, Bool, true, false, cond, List, [], ◌∷◌, Some, refl, ap, ◌∙◌, Equal}
use Rattle.std.specs.Prelude.{ℤ}
use Rattle.std.specs.List.{filter}
use Rattle.std.specs.Ordering.{is_gt, int_cmp, ordering_then, flip_args}
use Rattle.std.specs.Cmp.{int_cmp_total}
use Rattle.std.proofs.lemmas.Cmp.{tied_itself}
use Rattle.flame_rows.specs.Order.{row_order}
use Rattle.flame_rows.specs.Sorted.{IsBelowAll, IsAscending, sorted_by}
use Rattle.flame_rows.proofs.Sorting.{sorted_by-IsAscending}
use Rattle.flame_spec.specs.Conditions.{number_at}
use Rattle.flame_spec.specs.Views.{Key, column_order, key_order, view_order}
use Rattle.flame_spec.proofs.Viewed.{view_total, view_tied}

-- ---- rows that all have one number in the column of the key

module _ (key : Key) where
  same_column : (row other : List ℤ) (value : ℤ) → number_at row key.column ≡ value → number_at other key.column ≡ value
      → column_order key.column row other ≡ Equal
  same_column row other value at there = (λ i. int_cmp (at i) (there i)) ∙ tied_itself int_cmp_total value

  same_key : (row other : List ℤ) (value : ℤ) → number_at row key.column ≡ value → number_at other key.column ≡ value
      → key_order key row other ≡ Equal
  same_key row other value at there =
      elim key.descending as (λ t. cond t (flip_args (column_order key.column)) (column_order key.column) row other ≡ Equal) [
        | true ↦ same_column other row value there at
        | false ↦ same_column row other value at there
      ]

  by_content : (row other : List ℤ) (value : ℤ) → number_at row key.column ≡ value → number_at other key.column ≡ value
      → view_order (Some key) row other ≡ row_order row other
  by_content row other value at there =
      ap (λ o. ordering_then o (row_order row other)) (same_key row other value at there)

  module _ (p : List ℤ → Bool) (value : ℤ) (gives : (row : List ℤ) → p row ≡ true → number_at row key.column ≡ value) where
    IsBelowAll-alike : (row : List ℤ) → number_at row key.column ≡ value → (rows : List (List ℤ)) → IsBelowAll row_order row rows
        → IsBelowAll (view_order (Some key)) row (filter p rows)
    IsBelowAll-alike row at [] below = tt
    IsBelowAll-alike row at (other ∷ rows) below =
        elim (p other) as (λ t. p other ≡ t → IsBelowAll (view_order (Some key)) row (cond t (other ∷ filter p rows) (filter p rows))) [
          | true ↦ λ e. (ap is_gt (by_content row other value at (gives other e)) ∙ below.0, IsBelowAll-alike row at rows below.1)
          | false ↦ λ e. IsBelowAll-alike row at rows below.1
        ] refl

    IsAscending-alike : (rows : List (List ℤ)) → IsAscending row_order rows → IsAscending (view_order (Some key)) (filter p rows)
    IsAscending-alike [] up = tt
    IsAscending-alike (row ∷ rows) up =
        elim (p row) as (λ t. p row ≡ t → IsAscending (view_order (Some key)) (cond t (row ∷ filter p rows) (filter p rows))) [
          | true ↦ λ e. (IsBelowAll-alike row (gives row e) rows up.0, IsAscending-alike rows up.1)
          | false ↦ λ e. IsAscending-alike rows up.1
        ] refl

    -- by the key, in both directions, they stand as by content
    pub sorted_by-alike : (rows : List (List ℤ)) → IsAscending row_order rows
        → sorted_by (view_order (Some key)) (filter p rows) ≡ filter p rows
    sorted_by-alike rows up =
        sorted_by-IsAscending (view_order (Some key)) (view_total (Some key)) (view_tied (Some key)) (filter p rows)
        (IsAscending-alike rows up)
