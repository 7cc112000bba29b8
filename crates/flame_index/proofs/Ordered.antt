-- Laws of indexes: the rows at their places are the board in the order of the key; their numbers and their places.
use Rattle.std.proofs.Common.{◌≡◌, ℕ, zero, suc, ◌+◌, ◌<◌, ◌≤◌, Bool, true, false, cond, List, [], ◌∷◌, map, length, Some, refl, sym, ap, ap₂, ◌∙◌, arith, true≢false, Ordering, Less, Equal, Greater, All, ⊎_elim}
use Rattle.std.specs.Prelude.{ℤ, slice_index_or}
use Rattle.std.specs.Ordering.{is_gt, is_eq, int_cmp, nat_cmp, flip_args, ordering_then, MatchOrdering}
use Rattle.std.specs.Cmp.{ranked, nat_cmp_is, nat_cmp_total}
use Rattle.std.specs.FinMap.{nat_cmp-IsAntisymmetric}
use Rattle.std.specs.List.{sum_by, range_with_len}
use Rattle.std.proofs.lemmas.Bool.{cases_eq}
use Rattle.std.proofs.lemmas.Cmp.{tied_itself}
use Rattle.std.proofs.lemmas.List.Elements.{All-head, All-tail, All-same, All-map, All-weaker}
use Rattle.std.proofs.lemmas.Option.{slice_get-get_or}
use Rattle.std.proofs.lemmas.Simd.{map-map}
use Rattle.flame_rows.specs.Order.{row_order}
use Rattle.flame_rows.specs.Sorted.{IsBelowAll, IsAscending, sorted_by}
use Rattle.flame_rows.proofs.Sorting.{sum_by-sorted_by, IsAscending-sorted_by, ascending_once}
use Rattle.flame_rows.proofs.BagLaws.{rows_total}
use Rattle.flame_spec.specs.Conditions.{number_at}
use Rattle.flame_spec.specs.Views.{Key, column_order, view_order}
use Rattle.flame_spec.proofs.Viewed.{view_total, view_tied}
use Rattle.flame_index.specs.FrozenBoards.{messages_on}
use Rattle.flame_index.specs.Indexes.{Entry, IndexTable, entries_from, entry_order, IsIndexOf, places_of, rows_at, IndexOrdersBoard, IndexStaysWithin, IndexIsAsLong, IndexHasNumbers, IndexNamesEachOnce}
use Rattle.flame_index.proofs.SortedParts.{sum_by-map, IsAscending-at, All-sorted_by, length-sorted_by, sorted_by-seen}
use Rattle.flame_index.proofs.Entered.{IsEntryOf, row_of, directed, entry_total, entries_are, rows_seen, length-entries_from}

not_after : (a b : ℕ) → is_gt (nat_cmp a b) ≡ false → a ≤ b
not_after a b h = by_case (nat_cmp a b) (ranked a b (nat_cmp a b) refl) h
  where
    by_case : (o : Ordering) → MatchOrdering o (a < b) (a ≡ b) (b < a) → is_gt o ≡ false → a ≤ b
    by_case Less less t = omega (arith, less)
    by_case Equal same t = omega (arith, same)
    by_case Greater more t = absurd (true≢false t)

then_keeps : (o p r : Ordering) → (is_gt p ≡ false → is_gt r ≡ false) → is_gt (ordering_then o p) ≡ false → is_gt (ordering_then o r) ≡ false
then_keeps Less p r keeps h = refl
then_keeps Equal p r keeps h = keeps h
then_keeps Greater p r keeps h = h

module _ (rows : List (List ℤ)) (up : IsAscending row_order rows) where
  rows_in_order : (i j : ℕ) → i ≤ j → j < length rows → is_gt (row_order (slice_index_or rows i []) (slice_index_or rows j [])) ≡ false
  rows_in_order i j least within =
      ⊎_elim
      (λ (same : i ≡ j).
      ap (λ n. is_gt (row_order (slice_index_or rows i []) (slice_index_or rows n []))) (sym same)
      ∙ ap is_gt (tied_itself rows_total (slice_index_or rows i [])))
      (λ (apart : i ≡ j → ⊥).
      let less : i < j = omega arith in
      IsAscending-at row_order rows i j (slice_index_or rows i []) (slice_index_or rows j []) less up
      (slice_get-get_or rows i [] (omega arith))
      (slice_get-get_or rows j [] within))
      (cases_eq i j)

  directed_alike : (descending : Bool) (column : ℕ) (one two : Entry) → IsEntryOf column rows one → IsEntryOf column rows two
      → directed descending one two
      ≡ cond descending (flip_args (column_order column)) (column_order column) (row_of rows one) (row_of rows two)
  directed_alike true column one two a b = λ i. int_cmp (b.value i) (a.value i)
  directed_alike false column one two a b = λ i. int_cmp (a.value i) (b.value i)

  entries_keep : (key : Key) (one two : Entry) → IsEntryOf key.column rows one → IsEntryOf key.column rows two
      → is_gt (entry_order key.descending one two) ≡ false → is_gt (view_order (Some key) (row_of rows one) (row_of rows two)) ≡ false
  entries_keep key one two a b h =
      let places : is_gt (nat_cmp one.place two.place) ≡ false → is_gt (row_order (row_of rows one) (row_of rows two)) ≡ false =
      λ t. rows_in_order one.place two.place (not_after one.place two.place t) b.within in
      ap (λ o. is_gt (ordering_then o (row_order (row_of rows one) (row_of rows two)))) (sym (directed_alike key.descending key.column one two a b))
      ∙ then_keeps (directed key.descending one two) (nat_cmp one.place two.place) (row_order (row_of rows one) (row_of rows two)) places h

pub rows_at-entries : (rows : List (List ℤ)) (entries : List Entry) → rows_at (map (λ entry. entry.place) entries) rows ≡ map (row_of rows) entries
rows_at-entries rows entries = map-map (λ place. slice_index_or rows place []) (λ (entry : Entry). entry.place) entries

pub entries_stand : (index : IndexTable) (rows : List (List ℤ)) → IsIndexOf index rows → All (IsEntryOf index.key.column rows) index.entries
entries_stand index rows stands =
    All-same (IsEntryOf index.key.column rows) index.entries (sorted_by (entry_order index.key.descending) (entries_from index.key.column 0 rows)) stands
    (All-sorted_by (entry_order index.key.descending) (IsEntryOf index.key.column rows) (entries_from index.key.column 0 rows)
    (entries_are index.key.column rows 0 rows refl))

pub index_orders_board : IndexOrdersBoard
index_orders_board index board up stands =
    let rows : List (List ℤ) = messages_on board in
    let entries : List Entry = entries_from index.key.column 0 rows in
    rows_at-entries rows index.entries
    ∙ ap (map (row_of rows)) stands
    ∙ sorted_by-seen (entry_order index.key.descending) (view_order (Some index.key)) (row_of rows) (IsEntryOf index.key.column rows)
    (entries_keep rows up index.key) (entry_total index.key.descending) (view_total (Some index.key)) (view_tied (Some index.key))
    entries (entries_are index.key.column rows 0 rows refl)
    ∙ ap (sorted_by (view_order (Some index.key))) (rows_seen index.key.column rows 0 rows refl)

pub index_stays_within : IndexStaysWithin
index_stays_within index board stands =
    let rows : List (List ℤ) = messages_on board in
    All-map (λ place. place < length rows) (λ (entry : Entry). entry.place) index.entries
    (All-weaker (IsEntryOf index.key.column rows) (λ entry. entry.place < length rows) (λ entry is. is.within) index.entries
    (entries_stand index rows stands))

pub index_is_as_long : IndexIsAsLong
index_is_as_long index board stands =
    ap length stands
    ∙ length-sorted_by (entry_order index.key.descending) (entries_from index.key.column 0 (messages_on board))
    ∙ length-entries_from index.key.column 0 (messages_on board)

-- ---- the numbers

values_are : (column : ℕ) (rows : List (List ℤ)) (entries : List Entry) → All (IsEntryOf column rows) entries
    → map (λ (entry : Entry). entry.value) entries ≡ map (λ entry. number_at (row_of rows entry) column) entries
values_are column rows [] all = refl
values_are column rows (entry ∷ entries) all =
    ap₂ (λ one more. one ∷ more) (All-head (IsEntryOf column rows) entry entries all).value
    (values_are column rows entries (All-tail (IsEntryOf column rows) entry entries all))

pub index_has_numbers : IndexHasNumbers
index_has_numbers index board stands =
    let rows : List (List ℤ) = messages_on board in
    let column : ℕ = index.key.column in
    values_are column rows index.entries (entries_stand index rows stands)
    ∙ sym (map-map (λ row. number_at row column) (row_of rows) index.entries)
    ∙ ap (map (λ row. number_at row column)) (sym (rows_at-entries rows index.entries))

-- ---- the places

places-entries_from : (column place : ℕ) (rows : List (List ℤ))
    → map (λ (entry : Entry). entry.place) (entries_from column place rows) ≡ range_with_len place (length rows)
places-entries_from column place [] = refl
places-entries_from column place (row ∷ rows) =
    let next : suc place ≡ place + 1 = omega arith in
    ap (λ rest. place ∷ rest)
    (places-entries_from column (suc place) rows ∙ ap (λ n. range_with_len n (length rows)) next)

IsBelowAll-range : (x a n : ℕ) → x < a → IsBelowAll nat_cmp x (range_with_len a n)
IsBelowAll-range x a zero less = tt
IsBelowAll-range x a (suc n) less =
    (ap is_gt (sym (nat_cmp_is x a Less less)), IsBelowAll-range x (a + 1) n (omega (arith, less)))

IsAscending-range : (a n : ℕ) → IsAscending nat_cmp (range_with_len a n)
IsAscending-range a zero = tt
IsAscending-range a (suc n) = (IsBelowAll-range a (a + 1) n (omega arith), IsAscending-range (a + 1) n)

pub index_names_each_once : IndexNamesEachOnce
index_names_each_once index board stands =
    let rows : List (List ℤ) = messages_on board in
    let by = entry_order index.key.descending in
    let entries : List Entry = entries_from index.key.column 0 rows in
    let numbers : List ℕ = range_with_len 0 (length rows) in
    ascending_once nat_cmp nat_cmp_total nat_cmp-IsAntisymmetric (sorted_by nat_cmp (places_of index)) numbers
    (IsAscending-sorted_by nat_cmp nat_cmp_total (places_of index))
    (IsAscending-range 0 (length rows))
    (λ z.
    sum_by-sorted_by nat_cmp (λ n. cond (is_eq (nat_cmp z n)) 1 0) (places_of index)
    ∙ sum_by-map (λ n. cond (is_eq (nat_cmp z n)) 1 0) (λ (entry : Entry). entry.place) index.entries
    ∙ ap (sum_by (λ entry. cond (is_eq (nat_cmp z entry.place)) 1 0)) stands
    ∙ sum_by-sorted_by by (λ entry. cond (is_eq (nat_cmp z entry.place)) 1 0) entries
    ∙ sym (sum_by-map (λ n. cond (is_eq (nat_cmp z n)) 1 0) (λ (entry : Entry). entry.place) entries)
    ∙ ap (sum_by (λ n. cond (is_eq (nat_cmp z n)) 1 0)) (places-entries_from index.key.column 0 rows))
