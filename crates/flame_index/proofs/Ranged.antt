-- The rows at a range of an index that has one value are the board's rows with that value.
use Rattle.std.proofs.Common.{◌≡◌, ℕ, suc, ◌<◌, ◌≤◌, Bool, true, false, cond, List, [], ◌∷◌, map, length, Some, refl, sym, ap, ◌∙◌, arith, Less, Equal, All, filter, slice_get, slice_range}
use Rattle.std.specs.Prelude.{ℤ}
use Rattle.std.specs.Ordering.{is_gt, int_eq, int_cmp, nat_cmp, ordering_then}
use Rattle.std.specs.Cmp.{int_cmp_total, nat_cmp_is, signed_Decides}
use Rattle.std.proofs.lemmas.Cmp.{tied_itself}
use Rattle.std.proofs.lemmas.List.Elements.{All-weaker}
use Rattle.flame_rows.specs.Sorted.{IsBelowAll, IsAscending}
use Rattle.flame_rows.proofs.Sorting.{sorted_by-IsAscending}
use Rattle.flame_cond.specs.Equalities.{has_value}
use Rattle.flame_index.specs.Indexes.{Entry, IndexTable, entry_at, entries_from, entry_order, IsIndexOf, places_of, rows_at}
use Rattle.flame_index.proofs.SortedParts.{filter-sorted_by, map-filter, map-slice_range, slice_range-filter}
use Rattle.flame_index.proofs.Entered.{IsEntryOf, row_of, directed, entry_total, entry_tied, entries_are, rows_seen}
use Rattle.flame_index.proofs.Ordered.{rows_at-entries}

-- whether an entry has the value
abbrev pub is_at : ℤ → Entry → Bool
is_at value entry = int_eq entry.value value

module _ (descending : Bool) (value : ℤ) where
  directed_equal : (turned : Bool) (one two : Entry) → one.value ≡ two.value → directed turned one two ≡ Equal
  directed_equal true one two same = ap (λ v. int_cmp two.value v) same ∙ tied_itself int_cmp_total two.value
  directed_equal false one two same = ap (λ v. int_cmp v two.value) same ∙ tied_itself int_cmp_total two.value

  -- of two entries with the value that with the lesser place comes first, in both directions
  earlier : (one two : Entry) → is_at value one ≡ true → is_at value two ≡ true → one.place < two.place
      → is_gt (entry_order descending one two) ≡ false
  earlier one two a b less =
      let same : one.value ≡ two.value = (signed_Decides one.value value).0 a ∙ sym ((signed_Decides two.value value).0 b) in
      let values : directed descending one two ≡ Equal = directed_equal descending one two same in
      let places : nat_cmp one.place two.place ≡ Less = sym (nat_cmp_is one.place two.place Less less) in
      λ i. is_gt (ordering_then (values i) (places i))

  below_later : (column place : ℕ) (one : Entry) → is_at value one ≡ true → one.place < place → (rows : List (List ℤ))
      → IsBelowAll (entry_order descending) one (filter (is_at value) (entries_from column place rows))
  below_later column place one here less [] = tt
  below_later column place one here less (row ∷ rows) =
      let later : List Entry = filter (is_at value) (entries_from column (suc place) rows) in
      let rest : IsBelowAll (entry_order descending) one later =
      below_later column (suc place) one here (omega (arith, less)) rows in
      elim (is_at value (entry_at column place row)) as (λ t. is_at value (entry_at column place row) ≡ t
      → IsBelowAll (entry_order descending) one (cond t (entry_at column place row ∷ later) later)) [
        | true ↦ λ there. (earlier one (entry_at column place row) here there less, rest)
        | false ↦ λ there. rest
      ] refl

  -- the entries with the value go by place
  kept_ascend : (column place : ℕ) (rows : List (List ℤ))
      → IsAscending (entry_order descending) (filter (is_at value) (entries_from column place rows))
  kept_ascend column place [] = tt
  kept_ascend column place (row ∷ rows) =
      let later : List Entry = filter (is_at value) (entries_from column (suc place) rows) in
      let rest : IsAscending (entry_order descending) later = kept_ascend column (suc place) rows in
      elim (is_at value (entry_at column place row)) as (λ t. is_at value (entry_at column place row) ≡ t
      → IsAscending (entry_order descending) (cond t (entry_at column place row ∷ later) later)) [
        | true ↦ λ there. (below_later column (suc place) (entry_at column place row) there (omega arith) rows, rest)
        | false ↦ λ there. rest
      ] refl

-- where a range of an index has each entry with the value, and no other
pub rows_in_range : (index : IndexTable) (rows : List (List ℤ)) (value : ℤ) (low high : ℕ) → IsIndexOf index rows
    → low ≤ high → high ≤ length index.entries
    → ((at : ℕ) (entry : Entry) → slice_get index.entries at ≡ Some entry → at < low → is_at value entry ≡ false)
    → ((at : ℕ) (entry : Entry) → slice_get index.entries at ≡ Some entry → low ≤ at → at < high → is_at value entry ≡ true)
    → ((at : ℕ) (entry : Entry) → slice_get index.entries at ≡ Some entry → high ≤ at → is_at value entry ≡ false)
    → rows_at (slice_range (places_of index) low high) rows ≡ filter (has_value index.key.column value) rows
rows_in_range index rows value low high stands order within before inside after =
    let column : ℕ = index.key.column in
    let by = entry_order index.key.descending in
    let entries : List Entry = entries_from column 0 rows in
    let kept : List Entry = filter (is_at value) entries in
    let all : All (λ entry. is_at value entry ≡ has_value column value (row_of rows entry)) entries =
    All-weaker (IsEntryOf column rows) (λ entry. is_at value entry ≡ has_value column value (row_of rows entry))
    (λ entry is. ap (λ v. int_eq v value) is.value) entries (entries_are column rows 0 rows refl) in
    ap (λ places. rows_at places rows) (map-slice_range (λ (entry : Entry). entry.place) index.entries low high)
    ∙ rows_at-entries rows (slice_range index.entries low high)
    ∙ ap (map (row_of rows))
    (slice_range-filter (is_at value) index.entries low high order within before inside after
    ∙ ap (filter (is_at value)) stands
    ∙ filter-sorted_by by (is_at value) (entry_total index.key.descending) (entry_tied index.key.descending) entries
    ∙ sorted_by-IsAscending by (entry_total index.key.descending) (entry_tied index.key.descending) kept
    (kept_ascend index.key.descending value column 0 rows))
    ∙ map-filter (row_of rows) (is_at value) (has_value column value) entries all
    ∙ ap (filter (has_value column value)) (rows_seen column rows 0 rows refl)
