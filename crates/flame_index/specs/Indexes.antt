-- Indexes: the places of a board's messages in the order of a key.
use Rattle.std.specs.Prelude.{◌≡◌, ℕ, suc, ◌<◌, ◌≤◌, ◌↔◌, ℤ, List, [], ◌∷◌, map, length, Bool, Some, All, if◌then◌else◌, slice_get, slice_index_or, slice_range}
use Rattle.std.specs.List.{filter, range_with_len}
use Rattle.std.specs.declared.cmp.Ordering.{Ordering}
use Rattle.std.specs.Ordering.{int_cmp, nat_cmp, then_cmp, on, flip_args}
use Rattle.flame_rows.specs.Order.{row_order}
use Rattle.flame_rows.specs.Sorted.{IsAscending, sorted_by}
use Rattle.flame_spec.specs.Conditions.{number_at}
use Rattle.flame_spec.specs.Views.{Key, view_order}
use Rattle.flame_cond.specs.Equalities.{has_value}
use Rattle.flame_index.specs.FrozenBoards.{FrozenBoard, messages_on}

-- a message of a board: the number in the column of the key, and its place among the messages [own]
pub record Entry : Type 0 where
  pub value : ℤ
  pub place : ℕ

-- what an index has: the key and the entries, in order [own]
pub record IndexTable : Type 0 where
  pub key : Key
  pub entries : List Entry

-- the entry of a row by a column, in this place; a row that lacks the column has 0 [own]
abbrev pub entry_at : ℕ → ℕ → List ℤ → Entry
entry_at column place row = record { value = number_at row column; place = place }

-- the entries of rows by a column, of which the first stands in this place [own]
abbrev pub entries_from : ℕ → ℕ → List (List ℤ) → List Entry
entries_from column place [] = []
entries_from column place (row ∷ rows) = entry_at column place row ∷ entries_from column (suc place) rows

-- by value, the least first [own]
abbrev pub value_order : Entry → Entry → Ordering
value_order = on (λ entry. entry.value) int_cmp

-- by value in the direction of a key, and equal values by place [own]
abbrev pub entry_order : Bool → Entry → Entry → Ordering
entry_order descending =
    then_cmp (if descending then flip_args value_order else value_order) (on (λ entry. entry.place) nat_cmp)

-- an index of these rows has the entry of each once, in order [own]
abbrev pub IsIndexOf : IndexTable → List (List ℤ) → Type 0
IsIndexOf index rows =
    index.entries ≡ sorted_by (entry_order index.key.descending) (entries_from index.key.column 0 rows)

-- an index stands for a board where its entries are those of the board's messages: a message that lacks the column counts
-- as 0, and the index need not have been made of this board [own]
abbrev pub StandsFor : IndexTable → FrozenBoard → Type 0
StandsFor index board = IsIndexOf index (messages_on board)

-- the values of an index, in order [own]
abbrev pub values_of : IndexTable → List ℤ
values_of index = map (λ entry. entry.value) index.entries

-- the places on the board that an index names, in its order [own]
abbrev pub places_of : IndexTable → List ℕ
places_of index = map (λ entry. entry.place) index.entries

-- the rows in these places, in their order; a place past the end has the empty row, and an index names none [own]
abbrev pub rows_at : List ℕ → List (List ℤ) → List (List ℤ)
rows_at places rows = map (λ place. slice_index_or rows place []) places

-- the places of an index from the first up to the second are those with a number: a place lies in the range exactly where
-- its number is this one, and the messages at these places are the board's with the number, each as often, in content
-- order [own]
pub record IsRangeOf (index : IndexTable) (board : FrozenBoard) (value : ℤ) (low high : ℕ) : Type 0 where
  pub order : low ≤ high
  pub within : high ≤ length index.entries
  pub values : (at : ℕ) (number : ℤ) → slice_get (values_of index) at ≡ Some number → ((low ≤ at) × (at < high)) ↔ (number ≡ value)
  pub rows :
      rows_at (slice_range (places_of index) low high) (messages_on board)
      ≡ filter (has_value index.key.column value) (messages_on board)

-- ---- laws

-- the rows at the places of an index are the board in the order of its key, whether it ascends or descends [own]
abbrev pub IndexOrdersBoard : Type 0
IndexOrdersBoard =
    (index : IndexTable) (board : FrozenBoard)
    → IsAscending row_order (messages_on board)
    → StandsFor index board
    → rows_at (places_of index) (messages_on board) ≡ sorted_by (view_order (Some index.key)) (messages_on board)

-- each place that an index names is a place of the board [own]
abbrev pub IndexStaysWithin : Type 0
IndexStaysWithin =
    (index : IndexTable) (board : FrozenBoard)
    → StandsFor index board
    → All (λ place. place < length (messages_on board)) (places_of index)

-- an index has as many entries as the board has messages [own]
abbrev pub IndexIsAsLong : Type 0
IndexIsAsLong =
    (index : IndexTable) (board : FrozenBoard)
    → StandsFor index board
    → length index.entries ≡ length (messages_on board)

-- each entry has the number of the message in its place, in the column of the key [own]
abbrev pub IndexHasNumbers : Type 0
IndexHasNumbers =
    (index : IndexTable) (board : FrozenBoard)
    → StandsFor index board
    → values_of index ≡ map (λ row. number_at row index.key.column) (rows_at (places_of index) (messages_on board))

-- an index names each place of the board once [own]
abbrev pub IndexNamesEachOnce : Type 0
IndexNamesEachOnce =
    (index : IndexTable) (board : FrozenBoard)
    → StandsFor index board
    → sorted_by nat_cmp (places_of index) ≡ range_with_len 0 (length (messages_on board))
