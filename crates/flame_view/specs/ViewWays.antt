-- The ways to a view.
use Rattle.std.specs.Prelude.{ℕ, ◌<◌, ℤ, List, [], ◌∷◌, length, All, Bool, true, false, not, ◌&&◌, ◌==◌, Option, Some, None}
use Rattle.flame_rows.specs.Sorted.{sorted_by}
use Rattle.flame_spec.specs.Views.{Key, view_order}
use Rattle.flame_cond.specs.declared.keys.SortBy.{SortBy}
use Rattle.flame_cond.specs.Said.{key_by}

-- whether the first row, where there is one, has a number: then none of rows in content order is empty [own]
abbrev pub first_has_number : List (List ℤ) → Bool
first_has_number [] = true
first_has_number ([] ∷ rows) = false
first_has_number ((number ∷ row) ∷ rows) = true

-- whether a key is column 0 with the least number first: so do rows in content order stand of which none is empty [own]
abbrev pub goes_by_first : Key → Bool
goes_by_first key = (key.column == 0) && not key.descending

-- rows in the order of a sort, or as they stand where there is none [own]
abbrev pub in_order_of : Option SortBy → List (List ℤ) → List (List ℤ)
in_order_of None rows = rows
in_order_of (Some by) rows = sorted_by (view_order (Some (key_by by))) rows

-- each of the places is one of the rows' [own]
abbrev pub AreWithin : List ℕ → List (List ℤ) → Type 0
AreWithin places rows = All (λ place. place < length rows) places
