-- Lists of callers while they are written: from the front, so that equal numbers come in a row.
use Rattle.std.specs.Prelude.{◌≡◌, ℕ, List, [], Bool, Option, Some, None, slice_index_or}
use Rattle.flame_spec.specs.CallFaults.{Deed, calls}
use Rattle.flame_graph.specs.Marks.{marked_where}

-- each list is marked with the caller where the test says that it calls that helper [own]
abbrev pub AreMarked : ℕ → (ℕ → Bool) → List (List ℕ) → List (List ℕ) → Type 0
AreMarked caller test old new =
    (h : ℕ) → slice_index_or new h [] ≡ marked_where caller (test h) (slice_index_or old h [])

-- the number of the helper that is called, if one is [own]
abbrev pub called_number : Option Deed → Option ℕ
called_number (Some (calls number helper)) = Some number
called_number _ = None
