-- Indexes as they lie in memory: values and places in two lists, beside each other.
use Rattle.std.specs.Prelude.{◌≡◌, ℕ, ◌<◌, ◌≤◌, ◌↔◌, ℤ, pos, ◌+ℤ◌, ◌-ℤ◌, List, [], ◌∷◌, map, length, slice_get, Bool, Option, None, Some, IsTrue, if◌then◌else◌, int_le, int_lt}
use Rattle.std.specs.declared.vec.Vec.{Vec}
use Rattle.flame_spec.specs.Views.{Key}
use Rattle.flame_index.specs.declared.entries.Pair.{Pair}
use Rattle.flame_index.specs.Indexes.{Entry, IndexTable}

-- the entry that a pair is [own]
abbrev pub entry_of : Pair → Entry
entry_of pair = record { value = pair.value; place = pair.place }

-- the entries of values and places that lie beside each other; of an index both lists are as long [own]
abbrev pub entries_of : List ℤ → List ℕ → List Entry
entries_of [] places = []
entries_of (value ∷ values) [] = []
entries_of (value ∷ values) (place ∷ places) = record { value = value; place = place } ∷ entries_of values places

-- whether a search from the left goes past a value: it is less, or no greater where equal ones are passed too [own]
abbrev pub is_passed : Bool → ℤ → ℤ → Bool
is_passed through wanted value = if through then int_le value wanted else int_lt value wanted

-- of values in order so many are less than a number: those that stand before this place [own]
pub record IsStartOf (wanted : ℤ) (values : List ℤ) (place : ℕ) : Type 0 where
  pub within : place ≤ length values
  pub sides : (at : ℕ) (value : ℤ) → slice_get values at ≡ Some value → (at < place) ↔ IsTrue (int_lt value wanted)

-- each count of a table of starts is how many values are less than the least number and its place in the table together
-- [own]
abbrev pub AreStartsOf : ℤ → List ℕ → List ℤ → Type 0
AreStartsOf least counts values =
    (place count : ℕ) → slice_get counts place ≡ Some count → IsStartOf (least +ℤ pos place) values count

-- values lie between two numbers, of which each may be one of them [own]
abbrev pub LieBetween : ℤ → ℤ → List ℤ → Type 0
LieBetween least greatest values =
    (at : ℕ) (value : ℤ) → slice_get values at ≡ Some value → IsTrue (int_le least value) × IsTrue (int_le value greatest)

-- a table of starts stands for values: its counts are starts of theirs, it begins with a number than which none is less,
-- and ends with one than which all are; a table without counts stands for any values [own]
pub record IsTableOf (least : ℤ) (counts : List ℕ) (values : List ℤ) : Type 0 where
  pub starts : AreStartsOf least counts values
  pub ends : 0 < length counts → LieBetween least ((least +ℤ pos (length counts)) -ℤ pos 2) values

-- the values before a place are less than a number [own]
abbrev pub IsLessBelow : ℤ → List ℤ → ℕ → Type 0
IsLessBelow wanted values low =
    (at : ℕ) (value : ℤ) → slice_get values at ≡ Some value → at < low → IsTrue (int_lt value wanted)

-- a search for a number goes past so many values: those that stand before this place [own]
pub record IsBoundOf (through : Bool) (wanted : ℤ) (values : List ℤ) (place : ℕ) : Type 0 where
  pub within : place ≤ length values
  pub sides : (at : ℕ) (value : ℤ) → slice_get values at ≡ Some value → (at < place) ↔ IsTrue (is_passed through wanted value)

-- the keys of indexes [own]
abbrev pub keys_of : List IndexTable → List Key
keys_of indexes = map (λ index. index.key) indexes

-- the indexes that a board keeps; it has no list of them while there is none [own]
abbrev pub indexes_in : {Z : Type 0} → Option (Vec IndexTable Z) → List IndexTable
indexes_in None = []
indexes_in (Some indexes) = indexes.items
