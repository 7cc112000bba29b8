-- The messages that a function reads: for each of its inputs the rows, in order, and how many of them have come.
use Rattle.std.specs.Prelude.{ℕ, zero, suc, ◌+◌, ℤ, List, Bool, false, nat_lt, length}
use Rattle.std.specs.Prelude.{Option, None, option_and_then, slice_get, slice_set, if◌then◌else◌}
use Rattle.std.specs.Option.{option_map_or}

-- ---- one input

-- the rows of an input in order, and how many of them have come [libmboard]
pub record Fed : Type 0 where
  pub rows : List (List ℤ)
  pub come : ℕ

-- these rows, of which none has come [libmboard]
abbrev pub not_begun : List (List ℤ) → Fed
not_begun rows = record { rows = rows; come = 0 }

-- the same rows, of which so many have come [own]
abbrev pub with_come : ℕ → Fed → Fed
with_come come fed = record { rows = fed.rows; come = come }

-- a row is still to come [libmboard]
abbrev pub has_more : Fed → Bool
has_more fed = nat_lt fed.come (length fed.rows)

-- with one more row that has come, or as it was where none is to come [libmboard]
abbrev pub with_more : Fed → Fed
with_more fed = if has_more fed then with_come (fed.come + 1) fed else fed

-- the last of the first so many rows [own]
abbrev pub last_of : ℕ → List (List ℤ) → Option (List ℤ)
last_of zero rows = None
last_of (suc place) rows = slice_get rows place

-- the row that came last [libmboard]
abbrev pub last_come : Fed → Option (List ℤ)
last_come fed = last_of fed.come fed.rows

-- ---- the input of a number

-- the same inputs, of which the one of this number is changed [own]
abbrev pub with_input : (Fed → Fed) → ℕ → List Fed → List Fed
with_input change input feeds =
    option_map_or (λ fed. slice_set feeds input (change fed)) (slice_get feeds input) feeds

-- before the first row of the input [libmboard]
abbrev pub at_start : ℕ → List Fed → List Fed
at_start input feeds = with_input (with_come 0) input feeds

-- a row of the input is still to come [libmboard]
abbrev pub has_next : ℕ → List Fed → Bool
has_next input feeds = option_map_or has_more (slice_get feeds input) false

-- at the next row of the input, or where it was when there is none [libmboard]
abbrev pub at_next : ℕ → List Fed → List Fed
at_next input feeds = with_input with_more input feeds

-- the number in a column of the row of the input that came last [FLAME User Manual]
abbrev pub field : ℕ → ℕ → List Fed → Option ℤ
field input variable feeds =
    option_and_then (λ row. slice_get row variable) (option_and_then last_come (slice_get feeds input))
