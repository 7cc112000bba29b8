-- Lists that are written from the front, in which equal numbers come in a row.
use Rattle.std.specs.Prelude.{ℕ, ◌==◌, ◌-◌, List, [], ◌∷◌, ◌++◌, Bool, false, Option, Some, None, length, slice_get}
use Rattle.std.specs.Prelude.{if◌then◌else◌}

-- there is a number, and it is this one [own]
abbrev pub is_it : ℕ → Option ℕ → Bool
is_it number None = false
is_it number (Some other) = other == number

-- the list with the number at its end, where it is not there already [own]
abbrev pub marked : ℕ → List ℕ → List ℕ
marked number numbers =
    if is_it number (slice_get numbers (length numbers - 1)) then numbers else numbers ++ number ∷ []

-- the list marked with the number, where a test says so [own]
abbrev pub marked_where : ℕ → Bool → List ℕ → List ℕ
marked_where number test numbers = if test then marked number numbers else numbers
