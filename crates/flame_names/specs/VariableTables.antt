-- Variables of a row in a table.
use Rattle.std.specs.Prelude.{ℕ, List, map, Option, min}
use Rattle.std.specs.Borrow.{Bor}
use Rattle.flame_spec.specs.declared.models.Variable.{Variable}

-- the variables of names with lengths [own]
abbrev pub variables_in_table : List (Bor (List ℕ) × Option ℕ) → List Variable
variables_in_table entries = map (λ entry. record { name = entry.0.now; length = entry.1 }) entries

-- a width, or the greatest number of 64 bits where it is above that [own]
abbrev pub counted : ℕ → ℕ
counted width = min width 18446744073709551615
