-- Arguments and what they are for: the words that only bodies and proofs use.
use Rattle.std.specs.Prelude.{ℕ, List, [], ◌∷◌, Option, Some, None}
use Rattle.flame_spec.specs.declared.models.Variable.{Variable}
use Rattle.flame_spec.specs.CallFaults.{Deed, calls}

-- the length of the array that the next argument is for, where it is for one, with these variables left [own]
abbrev pub next_length : List Variable → Option ℕ
next_length [] = None
next_length (variable ∷ variables) = variable.length

-- the number of the helper that is called; of another deed or none the first [own]
abbrev pub number_called : Option Deed → ℕ
number_called (Some (calls number helper)) = number
number_called _ = 0
