-- What holds of any table of spellings.
use Rattle.std.specs.Prelude.{◌≡◌, ℕ, List, slice_get, Some}
use Rattle.flame_ops.specs.Spellings.{IsTable, IsLongest}

-- at one place at most one spelling is the longest
abbrev pub LongestIsUnique : Type 0
LongestIsUnique =
    (spellings : List (List ℕ)) (bytes : List ℕ) (number other : ℕ)
    → IsTable spellings
    → IsLongest spellings bytes number
    → IsLongest spellings bytes other
    → number ≡ other

-- at most one number is that of a word
abbrev pub NumberIsUnique : Type 0
NumberIsUnique =
    (spellings : List (List ℕ)) (word : List ℕ) (number other : ℕ)
    → IsTable spellings
    → slice_get spellings number ≡ Some word
    → slice_get spellings other ≡ Some word
    → number ≡ other
