-- Lists of spellings: which of them stands at the front of some bytes, and which is the longest there.
use Rattle.std.specs.Prelude.{◌≡◌, ℕ, ◌<◌, ◌≤◌, List, [], length, slice_index_or, nat_eq, IsTrue}
use Rattle.std.specs.List.{starts_with}

-- the spelling of this number
abbrev pub spelling : List (List ℕ) → ℕ → List ℕ
spelling spellings number = slice_index_or spellings number []

-- the bytes begin with the spelling of this number
pub record Stands (spellings : List (List ℕ)) (bytes : List ℕ) (number : ℕ) : Type 0 where
  pub within : number < length spellings
  pub begins : IsTrue (starts_with nat_eq bytes (spelling spellings number))

-- it stands at the front of the bytes, and none that stands there is longer
pub record IsLongest (spellings : List (List ℕ)) (bytes : List ℕ) (number : ℕ) : Type 0 where
  pub stands : Stands spellings bytes number
  pub longest :
      (other : ℕ)
      → Stands spellings bytes other
      → length (spelling spellings other) ≤ length (spelling spellings number)

-- none of them stands at the front of the bytes
abbrev pub NoneStands : List (List ℕ) → List ℕ → Type 0
NoneStands spellings bytes = (number : ℕ) → ¬ Stands spellings bytes number

-- what a table keeps: at most 64 spellings, none of them empty, and none standing twice
pub record IsTable (spellings : List (List ℕ)) : Type 0 where
  pub few : length spellings ≤ 64
  pub filled : (number : ℕ) → number < length spellings → 0 < length (spelling spellings number)
  pub once :
      (number other : ℕ)
      → number < length spellings
      → other < length spellings
      → spelling spellings number ≡ spelling spellings other
      → number ≡ other
