-- Paths in the JSON of a model: the keys and list numbers from the root, each after a `/`.
use Rattle.std.specs.Prelude.{ℕ, List, [], ◌++◌, codes, decimal}

-- the path of the root [own]
abbrev pub root : List ℕ
root = []

-- the path of what the object at this path has at this key [own]
abbrev pub at_key : List ℕ → List ℕ → List ℕ
at_key path key = path ++ (codes "/" ++ key)

-- the path of the member of this number of the list at this path [own]
abbrev pub at_number : List ℕ → ℕ → List ℕ
at_number path number = path ++ (codes "/" ++ decimal number)
