-- Named files as a finite map, and what is told of them.
use Rattle.std.specs.Prelude.{◌≡◌, ◌≢◌, ℕ, List, Option, option_map}
use Rattle.std.specs.Ordering.{nat_cmp}
use Rattle.std.specs.Cmp.Lexicographic.{slice_cmp}
use Rattle.std.specs.FinMap.{FinMap, get, insert}

-- from the bytes of a name to the bytes of its file [own]
abbrev pub Files : Type 0
Files = FinMap (slice_cmp nat_cmp) (List ℕ)

-- what is told, with these bytes as the file of that name [own]
abbrev pub with_file : List ℕ → List ℕ → Option Files → Option Files
with_file name bytes files = option_map (λ told. insert told name bytes) files

-- what is told of one name, where files are told: its file, or that it has none [own]
abbrev pub told_at : Option Files → List ℕ → Option (Option (List ℕ))
told_at files name = option_map (λ told. get told name) files

-- what is told of every other name stays [own]
abbrev pub OthersStay : List ℕ → Option Files → Option Files → Type 0
OthersStay name old new = (other : List ℕ) → other ≢ name → told_at new other ≡ told_at old other
