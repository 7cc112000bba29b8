-- Tables by names: entries of a name and what stands behind it.
use Rattle.std.specs.Prelude.{ℕ, List, [], ◌∷◌, Option, Some, None, if◌then◌else◌, map}
use Rattle.std.specs.Str.{bytes_eq}

-- what stands behind the first entry of this name [own]
abbrev pub look : {X : Type 0} → List ℕ → List (List ℕ × X) → Option X
look name [] = None
look name (entry ∷ entries) = if bytes_eq name entry.0 then Some entry.1 else look name entries

-- the names of the entries [own]
abbrev pub names_of : {X : Type 0} → List (List ℕ × X) → List (List ℕ)
names_of entries = map (λ entry. entry.0) entries
