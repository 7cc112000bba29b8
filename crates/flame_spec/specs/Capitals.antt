-- Names that are equal in capitals, as function files write variables and constants.
use Rattle.std.specs.Prelude.{ℕ, List, Bool, not, ◌&&◌}
use Rattle.std.specs.List.{list_any}
use Rattle.std.specs.Str.{bytes_eq}
use Rattle.flame_ops.specs.Ascii.{capitals}

-- two different names that are equal in capitals [own]
abbrev pub is_alike : List ℕ → List ℕ → Bool
is_alike name other = not (bytes_eq name other) && bytes_eq (capitals name) (capitals other)

-- another one of these names is equal to it in capitals [own]
abbrev pub clashes : List ℕ → List (List ℕ) → Bool
clashes name names = list_any (is_alike name) names
