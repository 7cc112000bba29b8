-- What tables have, and which C functions are helpers by them.
use Rattle.std.specs.Prelude.{ℕ, List, [], String, Vec, Bool, not, ◌&&◌}
use Rattle.std.specs.Global.{Global}
use Rattle.std.specs.Option.{option_map_or}
use Rattle.std.specs.HashMap.{HashMap, get_by_text}
use Rattle.std.specs.List.{list_any}
use Rattle.std.specs.declared.hash.FoldHasher.{FoldHasher}
use Rattle.std.specs.declared.hash.BuildHasherDefault.{BuildHasherDefault}
use Rattle.flame_spec.specs.Definitions.{Definition, has_none, is_for}
use Rattle.flame_spec.specs.Functions.{Place}

-- a table from names to numbers [own]
abbrev pub NumberTable : Type 0
NumberTable = HashMap (String Global) (Vec ℕ Global) (BuildHasherDefault FoldHasher)

-- the numbers that stand under a name [own]
abbrev pub numbers_under : NumberTable → List ℕ → List ℕ
numbers_under table name = option_map_or (λ numbers. numbers.items) (get_by_text table name) []

-- the C function is a helper beside these functions of a model [own]
abbrev pub helps_beside : List Place → Definition → Bool
helps_beside places d = not (has_none d.parameters) && not (list_any (λ place. is_for place.function d) places)
