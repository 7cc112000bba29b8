-- Tables from names to functions.
use Rattle.std.specs.Prelude.{ℕ, List, [], String, Vec}
use Rattle.std.specs.Global.{Global}
use Rattle.std.specs.Option.{option_map_or}
use Rattle.std.specs.HashMap.{HashMap, get_by_text}
use Rattle.std.specs.declared.hash.FoldHasher.{FoldHasher}
use Rattle.std.specs.declared.hash.BuildHasherDefault.{BuildHasherDefault}

-- a table from names to functions [own]
abbrev pub Table : Type 0
Table = HashMap (String Global) (Vec ℕ Global) (BuildHasherDefault FoldHasher)

-- the functions that stand under a name [own]
abbrev pub listed : Table → List ℕ → List ℕ
listed table name = option_map_or (λ functions. functions.items) (get_by_text table name) []
