-- Lists of rows, and parts of several lists each.
use Rattle.std.specs.Prelude.{ℕ, ◌+◌, ℤ, List, [], ◌∷◌, Vec}
use Rattle.std.specs.Global.{Global}
use Rattle.std.specs.List.{flat_map}
use Rattle.flame_rows.specs.Bags.{weigh}

-- the rows of all lists, one list after another [own]
abbrev pub rows_in : List (Vec (List ℤ) Global) → List (List ℤ)
rows_in lists = flat_map (λ list. list.items) lists

-- what the rows of all parts weigh together [own]
abbrev pub weigh_parts : (List ℤ → ℕ) → List (Vec (Vec (List ℤ) Global) Global) → ℕ
weigh_parts weight [] = 0
weigh_parts weight (part ∷ parts) = weigh weight (rows_in part.items) + weigh_parts weight parts
