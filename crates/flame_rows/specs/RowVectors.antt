-- Rows of several types, a vector for each.
use Rattle.std.specs.Prelude.{ℤ, List, map, Vec}
use Rattle.std.specs.Global.{Global}
use Rattle.flame_rows.specs.Bags.{ascending}

-- the rows that stand in vectors [own]
abbrev pub rows_of : Vec (Vec (List ℤ) Global) Global → List (List (List ℤ))
rows_of dealt = map (λ (rows : Vec (List ℤ) Global). rows.items) dealt.items

-- the bags of these rows [own]
abbrev pub bags_of : Vec (Vec (List ℤ) Global) Global → List (List (List ℤ))
bags_of dealt = map (λ (rows : Vec (List ℤ) Global). ascending rows.items) dealt.items
