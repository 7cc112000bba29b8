-- How rows are kept that come together.
use Rattle.std.specs.Prelude.{◌≡◌, ◌⊎◌, ℕ, ◌+◌, ◌≤◌, ℤ, List, Vec, map}
use Rattle.std.specs.Global.{Global}
use Rattle.std.specs.Vec.{vec_len, vec_capacity}
use Rattle.flame_rows.specs.Bags.{ascending}
use Rattle.flame_field.specs.declared.gatherings.Gathering.{Gathering}

-- their bag [own]
abbrev pub bag_of : Gathering → List (List ℤ)
bag_of gathering = ascending gathering.rows.items

-- the bags of some gatherings, in order [own]
abbrev pub bags_of : Vec Gathering Global → List (List (List ℤ))
bags_of gatherings = map bag_of gatherings.items

-- so many rows can come without memory: there are none yet, or there is room behind them [own]
abbrev pub HasRoom : ℕ → Gathering → Type 0
HasRoom rows gathering =
    (vec_len gathering.rows ≡ 0) ⊎ (vec_len gathering.rows + rows ≤ vec_capacity gathering.rows)
