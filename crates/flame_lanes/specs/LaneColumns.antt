-- The lanes of a layer, by board and by worker.
use Rattle.std.specs.Prelude.{◌≡◌, List, [], ◌∷◌, ◌++◌, Vec}
use Rattle.std.specs.Global.{Global}
use Rattle.flame_board.specs.declared.lanes.Lane.{Lane}

-- each of the longer columns has a lane of the row more, at its end [own]
abbrev pub AreLongerBy : List (Vec Lane Global) → List Lane → List (Vec Lane Global) → Type 0
AreLongerBy [] [] [] = Unit {0}
AreLongerBy (column ∷ columns) (lane ∷ lanes) (longer ∷ longers) =
    (longer.items ≡ column.items ++ lane ∷ []) × AreLongerBy columns lanes longers
AreLongerBy _ _ _ = ⊥

-- no column has a lane [own]
abbrev pub AreNone : List (Vec Lane Global) → Type 0
AreNone [] = Unit {0}
AreNone (column ∷ columns) = (column.items ≡ []) × AreNone columns

-- the rows, one for each worker, make up the columns, one for each board: the first row is at the end of the columns [own]
abbrev pub AreColumns : List (List Lane) → List (Vec Lane Global) → Type 0
AreColumns [] columns = AreNone columns
AreColumns (row ∷ rows) longers =
    (columns : List (Vec Lane Global)) × AreColumns rows columns × AreLongerBy columns row longers
