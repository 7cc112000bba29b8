-- The rows of a view, wherever they lie.
use Rattle.std.specs.Prelude.{ℤ, List, map}
use Rattle.flame_index.specs.Indexes.{rows_at}
use Rattle.flame_view.specs.ViewWays.{AreWithin}
use Rattle.flame_view.specs.declared.shown.Rows.{Rows}
use Rattle.flame_view.specs.declared.shown.Rows.TheVariants.{All, Placed, Picked, Lent}

-- the rows that a view shows, in order [own]
abbrev pub rows_of_view : Rows → List (List ℤ)
rows_of_view (All rows) = rows.now
rows_of_view (Placed rows places) = rows_at places.now rows.now
rows_of_view (Picked rows) = map (λ row. row.now) rows.items
rows_of_view (Lent rows) = map (λ row. row.now) rows.now.items

-- a view by places names no place past the board [own]
abbrev pub AreThere : Rows → Type 0
AreThere (All rows) = Unit {0}
AreThere (Placed rows places) = AreWithin places.now rows.now
AreThere (Picked rows) = Unit {0}
AreThere (Lent rows) = Unit {0}
