use Rattle.flame_view.proofs.Placed.{slice_get-rows_at}
use Rattle.flame_view.proofs.shown.placed_row.Goals as goal

pub bounds-rows-at : goal.bounds-rows-at
bounds-rows-at c = c.requires.there c.args.place 0 c.requires.within

pub returns : goal.returns
returns c =
    slice_get-rows_at c.args.places.now c.args.rows.now c.args.place c.index-rows-at.result c.requires.within
    (c.requires.there c.args.place 0 c.requires.within) c.index-rows-at.is
