-- The message stands behind those of its output.
use Rattle.std.proofs.Common.{◌<◌, List, ◌∷◌, [], ◌++◌, length, map, ap, sym, ◌∙◌, arith}
use Rattle.std.specs.Prelude.{ℤ, slice_set, slice_index_or}
use Rattle.std.proofs.lemmas.List.{map-set}
use Rattle.flame_rows.proofs.Lists.{slice_index_or-map}
use Rattle.flame_pieces.proofs.ByOutput.{found_within, found_more, missing_more}
use Rattle.flame_pieces.proofs.Rooms.{items_of}
use Rattle.flame_pieces.proofs.partings.add_message.Goals as goal

pub returns-in_ok-push : goal.returns-in_ok-push
returns-in_ok-push c = λ sent once olds.
    let one = c.args.one in
    let parts = c.args.parts.now in
    let place = c.in-Some.place in
    let found = sym c.in-Some.ensures in
    let within : place < length parts = omega (arith, found_within one.message c.args.outputs.now place found, c.requires) in
    let was = slice_index_or-map items_of [] parts place c.index-parts-place.result within c.index-parts-place.is in
    map-set items_of parts place c.push.new.self
    ∙ ap (slice_set (map items_of parts) place) (c.in_ok-push.ensures.items
    ∙ ap (λ (l : List (List ℤ)). l ++ one.row ∷ []) (ap items_of (sym c.index-parts-place.is) ∙ sym was))
    ∙ ap (λ (l : List (List (List ℤ))). slice_set l place (slice_index_or l place [] ++ one.row ∷ [])) olds
    ∙ found_more sent one c.args.outputs.now place once found

pub returns-in_default : goal.returns-in_default
returns-in_default c = λ sent once olds. olds ∙ missing_more sent c.args.one c.args.outputs.now (sym c.in_default.ensures)
