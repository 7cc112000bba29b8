use Rattle.std.proofs.Common.{◌≡◌, ◌∙◌, List, ap, map, rules, subst, sym, w32, SFits}
use Rattle.std.proofs.lemmas.Int.{to_z-of_z}
use Rattle.std.proofs.lemmas.Option.{get_or_from_slice_get}
use Rattle.flame_index.specs.FrozenBoards.{shared_messages}
use Rattle.flame_orders.proofs.OnceOutputs.{outputs_once}
use Rattle.flame_world.specs.declared.pieces.Part.{Part}
use Rattle.flame_world.specs.declared.pieces.Piece.{Piece}
use Rattle.flame_world.specs.Meaning.{IsMeaning}
use Rattle.flame_world.specs.Shares.{piece_of, setting_of}
use Rattle.flame_layerrun.specs.declared.openings.Reading.{Reading}
use Rattle.flame_layerrun.specs.LayerTasks.{piece_in}
use Rattle.flame_layerrun.proofs.RunTasks.{IsSettingIn, parts-messages, parts-weigh, read-named, rest-is}
use Rattle.flame_layerrun.proofs.working.run.Goals as goal

pub returns-clause-rest : goal.returns-clause-rest
returns-clause-rest g c = λ read all.
    let round = c.args.floor.now.round in
    let task = c.args.task in
    let fits = c.requires.fits in
    let share = c.in_ok-share.share in
    let boards = map shared_messages fits.reading.boards in
    let same = get_or_from_slice_get c.args.floor.now.readings.now task.place fits.reading c.index-floor-task.result fits.there in
    let count : SFits w32 round.iteration = search rules in
    let set : IsSettingIn round boards (setting_of share) = record {
      source = c.in_ok-share.ensures.source;
      constants = c.in_ok-share.ensures.constants;
      boards = ap (map shared_messages) c.in_ok-share.ensures.boards ∙ ap (λ (r : Reading). map shared_messages r.boards) same;
      iteration = c.in_ok-share.ensures.iteration ∙ to_z-of_z w32 round.iteration count;
      fuel = c.in_ok-share.ensures.fuel;
    } in
    let piece : piece_of share ≡ piece_in task = c.in_ok-share.ensures.piece ∙ c.in_ok-piece.ensures in
    let rest = c.split-rest.result.0 in
    let parts = c.into_items.result.items in
    let meant : IsMeaning (setting_of share) (piece_in task) rest parts =
    subst (λ (p : Piece). IsMeaning (setting_of share) p rest parts) piece
    (subst (λ (ps : List Part). IsMeaning (setting_of share) (piece_of share) rest ps) (sym c.into_items.ensures) c.split-rest.ensures.meant) in
    rest-is round boards (setting_of share) set task rest parts meant read
    (read-named round read c.args.floor.now.readings.now task.place fits.reading task.function fits.there fits.function_is all)

pub returns-clause-parts : goal.returns-clause-parts
returns-clause-parts g c = λ read all message weight.
    let round = c.args.floor.now.round in
    let task = c.args.task in
    let fits = c.requires.fits in
    let share = c.in_ok-share.share in
    let boards = map shared_messages fits.reading.boards in
    let same = get_or_from_slice_get c.args.floor.now.readings.now task.place fits.reading c.index-floor-task.result fits.there in
    let count : SFits w32 round.iteration = search rules in
    let set : IsSettingIn round boards (setting_of share) = record {
      source = c.in_ok-share.ensures.source;
      constants = c.in_ok-share.ensures.constants;
      boards = ap (map shared_messages) c.in_ok-share.ensures.boards ∙ ap (λ (r : Reading). map shared_messages r.boards) same;
      iteration = c.in_ok-share.ensures.iteration ∙ to_z-of_z w32 round.iteration count;
      fuel = c.in_ok-share.ensures.fuel;
    } in
    let piece : piece_of share ≡ piece_in task = c.in_ok-share.ensures.piece ∙ c.in_ok-piece.ensures in
    let rest = c.split-rest.result.0 in
    let parts = c.into_items.result.items in
    let meant : IsMeaning (setting_of share) (piece_in task) rest parts =
    subst (λ (p : Piece). IsMeaning (setting_of share) p rest parts) piece
    (subst (λ (ps : List Part). IsMeaning (setting_of share) (piece_of share) rest ps) (sym c.into_items.ensures) c.split-rest.ensures.meant) in
    parts-weigh round boards (setting_of share) set task rest parts meant read
    (read-named round read c.args.floor.now.readings.now task.place fits.reading task.function fits.there fits.function_is all)
    (outputs_once round.program.now c.source-accepted.ensures.accepted task.function) message weight

pub returns-clause-outputs : goal.returns-clause-outputs
returns-clause-outputs g c =
    let round = c.args.floor.now.round in
    let task = c.args.task in
    let fits = c.requires.fits in
    let share = c.in_ok-share.share in
    let boards = map shared_messages fits.reading.boards in
    let same = get_or_from_slice_get c.args.floor.now.readings.now task.place fits.reading c.index-floor-task.result fits.there in
    let count : SFits w32 round.iteration = search rules in
    let set : IsSettingIn round boards (setting_of share) = record {
      source = c.in_ok-share.ensures.source;
      constants = c.in_ok-share.ensures.constants;
      boards = ap (map shared_messages) c.in_ok-share.ensures.boards ∙ ap (λ (r : Reading). map shared_messages r.boards) same;
      iteration = c.in_ok-share.ensures.iteration ∙ to_z-of_z w32 round.iteration count;
      fuel = c.in_ok-share.ensures.fuel;
    } in
    let piece : piece_of share ≡ piece_in task = c.in_ok-share.ensures.piece ∙ c.in_ok-piece.ensures in
    let rest = c.split-rest.result.0 in
    let parts = c.into_items.result.items in
    let meant : IsMeaning (setting_of share) (piece_in task) rest parts =
    subst (λ (p : Piece). IsMeaning (setting_of share) p rest parts) piece
    (subst (λ (ps : List Part). IsMeaning (setting_of share) (piece_of share) rest ps) (sym c.into_items.ensures) c.split-rest.ensures.meant) in
    parts-messages round boards (setting_of share) set task rest parts meant
