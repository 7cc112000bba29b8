use Rattle.std.proofs.Common.{◌≡◌, ◌∙◌, ◌+◌, ◌<◌, ℕ, ap, arith, length, map, subst, sym, List, []}
use Rattle.std.specs.Prelude.{slice_get, slice_index_or, Some}
use Rattle.std.specs.List.{All}
use Rattle.std.proofs.lemmas.List.{length-map}
use Rattle.std.proofs.lemmas.List.Elements.{All-map}
use Rattle.std.proofs.lemmas.Slice.Zip.{AllZip-long}
use Rattle.flame_rows.specs.Bags.{weigh}
use Rattle.flame_spec.specs.Before.{function_count}
use Rattle.flame_world.specs.Fields.{Field as Standing, HasPools}
use Rattle.flame_field.specs.KeptBoards.{board_bag}
use Rattle.flame_field.specs.KeptFields.{field_of}
use Rattle.flame_round.specs.Choices.{choice_at}
use Rattle.flame_round.specs.KeptRounds.{round_of}
use Rattle.flame_round.proofs.BoardBags.{board_bags-IsAscending}
use Rattle.flame_layers.specs.LayerFields.{all_takers, brought_by_all, first_stop, rank_of}
use Rattle.flame_lanes.specs.declared.tasks.Task.{Task}
use Rattle.flame_lanes.specs.LaneTasks.{agents_at}
use Rattle.flame_layerrun.specs.declared.openings.Reading.{Reading}
use Rattle.flame_layerrun.specs.declared.schedules.Ranked.{Ranked}
use Rattle.flame_layerrun.specs.LayerTasks.{AreRead, FitsTask}
use Rattle.flame_layerrun.proofs.BroughtFields.{left-boards}
use Rattle.flame_layerrun.proofs.TasksDone.{placed-tasks}
use Rattle.flame_layerrun.proofs.WholeLayers.{all-marks, layer-gains, left-fits, lefts-below, takers-up, tasks-weigh, whole-field}
use Rattle.flame_layerrun.proofs.layers.run_layer.Goals as goal

pub run_tasks-requires-clause-fit : goal.run_tasks-requires-clause-fit
run_tasks-requires-clause-fit g c κs within =
    subst (λ (readings : List Reading). All (FitsTask c.args.round.now readings) c.in_ok-opened.opened.tasks.items) (sym c.as_slice.ensures.value)
    c.in_ok-opened.ensures.fit

pub run_tasks-requires-clause-boards : goal.run_tasks-requires-clause-boards
run_tasks-requires-clause-boards g c κs within =
    let model = c.args.round.now.program.now.model in
    let fs = map (λ (ranked : Ranked). ranked.function) c.args.functions.now in
    sym (length-map c.open_all.new.field.boards.items board_bag)
    ∙ ap (λ (field : Standing). length field.boards) c.in_ok-opened.ensures.field
    ∙ ap length (left-boards (round_of c.args.round.now) fs (field_of c.args.field.now))
    ∙ sym ((sym (AllZip-long _ model.messages (map board_bag c.args.field.now.boards.items) c.requires.fits.boards)))

pub run_tasks-requires-clause-read : goal.run_tasks-requires-clause-read
run_tasks-requires-clause-read g c κs within = record {
  read = field_of c.args.field.now;
  reads =
      subst (λ (readings : List Reading). AreRead c.args.round.now (field_of c.args.field.now) readings) (sym c.as_slice.ensures.value)
      c.in_ok-opened.ensures.read;
}

pub gain_all-requires : goal.gain_all-requires
gain_all-requires g c k d less =
    let round = c.args.round.now in
    let read = field_of c.args.field.now in
    let readings = c.in_ok-opened.opened.readings.items in
    let tasks = c.in_ok-opened.opened.tasks.items in
    let reads = subst (λ (list : List Reading). AreRead round read list) (sym c.as_slice.ensures.value) c.in_ok-opened.ensures.read in
    let left = c.in_ok-lefts.ensures.lefts read reads in
    let below = lefts-below round readings (round_of round) read tasks left.dealt c.in_ok-lefts.lefts.items c.in_ok-opened.ensures.fit left.from
    left.lefts_are k d less in
    omega (arith, below, c.len.ensures, c.in_ok-opened.opened.readings.ok.0)

pub bring_all-requires-clause-there : goal.bring_all-requires-clause-there
bring_all-requires-clause-there g c =
    let model = c.args.round.now.program.now.model in
    all-marks (λ a b. a < function_count model) (λ (reading : Reading). reading.function) (λ (reading : Reading). reading.function)
    (λ (ranked : Ranked). ranked.function) (λ (ranked : Ranked). ranked.function) c.in_ok-opened.opened.readings.items c.args.functions.now
    c.in_ok-opened.ensures.functions c.in_ok-opened.ensures.functions c.requires.there

pub bring_all-requires-clause-ranks : goal.bring_all-requires-clause-ranks
bring_all-requires-clause-ranks g c =
    let model = c.args.round.now.program.now.model in
    all-marks (λ a b. a ≡ rank_of model b) (λ (reading : Reading). reading.rank) (λ (reading : Reading). reading.function)
    (λ (ranked : Ranked). ranked.rank) (λ (ranked : Ranked). ranked.function) c.in_ok-opened.opened.readings.items c.args.functions.now
    c.in_ok-opened.ensures.ranks c.in_ok-opened.ensures.functions c.requires.ranks

pub bring_all-requires-clause-fits : goal.bring_all-requires-clause-fits
bring_all-requires-clause-fits g c =
    let round = c.args.round.now in
    let fs = map (λ (ranked : Ranked). ranked.function) c.args.functions.now in
    subst (λ (field : Standing). HasPools round.program.now.model field) (sym c.in_ok-opened.ensures.field)
    (left-fits c.layers_fit.ensures.left (round_of round) fs (field_of c.args.field.now) c.requires.fits).states

pub returns-clause-field : goal.returns-clause-field
returns-clause-field g c =
    let round = c.args.round.now in
    let meant = round_of round in
    let model = round.program.now.model in
    let read = field_of c.args.field.now in
    let fs = map (λ (ranked : Ranked). ranked.function) c.args.functions.now in
    let readings = c.in_ok-opened.opened.readings.items in
    let tasks = c.in_ok-opened.opened.tasks.items in
    let takers = all_takers meant fs read in
    let same = c.in_ok-opened.ensures.functions in
    let reads = subst (λ (list : List Reading). AreRead round read list) (sym c.as_slice.ensures.value) c.in_ok-opened.ensures.read in
    let left = c.in_ok-lefts.ensures.lefts read reads in
    let gains = layer-gains c.parts_make_the_whole.ensures.survivors c.parts_make_the_whole.ensures.births round readings fs read tasks
    c.in_ok-lefts.lefts.items c.in_ok-gains.gains.items left c.in_ok-opened.ensures.fit same c.in_ok-opened.ensures.tasks
    (omega (arith, c.in_ok-gains.ensures.long, c.len.ensures, c.in_ok-opened.opened.readings.ok.0)) c.in_ok-gains.ensures.each in
    let mid : Standing = field_of (record { pools = c.open_all.new.field.pools; born = c.open_all.new.field.born; boards = c.run_tasks.new.boards }) in
    let after : Standing = field_of c.bring_all.new.field in
    let placed : All (λ (task : Task). slice_get fs task.place ≡ Some task.function) tasks =
    subst (λ (ns : List ℕ). All (λ (task : Task). slice_get ns task.place ≡ Some task.function) tasks) same
    (placed-tasks round readings tasks c.in_ok-opened.ensures.fit) in
    let boards : map board_bag c.open_all.new.field.boards.items ≡ read.boards =
    ap (λ (field : Standing). field.boards) c.in_ok-opened.ensures.field ∙ left-boards meant fs read in
    let is : after ≡ record (brought_by_all meant read fs takers mid) { boards = mid.boards } =
    subst (λ (ns : List ℕ). after ≡ record (brought_by_all meant read ns takers mid) { boards = mid.boards }) same
    (c.in_ok-stop.ensures.field read takers gains) in
    whole-field meant fs read c.names_differ.ensures.messages c.requires.accepted
    (All-map (λ f. f < function_count model) (λ (ranked : Ranked). ranked.function) c.args.functions.now c.requires.there) mid after
    (board_bags-IsAscending c.args.field.now.boards.items) (board_bags-IsAscending c.run_tasks.new.boards.items)
    (ap (λ (field : Standing). field.pools) c.in_ok-opened.ensures.field)
    (ap (λ (field : Standing). field.born) c.in_ok-opened.ensures.field)
    (length-map c.run_tasks.new.boards.items board_bag ∙ c.in_ok-lefts.ensures.count
    ∙ sym (length-map c.open_all.new.field.boards.items board_bag) ∙ ap length boards)
    (λ m w.
    c.in_ok-lefts.ensures.sent read reads m w
    ∙ (λ i. weigh w (slice_index_or (boards i) m []) + tasks-weigh meant fs read tasks placed c.in_ok-opened.ensures.tasks m w i))
    is

pub returns-clause-stop : goal.returns-clause-stop
returns-clause-stop g c =
    let round = c.args.round.now in
    let meant = round_of round in
    let read = field_of c.args.field.now in
    let fs = map (λ (ranked : Ranked). ranked.function) c.args.functions.now in
    let readings = c.in_ok-opened.opened.readings.items in
    let tasks = c.in_ok-opened.opened.tasks.items in
    let takers = all_takers meant fs read in
    let same = c.in_ok-opened.ensures.functions in
    let reads = subst (λ (list : List Reading). AreRead round read list) (sym c.as_slice.ensures.value) c.in_ok-opened.ensures.read in
    let left = c.in_ok-lefts.ensures.lefts read reads in
    let gains = layer-gains c.parts_make_the_whole.ensures.survivors c.parts_make_the_whole.ensures.births round readings fs read tasks
    c.in_ok-lefts.lefts.items c.in_ok-gains.gains.items left c.in_ok-opened.ensures.fit same c.in_ok-opened.ensures.tasks
    (omega (arith, c.in_ok-gains.ensures.long, c.len.ensures, c.in_ok-opened.opened.readings.ok.0)) c.in_ok-gains.ensures.each in
    c.in_ok-stop.ensures.stop read takers gains (takers-up takers (λ place. agents_at place tasks) c.in_ok-opened.ensures.tasks) ∙ ap (λ (ns : List ℕ). first_stop meant read ns takers) same

pub returns-clause-dealt : goal.returns-clause-dealt
returns-clause-dealt g c =
    c.in_ok-stop.ensures.dealt (choice_at c.args.round.now.program.now.model c.args.round.now.iteration) c.in_ok-opened.ensures.dealt
