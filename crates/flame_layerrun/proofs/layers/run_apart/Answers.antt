use Rattle.std.proofs.Common.{◌≡◌, ◌∙◌, ◌+◌, ◌<◌, ℕ, Vec, ap, arith, length, map, subst, sym, List}
use Rattle.std.specs.Global.{Global}
use Rattle.std.specs.List.{All, flat_map}
use Rattle.std.proofs.lemmas.List.Elements.{All-nil}
use Rattle.std.proofs.lemmas.Slice.Zip.{AllZip-long}
use Rattle.flame_spec.specs.Before.{function_count}
use Rattle.flame_round.specs.KeptRounds.{round_of}
use Rattle.flame_board.specs.declared.boards.Board.{Board}
use Rattle.flame_board.specs.declared.lanes.Lane.{Lane}
use Rattle.flame_lanes.specs.declared.tasks.Task.{Task}
use Rattle.flame_lanes.specs.LaneTasks.{AreFrom}
use Rattle.flame_lanes.specs.LayerBoards.{weigh_before, weigh_board, weigh_columns}
use Rattle.flame_lanes.specs.TaskMeanings.{left_of}
use Rattle.flame_layerrun.specs.declared.openings.Reading.{Reading}
use Rattle.flame_layerrun.specs.LayerTasks.{AreListed}
use Rattle.flame_layerrun.specs.LayerWork.{CanDo, weigh_all_sent}
use Rattle.flame_layerrun.proofs.ColumnedLanes.{dones-wide, jobs-filled, jobs-tasks, own-rows, still-taken, taken-lanes, weigh_jobs}
use Rattle.flame_layerrun.proofs.TasksDone.{can-all, dealt-tasks, dealt-weighs, done-lefts, handed-all, known-tasks, placed-tasks, zip-all}
use Rattle.flame_layerrun.proofs.layers.run_apart.Goals as goal

pub list_outputs-requires : goal.list_outputs-requires
list_outputs-requires g c =
    let model = c.args.round.now.program.now.model in
    subst (λ (tasks : List Task). All (λ (task : Task). task.function < function_count model) tasks) (sym c.as_slice.ensures.value)
    (known-tasks c.args.round.now c.args.readings.now c.args.tasks.items c.requires.fit)

pub pieces_of-requires-clause-there : goal.pieces_of-requires-clause-there
pieces_of-requires-clause-there g c =
    let model = c.args.round.now.program.now.model in
    subst (λ (tasks : List Task). All (λ (task : Task). task.function < function_count model) tasks) (sym c.as_slice-2.ensures.value)
    (known-tasks c.args.round.now c.args.readings.now c.args.tasks.items c.requires.fit)

pub open_boards-requires : goal.open_boards-requires
open_boards-requires g c =
    let count = length c.args.round.now.program.now.model.messages in
    let known : All (λ message. message < count) c.list_outputs.new.messages =
    c.in_ok-list_outputs.ensures.known
    (subst (λ (list : List ℕ). All (λ message. message < count) list) (sym c.clear.ensures) (All-nil (λ message. message < count))) in
    subst (λ n. All (λ message. message < n) c.listed.result.now) (sym c.requires.boards)
    (subst (λ (list : List ℕ). All (λ message. message < count) list) (sym c.listed.ensures.same) known)

pub jobs_of-requires : goal.jobs_of-requires
jobs_of-requires g c k d less =
    zip-all (λ (column : Vec Lane Global). length column.items ≡ c.in_ok-layer.layer.lanes) c.in_ok-own.own.items c.in_ok-own.columns.items
    c.in_ok-own.ensures.new.count k d less
    ∙ c.in_ok-layer.ensures.lanes
    ∙ sym c.in_ok-loads.ensures.count

pub work_all-requires : goal.work_all-requires
work_all-requires g c =
    let round = c.args.round.now in
    let readings = c.args.readings.now in
    let messages = c.list_outputs.new.messages in
    let own = c.in_ok-own.own.items in
    let columns = c.in_ok-own.columns.items in
    let tasks = c.args.tasks.items in
    let jobs = c.in_ok-jobs.jobs.items in
    let listed : AreListed round.program.now.model messages tasks =
    subst (λ (list : List Task). AreListed round.program.now.model messages list) c.as_slice.ensures.value c.in_ok-list_outputs.ensures.all in
    let from = subst (λ (list : List Task). AreFrom tasks list)
    (sym (dealt-tasks jobs c.in_ok-loads.loads.items c.in_ok-jobs.ensures.tasks)) c.in_ok-loads.ensures.from in
    let can : All (CanDo round readings messages c.as_slice-3.result.now) jobs =
    subst (λ (boards : List Board). All (CanDo round readings messages boards) jobs) (sym c.as_slice-3.ensures.value)
    (can-all round readings messages own tasks jobs c.requires.fit listed from (c.in_ok-own.ensures.long ∙ ap length c.listed.ensures.same)
    (own-rows own _ columns c.in_ok-jobs.ensures.lanes (taken-lanes own columns c.in_ok-own.ensures.new.own))) in
    (c.type_bounds.sync-G, (c.type_bounds.sync-R, can))

pub gathered-requires : goal.gathered-requires
gathered-requires g c k d less =
    let has = c.requires.read in
    let messages = c.list_outputs.new.messages in
    let wide = dones-wide (round_of c.args.round.now) has.read messages c.in_ok-jobs.jobs.items c.in_ok-dones.dones.items
    (c.in_ok-dones.ensures has.read has.reads) k d less in
    omega (arith, wide, c.in_ok-own.ensures.long, ap length c.listed.ensures.same, c.len.ensures, c.in_ok-own.own.ok.0)

pub freeze_all-requires-clause-there : goal.freeze_all-requires-clause-there
freeze_all-requires-clause-there g c = λ lifetimes outlives.
    let count = length c.args.round.now.program.now.model.messages in
    let known : All (λ message. message < count) c.list_outputs.new.messages =
    c.in_ok-list_outputs.ensures.known
    (subst (λ (list : List ℕ). All (λ message. message < count) list) (sym c.clear.ensures) (All-nil (λ message. message < count))) in
    subst (λ n. All (λ message. message < n) c.listed-2.result.now) (sym (c.in_ok-own.ensures.count ∙ c.requires.boards))
    (subst (λ (list : List ℕ). All (λ message. message < count) list) (sym c.listed-2.ensures.same) known)

pub freeze_all-requires-clause-long : goal.freeze_all-requires-clause-long
freeze_all-requires-clause-long g c = λ lifetimes outlives.
    c.in_ok-own.ensures.long ∙ ap length (c.listed.ensures.same ∙ sym c.listed-2.ensures.same)

pub freeze_all-requires-clause-own : goal.freeze_all-requires-clause-own
freeze_all-requires-clause-own g c = λ lifetimes outlives.
    let has = c.requires.read in
    let meant = round_of c.args.round.now in
    let messages = c.list_outputs.new.messages in
    let own = c.in_ok-own.own.items in
    let columns = c.in_ok-own.columns.items in
    let news = c.in_ok-columns.columns.items in
    let jobs = c.in_ok-jobs.jobs.items in
    let long = c.in_ok-own.ensures.long ∙ ap length c.listed.ensures.same in
    let filled = jobs-filled meant has.read messages jobs c.in_ok-dones.dones.items columns news
    (c.in_ok-dones.ensures has.read has.reads) c.in_ok-jobs.ensures.lanes c.in_ok-columns.ensures.columns
    (sym ((sym (AllZip-long _ own columns c.in_ok-own.ensures.new.own))) ∙ long)
    (omega (arith, c.in_ok-columns.ensures.width, c.len.ensures, c.in_ok-own.own.ok.0, long)) in
    still-taken (weigh_jobs meant has.read jobs) messages own columns news filled c.in_ok-own.ensures.new.own

pub returns-clause-lefts : goal.returns-clause-lefts
returns-clause-lefts g c read reads =
    let meant = round_of c.args.round.now in
    let jobs = c.in_ok-jobs.jobs.items in
    let loads = c.in_ok-loads.loads.items in
    record {
      dealt = flat_map (λ (load : Vec Task Global). load.items) loads;
      lefts_are =
          c.in_ok-columns.ensures.lefts
          ∙ done-lefts meant read c.list_outputs.new.messages jobs c.in_ok-dones.dones.items (c.in_ok-dones.ensures read reads)
          ∙ ap (map (left_of meant read)) (dealt-tasks jobs loads c.in_ok-jobs.ensures.tasks);
      from = c.in_ok-loads.ensures.from;
      agents = c.in_ok-loads.ensures.agents;
    }

pub returns-clause-sent : goal.returns-clause-sent
returns-clause-sent g c read reads message weight =
    let round = c.args.round.now in
    let readings = c.args.readings.now in
    let meant = round_of round in
    let messages = c.list_outputs.new.messages in
    let own = c.in_ok-own.own.items in
    let columns = c.in_ok-own.columns.items in
    let news = c.in_ok-columns.columns.items in
    let tasks = c.args.tasks.items in
    let jobs = c.in_ok-jobs.jobs.items in
    let loads = c.in_ok-loads.loads.items in
    let old = weigh_board c.args.boards.now.items message weight in
    let mid = weigh_board c.open_boards.new.field.items message weight in
    let new = weigh_board c.freeze_all.new.field.items message weight in
    let long = c.in_ok-own.ensures.long ∙ ap length c.listed.ensures.same in
    let filled = jobs-filled meant read messages jobs c.in_ok-dones.dones.items columns news
    (c.in_ok-dones.ensures read reads) c.in_ok-jobs.ensures.lanes c.in_ok-columns.ensures.columns
    (sym ((sym (AllZip-long _ own columns c.in_ok-own.ensures.new.own))) ∙ long)
    (omega (arith, c.in_ok-columns.ensures.width, c.len.ensures, c.in_ok-own.own.ok.0, long)) in
    let listed : AreListed round.program.now.model messages tasks =
    subst (λ (list : List Task). AreListed round.program.now.model messages list) c.as_slice.ensures.value c.in_ok-list_outputs.ensures.all in
    let is : weigh_jobs meant read jobs message weight ≡ weigh_all_sent meant read tasks message weight =
    jobs-tasks meant read jobs message weight
    ∙ ap (λ (list : List Task). weigh_all_sent meant read list message weight) (dealt-tasks jobs loads c.in_ok-jobs.ensures.tasks)
    ∙ dealt-weighs meant read message weight (map (λ (reading : Reading). reading.function) readings) tasks
    (flat_map (λ (load : Vec Task Global). load.items) loads) (placed-tasks round readings tasks c.requires.fit) c.in_ok-loads.ensures.from
    c.in_ok-loads.ensures.agents in
    let handed : weigh_columns messages news message weight ≡ weigh_all_sent meant read tasks message weight =
    handed-all meant read message weight (weigh_jobs meant read jobs) messages own columns news tasks filled c.in_ok-own.ensures.new.fresh
    c.listed.ensures.once
    listed is in
    let frozen : new ≡ mid + (weigh_before messages own message weight + weigh_columns messages news message weight) =
    subst (λ (list : List ℕ). new ≡ mid + (weigh_before list own message weight + weigh_columns list news message weight)) c.listed-2.ensures.same
    (c.in_ok-freeze_all.ensures.moved message weight) in
    let opened : mid + weigh_before messages own message weight ≡ old =
    subst (λ (list : List ℕ). mid + weigh_before list own message weight ≡ old) c.listed.ensures.same (c.in_ok-own.ensures.moved message weight) in
    omega (arith, frozen, opened, handed)

pub returns-clause-count : goal.returns-clause-count
returns-clause-count g c = c.in_ok-freeze_all.ensures.count ∙ c.in_ok-own.ensures.count
