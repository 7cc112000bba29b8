use Rattle.std.proofs.Common.{◌≡◌, [], refl, sym, subst, rules}
use Rattle.std.specs.Prelude.{IfOk, slice_index_or}
use denote.Ref.{NamedLft}
use denote.RattleType.{RattleType}
use denote.Exit
use denote.Param
use denote.Struct.Tuple
use mir.Syntax
use denote.Param.Send.{IsSync, arg_sync, param_sync, plain_sync, view_sync, sendable}
use Rattle.flame_lanes.specs.contracts.messages.Messages as messages
use Rattle.flame_layerrun.specs.contracts.openings.Reading as reading
use Rattle.flame_layerrun.specs.contracts.working.Floor as floor
use Rattle.flame_round.specs.contracts.rounds.Round as round
use Rattle.flame_board.specs.contracts.boards.Board as board
use Rattle.flame_field.specs.contracts.keeping.Want as want
use denote.Param.SendFields.{as_row_sync, declared_sync, variants_sync}
use Rattle.std.proofs.Crossing.{crosses}
use Rattle.flame_rows.proofs.rows.Row.TheSendSync.{the_sync as row-sync}
use Rattle.flame_rows.proofs.seqs.Seq.TheSendSync.{the_sync as seq-sync}
use Rattle.flame_board.proofs.boards.Board.TheSendSync.{the_sync as board-sync}
use Rattle.flame_field.proofs.keeping.Want.TheSendSync.{the_sync as want-sync}
use Rattle.flame_index.proofs.boards.Frozen.TheSendSync.{the_send as frozen-send, the_sync as frozen-sync}
use Rattle.flame_world.specs.Fields.{Field}
use Rattle.flame_round.specs.KeptRounds.{round_of}
use Rattle.flame_lanes.specs.declared.jobs.Done.{Done}
use Rattle.flame_lanes.specs.declared.jobs.Job.{Job}
use Rattle.flame_layerrun.specs.LayerTasks.{AreRead}
use Rattle.flame_layerrun.specs.LayerWork.{IsDone}
use Rattle.flame_share.proofs.SharedPrograms.{program-sync}
use Rattle.flame_layerrun.proofs.working.work_each.Lts
use Rattle.flame_layerrun.proofs.working.work_each.Goals as goal

messages-shared : IsSync messages.the_row
messages-shared = search (view_sync, declared_sync, as_row_sync, plain_sync, sendable, crosses) depth 20

reading-shared : IsSync reading.the_row
reading-shared = search (declared_sync, as_row_sync, frozen-send, frozen-sync, seq-sync, sendable, crosses, rules) depth 20 fits 20000

board-shared : IsSync board.the_row
board-shared = board-sync

want-shared : IsSync want.the_row
want-shared = want-sync

floor-shared : (l : NamedLft) (G : RattleType) → IsSync G → IsSync (floor.the_row l G)
floor-shared l G gate =
    declared_sync (floor.the_type l G) (
      search (as_row_sync, gate, sendable) depth 8,
      (
        search (as_row_sync, declared_sync, program-sync, row-sync, want-shared, sendable, crosses) depth 12 fits 20000,
        (
          search (as_row_sync, reading-shared, sendable, crosses) depth 8,
          (
            search (as_row_sync, messages-shared, sendable, crosses) depth 8,
            (search (as_row_sync, board-shared, sendable, crosses) depth 8, tt),
          ),
        ),
      ),
    )

pub map_vec-requires-sync-F : goal.map_vec-requires-sync-F
map_vec-requires-sync-F g c κs within =
    let gate = c.type_bounds.sync-G in
    let runtime = c.type_bounds.sync-R in
    let runtime_lasts : NamedLft = record { mir = Syntax.named 7; lft = κs.1.1.1.1.1.1.1.0 } in
    let memory_lasts : NamedLft = record { mir = Syntax.named 8; lft = κs.1.1.1.1.1.1.1.1.0 } in
    let floor_lasts : NamedLft = record { mir = Syntax.named 9; lft = κs.1.1.1.1.1.1.1.1.1.0 } in
    let round_lasts : NamedLft = record { mir = Syntax.named 10; lft = κs.1.1.1.1.1.1.1.1.1.1.0 } in
    let own : IsSync (floor.the_row round_lasts (Param.param 0 g.row.G)) = floor-shared round_lasts (Param.param 0 g.row.G) gate in
    let captured : IsSync (Lts.row-0 g.row.G g.row.R g.G.laws g.R.laws g.G.Gate-dict g.R.Threads-dict g.R.Wait-dict runtime_lasts memory_lasts floor_lasts round_lasts) =
    declared_sync (Tuple.type_at (Lts.name-16 g.row.G g.row.R g.G.laws g.R.laws g.G.Gate-dict g.R.Threads-dict g.R.Wait-dict) (Lts.of-10 g.row.G g.row.R g.G.laws g.R.laws g.G.Gate-dict g.R.Threads-dict g.R.Wait-dict runtime_lasts memory_lasts floor_lasts round_lasts)) (
      search (as_row_sync, runtime, sendable) depth 8,
      (
        search (as_row_sync, sendable, crosses) depth 8,
        (search (as_row_sync, own, sendable, crosses) depth 8, tt),
      ),
    ) in
    param_sync 4 (Lts.arg-0-4 g.row.G g.row.R g.G.laws g.R.laws g.G.Gate-dict g.R.Threads-dict g.R.Wait-dict κs)
    (arg_sync (Syntax.ty_struct [] (Syntax.tcons Syntax.ty_ptr (Syntax.tcons Syntax.ty_ptr (Syntax.tcons Syntax.ty_ptr Syntax.tnil))))
    Exit.no (Lts.row-0 g.row.G g.row.R g.G.laws g.R.laws g.G.Gate-dict g.R.Threads-dict g.R.Wait-dict runtime_lasts memory_lasts floor_lasts round_lasts) captured)

pub returns-clause-each : goal.returns-clause-each
returns-clause-each g c = λ place other job less.
    let floor = c.args.floor.now in
    let results = c.in_ok-results.results.items in
    let given = (c.in_ok-results.ensures.each place other less).1 in
    let said : IfOk (slice_index_or results place other) (λ done. (read : Field) → AreRead floor.round read floor.readings.now
    → IsDone (round_of floor.round) read floor.messages.now given.job done) = given.call.met in
    subst (λ (own : Job). IfOk (slice_index_or results place other) (λ done. (read : Field) → AreRead floor.round read floor.readings.now
    → IsDone (round_of floor.round) read floor.messages.now own done)) (sym (given.job_is job)) said
