-- Desks may be shared between threads.
use denote.Ref.{NamedLft}
use denote.RattleType.{RattleType}
use denote.Param.Send.{IsSend, IsSync, sendable}
use denote.Param.SendFields.{as_row_sync, declared_send, declared_sync}
use Rattle.std.proofs.Crossing.{crosses}
use Rattle.std.proofs.marker.PhantomData.TheSendSync.{the_send as phantom-send}
use Rattle.std.proofs.sync.Condvar.TheSendSync.{the_sync as condvar-sync}
use Rattle.std.proofs.sync.Mutex.TheSendSync.{the_sync as mutex-sync}
use Rattle.flame_rows.proofs.rows.Row.TheSendSync.{the_sync as row-sync}
use Rattle.flame_share.proofs.SharedPrograms.{program-sync}
use Rattle.flame_flow.proofs.SentFlows.{flow-send}
use Rattle.flame_flowrun.specs.declared.held.Origin as origin
use Rattle.flame_flowrun.specs.contracts.desks.Desk as desk
use Rattle.flame_flowrun.specs.contracts.held.Held as held

held-send : (l : NamedLft) (K : RattleType) (g : origin.Ghosts K.Denot) → IsSend (held.the_row l K g)
held-send l K g = declared_send (held.the_type l K g) (flow-send program-sync l, (phantom-send K, tt))

pub desk-sync : (l : NamedLft) (K : RattleType) (g : origin.Ghosts K.Denot) → IsSync (desk.the_row l K g)
desk-sync l K g = declared_sync (desk.the_type l K g) (
  search (as_row_sync, program-sync, sendable) depth 8,
  (
    search (as_row_sync, row-sync, sendable) depth 8,
    (
      search (as_row_sync, sendable) depth 8,
      (
        search (as_row_sync, sendable) depth 8,
        (
          search (as_row_sync, sendable, crosses) depth 8,
          (mutex-sync (held.the_row l K g) (held-send l K g), (condvar-sync, tt)),
        ),
      ),
    ),
  ),
)
