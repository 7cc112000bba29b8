-- Nodes may be sent to another thread.
use denote.Ref.{NamedLft}
use denote.RattleType.{RattleType}
use denote.Param.Send.{IsSend, IsSync, sendable, shr_send}
use denote.Param.SendFields.{as_row_send, as_row_sync, declared_send, declared_sync}
use Rattle.std.proofs.Common.{rules}
use Rattle.std.proofs.Crossing.{crosses}
use Rattle.atomic_table.proofs.badge.Badge.TheSendSync.{the_send as badge-send}
use Rattle.atomic_table.proofs.shared.Seat.TheSendSync.{the_send as seat-send}
use Rattle.flame_rows.proofs.rows.Row.TheSendSync.{the_sync as row-sync}
use Rattle.flame_rows.proofs.seqs.Seq.TheSendSync.{the_send as seq-send, the_sync as seq-sync}
use Rattle.flame_index.proofs.boards.Frozen.TheSendSync.{the_send as frozen-send, the_sync as frozen-sync}
use Rattle.flame_world.proofs.pieces.Piece.TheSendSync.{the_send as piece-send, the_sync as piece-sync}
use Rattle.flame_world.proofs.pieces.Part.TheSendSync.{the_send as part-send}
use Rattle.flame_world.proofs.pieces.Rest.TheSendSync.{the_send as rest-send}
use Rattle.flame_world.specs.contracts.settings.Setting as setting
use Rattle.flame_world.specs.contracts.shares.Share as share
use Rattle.flame_share.proofs.SharedPrograms.{program-sync, source-sync}
use Rattle.flame_nodes.proofs.working.Outlet.TheSendSync.{the_sync as outlet-sync}
use Rattle.flame_nodes.specs.contracts.terms.Terms as terms
use Rattle.flame_nodes.specs.contracts.working.Floor as floor
use Rattle.flame_nodes.specs.contracts.working.Node as node

setting-send : (l : NamedLft) → IsSend (setting.the_row l)
setting-send l = search (declared_send, as_row_send, source-sync, row-sync, seq-sync, frozen-send, frozen-sync, sendable, crosses, rules) depth 20 fits 20000

share-send : (l : NamedLft) → IsSend (share.the_row l)
share-send l =
    declared_send (share.the_type l)
    (setting-send l, (piece-send, (rest-send, (search (as_row_send, part-send, seq-send, sendable) depth 8, tt))))

terms-sync : (l : NamedLft) → IsSync (terms.the_row l)
terms-sync l = search (declared_sync, as_row_sync, program-sync, row-sync, seq-sync, frozen-send, frozen-sync, sendable, crosses, rules) depth 20 fits 20000

floor-sync : (n l : NamedLft) (G : RattleType) → IsSync G → IsSync (floor.the_row n l G)
floor-sync n l G gate =
    declared_sync (floor.the_type n l G) (
      search (as_row_sync, gate, sendable) depth 8,
      (
        search (as_row_sync, sendable, crosses) depth 8,
        (
          terms-sync l,
          (
            search (as_row_sync, outlet-sync, share-send l, sendable, crosses) depth 12,
            tt,
          ),
        ),
      ),
    )

pub node-send : (n l : NamedLft) (G : RattleType) → IsSync G → IsSend (node.the_row n l G)
node-send n l G gate =
    declared_send (node.the_type n l G) (
      shr_send _ _ _ (floor-sync n l G gate),
      (
        search (as_row_send, seat-send, badge-send, sendable, crosses, rules) depth 12,
        (shr_send _ _ _ piece-sync, tt),
      ),
    )
