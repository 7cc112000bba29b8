-- What a node's thread takes along may be sent.
use Rattle.std.proofs.Common.{rules}
use denote.Ref.{NamedLft}
use denote.Exit
use denote.Param
use denote.Struct.Tuple
use denote.Param.Send.{IsSync, arg_send, param_send, param_sync, shr_send}
use denote.Param.SendFields.{declared_send}
use mir.Syntax
use Rattle.flame_nodes.proofs.SentShares.{node-send}
use Rattle.flame_nodes.proofs.working.fn.work_all.scope.Lts
use Rattle.flame_nodes.proofs.working.fn.work_all.scope.Goals as goal

pub spawn-requires-send-F : goal.spawn-requires-send-F
spawn-requires-send-F g c κs within =
    let runtime : IsSync g.row.R = search (rules, c.requires) parts 8 in
    let gate : IsSync g.row.G = search (rules, c.requires) parts 8 in
    let runtime_lasts : NamedLft = record { mir = Syntax.named 5; lft = κs.1.1.1.1.1.0 } in
    let floor_lasts : NamedLft = record { mir = Syntax.named 6; lft = κs.1.1.1.1.1.1.0 } in
    let boards_last : NamedLft = record { mir = Syntax.named 7; lft = κs.1.1.1.1.1.1.1.0 } in
    param_send _ _
    (arg_send _ Exit.no _
    (declared_send
    (Tuple.type_at (Lts.name-23 g.row.G g.row.R g.G.laws g.R.laws g.G.Gate-dict g.R.Threads-dict g.R.Wait-dict)
    (Lts.of-16 g.row.G g.row.R g.G.laws g.R.laws g.G.Gate-dict g.R.Threads-dict g.R.Wait-dict runtime_lasts floor_lasts boards_last)) (
      shr_send _ _ _ (param_sync 1 g.row.R runtime),
      (node-send floor_lasts boards_last (Param.param 0 g.row.G) (param_sync 0 g.row.G gate), tt),
    )))
