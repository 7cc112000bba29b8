-- What a worker's thread takes along may be sent.
use Rattle.std.proofs.Common.{rules}
use denote.Ref.{NamedLft}
use denote.Exit
use denote.Param
use denote.Struct.Tuple
use denote.Param.Send.{IsSync, arg_send, param_send, param_sync, shr_send}
use denote.Param.SendFields.{declared_send}
use mir.Syntax
use Rattle.flame_flowrun.proofs.SharedDesks.{desk-sync}
use Rattle.flame_flowrun.proofs.runners.fn.team.scope.Lts
use Rattle.flame_flowrun.proofs.runners.fn.team.scope.Goals as goal

pub spawn-requires-send-F : goal.spawn-requires-send-F
spawn-requires-send-F g c κs within =
    let runtime : IsSync g.row.R = search (rules, c.requires) parts 8 in
    let gate : IsSync g.row.G = search (rules, c.requires) parts 8 in
    let runtime_lasts : NamedLft = record { mir = Syntax.named 5; lft = κs.1.1.1.1.1.0 } in
    let gate_lasts : NamedLft = record { mir = Syntax.named 6; lft = κs.1.1.1.1.1.1.0 } in
    let desk_lasts : NamedLft = record { mir = Syntax.named 7; lft = κs.1.1.1.1.1.1.1.0 } in
    let flow_lasts : NamedLft = record { mir = Syntax.named 8; lft = κs.1.1.1.1.1.1.1.1.0 } in
    param_send _ _
    (arg_send _ Exit.no _
    (declared_send
    (Tuple.type_at (Lts.name-29 g.row.K g.row.G g.row.R g.K.laws g.G.laws g.R.laws g.K.Origin g.K.Origin-dict g.G.Gate g.G.Gate-dict g.R.Threads g.R.Threads-dict g.R.Wait g.R.Wait-dict)
    (Lts.of-14 g.row.K g.row.G g.row.R g.K.laws g.G.laws g.R.laws g.K.Origin g.K.Origin-dict g.G.Gate g.G.Gate-dict g.R.Threads g.R.Threads-dict g.R.Wait g.R.Wait-dict runtime_lasts gate_lasts desk_lasts flow_lasts)) (
      shr_send _ _ _ (param_sync 2 g.row.R runtime),
      (
        shr_send _ _ _ (param_sync 1 g.row.G gate),
        (shr_send _ _ _ (desk-sync flow_lasts (Param.param 0 g.row.K) g.K.Origin), tt),
      ),
    )))
