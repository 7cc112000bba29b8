-- Flows may be sent to another thread, where programs may be shared.
use denote.RattleType.{RattleType}
use denote.Ref.{NamedLft}
use denote.Param.Send.{IsSend, IsSync, sendable, view_send}
use denote.Param.SendFields.{as_row_send, declared_send}
use Rattle.std.specs.declared.cmp.Ord as ord
use Rattle.std.specs.declared.cmp.PartialEq as eq
use Rattle.std.specs.declared.cmp.PartialOrd as partial
use Rattle.std.specs.contracts.alloc.Global as heap
use Rattle.std.specs.contracts.collections.BTreeSet as set
use Rattle.std.specs.contracts.impls.GlobalAllocator.TheImpl.{ghosts}
use Rattle.std.proofs.Crossing.{crosses, frees, send}
use Rattle.std.proofs.MapsCrossingOver.{BTreeSet-send}
use Rattle.flame_program.specs.contracts.program.Program as program
use Rattle.flame_world.proofs.worlds.World.TheSendSync.{the_send as world-send}
use Rattle.flame_field.proofs.keeping.Want.TheSendSync.{the_send as want-send}
use Rattle.flame_progress.proofs.counts.Counts.TheSendSync.{the_send as counts-send}
use Rattle.flame_progress.proofs.progress.Progress.TheSendSync.{the_send as progress-send}
use Rattle.flame_core.specs.contracts.cores.Core as core
use Rattle.flame_flow.specs.contracts.flows.Flow as flow
use Rattle.flame_flow.specs.contracts.flows.Flow.TheInside as flow_inside
use Rattle.flame_flow.specs.contracts.goings.GoingOn as going
use Rattle.flame_flow.specs.contracts.ordered.Ordered as ordered
use Rattle.flame_flow.specs.contracts.told.Told as told
use Rattle.flame_flow.specs.contracts.told.Told.TheInside as told_inside
use Rattle.flame_flow.proofs.told.Came.TheSendSync.{the_send as came-send}
use Rattle.flame_flow.proofs.ways.Ways.TheSendSync.{the_send as ways-send}

module _ (K : RattleType) (o : ord.Ghosts K.Denot) (e : eq.Ghosts K.Denot) (p : partial.Ghosts K.Denot) where
  set-send : IsSend K → IsSend (set.the_field K heap.the_row o e p ghosts).row
  set-send sends = BTreeSet-send K heap.the_row o e p ghosts sends send frees

ordered-send : IsSend ordered.the_row
ordered-send = search (view_send, declared_send, as_row_send, set-send, sendable, crosses) depth 20 fits 20000

core-send : IsSync program.the_row → (l : NamedLft) → IsSend (core.the_row l)
core-send shared l =
    search (view_send, declared_send, as_row_send, shared, world-send, want-send, counts-send, progress-send, sendable, crosses) depth 20 fits 20000

told-send : IsSync program.the_row → (l : NamedLft) → IsSend (told.the_row l)
told-send shared l =
    view_send (told_inside.the_row l) _ _ _ _
    (declared_send (told_inside.the_type l) (core-send shared l, (search (as_row_send, came-send, sendable, crosses) depth 12, tt)))

going-send : IsSync program.the_row → (l : NamedLft) → IsSend (going.the_row l)
going-send shared l =
    declared_send (going.the_type l)
    (told-send shared l, (ordered-send, (search (as_row_send, sendable, crosses) depth 12, tt)))

pub flow-send : IsSync program.the_row → (l : NamedLft) → IsSend (flow.the_row l)
flow-send shared l =
    view_send (flow_inside.the_row l) _ _ _ _
    (declared_send (flow_inside.the_type l) (
      going-send shared l,
      (
        ways-send,
        (
          search (as_row_send, sendable, crosses) depth 12,
          (search (as_row_send, sendable) depth 8, tt),
        ),
      ),
    ))
