use Rattle.std.proofs.Common.{◌≡◌, ℕ, drop}
use Rattle.flame_pieces.specs.Waiting.{thing_at}
use Rattle.flame_progress.specs.ManyWait.{waited_for_by}
use Rattle.flame_progress.proofs.telling.tell_waiters.Given as goal

abbrev pub invariant-loop-waiter : goal.invariant-loop-waiter
invariant-loop-waiter l = record {
  rest : waited_for_by l.thing (drop l.waiter-index l.waiters) l.waits ≡ waited_for_by l.thing l.waiters l.fn.waits;
  count : l.waits.count ≡ l.fn.waits.count;
  undone : (k : ℕ) → (thing_at l.waits.things k).done ≡ (thing_at l.fn.waits.things k).done;
}
