use Rattle.std.proofs.Common.{◌≡◌, ℕ, drop}
use Rattle.flame_pieces.specs.Waiting.{thing_at}
use Rattle.flame_progress.specs.ManyWait.{waiting_for}
use Rattle.flame_progress.proofs.telling.wait_for.Given as goal

abbrev pub invariant-loop-thing : goal.invariant-loop-thing
invariant-loop-thing l = record {
  rest : waiting_for l.waiter (drop l.thing-index l.things) l.waits ≡ waiting_for l.waiter l.things l.fn.waits;
  count : l.waits.count ≡ l.fn.waits.count;
  undone : (k : ℕ) → (thing_at l.waits.things k).done ≡ (thing_at l.fn.waits.things k).done;
}
