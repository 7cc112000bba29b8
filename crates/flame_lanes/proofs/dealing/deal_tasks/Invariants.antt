use Rattle.std.proofs.Common.{◌≡◌, ℕ, ◌+◌, List, length}
use Rattle.std.specs.Prelude.{ℤ}
use Rattle.std.specs.Vec.Iter.{into_iter_items, into_iter_len}
use Rattle.flame_rows.specs.Bags.{weigh}
use Rattle.flame_lanes.specs.LaneTasks.{AreFrom, agents_at}
use Rattle.flame_lanes.proofs.Dealt.{tasks_in}
use Rattle.flame_lanes.proofs.dealing.deal_tasks.Given as goal

abbrev pub invariant-loop-place : goal.invariant-loop-place
invariant-loop-place l = record {
  count : length l.loads.items ≡ l.count;
  counted : into_iter_len l.place-iterator.iter ≡ length (into_iter_items l.place-iterator.iter);
  from : AreFrom l.fn.tasks.items (tasks_in l.loads.items);
  rest : AreFrom l.fn.tasks.items (into_iter_items l.place-iterator.iter);
  agents : (place : ℕ) (weight : List ℤ → ℕ)
      → weigh weight (agents_at place (tasks_in l.loads.items)) + weigh weight (agents_at place (into_iter_items l.place-iterator.iter))
      ≡ weigh weight (agents_at place l.fn.tasks.items);
}
