use Rattle.std.proofs.Common.{◌≡◌, ◌-◌, ◌≤◌, ◌++◌, length}
use Rattle.std.specs.Vec.Iter.{into_iter_items, into_iter_len}
use Rattle.flame_rows.specs.Cuts.{cut}
use Rattle.flame_lanes.specs.LaneTasks.{tasks_of}
use Rattle.flame_lanes.proofs.TaskLists.{tasks_from}
use Rattle.flame_lanes.proofs.tasks.add_tasks.Given as goal

abbrev pub invariant-loop-agents : goal.invariant-loop-agents
invariant-loop-agents l =
    let runs = into_iter_items l.agents-iterator in
    record {
      counted : into_iter_len l.agents-iterator ≡ length runs;
      longer : l.first ≤ length l.tasks.items;
      whole : l.tasks.items ++ tasks_from l.place l.function (length l.tasks.items - l.first) runs
          ≡ l.fn.tasks.items ++ tasks_of l.place l.function (cut l.pieces l.fn.takers.items);
    }
