use Rattle.std.proofs.Common.{◌≡◌, ◌+◌, ◌++◌, List, Vec, length, map}
use Rattle.std.specs.Global.{Global}
use Rattle.std.specs.List.{All}
use Rattle.std.specs.Vec.Iter.{into_iter_items}
use Rattle.flame_board.specs.declared.lanes.Lane.{Lane}
use Rattle.flame_lanes.specs.declared.jobs.Job.{Job}
use Rattle.flame_lanes.specs.declared.tasks.Task.{Task}
use Rattle.flame_lanes.specs.LaneColumns.{AreColumns}
use Rattle.flame_lanes.proofs.columns.jobs_of.Given as goal

abbrev pub invariant-loop-load : goal.invariant-loop-load
invariant-loop-load l = record {
  lanes : (rows : List (List Lane)) → AreColumns rows l.columns.items
      → AreColumns (map (λ (job : Job). job.lanes) l.jobs.items ++ rows) l.fn.columns.items;
  tasks : map (λ (job : Job). job.tasks) l.jobs.items ≡ map (λ (load : Vec Task Global). load.items) l.yielded;
  left : All (λ (column : Vec Lane Global). length column.items + length l.yielded ≡ length l.fn.loads.items) l.columns.items;
  rest : l.yielded ++ into_iter_items l.load-iterator ≡ l.fn.loads.items;
}
