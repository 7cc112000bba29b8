use Rattle.std.proofs.Common.{◌≡◌, ◌++◌, Vec, map}
use Rattle.std.specs.Global.{Global}
use Rattle.std.specs.List.{flat_map}
use Rattle.std.specs.Vec.Iter.{into_iter_items}
use Rattle.flame_board.specs.declared.lanes.Lane.{Lane}
use Rattle.flame_lanes.specs.declared.jobs.Done.{Done}
use Rattle.flame_lanes.proofs.columns.gathered.Given as goal

abbrev pub invariant-loop-done : goal.invariant-loop-done
invariant-loop-done l = record {
  rows : map (λ (row : Vec Lane Global). row.items) l.rows.items ≡ map (λ (done : Done). done.lanes) l.yielded;
  lefts : l.lefts.items ≡ flat_map (λ (done : Done). done.lefts) l.yielded;
  rest : l.yielded ++ into_iter_items l.done-iterator ≡ l.fn.dones.items;
}
