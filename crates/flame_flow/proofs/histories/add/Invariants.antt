use Rattle.std.proofs.Common.{◌≡◌, ◌++◌, replicate}
use Rattle.flame_flow.proofs.histories.add.Given as goal

abbrev pub invariant-loop-time : goal.invariant-loop-time
invariant-loop-time l = l.events.items ≡ l.fn.events.items ++ replicate l._time l.came.event
