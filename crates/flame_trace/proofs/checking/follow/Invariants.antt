-- It is the same iteration, and what the lines behind line 1 come to is what those that are left come to from here.
use Rattle.std.proofs.Common.{◌≡◌, ◌+◌, ◌≤◌, length}
use Rattle.flame_core.specs.SeenCores.{round_in}
use Rattle.flame_trace.specs.TraceLines.{parts}
use Rattle.flame_trace.specs.TraceSteps.{onward, IsSameRun}
use Rattle.flame_trace.proofs.checking.follow.Given as goal

abbrev pub invariant-loop-line : goal.invariant-loop-line
invariant-loop-line l = record {
  same : IsSameRun l.fn.core l.core;
  onward :
      onward (round_in l.fn.core) l.fn.core.pieces l.fn.core.core 0 (parts l.fn.rest)
      ≡ onward (round_in l.fn.core) l.fn.core.pieces l.core.core l.events (parts l.left);
  small : l.events + length l.left ≤ 67108864;
}

abbrev pub decreases-loop-line : goal.decreases-loop-line
decreases-loop-line l = length l.left
