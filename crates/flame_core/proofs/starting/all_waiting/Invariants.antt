use Rattle.std.proofs.Common.{◌≡◌, replicate}
use Rattle.flame_pieces.specs.declared.statuses.Status.TheVariants.{Waiting}
use Rattle.flame_core.proofs.starting.all_waiting.Given as goal

abbrev pub invariant-loop-function : goal.invariant-loop-function
invariant-loop-function l = l.statuses.items ≡ replicate l._function Waiting
