use Rattle.std.proofs.Common.{◌≡◌, ◌<◌, ℕ, false, get_or}
use Rattle.flame_events.specs.CoreEnds.{is_faulted}
use Rattle.flame_progress.specs.KeptCores.{core_of}
use Rattle.flame_core.proofs.ranks.first_faulted.Given as goal

abbrev pub invariant-loop-i : goal.invariant-loop-i
invariant-loop-i l = (k : ℕ) → k < l.i → is_faulted (core_of l.progress) (get_or l.functions k 0) ≡ false
