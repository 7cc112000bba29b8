use Rattle.std.proofs.Common.{◌≤◌}
use Rattle.flame_progress.specs.KeptCores.{core_of}
use Rattle.flame_core.specs.FunctionRanks.{shut_first}
use Rattle.flame_core.proofs.ranks.shut_from.Given as goal

abbrev pub invariant-loop-i : goal.invariant-loop-i
invariant-loop-i l = l.i ≤ shut_first (core_of l.progress) l.functions
