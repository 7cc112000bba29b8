use Rattle.std.proofs.Common.{◌≡◌, drop}
use Rattle.flame_events.specs.CoreEnds.{first_fault}
use Rattle.flame_progress.specs.KeptCores.{core_of}
use Rattle.flame_core.proofs.ending.taken_first.Given as goal

abbrev pub invariant-loop-function : goal.invariant-loop-function
invariant-loop-function l = record {
  same : l.progress ≡ l.fn.progress;
  rest : first_fault (core_of l.fn.progress) (drop l.function-index l.functions) ≡ first_fault (core_of l.fn.progress) l.functions;
}
