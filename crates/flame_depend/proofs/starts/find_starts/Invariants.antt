use Rattle.std.proofs.Common.{◌≡◌, map, take, drop}
use Rattle.flame_spec.specs.States.{many_from}
use Rattle.flame_depend.specs.Plans.{lone, starts_of}
use Rattle.flame_depend.proofs.starts.find_starts.Given as goal

abbrev pub invariant-loop-i : goal.invariant-loop-i
invariant-loop-i l = record {
  lone : map lone l.starts.items ≡ map starts_of (take l.i l.agents);
  many : many_from 0 l.agents ≡ many_from l.i (drop l.i l.agents);
}
