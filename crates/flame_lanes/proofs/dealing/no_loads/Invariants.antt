use Rattle.std.proofs.Common.{◌≡◌, [], length}
use Rattle.flame_lanes.proofs.Dealt.{tasks_in}
use Rattle.flame_lanes.proofs.dealing.no_loads.Given as goal

abbrev pub invariant-loop-load : goal.invariant-loop-load
invariant-loop-load l = record {
  count : length l.loads.items ≡ l._load;
  none : tasks_in l.loads.items ≡ [];
}
