use Rattle.std.proofs.Common.{◌≡◌, drop}
use Rattle.flame_core.specs.SeenCores.{round_in}
use Rattle.flame_flow.specs.Goings.{with_frozen}
use Rattle.flame_flow.specs.ToldCores.{HasGoneOn}
use Rattle.flame_flow.proofs.goings.freeze_all.Given as goal

abbrev pub invariant-loop-message : goal.invariant-loop-message
invariant-loop-message l = record {
  on : HasGoneOn l.fn.told l.told;
  rest :
      with_frozen (round_in l.fn.told.seen) l.fn.told.seen.pieces (drop l.message-index l.messages) l.told.seen.core
      ≡ with_frozen (round_in l.fn.told.seen) l.fn.told.seen.pieces l.messages l.fn.told.seen.core;
}
