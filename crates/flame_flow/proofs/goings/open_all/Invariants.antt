use Rattle.std.proofs.Common.{◌≡◌, drop}
use Rattle.flame_core.specs.SeenCores.{round_in}
use Rattle.flame_flow.specs.Goings.{with_opened}
use Rattle.flame_flow.specs.KeptGoings.{going_of}
use Rattle.flame_flow.specs.ToldCores.{HasGoneOn}
use Rattle.flame_flow.proofs.goings.open_all.Given as goal

abbrev pub invariant-loop-function : goal.invariant-loop-function
invariant-loop-function l = record {
  on : HasGoneOn l.fn.going.told l.going.told;
  rest :
      with_opened (round_in l.fn.going.told.seen) l.fn.going.told.seen.pieces l.ranks (drop l.function-index l.functions) (going_of l.going)
      ≡ with_opened (round_in l.fn.going.told.seen) l.fn.going.told.seen.pieces l.ranks l.functions (going_of l.fn.going);
}
