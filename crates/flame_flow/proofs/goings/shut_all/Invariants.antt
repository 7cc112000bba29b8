use Rattle.std.proofs.Common.{ℕ, List, []}
use Rattle.flame_flow.specs.Goings.{GoesOn, work_left}
use Rattle.flame_flow.specs.KeptGoings.{going_of}
use Rattle.flame_flow.specs.ToldCores.{HasGoneOn}
use Rattle.flame_flow.proofs.goings.shut_all.Given as goal

abbrev pub invariant-functions : goal.invariant-functions
invariant-functions l = record {
  on : HasGoneOn l.fn.going.told l.going.told;
  goes :
      (begun : List ℕ)
      → GoesOn l.fn.going.told.seen.source.model begun [] [] (going_of l.fn.going)
      → GoesOn l.fn.going.told.seen.source.model begun [] [] (going_of l.going);
}

abbrev pub decreases-functions : goal.decreases-functions
decreases-functions l = work_left (going_of l.going)
