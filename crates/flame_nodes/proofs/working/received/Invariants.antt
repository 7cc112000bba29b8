use Rattle.crossbeam_channel.specs.Claims.{IsSeatAt}
use Rattle.crossbeam_channel.specs.Ends.{receives_on}
use Rattle.flame_nodes.proofs.working.received.Given as goal

abbrev pub invariant-loop-share : goal.invariant-loop-share
invariant-loop-share g l = IsSeatAt (receives_on l.receiver) l.pass
