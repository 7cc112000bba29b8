use Rattle.std.specs.List.{All}
use Rattle.crossbeam_channel.specs.Claims.{IsSeatAt}
use Rattle.crossbeam_channel.specs.Ends.{sends_on}
use Rattle.flame_nodes.specs.NodeWork.{CanWork}
use Rattle.flame_nodes.proofs.working.nodes_for.Given as goal

abbrev pub invariant-loop-piece : goal.invariant-loop-piece
invariant-loop-piece g l = record {
  seat : IsSeatAt (sends_on l.floor.to.now.end) l.pass;
  can : All CanWork l.nodes.items;
}
