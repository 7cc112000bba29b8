use Rattle.std.proofs.Common.{map, take}
use Rattle.flame_agent.specs.FunctionFits.{AreBoardsFor}
use Rattle.flame_index.specs.FrozenBoards.{shared_messages}
use Rattle.flame_case_nodes.proofs.fitting.boards_fit.Given as goal

abbrev pub invariant-loop-i : goal.invariant-loop-i
invariant-loop-i l = AreBoardsFor l.model (take l.i l.inputs) (map shared_messages (take l.i l.boards))
