use Rattle.std.proofs.Common.{◌≡◌, length, map}
use Rattle.flame_index.specs.FrozenBoards.{shared_messages}
use Rattle.flame_agent.specs.ViewsForAll.{AreForAll}
use Rattle.flame_agent.proofs.shared.SharedViews.of.Given as goal

abbrev pub invariant-loop-i : goal.invariant-loop-i
invariant-loop-i l = record {
  count : length l.views.items ≡ l.i;
  each : AreForAll l.program l.function (map shared_messages l.fn.boards) l.views.items;
}
