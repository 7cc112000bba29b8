use Rattle.std.proofs.Common.{◌≡◌, take, map}
use Rattle.flame_index.specs.FrozenBoards.{shared_messages}
use Rattle.flame_world.proofs.settings.same_boards.Given as goal

abbrev pub invariant-loop-i : goal.invariant-loop-i
invariant-loop-i l = take l.i (map shared_messages l.ones) ≡ take l.i (map shared_messages l.twos)
