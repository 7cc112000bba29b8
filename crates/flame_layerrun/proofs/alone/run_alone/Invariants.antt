use Rattle.std.proofs.Common.{◌≡◌, ℕ, ◌+◌, ◌++◌, List, length, map}
use Rattle.std.specs.Prelude.{ℤ}
use Rattle.std.specs.List.{All}
use Rattle.flame_world.specs.Fields.{Field}
use Rattle.flame_round.specs.KeptRounds.{round_of}
use Rattle.flame_lanes.specs.LayerBoards.{weigh_board}
use Rattle.flame_lanes.specs.TaskMeanings.{left_of}
use Rattle.flame_layerrun.specs.LayerTasks.{AreRead, FitsTask}
use Rattle.flame_layerrun.specs.LayerWork.{weigh_all_sent}
use Rattle.flame_layerrun.proofs.alone.run_alone.Given as goal

abbrev pub invariant-loop-task : goal.invariant-loop-task
invariant-loop-task g l = record {
  whole : l.yielded ++ l.task-iterator.rest.items ≡ l.fn.tasks.items;
  fit : All (FitsTask l.floor.round l.floor.readings.now) l.task-iterator.rest.items;
  lefts : (read : Field) → AreRead l.floor.round read l.floor.readings.now
      → l.lefts.items ≡ map (left_of (round_of l.floor.round) read) l.yielded;
  sent : (read : Field) → AreRead l.floor.round read l.floor.readings.now
      → (message : ℕ) (weight : List ℤ → ℕ)
      → weigh_board l.boards.items message weight
      ≡ weigh_board l.fn.boards.items message weight
      + weigh_all_sent (round_of l.floor.round) read l.yielded message weight;
  count : length l.boards.items ≡ length l.fn.boards.items;
}
