use Rattle.std.proofs.Common.{◌≡◌, ◌++◌, length, map}
use Rattle.std.specs.List.{All}
use Rattle.flame_world.specs.Fields.{Field}
use Rattle.flame_round.specs.KeptRounds.{round_of}
use Rattle.flame_lanes.specs.TaskMeanings.{left_of}
use Rattle.flame_layerrun.specs.LayerTasks.{AreListed, AreRead, FitsTask}
use Rattle.flame_layerrun.specs.LayerWork.{AreLonger, AreOwn, weigh_all_sent}
use Rattle.flame_layerrun.proofs.working.work.Given as goal

abbrev pub invariant-loop-task : goal.invariant-loop-task
invariant-loop-task g l = record {
  whole : l.yielded ++ l.task-iterator.rest.items ≡ l.fn.job.tasks;
  fit : All (FitsTask l.floor.round l.floor.readings.now) l.task-iterator.rest.items;
  listed : AreListed l.floor.round.program.now.model l.floor.messages.now l.task-iterator.rest.items;
  lefts : (read : Field) → AreRead l.floor.round read l.floor.readings.now
      → l.lefts.items ≡ map (left_of (round_of l.floor.round) read) l.yielded;
  longer : (read : Field) → AreRead l.floor.round read l.floor.readings.now
      → AreLonger (weigh_all_sent (round_of l.floor.round) read l.yielded) l.floor.messages.now
      l.initial.lanes.items l.lanes.items;
  own : AreOwn l.floor.boards.now l.lanes.items;
  long : length l.floor.messages.now ≡ length l.lanes.items;
}
