use Rattle.std.proofs.Common.{◌<◌, length, take}
use Rattle.std.specs.List.{All}
use Rattle.flame_layerrun.specs.LayerTasks.{AreListed}
use Rattle.flame_layerrun.proofs.outputs.list_outputs.Given as goal

abbrev pub invariant-loop-task : goal.invariant-loop-task
invariant-loop-task l = record {
  all : AreListed l.program.model l.messages (take l.task-index l.tasks);
  known : All (λ message. message < length l.program.model.messages) l.fn.messages
      → All (λ message. message < length l.program.model.messages) l.messages;
}
