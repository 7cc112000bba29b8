use Rattle.std.proofs.Common.{◌≡◌, take}
use Rattle.flame_flow.specs.ToldCores.{history_of}
use Rattle.flame_flow.proofs.histories.unfolded.Given as goal

abbrev pub invariant-loop-came : goal.invariant-loop-came
invariant-loop-came l = l.events.items ≡ history_of (take l.came-index l.history)
