use Rattle.std.proofs.Common.{◌≡◌, [], map, take}
use Rattle.flame_world.specs.AgentRuns.{messages_of}
use Rattle.flame_pieces.proofs.Rooms.{items_of}
use Rattle.flame_pieces.proofs.partings.no_parts.Given as goal

abbrev pub invariant-loop-output : goal.invariant-loop-output
invariant-loop-output l = map items_of l.parts.items ≡ map (messages_of []) (take l._output-index l.outputs)
