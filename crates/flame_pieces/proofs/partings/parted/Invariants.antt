use Rattle.std.proofs.Common.{◌≡◌, map}
use Rattle.flame_world.specs.AgentRuns.{messages_of}
use Rattle.flame_pieces.proofs.Rooms.{items_of}
use Rattle.flame_pieces.proofs.partings.parted.Given as goal

abbrev pub invariant-loop-one : goal.invariant-loop-one
invariant-loop-one l = map items_of l.parts.items ≡ map (messages_of l.yielded) l.outputs
