use Rattle.std.proofs.Common.{◌≡◌, map, take}
use Rattle.flame_world.specs.Meaning.{part_for}
use Rattle.flame_case_runs.proofs.shares.parts_of.Given as goal

abbrev pub invariant-loop-message : goal.invariant-loop-message
invariant-loop-message l = l.parts.items ≡ map (part_for l.piece l.sent) (take l.message-index l.messages)
