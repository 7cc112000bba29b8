use Rattle.std.proofs.Common.{◌≡◌, take}
use Rattle.flame_world.specs.AgentRuns.{messages_of}
use Rattle.flame_case_runs.proofs.shares.rows_of.Given as goal

abbrev pub invariant-loop-one : goal.invariant-loop-one
invariant-loop-one l = l.rows.items ≡ messages_of (take l.one-index l.sent) l.message
