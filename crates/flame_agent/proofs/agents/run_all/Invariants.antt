use Rattle.std.proofs.Common.{take}
use Rattle.flame_world.specs.Meaning.{outcome_under}
use Rattle.flame_leaving.specs.Leavings.{AreLeft}
use Rattle.flame_agent.proofs.agents.run_all.Given as goal

abbrev pub invariant-loop-memory : goal.invariant-loop-memory
invariant-loop-memory l =
    AreLeft l.setting.iteration l.function (outcome_under l.setting l.function) (take l.memory-index l.agents) l.leaving
