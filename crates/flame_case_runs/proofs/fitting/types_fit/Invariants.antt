use Rattle.std.proofs.Common.{take}
use Rattle.std.specs.List.{AllZip}
use Rattle.flame_spec.specs.declared.models.AgentType.{AgentType}
use Rattle.flame_spec.specs.Columns.{width}
use Rattle.flame_world.specs.WorldFits.{AreWide}
use Rattle.flame_case_runs.proofs.fitting.types_fit.Given as goal

abbrev pub invariant-loop-i : goal.invariant-loop-i
invariant-loop-i l = AllZip (λ (agent : AgentType) agents. AreWide (width agent.memory) agents) (take l.i l.types) (take l.i l.bags)
