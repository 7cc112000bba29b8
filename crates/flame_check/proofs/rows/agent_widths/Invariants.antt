use Rattle.std.proofs.Common.{◌≡◌, map, take}
use Rattle.flame_spec.specs.Columns.{width}
use Rattle.flame_check.proofs.rows.agent_widths.Given as goal

abbrev pub invariant-loop-agent : goal.invariant-loop-agent
invariant-loop-agent l = l.widths.items ≡ map (λ agent. width agent.memory) (take l.agent-index l.agents)
