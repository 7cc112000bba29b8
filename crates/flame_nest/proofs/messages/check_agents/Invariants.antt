use Rattle.std.proofs.Common.{◌≡◌, drop}
use Rattle.std.specs.List.{flat_map}
use Rattle.flame_nest.specs.NestFaults.{meant_by, variables_faults, agents_faults}
use Rattle.flame_nest.proofs.messages.check_agents.Given as goal

abbrev pub invariant-loop-agent : goal.invariant-loop-agent
invariant-loop-agent l =
    agents_faults l.file (meant_by l.kinds) l.agents
    ≡ flat_map (λ agent. variables_faults l.file (meant_by l.kinds) agent.memory) (drop l.agent-index l.agents)
