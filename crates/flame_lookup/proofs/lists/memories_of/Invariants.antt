use Rattle.std.proofs.Common.{◌≡◌, map, take}
use Rattle.flame_lookup.proofs.lists.memories_of.Given as goal

abbrev pub invariant-loop-agent : goal.invariant-loop-agent
invariant-loop-agent l = l.memories.items ≡ map (λ agent. agent.memory) (take l.agent-index l.agents)
