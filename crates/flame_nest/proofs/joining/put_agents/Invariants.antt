use Rattle.std.proofs.Common.{◌≡◌, ◌++◌, take, map}
use Rattle.flame_nest.specs.FlatModels.{flat_agent}
use Rattle.flame_nest.proofs.joining.put_agents.Given as goal

abbrev pub invariant-loop-agent : goal.invariant-loop-agent
invariant-loop-agent l = l.flat.items ≡ l.fn.flat.items ++ map (flat_agent l.kinds) (take l.agent-index l.agents)
