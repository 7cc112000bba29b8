use Rattle.std.proofs.Common.{◌≡◌, ◌++◌, map, drop}
use Rattle.flame_route.specs.ModelRoutes.{start_place}
use Rattle.flame_route.proofs.starts.starts_of.Given as goal

abbrev pub invariant-loop-agent : goal.invariant-loop-agent
invariant-loop-agent l =
    l.starts.items ++ map start_place (drop l.agent-index l.agents) ≡ map start_place l.agents
