use Rattle.std.proofs.Common.{◌≡◌, take, map}
use Rattle.std.specs.List.{flat_map}
use Rattle.flame_nest.specs.FlatModels.{flat_agent}
use Rattle.flame_nest.proofs.joining.agents.Given as goal

abbrev pub invariant-loop-wide : goal.invariant-loop-wide
invariant-loop-wide l =
    l.flat.items ≡ map (flat_agent l.kinds) (flat_map (λ wide. wide.agents) (take l.wide-index l.wides))
