use Rattle.std.proofs.Common.{◌≡◌, drop}
use Rattle.std.specs.List.{list_any}
use Rattle.std.specs.Str.{bytes_eq}
use Rattle.flame_spec.specs.Functions.{functions, functions_from}
use Rattle.flame_sense.proofs.found.is_transition.Given as goal

abbrev pub invariant-loop-agent : goal.invariant-loop-agent
invariant-loop-agent l =
    list_any (λ place. bytes_eq l.name place.function.name) (functions l.model)
    ≡ list_any (λ place. bytes_eq l.name place.function.name) (functions_from l.agent-index (drop l.agent-index l.model.agents))
