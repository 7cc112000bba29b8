use Rattle.std.proofs.Common.{◌≡◌, ◌++◌, drop}
use Rattle.flame_spec.specs.States.{distinct_after, ends}
use Rattle.flame_route.proofs.states.add_ends.Given as goal

abbrev pub invariant-loop-function : goal.invariant-loop-function
invariant-loop-function l =
    l.own ++ distinct_after l.own (ends (drop l.function-index l.functions))
    ≡ l.fn.own ++ distinct_after l.fn.own (ends l.functions)
