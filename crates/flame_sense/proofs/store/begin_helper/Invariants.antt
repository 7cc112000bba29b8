use Rattle.std.proofs.Common.{◌≡◌, [], drop}
use Rattle.flame_meaning.specs.HelperCalls.{parameter_locals}
use Rattle.flame_sense.specs.StandsFor.{visible}
use Rattle.flame_sense.proofs.store.begin_helper.Given as goal

abbrev pub invariant-loop-place : goal.invariant-loop-place
invariant-loop-place l =
    parameter_locals l.parameters l.values []
    ≡ parameter_locals (drop l.place l.parameters) (drop l.place l.values) (visible l.locals.items)
