use Rattle.std.proofs.Common.{◌-◌, length}
use Rattle.flame_spec.specs.TimeUnits.{unit_length}
use Rattle.flame_cond.proofs.PeriodLemmas.{IsSoFar}
use Rattle.flame_cond.proofs.names.period.Given as goal

abbrev pub invariant-loop-done : goal.invariant-loop-done
invariant-loop-done l = IsSoFar (unit_length l.units l.name) l.product (length l.units - l.done) l.units l.wanted
