use Rattle.std.proofs.Common.{◌≡◌, ◌+◌, length, drop}
use Rattle.std.specs.Prelude.{max}
use Rattle.std.specs.List.{fold}
use Rattle.flame_nest.specs.KindTables.{reach}
use Rattle.flame_nest.proofs.fields.reach_of.Given as goal

abbrev pub invariant-loop-variable : goal.invariant-loop-variable
invariant-loop-variable l =
    fold (λ most variable. max most (length variable.name + 1)) l.most (drop l.variable-index l.variables)
    ≡ reach l.variables
