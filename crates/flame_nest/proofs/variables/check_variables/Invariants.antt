use Rattle.std.proofs.Common.{◌≡◌, drop}
use Rattle.std.specs.List.{flat_map}
use Rattle.flame_nest.specs.NestFaults.{meant_by, variable_faults, variables_faults}
use Rattle.flame_nest.proofs.variables.check_variables.Given as goal

abbrev pub invariant-loop-variable : goal.invariant-loop-variable
invariant-loop-variable l =
    variables_faults l.file (meant_by l.kinds) l.variables
    ≡ flat_map (variable_faults l.file (meant_by l.kinds)) (drop l.variable-index l.variables)
