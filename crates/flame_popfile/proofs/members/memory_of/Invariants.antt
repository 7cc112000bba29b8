-- The numbers so far, and those of the variables that are left.
use Rattle.std.proofs.Common.{◌≡◌, ◌++◌, drop}
use Rattle.flame_xmml.specs.ValueData.{data_of}
use Rattle.flame_popfile.specs.PopulationAgents.{memory_of}
use Rattle.flame_popfile.proofs.members.memory_of.Given as goal

abbrev pub invariant-loop-variable : goal.invariant-loop-variable
invariant-loop-variable l =
    l.row.items ++ memory_of (drop l.variable-index l.variables) (data_of l.memory)
    ≡ memory_of l.variables (data_of l.memory)
