-- The values so far, and those of the names that are left.
use Rattle.std.proofs.Common.{◌≡◌, ◌++◌, drop}
use Rattle.flame_xmml.specs.ValueData.{data_of}
use Rattle.flame_popfile.specs.declared.formats.Format.TheVariants.{One}
use Rattle.flame_popfile.specs.PopulationAgents.{constants_of}
use Rattle.flame_popfile.proofs.environment.values_of.Given as goal

abbrev pub invariant-loop-name : goal.invariant-loop-name
invariant-loop-name l =
    l.row.items ++ constants_of One (drop l.name-index l.names) (data_of l.environment)
    ≡ constants_of One l.names (data_of l.environment)
