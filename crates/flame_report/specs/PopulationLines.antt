-- The line of a fault of a population, as it is written to err. It ends with a line feed.
use Rattle.std.specs.Prelude.{ℕ, List, ◌++◌, codes}
use Rattle.flame_popfile.specs.declared.faults.PopFault.{PopFault}
use Rattle.flame_popfile.specs.PopulationKinds.{name_of_pop_kind}

-- population: FILE: PATH: KIND [own]
abbrev pub population_line : List ℕ → PopFault → List ℕ
population_line file fault =
    codes "population: " ++ file
    ++ codes ": " ++ fault.path
    ++ codes ": " ++ name_of_pop_kind fault.kind
    ++ codes "\n"
