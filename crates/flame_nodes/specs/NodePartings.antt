-- By what the agents of a type are parted.
use Rattle.std.specs.Prelude.{ℕ, List, Option, Some, None, slice_get, if◌then◌else◌}
use Rattle.flame_spec.specs.declared.models.AgentType.{AgentType}
use Rattle.flame_spec.specs.declared.models.Variable.{Variable}
use Rattle.flame_spec.specs.Columns.{is_array, variable_named}
use Rattle.flame_nodes.specs.declared.partings.Parting.{Parting}
use Rattle.flame_nodes.specs.declared.partings.Parting.TheVariants.{Rounds, Ranges}

-- the column of what was found, where that is a single variable [own]
abbrev pub single_found : Option (ℕ × Variable) → Option ℕ
single_found None = None
single_found (Some found) = if is_array found.1 then None else Some found.0

-- the column of the single variable of this name, where there is one [own]
abbrev pub single_column : List Variable → List ℕ → Option ℕ
single_column variables name = single_found (variable_named variables name)

-- by the ranges of the column, where there is one, and else by rounds [own]
abbrev pub parting_at : Option ℕ → Parting
parting_at None = Rounds
parting_at (Some column) = Ranges column

-- how agents with this memory are parted by the variable of a name, where a name is given [own]
abbrev pub parting_by : Option (List ℕ) → List Variable → Parting
parting_by None memory = Rounds
parting_by (Some name) memory = parting_at (single_column memory name)

-- how those of a type are, where there is one [own]
abbrev pub parting_for : Option (List ℕ) → Option AgentType → Parting
parting_for by None = Rounds
parting_for by (Some type) = parting_by by type.memory
