-- The faults of a file behind tables of the earlier ones.
use Rattle.std.specs.Prelude.{ℕ, List, ◌++◌}
use Rattle.flame_spec.specs.declared.wide.Wide.{Wide}
use Rattle.flame_spec.specs.declared.wide.DataType.{DataType}
use Rattle.flame_nest.specs.declared.faults.NestFault.{NestFault}
use Rattle.flame_nest.specs.FlatModels.{with_new}
use Rattle.flame_nest.specs.NestFaults.{Given, meant_by, types_faults, messages_faults, agents_faults}

-- the data types that are known behind a file [own]
abbrev pub known_with : List DataType → Wide → List DataType
known_with known wide = with_new (λ type. type.name) known wide.types

-- the faults of a file, where earlier ones have given these data types and messages, and these data types are known
-- [own]
abbrev pub walk_faults : List ℕ → Given → Given → List DataType → Wide → List NestFault
walk_faults file types messages known wide =
    types_faults file types known wide.types
    ++ (messages_faults file messages (meant_by (known_with known wide)) wide.messages
    ++ agents_faults file (meant_by (known_with known wide)) wide.agents)
