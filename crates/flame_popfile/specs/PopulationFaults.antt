-- The faults of a population's value: all of them, in walking order. The value names the version of its layout.
use Rattle.std.specs.Prelude.{ℕ, ℤ, pos, int_le, ◌+ℤ◌, List, [], ◌++◌, take, length, codes}
use Rattle.std.specs.Prelude.{if◌then◌else◌, Option, Some, None, unwrap_or, option_map, option_and_then, is_some}
use Rattle.std.specs.List.{filter_map}
use Rattle.std.specs.Option.{option_map_or}
use Rattle.std.specs.Ordering.{int_eq}
use Rattle.std.specs.Str.{bytes_eq}
use Rattle.serde_json.specs.Data.{Data}
use Rattle.flame_spec.specs.declared.models.Model.{Model}
use Rattle.flame_spec.specs.declared.models.AgentType.{AgentType}
use Rattle.flame_spec.specs.declared.models.Variable.{Variable}
use Rattle.flame_spec.specs.Columns.{width}
use Rattle.flame_spec.specs.KnownNames.{is_among}
use Rattle.flame_spec.specs.Lists.{each, numbered_where}
use Rattle.flame_spec.specs.Paths.{root, at_key, at_number}
use Rattle.flame_spec.specs.Steps.{◌>>=◌}
use Rattle.flame_xmml.specs.ValueParts.{part, has}
use Rattle.flame_xmml.specs.Wants.{int_of}
use Rattle.flame_popfile.specs.declared.formats.Format.{Format}
use Rattle.flame_popfile.specs.declared.formats.Format.TheVariants.{One, Two}
use Rattle.flame_popfile.specs.declared.faults.PopFault.{PopFault}
use Rattle.flame_popfile.specs.declared.faults.PopKind.TheVariants.{Shape, UnknownAgent, UnknownVariable}
use Rattle.flame_popfile.specs.declared.faults.PopKind.TheVariants.{UnknownConstant, IterationLimit, Duplicate}
use Rattle.flame_popfile.specs.PopulationParts.{Faults, name_in, number_of, called, refused, optional, object_faults}
use Rattle.flame_popfile.specs.PopulationParts.{each_member, list_faults, entries_faults, known_faults, number_faults}
use Rattle.flame_popfile.specs.PopulationParts.{int_faults, is_itno, ints_faults, variable_faults}

-- ---- the version and the number of the iteration

-- the version of this number [own]
abbrev pub format_numbered : ℤ → Option Format
format_numbered number =
    if int_eq number (pos 1) then Some One
    else if int_eq number (pos 2) then Some Two
    else None

-- the version that is named; 1 where none is [own]
abbrev pub format_named : Data → Option Format
format_named states =
    if has (codes "version") states then int_of (part (codes "version") states) >>= format_numbered else Some One

-- the version by which the states are read [own]
abbrev pub format_of : Data → Format
format_of states = unwrap_or (format_named states) One

-- a version that is named must be 1 or 2 [own]
abbrev pub version_faults : List ℕ → Data → List PopFault
version_faults path states = if is_some (format_named states) then [] else refused Shape (at_key path (codes "version"))

-- the number of the iteration [FLAME User Manual]
abbrev pub itno_of : Data → ℤ
itno_of states = number_of (part (codes "itno") states)

-- the last iteration may have the number 2147483647 [own]
abbrev pub limit_faults : ℕ → List ℕ → Data → List PopFault
limit_faults turns path states =
    if int_le (itno_of states +ℤ pos turns) (pos 2147483647) then []
    else refused IterationLimit (at_key path (codes "itno"))

-- ---- constants

-- what the name of a constant asks for [own]
abbrev pub constant_asked : List (List ℕ) → List ℕ → Faults
constant_asked constants name =
    known_faults UnknownConstant (option_map (λ constant. int_faults) (called (λ constant. constant) constants name))

-- version 1: an object of the names of constants; version 2: a list of all their values [FLAME User Manual; 2: own]
abbrev pub environment_faults : Format → List (List ℕ) → List ℕ → Data → List PopFault
environment_faults One constants = object_faults (entries_faults (constant_asked constants))
environment_faults Two constants = ints_faults (length constants)

-- ---- agents

-- the agent type of this name, with its number [own]
abbrev pub type_named : List AgentType → List ℕ → Option (ℕ × AgentType)
type_named types name = numbered_where (λ type. bytes_eq type.name name) types

-- the agent type that a member names, with its number [FLAME User Manual]
abbrev pub type_in : List AgentType → Data → Option (ℕ × AgentType)
type_in types value = option_and_then (type_named types) (name_in value)

-- what the name of a memory variable asks for [own]
abbrev pub variable_asked : List Variable → List ℕ → Faults
variable_asked variables name =
    known_faults UnknownVariable
    (option_map (λ variable. variable_faults variable.length) (called (λ variable. variable.name) variables name))

-- the memory of an agent: an object of the names of its variables [FLAME User Manual]
abbrev pub memory_faults : List Variable → List ℕ → Data → List PopFault
memory_faults variables = object_faults (entries_faults (variable_asked variables))

-- the rows of a type: a list of lists of exactly as many numbers as the type is wide [own]
abbrev pub rows_faults : ℕ → List ℕ → Data → List PopFault
rows_faults wide = list_faults (each_member (ints_faults wide))

-- version 1: the memory of one agent; version 2: the rows of all agents of the type [FLAME User Manual; 2: own]
abbrev pub content_faults : Format → AgentType → List ℕ → Data → List PopFault
content_faults One type = optional (memory_faults type.memory) (codes "memory")
content_faults Two type = optional (rows_faults (width type.memory)) (codes "rows")

-- the name is that of a type, and none of these names, which earlier members have [own]
abbrev pub name_faults : List AgentType → List (List ℕ) → List ℕ → List ℕ → List PopFault
name_faults types earlier path name =
    if is_some (type_named types name) then (if is_among name earlier then refused Duplicate path else [])
    else refused UnknownAgent path

-- the name of a member after members of these names: it is a text, and then of a type [FLAME User Manual]
abbrev pub member_name_faults : List AgentType → List (List ℕ) → List ℕ → Data → List PopFault
member_name_faults types earlier path value =
    option_map_or (name_faults types earlier (at_key path (codes "name"))) (name_in value)
    (refused Shape (at_key path (codes "name")))

-- what stands in a member after members of these names: its name, and then what its type holds [FLAME User Manual]
abbrev pub agent_parts : Format → List AgentType → List (List ℕ) → List ℕ → Data → List PopFault
agent_parts format types earlier path value =
    member_name_faults types earlier path value
    ++ option_map_or (λ found. content_faults format found.1 path value) (type_in types value) []

-- a member after members of these names [own]
abbrev pub agent_faults : Format → List AgentType → List (List ℕ) → List ℕ → Data → List PopFault
agent_faults format types earlier = object_faults (agent_parts format types earlier)

-- the names that a later member may not have again: none in version 1, those of all members in version 2 [own]
abbrev pub taken_names : Format → List Data → List (List ℕ)
taken_names One values = []
taken_names Two values = filter_map name_in values

-- the members [FLAME User Manual; 2: own]
abbrev pub agents_faults : Format → List AgentType → List ℕ → List Data → List PopFault
agents_faults format types path values =
    each
    (λ number value. agent_faults format types (taken_names format (take number values)) (at_number path number) value)
    values

-- ---- the whole

-- the environment, and then the agents, in this version [FLAME User Manual; 2: own]
abbrev pub world_faults : Format → Model → List ℕ → Data → List PopFault
world_faults format model path states =
    optional (environment_faults format model.constants) (codes "environment") path states
    ++ optional (list_faults (agents_faults format model.agents)) (codes "agents") path states

-- the states, from which so many iterations are to follow [FLAME User Manual]
abbrev pub states_faults : Model → ℕ → List ℕ → Data → List PopFault
states_faults model turns path states =
    version_faults path states
    ++ (optional (number_faults is_itno) (codes "itno") path states
    ++ (world_faults (format_of states) model path states
    ++ limit_faults turns path states))

-- the faults of a population of the model, from which so many iterations are to follow [FLAME User Manual]
abbrev pub population_faults : Model → ℕ → Data → List PopFault
population_faults model turns =
    object_faults
    (λ path value.
    object_faults (states_faults model turns) (at_key path (codes "states")) (part (codes "states") value))
    root
