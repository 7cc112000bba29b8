-- The faults of all names of a model, in the order in which it is walked.
use Rattle.std.specs.Prelude.{ℕ, List, [], ◌∷◌, ◌++◌, take, map, codes, Bool, ◌||◌}
use Rattle.flame_spec.specs.declared.faults.NameFault.{NameFault}
use Rattle.flame_spec.specs.declared.faults.NameKind.TheVariants.{Duplicate, Clash}
use Rattle.flame_spec.specs.declared.models.Model.{Model}
use Rattle.flame_spec.specs.declared.models.Variable.{Variable}
use Rattle.flame_spec.specs.declared.models.AgentType.{AgentType}
use Rattle.flame_spec.specs.declared.models.Function.{Function}
use Rattle.flame_spec.specs.Lists.{each}
use Rattle.flame_spec.specs.KnownNames.{is_among, variable_names, DeclaredNames, declared_by}
use Rattle.flame_ops.specs.Ascii.{capitals}
use Rattle.flame_spec.specs.Capitals.{clashes}
use Rattle.flame_spec.specs.Paths.{root, at_key, at_number}
use Rattle.flame_spec.specs.Refusals.{fault_where}
use Rattle.flame_spec.specs.UnitFaults.{units_faults}
use Rattle.flame_spec.specs.MessageFaults.{constant_faults, width_faults, messages_faults}
use Rattle.flame_spec.specs.FunctionFaults.{functions_faults}

-- the name of a memory variable: no earlier variable of the type has it, none of them has another name that is equal in
-- capitals, and no constant is equal in capitals, be it the same name or another; `constants` are in capitals [own]
abbrev pub memory_name_faults : List (List ℕ) → List (List ℕ) → List ℕ → List ℕ → List NameFault
memory_name_faults constants earlier path name =
    fault_where (is_among name earlier) Duplicate path name
    ++ fault_where (clashes name earlier || is_among (capitals name) constants) Clash path name

-- the faults of a memory variable at this path behind the earlier ones: of its name, and of its width [own]
abbrev pub memory_variable_faults : List (List ℕ) → List Variable → List ℕ → Variable → List NameFault
memory_variable_faults constants earlier path variable =
    memory_name_faults constants (variable_names earlier) (at_key path (codes "name")) variable.name
    ++ width_faults earlier path variable

-- the faults of the memory variables of the list at this path; `constants` are in capitals [own]
abbrev pub memory_faults : List (List ℕ) → List ℕ → List Variable → List NameFault
memory_faults constants path variables =
    each (λ i variable. memory_variable_faults constants (take i variables) (at_number path i) variable) variables

-- the names of agent types [own]
abbrev pub type_names : List AgentType → List (List ℕ)
type_names types = map (λ type. type.name) types

-- the names of functions [own]
abbrev pub function_names : List Function → List (List ℕ)
function_names functions = map (λ function. function.name) functions

-- the names of the functions of these types [own]
abbrev pub names_of_functions : List AgentType → List (List ℕ)
names_of_functions [] = []
names_of_functions (type ∷ types) = function_names type.functions ++ names_of_functions types

-- the faults of an agent type at this path, where earlier types have these names, and functions with the names that
-- `is_taken` tells: of its name, its memory and its functions [own]
abbrev pub agent_faults : DeclaredNames → List (List ℕ) → (List ℕ → Bool) → List ℕ → AgentType → List NameFault
agent_faults declared earlier is_taken path type =
    fault_where (is_among type.name earlier) Duplicate (at_key path (codes "name")) type.name
    ++ (memory_faults declared.constants (at_key path (codes "memory")) type.memory
    ++ functions_faults declared type.memory is_taken (at_key path (codes "functions")) type.functions)

-- the faults of the agent types of the list at this path [own]
abbrev pub agents_faults : DeclaredNames → List ℕ → List AgentType → List NameFault
agents_faults declared path types =
    each
    (λ i type.
    agent_faults
    declared
    (type_names (take i types))
    (λ name. is_among name (names_of_functions (take i types)))
    (at_number path i)
    type)
    types

-- the faults of the environment of a model at this path: of its constants and its time units [own]
abbrev pub environment_faults : List ℕ → Model → List NameFault
environment_faults path model =
    constant_faults (at_key path (codes "constants")) model.constants
    ++ units_faults (at_key path (codes "timeUnits")) model.units

-- the faults of a model at this path: of its environment, its messages and its agent types [own]
abbrev pub model_faults : List ℕ → Model → List NameFault
model_faults path model =
    environment_faults (at_key path (codes "environment")) model
    ++ (messages_faults (at_key path (codes "messages")) model.messages
    ++ agents_faults (declared_by model) (at_key path (codes "agents")) model.agents)

-- all faults of the names of a model, in the order in which it is walked [own]
abbrev pub name_faults : Model → List NameFault
name_faults model = model_faults (at_key root (codes "xmodel")) model
