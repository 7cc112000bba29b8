-- The value that the text of a population is: the members of each object put in one after another.
use Rattle.std.specs.Prelude.{ℕ, ℤ, pos, List, [], ◌∷◌, map, take, drop, codes, Option, Some, None}
use Rattle.std.specs.List.{flat_map, zip}
use Rattle.serde_json.specs.Data.{Data, number, string, array, object, no_members}
use Rattle.serde_json.specs.Find.{of_integer}
use Rattle.serde_json.specs.View.{items_of}
use Rattle.flame_spec.specs.declared.models.Model.{Model}
use Rattle.flame_spec.specs.declared.models.AgentType.{AgentType}
use Rattle.flame_spec.specs.declared.models.MessageType.{MessageType}
use Rattle.flame_spec.specs.declared.models.Variable.{Variable}
use Rattle.flame_spec.specs.Columns.{width_of}
use Rattle.flame_world.specs.declared.worlds.World.{World}
use Rattle.flame_world.specs.declared.worlds.Boards.{Boards}
use Rattle.flame_popfile.specs.declared.formats.Format.{Format}
use Rattle.flame_popfile.specs.declared.formats.Format.TheVariants.{One, Two}
use Rattle.flame_popfile.proofs.PutMembers.{put_all}

-- an object of these members
abbrev pub object_of : List (List ℕ × Data) → Data
object_of pairs = object (put_all pairs no_members)

-- a list of these
abbrev pub list_of : List Data → Data
list_of values = array (items_of values)

-- a whole number
abbrev pub int_value : ℤ → Data
int_value z = number (of_integer z)

-- a row
abbrev pub row_value : List ℤ → Data
row_value row = list_of (map int_value row)

-- the first number of a row
abbrev pub first_of : List ℤ → ℤ
first_of [] = pos 0
first_of (z ∷ row) = z

-- the numbers of a variable, with which a row begins
abbrev pub variable_value : Option ℕ → List ℤ → Data
variable_value None row = int_value (first_of row)
variable_value (Some length) row = row_value (take length row)

-- the variables of a row by their names
abbrev pub variable_pairs : List Variable → List ℤ → List (List ℕ × Data)
variable_pairs [] row = []
variable_pairs (variable ∷ variables) row =
    (variable.name, variable_value variable.length row) ∷ variable_pairs variables (drop (width_of variable) row)

-- a row as an object
abbrev pub memory_value : List Variable → List ℤ → Data
memory_value variables row = object_of (variable_pairs variables row)

-- the constants by their names
abbrev pub constant_pairs : List (List ℕ) → List ℤ → List (List ℕ × Data)
constant_pairs names values = map (λ (name, value). (name, int_value value)) (zip names values)

-- an object of a name and of what stands at one key more
abbrev pub named_value : List ℕ → List ℕ → Data → Data
named_value name key value = object_of ((codes "name", string name) ∷ (key, value) ∷ [])

-- an agent of this type
abbrev pub agent_value : AgentType → List ℤ → Data
agent_value type row = named_value type.name (codes "memory") (memory_value type.memory row)

-- a bag under the name of its type or message
abbrev pub bag_value : List ℕ → List (List ℤ) → Data
bag_value name bag = named_value name (codes "rows") (list_of (map row_value bag))

-- a board of this message
abbrev pub board_value : MessageType → List (List ℤ) → Data
board_value message bag =
    named_value message.name (codes "messages") (list_of (map (memory_value message.variables) bag))

-- the members for the agents of a type
abbrev pub type_values : Format → AgentType → List (List ℤ) → List Data
type_values One type bag = map (agent_value type) bag
type_values Two type bag = bag_value type.name bag ∷ []

-- the members for all agents
abbrev pub agent_values : Format → List AgentType → List (List (List ℤ)) → List Data
agent_values format types bags = flat_map (λ (type, bag). type_values format type bag) (zip types bags)

-- the member for the messages of a message type
abbrev pub message_value : Format → MessageType → List (List ℤ) → Data
message_value One message bag = board_value message bag
message_value Two message bag = bag_value message.name bag

-- the members for all messages
abbrev pub message_values : Format → List MessageType → List (List (List ℤ)) → List Data
message_values format messages bags = map (λ (message, bag). message_value format message bag) (zip messages bags)

-- the constants
abbrev pub environment_value : Format → List (List ℕ) → List ℤ → Data
environment_value One names values = object_of (constant_pairs names values)
environment_value Two names values = row_value values

-- the states, behind what names the version
abbrev pub state_pairs : Model → Format → ℤ → World → Boards → List (List ℕ × Data)
state_pairs model format itno world boards =
    (codes "itno", int_value itno)
    ∷ (codes "environment", environment_value format model.constants world.constants)
    ∷ (codes "agents", list_of (agent_values format model.agents world.agents))
    ∷ (codes "boards", list_of (message_values format model.messages boards.boards))
    ∷ []

-- the states
abbrev pub states_value : Model → Format → ℤ → World → Boards → Data
states_value model One itno world boards = object_of (state_pairs model One itno world boards)
states_value model Two itno world boards =
    object_of ((codes "version", int_value (pos 2)) ∷ state_pairs model Two itno world boards)

-- the population
abbrev pub population_value : Model → Format → ℤ → World → Boards → Data
population_value model format itno world boards =
    object_of ((codes "states", states_value model format itno world boards) ∷ [])
