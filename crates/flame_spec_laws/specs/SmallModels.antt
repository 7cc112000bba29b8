-- Small models and files, which worked cases speak of. [own]
use Rattle.std.specs.Prelude.{ℕ, List, [], ◌∷◌, codes, false, None, map}
use Rattle.flame_spec.specs.declared.models.Model.{Model}
use Rattle.flame_spec.specs.declared.models.Variable.{Variable}
use Rattle.flame_spec.specs.declared.models.MessageType.{MessageType}
use Rattle.flame_spec.specs.declared.models.AgentType.{AgentType}
use Rattle.flame_spec.specs.declared.models.Function.{Function}
use Rattle.flame_spec.specs.declared.models.Input.{Input}
use Rattle.flame_spec.specs.declared.trees.Unit as file
use Rattle.flame_spec.specs.declared.trees.Stmt.{Stmt}

-- a variable of one number
abbrev pub variable : List ℕ → Variable
variable word = record { name = word; length = None }

-- a message type with these variables
abbrev pub message_type : List ℕ → List (List ℕ) → MessageType
message_type word names = record { name = word; variables = map variable names }

-- an agent type with one variable and these functions
abbrev pub agent_type : List ℕ → List ℕ → List Function → AgentType
agent_type word memory functions = record { name = word; memory = variable memory ∷ []; functions = functions }

-- a function from one state to another that reads these messages and adds those
abbrev pub function : List ℕ → List ℕ → List ℕ → List (List ℕ) → List (List ℕ) → Function
function word current next inputs outputs =
    record {
      name = word;
      current = current;
      next = next;
      condition = None;
      inputs = map input inputs;
      outputs = outputs;
    }
  where
    input : List ℕ → Input
    input message = record { message = message; random = false; filter = None; sort = None }

-- it reads location and adds signal
abbrev pub fly : Function
fly = function (codes "fly") (codes "s") (codes "t") (codes "location" ∷ []) (codes "signal" ∷ [])

-- the function of the same name out of another state
abbrev pub fly_again : Function
fly_again = function (codes "fly") (codes "t") (codes "u") [] []

-- a function without a body, which needs none
abbrev pub rest : Function
rest = function (codes "idle") (codes "u") (codes "v") [] []

-- the one function of the eggs
abbrev pub hatch : Function
hatch = function (codes "hatch") (codes "s") (codes "t") [] []

-- the type Bird, with a function of one name twice
abbrev pub bird : AgentType
bird = agent_type (codes "Bird") (codes "energy") (fly ∷ fly_again ∷ rest ∷ [])

-- the type Egg
abbrev pub egg : AgentType
egg = agent_type (codes "Egg") (codes "warmth") (hatch ∷ [])

-- the constant limit, the messages location(x) and signal(a, b), the types Bird(energy) and Egg(warmth)
abbrev pub birds : Model
birds = record {
  constants = codes "limit" ∷ [];
  files = codes "a.c" ∷ codes "b.c" ∷ [];
  units = [];
  messages =
      message_type (codes "location") (codes "x" ∷ [])
      ∷ message_type (codes "signal") (codes "a" ∷ codes "b" ∷ [])
      ∷ [];
  agents = bird ∷ egg ∷ [];
}

-- a model of the message location(x) and the type A(x) with the function f, which outputs nothing
abbrev pub lone_model : Model
lone_model = record {
  constants = [];
  files = codes "f.c" ∷ [];
  units = [];
  messages = message_type (codes "location") (codes "x" ∷ []) ∷ [];
  agents = agent_type (codes "A") (codes "x") (function (codes "f") (codes "s") (codes "e") [] [] ∷ []) ∷ [];
}

-- a file of the function f
abbrev pub lone_file : List Stmt → List file.Unit
lone_file body = record { functions = record { name = codes "f"; line = 1; parameters = []; body = body } ∷ [] } ∷ []
