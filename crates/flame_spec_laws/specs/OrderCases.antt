-- Small models, worked by hand. [own]
use Rattle.std.specs.Prelude.{◌≡◌, ℕ, List, [], ◌∷◌, false, codes, None}
use Rattle.flame_spec.specs.declared.models.Model.{Model}
use Rattle.flame_spec.specs.declared.models.AgentType.{AgentType}
use Rattle.flame_spec.specs.declared.models.Function.{Function}
use Rattle.flame_spec.specs.declared.models.Input.{Input}
use Rattle.flame_spec.specs.States.{start_states}
use Rattle.flame_spec.specs.ModelOrder.{model_order, model_cycle}
use Rattle.flame_spec.specs.Layers.{model_layers}

-- an input of every row of the message, in no order of its own
abbrev pub input : List ℕ → Input
input message = record { message = message; random = false; filter = None; sort = None }

-- a function from a state to a state that reads messages and adds messages
abbrev pub step : List ℕ → List ℕ → List Input → List (List ℕ) → Function
step current next inputs outputs = record {
  name = codes "step";
  current = current;
  next = next;
  condition = None;
  inputs = inputs;
  outputs = outputs;
}

-- an agent type with these functions
abbrev pub type_of : List Function → AgentType
type_of functions = record { name = codes "A"; memory = []; functions = functions }

-- a model with these types
abbrev pub model_of : List AgentType → Model
model_of types = record { constants = []; files = []; units = []; messages = []; agents = types }

-- the first type reads what the second adds, and the third does neither
abbrev pub reader_first : Model
reader_first = model_of
    (type_of (step (codes "s") (codes "e") (input (codes "m") ∷ []) [] ∷ [])
    ∷ type_of (step (codes "s") (codes "e") [] (codes "m" ∷ []) ∷ [])
    ∷ type_of (step (codes "s") (codes "e") [] [] ∷ [])
    ∷ [])

-- each of two types reads what the other adds
abbrev pub crossed : Model
crossed = model_of
    (type_of (step (codes "s") (codes "e") (input (codes "n") ∷ []) (codes "m" ∷ []) ∷ [])
    ∷ type_of (step (codes "s") (codes "e") (input (codes "m") ∷ []) (codes "n" ∷ []) ∷ [])
    ∷ [])

-- a function reads what it adds
abbrev pub own_message : Model
own_message = model_of (type_of (step (codes "s") (codes "e") (input (codes "m") ∷ []) (codes "m" ∷ []) ∷ []) ∷ [])

-- a function enters the state that it leaves
abbrev pub own_state : Model
own_state = model_of (type_of (step (codes "s") (codes "s") [] [] ∷ []) ∷ [])

-- a function leads into a round of two functions
abbrev pub led_into : Model
led_into = model_of (type_of
    (step (codes "a") (codes "b") [] []
    ∷ step (codes "b") (codes "c") [] []
    ∷ step (codes "c") (codes "b") [] []
    ∷ []) ∷ [])

-- a function behind a round of two functions, which the walk back begins with
abbrev pub leads_off : Model
leads_off = model_of (type_of
    (step (codes "c") (codes "d") [] []
    ∷ step (codes "b") (codes "c") [] []
    ∷ step (codes "c") (codes "b") [] []
    ∷ []) ∷ [])

-- two rounds that have nothing to do with each other, the first of them of three functions
abbrev pub two_rounds : Model
two_rounds = model_of (type_of
    (step (codes "a") (codes "b") [] []
    ∷ step (codes "c") (codes "a") [] []
    ∷ step (codes "b") (codes "c") [] []
    ∷ []) ∷ type_of (step (codes "s") (codes "s") [] [] ∷ []) ∷ [])

-- two functions leave two states for one
abbrev pub two_starts : List Function
two_starts = step (codes "a") (codes "c") [] [] ∷ step (codes "b") (codes "c") [] [] ∷ []

-- the writer runs before the reader, though it stands later; the third comes last and has layer 0
abbrev pub WriterRunsFirst : Type 0
WriterRunsFirst = (model_order reader_first ≡ 1 ∷ 0 ∷ 2 ∷ []) × (model_layers reader_first ≡ 1 ∷ 0 ∷ 0 ∷ [])

-- cycles: of two types, of a function with itself by message or by state, without what leads into it or off it, and the
-- one that is met first
abbrev pub CyclesAreMet : Type 0
CyclesAreMet =
    (model_cycle crossed ≡ 0 ∷ 1 ∷ [])
    × (model_cycle own_message ≡ 0 ∷ [])
    × (model_cycle own_state ≡ 0 ∷ [])
    × (model_cycle led_into ≡ 1 ∷ 2 ∷ [])
    × (model_cycle leads_off ≡ 1 ∷ 2 ∷ [])
    × (model_cycle two_rounds ≡ 0 ∷ 2 ∷ 1 ∷ [])
    × (model_cycle reader_first ≡ [])

-- start states, in the order of their functions, and that of a type without functions
abbrev pub StartsAreFound : Type 0
StartsAreFound =
    (start_states two_starts ≡ codes "a" ∷ codes "b" ∷ [])
    × (start_states [] ≡ codes "start" ∷ [])
