-- Conditions, choices and views of some small models, worked by hand. [own]
use Rattle.std.specs.Prelude.{◌≡◌, ℕ, ℤ, pos, List, [], ◌∷◌, codes, Bool, true, false, Option, Some, None, map}
use Rattle.flame_ops.specs.declared.integers.Op.TheVariants.{Eq, Ge}
use Rattle.flame_spec.specs.declared.conditions.Condition.{Condition, Compare, Time}
use Rattle.flame_spec.specs.declared.conditions.Operand.TheVariants.{Number, Agent, Message}
use Rattle.flame_spec.specs.declared.models.Model.{Model}
use Rattle.flame_spec.specs.declared.models.Variable.{Variable}
use Rattle.flame_spec.specs.declared.models.MessageType.{MessageType}
use Rattle.flame_spec.specs.declared.models.AgentType.{AgentType}
use Rattle.flame_spec.specs.declared.models.Function.{Function}
use Rattle.flame_spec.specs.Conditions.{condition_holds}
use Rattle.flame_spec.specs.Choice.{functions_out, choice}
use Rattle.flame_spec.specs.Views.{view_of}

-- a variable of one number
abbrev pub variable : List ℕ → Variable
variable name = record { name = name; length = None }

-- an agent type with these variables and functions
abbrev pub agent_type : List (List ℕ) → List Function → AgentType
agent_type names functions = record { name = codes "A"; memory = map variable names; functions = functions }

-- a message type with these variables
abbrev pub message_type : List (List ℕ) → MessageType
message_type names = record { name = codes "m"; variables = map variable names }

-- a function that leaves the state `s`
abbrev pub function_of : Option Condition → Function
function_of condition =
    record { name = codes "f"; current = codes "s"; next = codes "e"; condition = condition; inputs = []; outputs = [] }

-- a row of two numbers
abbrev pub pair : ℕ → ℕ → List ℤ
pair a b = pos a ∷ pos b ∷ []

-- ---- a sort by k, the greatest first: equal numbers there by content

-- rows that have equal numbers in their first column
abbrev pub sorted_board : List (List ℤ)
sorted_board = pair 1 1 ∷ pair 1 9 ∷ pair 2 3 ∷ pair 2 5 ∷ []

-- the greatest key comes first, and equal keys go by content ascending
abbrev pub SortedByKey : Type 0
SortedByKey =
    view_of (agent_type (codes "d" ∷ []) []) (message_type (codes "k" ∷ codes "v" ∷ []))
    None (Some (record { key = codes "k"; descending = true })) (pos 0 ∷ []) sorted_board
    ≡ pair 2 3 ∷ pair 2 5 ∷ pair 1 1 ∷ pair 1 9 ∷ []

-- ---- a filter `m.v = a.x`: equal messages pass as often as they stand

-- two equal messages pass, and the third does not
abbrev pub FilteredByMemory : Type 0
FilteredByMemory =
    view_of (agent_type (codes "x" ∷ codes "n" ∷ []) []) (message_type (codes "v" ∷ []))
    (Some (Compare Eq (Message (codes "v")) (Agent (codes "x")))) None (pair 1 0)
    ((pos 1 ∷ []) ∷ (pos 1 ∷ []) ∷ (pos 2 ∷ []) ∷ [])
    ≡ (pos 1 ∷ []) ∷ (pos 1 ∷ []) ∷ []

-- ---- a week of 7 iterations, phase 2, duration 2: of the iterations 1 to 9 it holds in 2, 3 and 9

-- whether the condition holds in an iteration
abbrev pub holds_in_week : ℕ → Bool
holds_in_week iteration =
    condition_holds (agent_type (codes "x" ∷ []) [])
    (record { name = codes "week"; unit = codes "iteration"; period = pos 7 } ∷ [])
    (Time (codes "week") (Number (pos 2)) (pos 2)) (pos 0 ∷ []) (pos iteration)

-- it holds in 2, 3 and 9
abbrev pub HoldsInWeek : Type 0
HoldsInWeek =
    map holds_in_week (1 ∷ 2 ∷ 3 ∷ 4 ∷ 5 ∷ 6 ∷ 7 ∷ 8 ∷ 9 ∷ [])
    ≡ false ∷ true ∷ true ∷ false ∷ false ∷ false ∷ false ∷ false ∷ true ∷ []

-- ---- choices of an agent with one variable x

-- a model of one agent type with these functions
abbrev pub model_of : List Function → Model
model_of functions =
    let agents = agent_type (codes "x" ∷ []) functions ∷ [] in
    record { constants = []; files = []; units = []; messages = []; agents = agents }

-- the choice of an agent of that type whose x is this number
abbrev pub choice_at : List Function → ℕ → Option ℕ
choice_at functions x = choice (model_of functions) 0 (codes "s") (pos x ∷ []) (pos 1)

-- `a.x >= 0`, and `a.x = 9`
abbrev pub x_at_least_0 : Condition
x_at_least_0 = Compare Ge (Agent (codes "x")) (Number (pos 0))

-- `a.x = 9`
abbrev pub x_is_9 : Condition
x_is_9 = Compare Eq (Agent (codes "x")) (Number (pos 9))

-- where two conditions hold the first function is taken
abbrev pub FirstOfTwo : Type 0
FirstOfTwo = choice_at (function_of (Some x_at_least_0) ∷ function_of (Some x_at_least_0) ∷ []) 0 ≡ Some 0

-- where none holds no function is taken
abbrev pub NoneOfOne : Type 0
NoneOfOne = choice_at (function_of (Some x_is_9) ∷ []) 3 ≡ None

-- a function without a condition is taken where the one before it does not hold
abbrev pub NextWithoutCondition : Type 0
NextWithoutCondition = choice_at (function_of (Some x_is_9) ∷ function_of None ∷ []) 3 ≡ Some 1

-- ---- functions out of a state

-- a function from one state to another
abbrev pub between : List ℕ → List ℕ → Function
between current next = record (function_of None) { current = current; next = next }

-- a type with one function, and a type with three, of which two leave `s`
abbrev pub two_types : Model
two_types = record {
  constants = [];
  files = [];
  units = [];
  messages = [];
  agents =
      agent_type [] (between (codes "s") (codes "t") ∷ [])
      ∷ agent_type [] (
      between (codes "s") (codes "t")
      ∷ between (codes "t") (codes "s")
      ∷ between (codes "s") (codes "s")
      ∷ [])
      ∷ [];
}

-- those of the type alone, in document order
abbrev pub OutOfStates : Type 0
OutOfStates =
    (functions_out two_types 1 (codes "s") ≡ 1 ∷ 3 ∷ [])
    × (functions_out two_types 1 (codes "t") ≡ 2 ∷ [])
    × (functions_out two_types 0 (codes "t") ≡ [])
