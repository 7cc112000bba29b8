-- What conditions of functions and filters of inputs say.
use Rattle.std.specs.Prelude.{ℕ, ◌<◌, ◌^◌, ℤ, pos, ◌+ℤ◌, List, [], slice_index_or, int_le, int_lt}
use Rattle.std.specs.Prelude.{Bool, true, false, not, ◌&&◌, ◌||◌, Option, Some, None, IsTrue, All}
use Rattle.std.specs.Int.{int_rem_euclid}
use Rattle.std.specs.Ordering.{int_eq}
use Rattle.flame_ops.specs.declared.integers.Op.{Op}
use Rattle.flame_ops.specs.declared.integers.Op.TheVariants.{Lt, Gt, Le, Ge, Eq, Ne}
use Rattle.flame_spec.specs.declared.conditions.Condition.{Condition, fold-Condition}
use Rattle.flame_spec.specs.declared.conditions.Condition.TheOpen.{Condition-F}
use Rattle.flame_spec.specs.declared.conditions.Operand.{Operand}
use Rattle.flame_spec.specs.declared.conditions.Operand.TheVariants.{Number, Agent, Message}
use Rattle.flame_spec.specs.declared.models.Variable.{Variable}
use Rattle.flame_spec.specs.declared.models.TimeUnit.{TimeUnit}
use Rattle.flame_spec.specs.declared.models.AgentType.{AgentType}
use Rattle.flame_spec.specs.declared.models.MessageType.{MessageType}
use Rattle.flame_spec.specs.Columns.{column, width}
use Rattle.flame_spec.specs.TimeUnits.{unit_length}

-- ---- what a condition reads

-- what the names in a condition stand for: the variables of the agent's memory, those of the message, and time units
-- [XMML]
pub record Scope : Type 0 where
  pub memory : List Variable
  pub message : List Variable
  pub units : List TimeUnit

-- what a condition is asked about: an agent's memory, a message's row, and the number of the iteration [own]
pub record Moment : Type 0 where
  pub memory : List ℤ
  pub row : List ℤ
  pub iteration : ℤ

-- a function's condition reads the memory and the time, and no message [XMML]
abbrev pub agent_scope : AgentType → List TimeUnit → Scope
agent_scope agent units = record { memory = agent.memory; message = []; units = units }

-- a filter reads the memory and a message, and no time [XMML]
abbrev pub input_scope : AgentType → MessageType → Scope
input_scope agent message = record { memory = agent.memory; message = message.variables; units = [] }

-- ---- truth

-- the number in a column of a row; 0 past its end [own]
abbrev pub number_at : List ℤ → ℕ → ℤ
number_at row place = slice_index_or row place (pos 0)

-- the value of what is compared: a number, or the variable of that name [FLAME User Manual]
abbrev pub operand_value : Scope → Operand → Moment → ℤ
operand_value scope (Number number) moment = number
operand_value scope (Agent name) moment = number_at moment.memory (column name scope.memory)
operand_value scope (Message name) moment = number_at moment.row (column name scope.message)

-- the comparison of two numbers; an operator that compares nothing does not hold [XMML]
abbrev pub compares : Op → ℤ → ℤ → Bool
compares Lt a b = int_lt a b
compares Gt a b = int_lt b a
compares Le a b = int_le a b
compares Ge a b = int_le b a
compares Eq a b = int_eq a b
compares Ne a b = not (int_eq a b)
compares _ a b = false

-- phase ≤ (iteration mod period) < phase + duration, over whole numbers without a bound [FLAME User Manual]
abbrev pub in_time : ℤ → ℤ → ℤ → ℤ → Bool
in_time period phase duration iteration =
    let place = int_rem_euclid iteration period in int_le phase place && int_lt place (phase +ℤ duration)

-- the same for a unit of this length; of a unit that is not known it does not hold [own]
abbrev pub in_unit : Option ℤ → ℤ → ℤ → ℤ → Bool
in_unit None phase duration iteration = false
in_unit (Some length) phase duration iteration = in_time length phase duration iteration

-- whether a form holds, where its parts tell whether they do [FLAME User Manual]
abbrev pub truth_step : Scope → Condition-F (Moment → Bool) → Moment → Bool
truth_step scope (Condition-F.Compare op a b) moment =
    compares op (operand_value scope a moment) (operand_value scope b moment)
truth_step scope (Condition-F.And left right) moment = left moment && right moment
truth_step scope (Condition-F.Or left right) moment = left moment || right moment
truth_step scope (Condition-F.Not part) moment = not (part moment)
truth_step scope (Condition-F.Time unit phase duration) moment =
    in_unit (unit_length scope.units unit) (operand_value scope phase moment) duration moment.iteration

-- whether the condition holds [FLAME User Manual]
abbrev pub truth : Scope → Condition → Moment → Bool
truth scope = fold-Condition (Moment → Bool) (truth_step scope)

-- whether a function's condition holds for an agent with this memory in this iteration [FLAME User Manual]
abbrev pub condition_holds : AgentType → List TimeUnit → Condition → List ℤ → ℤ → Bool
condition_holds agent units condition memory iteration =
    truth (agent_scope agent units) condition (record { memory = memory; row = []; iteration = iteration })

-- whether a message passes an input's filter for an agent with this memory [XMML]
abbrev pub filter_passes : AgentType → MessageType → Condition → List ℤ → List ℤ → Bool
filter_passes agent message condition memory row =
    truth (input_scope agent message) condition (record { memory = memory; row = row; iteration = pos 0 })

-- ---- what a condition needs

-- a length of a time unit: 1 to 2147483647 iterations [own]
abbrev pub is_length : Option ℤ → Bool
is_length None = false
is_length (Some length) = int_le (pos 1) length && int_le length (pos 2147483647)

-- whether the units of a form have lengths, where its parts tell whether theirs do [own]
abbrev pub lengths_step : List TimeUnit → Condition-F Bool → Bool
lengths_step units (Condition-F.Compare op a b) = true
lengths_step units (Condition-F.And left right) = left && right
lengths_step units (Condition-F.Or left right) = left && right
lengths_step units (Condition-F.Not part) = part
lengths_step units (Condition-F.Time unit phase duration) = is_length (unit_length units unit)

-- whether the unit of each time condition has a length [own]
abbrev pub has_lengths : List TimeUnit → Condition → Bool
has_lengths units = fold-Condition Bool (lengths_step units)

-- what a condition must meet to be read by columns [own]
pub record IsReadable (scope : Scope) (condition : Condition) : Type 0 where
  pub lengths : IsTrue (has_lengths scope.units condition)
  pub periods : All (λ unit. IsTrue (int_le (pos 1) unit.period)) scope.units
  pub memory : width scope.memory < 2 ^ 32
  pub message : width scope.message < 2 ^ 32
