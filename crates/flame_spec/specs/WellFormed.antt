-- Well formed models, and parts of models by themselves: each text and number is one that a model file may have there.
use Rattle.std.specs.Prelude.{ℕ, nat_le, ℤ, pos, negsuc, int_le, Bool, true, false, ◌&&◌}
use Rattle.std.specs.List.{list_all}
use Rattle.std.specs.Option.{option_map_or}
use Rattle.flame_ops.specs.declared.integers.Op.{Op}
use Rattle.flame_ops.specs.declared.integers.Op.TheVariants.{Eq, Ne, Lt, Gt, Le, Ge}
use Rattle.flame_spec.specs.declared.conditions.Operand.{Operand}
use Rattle.flame_spec.specs.declared.conditions.Operand.TheVariants.{Number, Agent, Message}
use Rattle.flame_spec.specs.declared.conditions.Condition.{Condition, fold-Condition}
use Rattle.flame_spec.specs.declared.conditions.Condition.TheOpen.{Condition-F}
use Rattle.flame_spec.specs.declared.models.Model.{Model}
use Rattle.flame_spec.specs.declared.models.TimeUnit.{TimeUnit}
use Rattle.flame_spec.specs.declared.models.Variable.{Variable}
use Rattle.flame_spec.specs.declared.models.MessageType.{MessageType}
use Rattle.flame_spec.specs.declared.models.AgentType.{AgentType}
use Rattle.flame_spec.specs.declared.models.Function.{Function}
use Rattle.flame_spec.specs.declared.models.Input.{Input}
use Rattle.flame_spec.specs.declared.models.Sort.{Sort}
use Rattle.flame_spec.specs.Names.{is_filled, is_name}

-- a number in the range of int: -2147483648 to 2147483647 [C, 6.2.5, of 32 bits]
abbrev pub is_int : ℤ → Bool
is_int number = int_le (negsuc 2147483647) number && int_le number (pos 2147483647)

-- a number from 1 to 2147483647 [own]
abbrev pub is_positive_int : ℤ → Bool
is_positive_int number = int_le (pos 1) number && int_le number (pos 2147483647)

-- an operator that compares [XMML]
abbrev pub is_comparison : Op → Bool
is_comparison Eq = true
is_comparison Ne = true
is_comparison Lt = true
is_comparison Gt = true
is_comparison Le = true
is_comparison Ge = true
is_comparison _ = false

-- a number in the range of int, or a variable by its name [XMML]
abbrev pub is_well_formed_operand : Operand → Bool
is_well_formed_operand (Number number) = is_int number
is_well_formed_operand (Agent name) = is_name name
is_well_formed_operand (Message name) = is_name name

-- a number in the range of int, or a variable of the agent [XMML]
abbrev pub is_well_formed_phase : Operand → Bool
is_well_formed_phase (Number number) = is_int number
is_well_formed_phase (Agent name) = is_name name
is_well_formed_phase (Message name) = false

-- a form of a condition whose parts are well formed; `timed` tells whether a time condition may stand there [XMML]
abbrev pub well_formed_step : Bool → Condition-F Bool → Bool
well_formed_step timed (Condition-F.Compare op left right) =
    is_comparison op && (is_well_formed_operand left && is_well_formed_operand right)
well_formed_step timed (Condition-F.And left right) = left && right
well_formed_step timed (Condition-F.Or left right) = left && right
well_formed_step timed (Condition-F.Not part) = part
well_formed_step timed (Condition-F.Time period phase duration) =
    timed && (is_name period && (is_well_formed_phase phase && is_positive_int duration))

-- a condition [XMML]
abbrev pub is_well_formed_condition : Condition → Bool
is_well_formed_condition = fold-Condition Bool (well_formed_step true)

-- a filter: a condition without a time condition [XMML]
abbrev pub is_well_formed_filter : Condition → Bool
is_well_formed_filter = fold-Condition Bool (well_formed_step false)

-- a time unit [XMML]
abbrev pub is_well_formed_unit : TimeUnit → Bool
is_well_formed_unit unit = is_name unit.name && (is_name unit.unit && is_positive_int unit.period)

-- the length of an array: 1 to 1000 [own]
abbrev pub is_array_length : ℕ → Bool
is_array_length length = nat_le 1 length && nat_le length 1000

-- a variable: a single one, or an array [XMML]
abbrev pub is_well_formed_variable : Variable → Bool
is_well_formed_variable variable = is_name variable.name && option_map_or is_array_length variable.length true

-- a message type [XMML]
abbrev pub is_well_formed_message : MessageType → Bool
is_well_formed_message message = is_name message.name && list_all is_well_formed_variable message.variables

-- a sort of an input [XMML]
abbrev pub is_well_formed_sort : Sort → Bool
is_well_formed_sort sort = is_name sort.key

-- an input of a function [XMML]
abbrev pub is_well_formed_input : Input → Bool
is_well_formed_input input =
    is_name input.message
    && (option_map_or is_well_formed_filter input.filter true
    && option_map_or is_well_formed_sort input.sort true)

-- a function [XMML]
abbrev pub is_well_formed_function : Function → Bool
is_well_formed_function function =
    is_name function.name
    && (is_filled function.current
    && (is_filled function.next
    && (option_map_or is_well_formed_condition function.condition true
    && (list_all is_well_formed_input function.inputs
    && list_all is_name function.outputs))))

-- an agent type [XMML]
abbrev pub is_well_formed_agent : AgentType → Bool
is_well_formed_agent agent =
    is_name agent.name
    && (list_all is_well_formed_variable agent.memory
    && list_all is_well_formed_function agent.functions)

-- a model [XMML]
abbrev pub is_well_formed : Model → Bool
is_well_formed model =
    list_all is_name model.constants
    && (list_all is_filled model.files
    && (list_all is_well_formed_unit model.units
    && (list_all is_well_formed_message model.messages
    && list_all is_well_formed_agent model.agents)))
