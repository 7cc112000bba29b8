-- Models whose parts can be numbered with 32 bits: lists whose members others number are not too long for that.
use Rattle.std.specs.Prelude.{◌^◌, nat_lt, List, length, Bool, ◌&&◌}
use Rattle.std.specs.List.{list_all}
use Rattle.flame_spec.specs.declared.models.Model.{Model}
use Rattle.flame_spec.specs.declared.models.Variable.{Variable}
use Rattle.flame_spec.specs.declared.models.MessageType.{MessageType}
use Rattle.flame_spec.specs.declared.models.AgentType.{AgentType}
use Rattle.flame_spec.specs.declared.models.Function.{Function}
use Rattle.flame_spec.specs.Columns.{width}
use Rattle.flame_spec.specs.Functions.{functions}

-- fewer than 2^32 members [own]
abbrev pub is_numbered : {X : Type 0} → List X → Bool
is_numbered members = nat_lt (length members) (2 ^ 32)

-- the variables of a row: there are fewer than 2^32 of them, and of their columns [own]
abbrev pub is_counted_row : List Variable → Bool
is_counted_row variables = is_numbered variables && nat_lt (width variables) (2 ^ 32)

-- a message type: its variables [own]
abbrev pub is_counted_message : MessageType → Bool
is_counted_message message = is_counted_row message.variables

-- a function: its inputs and its outputs [own]
abbrev pub is_counted_function : Function → Bool
is_counted_function function = is_numbered function.inputs && is_numbered function.outputs

-- an agent type: its variables, its functions, and each of these [own]
abbrev pub is_counted_agent : AgentType → Bool
is_counted_agent agent =
    is_counted_row agent.memory
    && (is_numbered agent.functions
    && list_all is_counted_function agent.functions)

-- a model: its constants, function files, time units, message types and agent types, each of these, and the functions of
-- all types together [own]
abbrev pub is_counted : Model → Bool
is_counted model =
    is_numbered model.constants
    && (is_numbered model.files
    && (is_numbered model.units
    && (is_numbered model.messages
    && (list_all is_counted_message model.messages
    && (is_numbered model.agents
    && (list_all is_counted_agent model.agents
    && is_numbered (functions model)))))))
