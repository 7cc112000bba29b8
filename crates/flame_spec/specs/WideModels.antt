-- Model files with data types and nested files: which are well formed, and which have parts that can be numbered.
use Rattle.std.specs.Prelude.{Bool, true, ◌&&◌}
use Rattle.std.specs.List.{list_all}
use Rattle.std.specs.Option.{option_map_or}
use Rattle.flame_spec.specs.declared.wide.Wide.{Wide}
use Rattle.flame_spec.specs.declared.wide.WideVariable.{WideVariable}
use Rattle.flame_spec.specs.declared.wide.DataType.{DataType}
use Rattle.flame_spec.specs.declared.wide.WideMessage.{WideMessage}
use Rattle.flame_spec.specs.declared.wide.WideAgent.{WideAgent}
use Rattle.flame_spec.specs.Names.{is_filled, is_name}
use Rattle.flame_spec.specs.WellFormed.{is_array_length, is_well_formed_unit, is_well_formed_function}
use Rattle.flame_spec.specs.Counted.{is_numbered, is_counted_function}

-- ---- well formed

-- a variable of `int` or of a data type: a single one, or an array [XMML]
abbrev pub is_well_formed_wide_variable : WideVariable → Bool
is_well_formed_wide_variable variable =
    is_name variable.name
    && (is_name variable.kind
    && option_map_or is_array_length variable.length true)

-- a data type [XMML]
abbrev pub is_well_formed_type : DataType → Bool
is_well_formed_type type = is_name type.name && list_all is_well_formed_wide_variable type.variables

-- a message type [XMML]
abbrev pub is_well_formed_wide_message : WideMessage → Bool
is_well_formed_wide_message message = is_name message.name && list_all is_well_formed_wide_variable message.variables

-- an agent type [XMML]
abbrev pub is_well_formed_wide_agent : WideAgent → Bool
is_well_formed_wide_agent agent =
    is_name agent.name
    && (list_all is_well_formed_wide_variable agent.memory
    && list_all is_well_formed_function agent.functions)

-- a model file [XMML]
abbrev pub is_well_formed_wide : Wide → Bool
is_well_formed_wide wide =
    list_all is_name wide.constants
    && (list_all is_filled wide.files
    && (list_all is_well_formed_unit wide.units
    && (list_all is_well_formed_type wide.types
    && (list_all is_well_formed_wide_message wide.messages
    && (list_all is_well_formed_wide_agent wide.agents
    && list_all is_filled wide.nested)))))

-- ---- parts that can be numbered with 32 bits

-- a data type: its variables [own]
abbrev pub is_counted_type : DataType → Bool
is_counted_type type = is_numbered type.variables

-- a message type: its variables [own]
abbrev pub is_counted_wide_message : WideMessage → Bool
is_counted_wide_message message = is_numbered message.variables

-- an agent type: its variables, its functions, and each of these [own]
abbrev pub is_counted_wide_agent : WideAgent → Bool
is_counted_wide_agent agent =
    is_numbered agent.memory
    && (is_numbered agent.functions
    && list_all is_counted_function agent.functions)

-- a model file: each of its lists, and the lists of each of their members [own]
abbrev pub is_counted_wide : Wide → Bool
is_counted_wide wide =
    is_numbered wide.constants
    && (is_numbered wide.files
    && (is_numbered wide.units
    && (is_numbered wide.types
    && (list_all is_counted_type wide.types
    && (is_numbered wide.messages
    && (list_all is_counted_wide_message wide.messages
    && (is_numbered wide.agents
    && (list_all is_counted_wide_agent wide.agents
    && is_numbered wide.nested))))))))
