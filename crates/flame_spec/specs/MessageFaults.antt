-- Faults of the names of constants, messages and their variables, and of the widths of rows.
use Rattle.std.specs.Prelude.{ℕ, ◌+◌, nat_lt, List, ◌++◌, take, codes, Bool, ◌&&◌}
use Rattle.flame_spec.specs.declared.faults.NameFault.{NameFault}
use Rattle.flame_spec.specs.declared.faults.NameKind.TheVariants.{Duplicate, Clash, TooWide}
use Rattle.flame_spec.specs.declared.models.Variable.{Variable}
use Rattle.flame_spec.specs.declared.models.MessageType.{MessageType}
use Rattle.flame_spec.specs.Lists.{each}
use Rattle.flame_spec.specs.Columns.{width, width_of, is_array}
use Rattle.flame_spec.specs.KnownNames.{is_among, variable_names, message_names}
use Rattle.flame_spec.specs.Capitals.{clashes}
use Rattle.flame_spec.specs.Paths.{at_key, at_number}
use Rattle.flame_spec.specs.Refusals.{fault_where}

-- no earlier one has this name, nor another name that is equal to it in capitals [own]
abbrev pub apart_faults : List (List ℕ) → List ℕ → List ℕ → List NameFault
apart_faults earlier path name =
    fault_where (is_among name earlier) Duplicate path name ++ fault_where (clashes name earlier) Clash path name

-- the faults of the constants of the list at this path [own]
abbrev pub constant_faults : List ℕ → List (List ℕ) → List NameFault
constant_faults path constants =
    each (λ i name. apart_faults (take i constants) (at_key (at_number path i) (codes "name")) name) constants

-- an array with which a row is wider than 4,096 numbers, behind these variables; single variables count into the width,
-- but are not tested [own]
abbrev pub is_too_wide : List Variable → Variable → Bool
is_too_wide earlier variable = is_array variable && nat_lt 4096 (width earlier + width_of variable)

-- an array at this path must not make the row too wide [own]
abbrev pub width_faults : List Variable → List ℕ → Variable → List NameFault
width_faults earlier path variable =
    fault_where (is_too_wide earlier variable) TooWide (at_key path (codes "length")) variable.name

-- no earlier variable of the message has its name, and it does not make the row too wide [own]
abbrev pub variable_faults : List Variable → List ℕ → Variable → List NameFault
variable_faults earlier path variable =
    fault_where (is_among variable.name (variable_names earlier)) Duplicate (at_key path (codes "name")) variable.name
    ++ width_faults earlier path variable

-- the faults of the variables of the list at this path [own]
abbrev pub variables_faults : List ℕ → List Variable → List NameFault
variables_faults path variables =
    each (λ i variable. variable_faults (take i variables) (at_number path i) variable) variables

-- the faults of a message at this path behind the earlier ones, and then of its variables [own]
abbrev pub message_faults : List (List ℕ) → List ℕ → MessageType → List NameFault
message_faults earlier path message =
    apart_faults earlier (at_key path (codes "name")) message.name
    ++ variables_faults (at_key path (codes "variables")) message.variables

-- the faults of the messages of the list at this path [own]
abbrev pub messages_faults : List ℕ → List MessageType → List NameFault
messages_faults path messages =
    each (λ i message. message_faults (message_names (take i messages)) (at_number path i) message) messages
