-- What the words of a function's body stand for, by number. A word goes by the look-up of its kind. There is a plain
-- default for a word that stands for nothing, which a body without check faults does not have.
use Rattle.std.specs.Prelude.{ℕ, List, [], ◌∷◌, length, Option, Some, None, if◌then◌else◌}
use Rattle.std.specs.Str.{bytes_eq}
use Rattle.flame_spec.specs.declared.models.Variable.{Variable}
use Rattle.flame_spec.specs.CallFaults.{Deed, sets, sends, bears, calls, deed_of}
use Rattle.flame_spec.specs.Definitions.{helper_named}
use Rattle.flame_spec.specs.ExpressionFaults.{member_read}
use Rattle.flame_spec.specs.LookUps.{Given, in_memory, constant, iteration, memory_got, message_read, message_looped}
use Rattle.flame_spec.specs.Scopes.{Context, Sight, names_seen, memory_at, messages_at, given_at, input_found}
use Rattle.flame_spec.specs.Columns.{elements}
use Rattle.flame_body.specs.declared.slots.Cells.{Cells}
use Rattle.flame_body.specs.declared.slots.Slot.{Slot}
use Rattle.flame_body.specs.declared.slots.Slot.TheVariants.{Local, Memory, Constant, Iteration}
use Rattle.flame_body.specs.declared.slots.SlotDeed.{SlotDeed}
use Rattle.flame_body.specs.declared.slots.SlotDeed.TheVariants.{Sets, Sends, Bears, Calls}
use Rattle.flame_body.specs.declared.slots.SlotTarget.{SlotTarget}
use Rattle.flame_body.specs.declared.slots.SlotTarget.TheVariants as target
use Rattle.flame_body.specs.declared.slots.Span.{Span}

-- ---- names

-- the number of the newest local of this name, where there is one: how many were declared before it. The names of the
-- locals stand here with the newest first, those that an inner name hides with them [C, 6.2.1; own]
abbrev pub local_number : List (List ℕ) → List ℕ → Option ℕ
local_number [] word = None
local_number (name ∷ older) word = if bytes_eq name word then Some (length older) else local_number older word

-- what the model gives to a word; of nothing the number of the iteration [FLAME User Manual; of nothing: own]
abbrev pub slot_given : Option Given → Slot
slot_given None = Iteration
slot_given (Some (in_memory column variable)) = Memory (record { column = column; length = variable.length })
slot_given (Some (constant number)) = Constant number
slot_given (Some iteration) = Iteration

-- the local of this number, or without one what the model gives [C, 6.2.1]
abbrev pub slot_or_given : Option ℕ → Option Given → Slot
slot_or_given (Some number) given = Local number
slot_or_given None given = slot_given given

-- what a name stands for at a place: the newest local, or else what the model gives to it [C, 6.2.1; FLAME User Manual]
abbrev pub slot_at : Context → Sight → List ℕ → Slot
slot_at context sight word = slot_or_given (local_number (names_seen sight) word) (given_at context word)

-- ---- what is assigned to

-- the column of the memory variable that the model gives; of another meaning or none the first [FLAME User Manual; own]
abbrev pub column_given : Option Given → ℕ
column_given (Some (in_memory column variable)) = column
column_given _ = 0

-- the local of this number, or without one the memory variable that the model gives [C, 6.2.1; FLAME User Manual]
abbrev pub target_or_given : Option ℕ → Option Given → SlotTarget
target_or_given (Some number) given = target.Local number
target_or_given None given = target.Memory (column_given given)

-- what an assignment to a name without an index assigns to [C, 6.5.16; FLAME User Manual]
abbrev pub target_at : Context → Sight → List ℕ → SlotTarget
target_at context sight word = target_or_given (local_number (names_seen sight) word) (given_at context word)

-- ---- arrays

-- where the array stands that was found; of none no element of the first column [own]
abbrev pub cells_found : Option (ℕ × Variable) → Cells
cells_found None = record { column = 0; length = 0 }
cells_found (Some found) = record { column = found.0; length = elements found.1.length }

-- where the array stands that the model gives [own]
abbrev pub cells_given : Option Given → Cells
cells_given (Some (in_memory column variable)) = cells_found (Some (column, variable))
cells_given _ = cells_found None

-- where the array of the memory stands that a name with an index names [C, 6.5.2.1; FLAME User Manual]
abbrev pub cells_at : Context → List ℕ → Cells
cells_at context word = cells_given (given_at context word)

-- where the array stands that `word->variable` names, with an index [C, 6.5.2.1; FLAME User Manual]
abbrev pub field_cells : Context → List ℕ → List ℕ → Cells
field_cells context word variable = cells_found (member_read context word variable)

-- ---- variables of rows

-- where a variable stands that was found; of none the first column [own]
abbrev pub span_found : Option (ℕ × Variable) → Span
span_found None = record { column = 0; length = None }
span_found (Some found) = record { column = found.0; length = found.1.length }

-- where the variable stands that `word->variable` reads [FLAME User Manual]
abbrev pub field_span : Context → List ℕ → List ℕ → Span
field_span context word variable = span_found (member_read context word variable)

-- the column of the memory variable x that `get_x()` reads [FLAME User Manual]
abbrev pub got_column : Context → List ℕ → ℕ
got_column context word = (span_found (memory_got (memory_at context) word)).column

-- ---- inputs

-- the number of what was found; of nothing the first [own]
abbrev pub number_found : {X : Type 0} → Option (ℕ × X) → ℕ
number_found None = 0
number_found (Some found) = found.0

-- the number of the input whose row the word `m_message` reads [FLAME User Manual]
abbrev pub input_read : Context → List ℕ → ℕ
input_read context word = number_found (input_found context.runs (message_read (messages_at context) word))

-- the number of the input that a loop goes over that is named so [FLAME User Manual]
abbrev pub input_looped : Context → List ℕ → ℕ
input_looped context word = number_found (input_found context.runs (message_looped (messages_at context) word))

-- ---- calls

-- what a call on this line does; of nothing a call of the first helper [FLAME User Manual; helpers and of nothing: own]
abbrev pub deed_slot : ℕ → Option Deed → SlotDeed
deed_slot line None = Calls line 0
deed_slot line (Some (sets column variable)) = Sets column
deed_slot line (Some (sends number message)) = Sends number
deed_slot line (Some (bears number type)) = Bears number
deed_slot line (Some (calls number helper)) = Calls line number

-- what a call statement of the word does [FLAME User Manual; helpers: own]
abbrev pub deed_at : Context → ℕ → List ℕ → SlotDeed
deed_at context line word = deed_slot line (deed_of context word)

-- the number of the helper that is called as a value [own]
abbrev pub helper_at : Context → List ℕ → ℕ
helper_at context word = number_found (helper_named context.helpers word)
