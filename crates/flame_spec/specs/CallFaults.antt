-- The faults of a call, in source order: of a call statement, and of a call of a helper as a value.
use Rattle.std.specs.Prelude.{ℕ, ◌+◌, ◌==◌, List, [], ◌∷◌, ◌++◌, length, map, Bool, true, false, not, ◌&&◌}
use Rattle.std.specs.Prelude.{Option, Some, None, is_some, option_map, if◌then◌else◌}
use Rattle.flame_spec.specs.declared.models.AgentType.{AgentType}
use Rattle.flame_spec.specs.declared.models.MessageType.{MessageType}
use Rattle.flame_spec.specs.declared.models.Variable.{Variable}
use Rattle.flame_spec.specs.declared.faults.CheckFault.{CheckFault}
use Rattle.flame_spec.specs.declared.faults.CheckKind.TheVariants.{UnknownCall, WrongCount, NotOutput, NeedsIndex, WrongLength}
use Rattle.flame_spec.specs.Columns.{is_array}
use Rattle.flame_spec.specs.Definitions.{Definition, helper_named}
use Rattle.flame_spec.specs.Functions.{Place}
use Rattle.flame_spec.specs.KnownNames.{is_among}
use Rattle.flame_spec.specs.LookUps.{Given, in_memory, memory_got, memory_set, message_sent, agent_born}
use Rattle.flame_spec.specs.Trees.{Expression, name, field, get, Expressions, no_parts, part}
use Rattle.flame_spec.specs.Scopes.{Context, Sight, memory_at, given_at}
use Rattle.flame_spec.specs.ExpressionFaults.{fault_where, unknown_faults, getter_faults, row_faults, member_read}
use Rattle.flame_spec.specs.ExpressionFaults.{expression_faults, parts_faults}

-- what a call statement does: it sets a memory variable, by its column; sends a message or bears an agent, by the number
-- of its type; or calls a helper, by its number [FLAME User Manual; helpers: own]
pub data Deed : Type 0 where
  sets : ℕ → Variable → Deed
  sends : ℕ → MessageType → Deed
  bears : ℕ → AgentType → Deed
  calls : ℕ → Definition → Deed

-- ---- what a word does

-- to call a helper, if there is one [own]
abbrev pub called_by : Option (ℕ × Definition) → Option Deed
called_by found = option_map (λ h. calls h.0 h.1) found

-- what a form that adds does there: a helper adds nothing [FLAME User Manual; own]
abbrev pub added_in : Option Place → Deed → Option Deed
added_in None deed = None
added_in (Some place) deed = Some deed

-- what a word of none of the forms before does: it bears an agent, or calls a helper [FLAME User Manual; own]
abbrev pub born_or_called : Context → Option (ℕ × AgentType) → List ℕ → Option Deed
born_or_called context (Some found) word = added_in context.runs (bears found.0 found.1)
born_or_called context None word = called_by (helper_named context.helpers word)

-- what a word that sets no variable does [FLAME User Manual; own]
abbrev pub sent_or_else : Context → Option (ℕ × MessageType) → List ℕ → Option Deed
sent_or_else context (Some found) word = added_in context.runs (sends found.0 found.1)
sent_or_else context None word = born_or_called context (agent_born context.model.agents word) word

-- what a word does, where this variable was found that it sets, or none [FLAME User Manual; own]
abbrev pub set_or_else : Context → Option (ℕ × Variable) → List ℕ → Option Deed
set_or_else context (Some found) word = Some (sets found.0 found.1)
set_or_else context None word = sent_or_else context (message_sent context.model.messages word) word

-- what a call statement of the word does; the three forms of the model come before helpers, and a word that adds is one
-- of them in a helper too, which may not add [FLAME User Manual; own]
abbrev pub deed_of : Context → List ℕ → Option Deed
deed_of context word = set_or_else context (memory_set (memory_at context) word) word

-- ---- arguments

-- the variables whose values the arguments are, one each, where it sets or adds something [FLAME User Manual]
abbrev pub places_of : Deed → List Variable
places_of (sets column variable) = variable ∷ []
places_of (sends number message) = message.variables
places_of (bears number type) = type.memory
places_of (calls number helper) = []

-- how many arguments it takes: one; one for each declared variable; or one for each parameter
-- [FLAME User Manual; C, 6.5.2.2]
abbrev pub wanted : Deed → ℕ
wanted (sets column variable) = 1
wanted (sends number message) = length message.variables
wanted (bears number type) = length type.memory
wanted (calls number helper) = length helper.parameters

-- the number of the arguments [own]
abbrev pub count : Expressions → ℕ
count no_parts = 0
count (part e parts) = 1 + count parts

-- the length of a variable that was found, where it is an array [own]
abbrev pub length_found : Option (ℕ × Variable) → Option ℕ
length_found None = None
length_found (Some found) = found.1.length

-- the length of the array that the model gives, where it gives one [own]
abbrev pub length_given : Option Given → Option ℕ
length_given (Some (in_memory column variable)) = variable.length
length_given _ = None

-- the length of the array that an argument is: an array of the memory in capitals, or one of a message's row [own]
abbrev pub length_of_argument : Context → Expression → Option ℕ
length_of_argument context (name line word) = length_given (given_at context word)
length_of_argument context (field line word variable) = length_found (member_read context word variable)
length_of_argument context _ = None

-- it is that length [own]
abbrev pub is_length : ℕ → Option ℕ → Bool
is_length length None = false
is_length length (Some other) = other == length

-- the faults of an argument's form, where an array may stand without an index [own]
abbrev pub whole_faults : Context → Sight → Expression → List CheckFault
whole_faults context sight (name line word) = unknown_faults context sight line word
whole_faults context sight (field line word variable) = row_faults context sight line word variable
whole_faults context sight (get line word) = getter_faults context (memory_got (memory_at context) word) line word
whole_faults context sight e = expression_faults context sight e

-- an argument of the call of this word, for a single variable or for an array of this length [own]
abbrev pub argument_faults : Context → Sight → ℕ → List ℕ → Option ℕ → Expression → List CheckFault
argument_faults context sight line word None e = expression_faults context sight e
argument_faults context sight line word (Some length) e =
    whole_faults context sight e
    ++ fault_where (not (is_length length (length_of_argument context e))) context WrongLength line word

-- the arguments of the call of this word, from left to right, each for its variable; those beyond the variables are
-- values [own]
abbrev pub arguments_faults : Context → Sight → ℕ → List ℕ → List Variable → Expressions → List CheckFault
arguments_faults context sight line word variables no_parts = []
arguments_faults context sight line word [] (part e parts) = parts_faults context sight (part e parts)
arguments_faults context sight line word (variable ∷ variables) (part e parts) =
    argument_faults context sight line word variable.length e
    ++ arguments_faults context sight line word variables parts

-- ---- calls

-- it sets an array [own]
abbrev pub sets_array : Deed → Bool
sets_array (sets column variable) = is_array variable
sets_array _ = false

-- the message is no output of the function of this place [XMML]
abbrev pub is_no_output : Option Place → MessageType → Bool
is_no_output None message = true
is_no_output (Some place) message = not (is_among message.name place.function.outputs)

-- it sends a message that is no output of the function [XMML]
abbrev pub sends_no_output : Context → Deed → Bool
sends_no_output context (sends number message) = is_no_output context.runs message
sends_no_output context _ = false

-- a call statement of this word that does this, or nothing: the call itself, then its arguments [own]
abbrev pub deed_faults : Context → Sight → Option Deed → ℕ → List ℕ → Expressions → List CheckFault
deed_faults context sight None line word arguments =
    fault_where true context UnknownCall line word ++ parts_faults context sight arguments
deed_faults context sight (Some deed) line word arguments =
    fault_where (sets_array deed) context NeedsIndex line word
    ++ fault_where (not (count arguments == wanted deed)) context WrongCount line word
    ++ fault_where (sends_no_output context deed) context NotOutput line word
    ++ arguments_faults context sight line word (places_of deed) arguments

-- a call statement [own]
abbrev pub call_faults : Context → Sight → ℕ → List ℕ → Expressions → List CheckFault
call_faults context sight line word arguments = deed_faults context sight (deed_of context word) line word arguments

-- a call as a value, which names a helper [own]
abbrev pub called_faults : Context → Sight → ℕ → List ℕ → Expressions → List CheckFault
called_faults context sight line word arguments =
    deed_faults context sight (called_by (helper_named context.helpers word)) line word arguments
