-- What the words of function files stand for: one look-up for each kind of word, which gives what was found, with its
-- number or its column. Check faults and the meaning of functions both go by them.
use Rattle.std.specs.Prelude.{ℕ, List, ◌++◌, codes, Bool, Option, Some, None, if◌then◌else◌}
use Rattle.std.specs.Str.{bytes_eq}
use Rattle.flame_spec.specs.declared.models.AgentType.{AgentType}
use Rattle.flame_spec.specs.declared.models.Function.{Function}
use Rattle.flame_spec.specs.declared.models.Input.{Input}
use Rattle.flame_spec.specs.declared.models.MessageType.{MessageType}
use Rattle.flame_spec.specs.declared.models.Variable.{Variable}
use Rattle.flame_ops.specs.Ascii.{capitals}
use Rattle.flame_spec.specs.Columns.{columned_where}
use Rattle.flame_spec.specs.Lists.{numbered_where}

-- ---- names

-- the memory variable that the word is in capitals, with its column [FLAME User Manual]
abbrev pub memory_named : List Variable → List ℕ → Option (ℕ × Variable)
memory_named memory word = columned_where (λ variable. bytes_eq (capitals variable.name) word) memory

-- the constant that the word is in capitals, with its number [FLAME User Manual]
abbrev pub constant_named : List (List ℕ) → List ℕ → Option (ℕ × List ℕ)
constant_named constants word = numbered_where (λ constant. bytes_eq (capitals constant) word) constants

-- the word is `iteration_loop`, which reads the number of the iteration [FLAME User Manual]
abbrev pub is_iteration : List ℕ → Bool
is_iteration word = bytes_eq (codes "iteration_loop") word

-- what a model gives to a word that is no local: a memory variable with its column, a constant by its number, or the
-- number of the iteration [FLAME User Manual]
pub data Given : Type 0 where
  in_memory : ℕ → Variable → Given
  constant : ℕ → Given
  iteration : Given

-- what the word stands for where it is no memory variable [FLAME User Manual]
abbrev pub given_beside : Option (ℕ × List ℕ) → List ℕ → Option Given
given_beside (Some found) word = Some (constant found.0)
given_beside None word = if is_iteration word then Some iteration else None

-- what the word stands for, where this memory variable was found, or none [FLAME User Manual]
abbrev pub given_by : Option (ℕ × Variable) → List (List ℕ) → List ℕ → Option Given
given_by (Some found) constants word = Some (in_memory found.0 found.1)
given_by None constants word = given_beside (constant_named constants word) word

-- what the word stands for with this memory and these constants [FLAME User Manual]
abbrev pub given : List Variable → List (List ℕ) → List ℕ → Option Given
given memory constants word = given_by (memory_named memory word) constants word

-- ---- forms of calls and fields

-- the memory variable that the word gets: the word is `get_` and its name [FLAME User Manual]
abbrev pub memory_got : List Variable → List ℕ → Option (ℕ × Variable)
memory_got memory word = columned_where (λ variable. bytes_eq (codes "get_" ++ variable.name) word) memory

-- the memory variable that the word sets: the word is `set_` and its name [FLAME User Manual]
abbrev pub memory_set : List Variable → List ℕ → Option (ℕ × Variable)
memory_set memory word = columned_where (λ variable. bytes_eq (codes "set_" ++ variable.name) word) memory

-- the message that the word sends: the word is `add_`, its name and `_message` [FLAME User Manual]
abbrev pub message_sent : List MessageType → List ℕ → Option (ℕ × MessageType)
message_sent messages word =
    numbered_where (λ message. bytes_eq (codes "add_" ++ (message.name ++ codes "_message")) word) messages

-- the type of the agent that the word bears: the word is `add_`, its name and `_agent` [FLAME User Manual]
abbrev pub agent_born : List AgentType → List ℕ → Option (ℕ × AgentType)
agent_born types word = numbered_where (λ type. bytes_eq (codes "add_" ++ (type.name ++ codes "_agent")) word) types

-- the message whose row the word reads: the word is its name and `_message` [FLAME User Manual]
abbrev pub message_read : List MessageType → List ℕ → Option (ℕ × MessageType)
message_read messages word = numbered_where (λ message. bytes_eq (message.name ++ codes "_message") word) messages

-- ---- message loops

-- the message that a loop named so goes over: the name is that of the message in capitals [FLAME User Manual]
abbrev pub message_looped : List MessageType → List ℕ → Option (ℕ × MessageType)
message_looped messages word = numbered_where (λ message. bytes_eq (capitals message.name) word) messages

-- the input by which the function reads the message [XMML]
abbrev pub input_of : Function → MessageType → Option (ℕ × Input)
input_of function message = numbered_where (λ input. bytes_eq input.message message.name) function.inputs
