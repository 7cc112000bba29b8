-- What is looked up in tables.
use Rattle.std.specs.Prelude.{ℕ, ◌&&◌, Bool, List}
use Rattle.std.specs.Str.{bytes_eq}
use Rattle.flame_spec.specs.declared.models.Function.{Function}
use Rattle.flame_spec.specs.declared.models.MessageType.{MessageType}
use Rattle.flame_spec.specs.declared.models.Variable.{Variable}

-- a message's name with its variables [own]
abbrev pub message_entry : MessageType → List ℕ × List Variable
message_entry message = (message.name, message.variables)

-- a function's name and its states [own]
abbrev pub transition_of : Function → List ℕ × List ℕ × List ℕ
transition_of function = (function.name, function.current, function.next)

-- the same name and the same states [own]
abbrev pub is_same_transition : List ℕ × List ℕ × List ℕ → List ℕ × List ℕ × List ℕ → Bool
is_same_transition one other = bytes_eq one.0 other.0 && (bytes_eq one.1 other.1 && bytes_eq one.2 other.2)
