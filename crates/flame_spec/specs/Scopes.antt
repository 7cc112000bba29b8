-- What the places of a function's body see: the locals that are declared round them, the names that the model gives,
-- and the loops that are open.
use Rattle.std.specs.Prelude.{ℕ, List, [], ◌∷◌, ◌++◌, map, Bool, true, false, not, ◌&&◌, ◌||◌, Option, Some, None, is_some}
use Rattle.std.specs.List.{list_any}
use Rattle.std.specs.Str.{bytes_eq}
use Rattle.flame_spec.specs.declared.models.Input.{Input}
use Rattle.flame_spec.specs.declared.models.Model.{Model}
use Rattle.flame_spec.specs.declared.models.MessageType.{MessageType}
use Rattle.flame_spec.specs.declared.models.Variable.{Variable}
use Rattle.flame_spec.specs.declared.trees.Parameter.{Parameter}
use Rattle.flame_spec.specs.Definitions.{Definition}
use Rattle.flame_spec.specs.Functions.{Place}
use Rattle.flame_spec.specs.KnownNames.{is_among}
use Rattle.flame_spec.specs.LookUps.{Given, given, input_of}
use Rattle.flame_spec.specs.Trees.{Declared, Statement, declare, Statements, no_more, also}

-- where a body is checked: the model and its helpers, the function of the model that it is checked for, which a helper
-- has none of, and the number of the file that the body stands in [own]
pub record Context : Type 0 where
  pub model : Model
  pub helpers : List Definition
  pub runs : Option Place
  pub file : ℕ

-- what the words of a body go by, of a function of the model or of a helper. The number of a file is for check faults
-- alone, and 0 here [own]
abbrev pub context_for : Model → List Definition → Option Place → Context
context_for model helpers runs = record { model = model; helpers = helpers; runs = runs; file = 0 }

-- the variables that the function of this place has [FLAME User Manual]
abbrev pub memory_in : Option Place → List Variable
memory_in None = []
memory_in (Some place) = place.type.memory

-- the memory variables that the body sees: those of the function's type; a helper sees none [FLAME User Manual; own]
abbrev pub memory_at : Context → List Variable
memory_at context = memory_in context.runs

-- the messages that the function of this place knows: all of the model [FLAME User Manual]
abbrev pub messages_in : Option Place → Model → List MessageType
messages_in None model = []
messages_in (Some place) model = model.messages

-- the messages that the body knows; a helper knows none [FLAME User Manual; own]
abbrev pub messages_at : Context → List MessageType
messages_at context = messages_in context.runs context.model

-- the input by which the function of this place, where there is one, reads the message [XMML]
abbrev pub input_in : Option Place → MessageType → Option (ℕ × Input)
input_in None message = None
input_in (Some place) message = input_of place.function message

-- the input by which the function of this place reads the message that was found [XMML]
abbrev pub input_found : Option Place → Option (ℕ × MessageType) → Option (ℕ × Input)
input_found runs None = None
input_found runs (Some message) = input_in runs message.1

-- what the model gives to the word there; locals are another matter [FLAME User Manual]
abbrev pub given_at : Context → List ℕ → Option Given
given_at context word = given (memory_at context) context.model.constants word

-- a loop: over the message of this name, or over none [FLAME User Manual]
pub data Loop : Type 0 where
  over_message : List ℕ → Loop
  over_none : Loop

-- what a place sees: the locals of its scope; those of each scope round it, from the inside; the name of the item in
-- whose value the place is; the loops in whose bodies it is, from the inside [C, 6.2.1]
pub record Sight : Type 0 where
  pub scope : List (List ℕ)
  pub outer : List (List (List ℕ))
  pub own : Option (List ℕ)
  pub loops : List Loop

-- ---- where scopes and loops begin

-- what the first parameter of a function sees: a scope without locals, and no loop [C, 6.2.1]
abbrev pub at_entry : Sight
at_entry = record { scope = []; outer = []; own = None; loops = [] }

-- what a place sees at the beginning of a scope: of a block, of the body of a branch, or of a `for` [C, 6.8]
abbrev pub in_scope : Sight → Sight
in_scope sight = record sight { scope = []; outer = sight.scope ∷ sight.outer }

-- what a place sees at the beginning of the body of a loop, which is a scope [C, 6.8.5]
abbrev pub in_loop : Loop → Sight → Sight
in_loop loop sight = record sight { scope = []; outer = sight.scope ∷ sight.outer; loops = loop ∷ sight.loops }

-- what the value of the item of this name sees [own]
abbrev pub in_value_of : List ℕ → Sight → Sight
in_value_of name sight = record sight { own = Some name }

-- ---- what is declared

-- once the scope declares this name too [C, 6.2.1]
abbrev pub after_name : Sight → List ℕ → Sight
after_name sight name = record sight { scope = name ∷ sight.scope }

-- once the scope declares these parameters too; it is that of the body's block [C, 6.2.1, 6.9.1]
abbrev pub after_parameters : Sight → List Parameter → Sight
after_parameters sight [] = sight
after_parameters sight (parameter ∷ parameters) = after_parameters (after_name sight parameter.name) parameters

-- once the scope declares the names of these items too [C, 6.2.1]
abbrev pub after_items : Sight → List Declared → Sight
after_items sight [] = sight
after_items sight (item ∷ items) = after_items (after_name sight item.name) items

-- what is seen after a statement: its names where it is a declaration; those of a scope inside it end with that scope
-- [C, 6.2.1]
abbrev pub after : Sight → Statement → Sight
after sight (declare items) = after_items sight items
after sight _ = sight

-- what is seen after these statements [C, 6.2.1]
abbrev pub after_all : Sight → Statements → Sight
after_all sight no_more = sight
after_all sight (also statement statements) = after_all (after sight statement) statements

-- ---- names

-- the word is a local of the scope or of one round it [C, 6.2.1]
abbrev pub is_local : Sight → List ℕ → Bool
is_local sight word = is_among word sight.scope || list_any (is_among word) sight.outer

-- scopes laid end to end, from the inside [own]
abbrev pub laid : List (List (List ℕ)) → List (List ℕ)
laid [] = []
laid (scope ∷ scopes) = scope ++ laid scopes

-- the names that a place sees: its scope and those round it, laid end to end [own]
abbrev pub names_seen : Sight → List (List ℕ)
names_seen sight = sight.scope ++ laid sight.outer

-- the name is there and is this word [own]
abbrev pub is_name_of : Option (List ℕ) → List ℕ → Bool
is_name_of None word = false
is_name_of (Some name) word = bytes_eq name word

-- the word stands for something there: the model gives it a meaning, or it is a local; in its own value an item's name
-- stands for nothing, not even for a local of that name in a scope round it [C, 6.2.1; an item in its own value: own]
abbrev pub is_visible : Context → Sight → List ℕ → Bool
is_visible context sight word =
    not (is_name_of sight.own word) && (is_some (given_at context word) || is_local sight word)

-- ---- loops

-- the loop is over the message [FLAME User Manual]
abbrev pub is_over : MessageType → Loop → Bool
is_over message (over_message name) = bytes_eq name message.name
is_over message over_none = false

-- a loop over the message is open [FLAME User Manual]
abbrev pub is_open_over : Sight → MessageType → Bool
is_open_over sight message = list_any (is_over message) sight.loops

-- no loop is open [C, 6.8.6]
abbrev pub is_outside : List Loop → Bool
is_outside [] = true
is_outside (loop ∷ loops) = false
