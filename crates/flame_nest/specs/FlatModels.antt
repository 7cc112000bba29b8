-- The flat model of model files: their lists are joined, and each variable of a data type is replaced by its fields.
use Rattle.std.specs.Prelude.{ℕ, List, [], ◌∷◌, ◌++◌, map, codes, not, if◌then◌else◌}
use Rattle.std.specs.List.{filter, flat_map, fold}
use Rattle.std.specs.Str.{bytes_eq}
use Rattle.flame_spec.specs.declared.models.Model.{Model}
use Rattle.flame_spec.specs.declared.models.Variable.{Variable}
use Rattle.flame_spec.specs.declared.models.MessageType.{MessageType}
use Rattle.flame_spec.specs.declared.models.AgentType.{AgentType}
use Rattle.flame_spec.specs.declared.wide.Wide.{Wide}
use Rattle.flame_spec.specs.declared.wide.WideVariable.{WideVariable}
use Rattle.flame_spec.specs.declared.wide.DataType.{DataType}
use Rattle.flame_spec.specs.declared.wide.WideMessage.{WideMessage}
use Rattle.flame_spec.specs.declared.wide.WideAgent.{WideAgent}
use Rattle.flame_spec.specs.KnownNames.{is_among}

-- ---- lists of all files

-- those members of a list whose name none of the earlier ones has [own]
abbrev pub new_behind : {X : Type 0} → (X → List ℕ) → List X → List X → List X
new_behind name_of earlier members = filter (λ member. not (is_among (name_of member) (map name_of earlier))) members

-- the earlier ones, and those members of a list whose name none of these has [own]
abbrev pub with_new : {X : Type 0} → (X → List ℕ) → List X → List X → List X
with_new name_of earlier members = earlier ++ new_behind name_of earlier members

-- such lists of all files, one after another: a member is passed over whose name an earlier file has given [own]
abbrev pub joined_once : {X : Type 0} → (X → List ℕ) → (Wide → List X) → List Wide → List X
joined_once name_of list_of wides = fold (λ joined wide. with_new name_of joined (list_of wide)) [] wides

-- the data types of all files [own]
abbrev pub joined_types : List Wide → List DataType
joined_types wides = joined_once (λ type. type.name) (λ wide. wide.types) wides

-- the messages of all files [own]
abbrev pub joined_messages : List Wide → List WideMessage
joined_messages wides = joined_once (λ message. message.name) (λ wide. wide.messages) wides

-- the function files of all files [own]
abbrev pub joined_files : List Wide → List (List ℕ)
joined_files wides = joined_once (λ name. name) (λ wide. wide.files) wides

-- ---- variables of data types

-- the field inside the variable: it is named by the variable's name, `_` and the field's name [own]
abbrev pub inside : WideVariable → WideVariable → WideVariable
inside variable field =
    record { name = variable.name ++ (codes "_" ++ field.name); kind = field.kind; length = field.length }

-- a variable of this data type is replaced by its fields in order [own]
abbrev pub replaced : DataType → WideVariable → List WideVariable
replaced type variable =
    if bytes_eq variable.kind type.name then map (inside variable) type.variables else variable ∷ []

-- the variables, after those of the last of these data types were replaced, then those of the one before it, and so on
-- to the first: where there is no fault, each field is of `int`, or of a data type that stands before [own]
abbrev pub spread : List DataType → List WideVariable → List WideVariable
spread [] variables = variables
spread (type ∷ types) variables = flat_map (replaced type) (spread types variables)

-- the variable of a flat model: its name, and the length of an array [own]
abbrev pub single : WideVariable → Variable
single variable = record { name = variable.name; length = variable.length }

-- the flat variables of these [own]
abbrev pub flat_variables : List DataType → List WideVariable → List Variable
flat_variables types variables = map single (spread types variables)

-- ---- the flat model

-- a message type [own]
abbrev pub flat_message : List DataType → WideMessage → MessageType
flat_message types message = record { name = message.name; variables = flat_variables types message.variables }

-- an agent type [own]
abbrev pub flat_agent : List DataType → WideAgent → AgentType
flat_agent types agent =
    record { name = agent.name; memory = flat_variables types agent.memory; functions = agent.functions }

-- the model that these files mean together [XMML]
abbrev pub flat : List Wide → Model
flat wides = record {
  constants = flat_map (λ wide. wide.constants) wides;
  files = joined_files wides;
  units = flat_map (λ wide. wide.units) wides;
  messages = map (flat_message (joined_types wides)) (joined_messages wides);
  agents = map (flat_agent (joined_types wides)) (flat_map (λ wide. wide.agents) wides);
}
