-- Names, and what is declared by them.
use Rattle.std.specs.Prelude.{ℕ, List, [], ◌∷◌, map, codes, Bool, if◌then◌else◌}
use Rattle.std.specs.List.{list_any}
use Rattle.std.specs.Str.{bytes_eq}
use Rattle.flame_spec.specs.declared.models.Model.{Model}
use Rattle.flame_spec.specs.declared.models.TimeUnit.{TimeUnit}
use Rattle.flame_spec.specs.declared.models.Variable.{Variable}
use Rattle.flame_spec.specs.declared.models.MessageType.{MessageType}
use Rattle.flame_ops.specs.Ascii.{capitals}

-- it is one of these names [own]
abbrev pub is_among : List ℕ → List (List ℕ) → Bool
is_among name names = list_any (bytes_eq name) names

-- the names of variables [XMML]
abbrev pub variable_names : List Variable → List (List ℕ)
variable_names variables = map (λ variable. variable.name) variables

-- the names of units, with `iteration` in front, which each model has [XMML]
abbrev pub unit_names : List TimeUnit → List (List ℕ)
unit_names units = codes "iteration" ∷ map (λ unit. unit.name) units

-- the names of messages [XMML]
abbrev pub message_names : List MessageType → List (List ℕ)
message_names messages = map (λ message. message.name) messages

-- the variables of the message of this name; none where there is no such message [XMML]
abbrev pub variables_in : List MessageType → List ℕ → List Variable
variables_in [] name = []
variables_in (message ∷ messages) name =
    if bytes_eq name message.name then message.variables else variables_in messages name

-- what the agent types of a model find declared [own]
pub record DeclaredNames : Type 0 where
  -- the constants, in capitals
  pub constants : List (List ℕ)
  -- `iteration` and the time units
  pub units : List (List ℕ)
  -- the messages
  pub messages : List (List ℕ)
  -- the variables of the message of a name
  pub variables : List ℕ → List Variable

-- what a model declares for its agent types [own]
abbrev pub declared_by : Model → DeclaredNames
declared_by model = record {
  constants = map capitals model.constants;
  units = unit_names model.units;
  messages = message_names model.messages;
  variables = variables_in model.messages;
}
