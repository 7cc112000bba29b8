-- What the tables of a model declare.
use Rattle.std.proofs.Common.{◌≡◌, ℕ, ℤ, List, [], ◌∷◌, map, cond, refl, ap, ◌∙◌, Bool, true, false, Option, Some, unwrap_or}
use Rattle.std.specs.Str.{bytes_eq}
use Rattle.flame_spec.specs.declared.models.Model.{Model}
use Rattle.flame_spec.specs.declared.models.MessageType.{MessageType}
use Rattle.flame_spec.specs.declared.models.Variable.{Variable}
use Rattle.flame_ops.specs.Ascii.{capitals}
use Rattle.flame_spec.specs.KnownNames.{unit_names, variables_in, DeclaredNames, declared_by}
use Rattle.flame_names.specs.NameLooks.{message_entry}
use Rattle.flame_name_sets.specs.NameTables.{look, names_of}
use Rattle.flame_names.proofs.MessageNames.{names_of-messages}

unwrap_choice : {X : Type 0} (b : Bool) (x d : X) (o : Option X)
    → unwrap_or (cond b (Some x) o) d ≡ cond b x (unwrap_or o d)
unwrap_choice true x d o = refl
unwrap_choice false x d o = refl

-- the variables of a message, by the table
variables_in-look : (name : List ℕ) (messages : List MessageType)
    → unwrap_or (look name (map message_entry messages)) [] ≡ variables_in messages name
variables_in-look name [] = refl
variables_in-look name (message ∷ messages) =
    unwrap_choice
    (bytes_eq name message.name)
    message.variables
    []
    (look name (map message_entry messages))
    ∙ ap (cond (bytes_eq name message.name) message.variables) (variables_in-look name messages)

-- the tables of a model declare what it declares
pub declared-is : (constants : List (List ℕ)) (units : List (List ℕ × ℤ)) (messages : List (List ℕ × List Variable))
    (model : Model)
    → constants ≡ map capitals model.constants
    → names_of units ≡ unit_names model.units
    → messages ≡ map message_entry model.messages
    → (let d : DeclaredNames = record {
      constants = constants;
      units = names_of units;
      messages = names_of messages;
      variables = λ name. unwrap_or (look name messages) [];
    } in d)
    ≡ declared_by model
declared-is constants units messages model c u m =
    let names = ap names_of m ∙ names_of-messages model.messages in
    let each : (name : List ℕ) → unwrap_or (look name messages) [] ≡ variables_in model.messages name =
    λ name. ap (λ table. unwrap_or (look name table) []) m ∙ variables_in-look name model.messages in
    λ i. record { constants = c i; units = u i; messages = names i; variables = λ name. each name i }
