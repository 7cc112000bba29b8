-- What filters and keys of a source's inputs were read to.
use Rattle.std.specs.Prelude.{◌≡◌, ℕ, List, Option, Some, None, slice_get, option_and_then}
use Rattle.std.specs.List.{AllZip}
use Rattle.flame_spec.specs.declared.models.AgentType.{AgentType}
use Rattle.flame_spec.specs.declared.models.Input.{Input}
use Rattle.flame_spec.specs.declared.models.MessageType.{MessageType}
use Rattle.flame_spec.specs.declared.models.Model.{Model}
use Rattle.flame_spec.specs.Functions.{Place, functions}
use Rattle.flame_cond.specs.declared.forms.Test.{Test}
use Rattle.flame_cond.specs.declared.keys.SortBy.{SortBy}
use Rattle.flame_cond.specs.Said.{IsFilterOf, IsKeyOf}
use Rattle.flame_meaning.specs.Outcomes.{message_named}
use Rattle.flame_program.specs.declared.reading.Selector.{Selector}

-- the filter and the key of an input of this type's function were read from what is written, over the message that was
-- found by the input's name; of none, as no accepted source has it, nothing is said [XMML; of none: own]
abbrev pub IsReadFrom : Option (ℕ × MessageType) → AgentType → Input → Selector → Type 0
IsReadFrom None type input selector = Unit {0}
IsReadFrom (Some found) type input selector =
    IsFilterOf selector.filter input.filter type found.1 × IsKeyOf selector.sort input.sort found.1

-- they were read in this model [XMML]
abbrev pub IsSelectorOf : Model → AgentType → Input → Selector → Type 0
IsSelectorOf model type input selector = IsReadFrom (message_named model.messages input.message) type input selector

-- those of each input of the function of this place, in order [XMML]
abbrev pub AreSelectorsOf : Model → Place → List Selector → Type 0
AreSelectorsOf model place selectors = AllZip (IsSelectorOf model place.type) place.function.inputs selectors

-- those of each function of the model, in document order [XMML]
abbrev pub AreSelectors : Model → List (List Selector) → Type 0
AreSelectors model selectors = AllZip (AreSelectorsOf model) (functions model) selectors

-- ---- of one input

-- there is an input of this number of the function of this number, and the model has the message that it reads [XMML]
pub record Reads (model : Model) (function input : ℕ) : Type 0 where
  pub place : Place
  pub there : slice_get (functions model) function ≡ Some place
  pub form : Input
  pub listed : slice_get place.function.inputs input ≡ Some form
  pub found : ℕ × MessageType
  pub message : message_named model.messages form.message ≡ Some found

-- the function of this number has no input of this number, or there is no such function [own]
abbrev pub IsNoInput : Model → ℕ → ℕ → Type 0
IsNoInput model function input =
    option_and_then (λ place. slice_get place.function.inputs input) (slice_get (functions model) function) ≡ None

-- a filter is that of the input of this number, or there is neither; where there is no such input there is none [XMML]
pub record FiltersInput (model : Model) (function input : ℕ) (filter : Option Test) : Type 0 where
  pub own : (r : Reads model function input) → IsFilterOf filter r.form.filter r.place.type r.found.1
  pub none : IsNoInput model function input → filter ≡ None

-- a key is that of the input of this number, or there is neither; where there is no such input there is none [libmboard]
pub record SortsInput (model : Model) (function input : ℕ) (sort : Option SortBy) : Type 0 where
  pub own : (r : Reads model function input) → IsKeyOf sort r.form.sort r.found.1
  pub none : IsNoInput model function input → sort ≡ None
