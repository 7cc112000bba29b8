-- What makes a source accepted, and what acceptance gives to those who run programs.
use Rattle.std.specs.Prelude.{◌≡◌, ℕ, List, [], ◌∷◌, true, Some, IsTrue, slice_get}
use Rattle.flame_spec.specs.declared.models.AgentType.{AgentType}
use Rattle.flame_spec.specs.declared.models.Input.{Input}
use Rattle.flame_spec.specs.declared.models.MessageType.{MessageType}
use Rattle.flame_spec.specs.declared.models.Model.{Model}
use Rattle.flame_spec.specs.declared.outcomes.Source.{Source}
use Rattle.flame_spec.specs.Accepted.{IsAccepted}
use Rattle.flame_spec.specs.CheckFaults.{check_faults}
use Rattle.flame_spec.specs.Columns.{width}
use Rattle.flame_spec.specs.Functions.{Place, functions}
use Rattle.flame_spec.specs.NameFaults.{name_faults}
use Rattle.flame_spec.specs.States.{start_states}
use Rattle.flame_spec.specs.WellFormed.{is_well_formed}
use Rattle.flame_body.specs.FunctionBodies.{input_width, widths_in}
use Rattle.flame_code.specs.HelperCodes.{fits}
use Rattle.flame_code.specs.Routines.{Routine}
use Rattle.flame_depend.specs.declared.plans.Plan.{Plan}
use Rattle.flame_depend.specs.Plans.{IsPlan}
use Rattle.flame_meaning.specs.Outcomes.{message_named}
use Rattle.flame_program.specs.SourceCodes.{function_codes, helper_codes}

-- a source is accepted where its model is well formed and has a plan, and neither its names nor its function files have
-- a fault [own]
abbrev pub PlannedAreAccepted : Type 0
PlannedAreAccepted =
    (source : Source) (plan : Plan)
    → IsTrue (is_well_formed source.model)
    → name_faults source.model ≡ []
    → check_faults source.model source.units ≡ []
    → IsPlan source.model plan
    → IsAccepted source

-- the input reads this message of the model, and its width is that of the message [XMML]
pub record ReadsMessage (model : Model) (form : Input) : Type 0 where
  pub found : ℕ × MessageType
  pub named : message_named model.messages form.message ≡ Some found
  pub wide : input_width model form ≡ width found.1.variables

-- what those who run a source's program need: each type has one start state; the code of a function sees rows as wide
-- as declared, and its calls, if any, are of the helpers; and each input reads a message of the model, of the width that
-- the code sees there [FLAME User Manual]
pub record IsRunnable (source : Source) : Type 0 where
  pub starts : (agent : ℕ) (type : AgentType)
      → slice_get source.model.agents agent ≡ Some type
      → (state : List ℕ) × (start_states type.functions ≡ state ∷ [])
  pub widths : (function : ℕ) (place : Place) (code : Routine)
      → slice_get (functions source.model) function ≡ Some place
      → slice_get (function_codes source) function ≡ Some code
      → code.widths ≡ widths_in source.model (Some place)
  pub calls : (function : ℕ) (code : Routine) → slice_get (function_codes source) function ≡ Some code
      → fits (helper_codes source) code ≡ true
  pub reads : (function input : ℕ) (place : Place) (form : Input)
      → slice_get (functions source.model) function ≡ Some place
      → slice_get place.function.inputs input ≡ Some form
      → ReadsMessage source.model form

-- acceptance gives it [own]
abbrev pub AcceptedAreRunnable : Type 0
AcceptedAreRunnable = (source : Source) → IsAccepted source → IsRunnable source
