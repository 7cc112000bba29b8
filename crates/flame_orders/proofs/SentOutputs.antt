-- What a function of an accepted source sends over any boards is of its outputs.
use Rattle.std.proofs.Common.{◌≡◌, ℕ, ◌<◌, Bool, true, false, cond, List, [], ◌∷◌, Option, Some, None, refl, ap, ◌∙◌, subst}
use Rattle.std.specs.Prelude.{◌==◌, slice_get}
use Rattle.flame_spec.specs.Accepted.{IsAccepted}
use Rattle.flame_spec.specs.Before.{function_count}
use Rattle.flame_spec.specs.Below.{is_in}
use Rattle.flame_spec.specs.Functions.{Place, functions}
use Rattle.flame_spec.specs.ModelOrder.{model_order}
use Rattle.flame_meaning.specs.RangeLaws.{Each}
use Rattle.flame_spec_laws.specs.NameLaws.{MessagesDiffer}
use Rattle.flame_world.specs.AgentRuns.{sent_from, messages_of}
use Rattle.flame_world.specs.Fields.{Field}
use Rattle.flame_world.specs.Iterations.{Round, outcome_in}
use Rattle.flame_world.proofs.Changing.{joined_from-none}
use Rattle.flame_events.specs.LegalEvents.{outputs_of}
use Rattle.flame_events.proofs.Weights.{Rows}
use Rattle.flame_events.proofs.Serial.{stepped_at, before_of, ideal, sends_none}
use Rattle.flame_events.proofs.Messages.{accepted_sends}
use Rattle.flame_orders.proofs.SortedFields.{Up}

-- a field without agents: no function changes it
abbrev quiet : List Rows → Field
quiet boards = record { pools = []; born = []; boards = boards }

quiet_at : (round : Round) (g : ℕ) (place : Option Place) (boards : List Rows) → Each Up boards → stepped_at place round g (quiet boards) ≡ quiet boards
quiet_at round g None boards up = refl
quiet_at round g (Some place) boards up = ap quiet (joined_from-none (λ m. []) 0 boards (λ m. refl) up)

quiet_before : (round : Round) (gs : List ℕ) (f : ℕ) (boards : List Rows) → Each Up boards → before_of round gs (quiet boards) f ≡ quiet boards
quiet_before round [] f boards up = refl
quiet_before round (g ∷ gs) f boards up =
    ap (λ field. cond (f == g) (quiet boards) (before_of round gs field f)) (quiet_at round g (slice_get (functions round.source.model) g) boards up)
    ∙ ap (cond (f == g) (quiet boards)) (quiet_before round gs f boards up) ∙ one (f == g)
  where
    one : (b : Bool) → cond b (quiet boards) (quiet boards) ≡ quiet boards
    one true = refl
    one false = refl

pub sends_to_outputs : MessagesDiffer → (round : Round) (f : ℕ) (field : Field) → IsAccepted round.source → f < function_count round.source.model → Each Up field.boards
    → (rows : Rows) (m : ℕ) → is_in m (outputs_of round.source.model f) ≡ false → messages_of (sent_from (outcome_in round f field) rows) m ≡ []
sends_to_outputs differ round f field accepted less up rows m out =
    subst (λ (b : Field). messages_of (sent_from (outcome_in round f b) rows) m ≡ []) (quiet_before round (model_order round.source.model) f field.boards up)
    (sends_none round (ideal round (quiet field.boards)) (accepted_sends differ round (quiet field.boards) accepted) f less m out rows)
