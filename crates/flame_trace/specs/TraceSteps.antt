-- How the program goes on from line to line.
use Rattle.std.specs.Prelude.{◌≡◌, ℕ, ◌+◌, List, [], ◌∷◌, Option, Some, None, if◌then◌else◌}
use Rattle.std.specs.List.{join_with_byte}
use Rattle.flame_spec.specs.declared.models.Model.{Model}
use Rattle.flame_world.specs.declared.verdicts.Verdict.{Verdict}
use Rattle.flame_world.specs.declared.verdicts.Verdict.TheVariants.{Form, Illegal}
use Rattle.flame_world.specs.Iterations.{Round}
use Rattle.flame_events.specs.declared.events.Event.{Event}
use Rattle.flame_events.specs.CoreStates.{Core}
use Rattle.flame_events.specs.EventSteps.{after}
use Rattle.flame_events.specs.LegalEvents.{is_legal}
use Rattle.flame_core.specs.SeenCores.{Seen, round_in}
use Rattle.flame_trace.specs.TraceLines.{line_feed, event_of, is_end}
use Rattle.flame_trace.specs.TraceVerdicts.{end_verdict}

-- what follows a line of this number that is to tell an event, where it tells one that is legal [own]
abbrev pub where_legal : Model → Core → ℕ → Option Event → (Event → Verdict) → Verdict
where_legal model core number None go = Form number
where_legal model core number (Some event) go = if is_legal model core event then go event else Illegal number

-- the verdict where so many events led to this core, and these parts of the text are left [own]
abbrev pub onward : Round → ℕ → Core → ℕ → List (List ℕ) → Verdict
onward round pieces core events [] = Form (events + 2)
onward round pieces core events (line ∷ []) = Form (events + 2)
onward round pieces core events (line ∷ next ∷ further) =
    if is_end line then end_verdict round events core line (join_with_byte line_feed (next ∷ further))
    else
    where_legal round.source.model core (events + 2) (event_of line)
    (λ event. onward round pieces (after round pieces core event) (events + 1) (next ∷ further))

-- it is the same iteration, which may be further [own]
abbrev pub IsSameRun : Seen → Seen → Type 0
IsSameRun old new = new ≡ record old { core = new.core }

-- a line of this number, which is to tell an event, was gone by: either its event came, and the verdict is what follows,
-- or it has an answer, which is the verdict [own]
abbrev pub WentBy : Seen → Seen → ℕ → List ℕ → Option Verdict → Type 0
WentBy old new number line None =
    IsSameRun old new
    × ((go : Core → Verdict)
    → where_legal old.source.model old.core number (event_of line)
    (λ event. go (after (round_in old) old.pieces old.core event))
    ≡ go new.core)
WentBy old new number line (Some answer) =
    (go : Event → Verdict) → where_legal old.source.model old.core number (event_of line) go ≡ answer
