-- The verdict on a text that is to tell the next iteration of a start: the answer of its first line that has one.
use Rattle.std.specs.Prelude.{ℕ, ◌+◌, ℤ, pos, ◌+ℤ◌, List, [], ◌∷◌, take, length, slice_get, take_while, filter_map}
use Rattle.std.specs.Prelude.{not, Option, Some, None, unwrap_or, if◌then◌else◌}
use Rattle.std.specs.Ordering.{int_eq}
use Rattle.std.specs.Str.{bytes_eq}
use Rattle.flame_spec.specs.declared.models.Model.{Model}
use Rattle.flame_spec.specs.declared.outcomes.Source.{Source}
use Rattle.flame_spec.specs.Lists.{each, first}
use Rattle.flame_world.specs.declared.turns.Turn.{Turn}
use Rattle.flame_world.specs.declared.turns.Turn.TheVariants.{Done, Faulted}
use Rattle.flame_world.specs.declared.verdicts.Verdict.{Verdict}
use Rattle.flame_world.specs.declared.verdicts.Verdict.TheVariants.{Yes, Form, OtherStart, Illegal, Incomplete}
use Rattle.flame_world.specs.declared.verdicts.Verdict.TheVariants.{OtherEnd}
use Rattle.flame_world.specs.Iterations.{Round, round_of}
use Rattle.flame_events.specs.declared.events.Event.{Event}
use Rattle.flame_events.specs.CoreStates.{Core, opening_core}
use Rattle.flame_events.specs.CoreEnds.{is_complete, ending}
use Rattle.flame_events.specs.EventSteps.{replay}
use Rattle.flame_events.specs.LegalEvents.{is_legal}
use Rattle.flame_popfile.specs.declared.starts.Start.{Start}
use Rattle.flame_trace.specs.declared.heads.Head.{Head}
use Rattle.flame_trace.specs.TraceLines.{lines, behind, head_of, event_of, is_end}
use Rattle.flame_trace.specs.TraceTexts.{end_line, behind_end}

-- ---- the lines of events

-- of these lines, which begin with line 2, those before the line of the end; all where there is none [own]
abbrev pub event_lines : List (List ℕ) → List (List ℕ)
event_lines further = take_while (λ line. not (is_end line)) further

-- the events that these lines tell [own]
abbrev pub events_in : List (List ℕ) → List Event
events_in further = filter_map event_of further

-- the answer of a line of this number that is to tell an event, in this core: Form where it tells none, Illegal where the
-- event is not legal [own]
abbrev pub event_answer : Model → Core → ℕ → Option Event → List Verdict
event_answer model core number None = Form number ∷ []
event_answer model core number (Some event) = if is_legal model core event then [] else Illegal number ∷ []

-- the answers of the lines between line 1 and the end: each stands in the core to which the events before it lead [own]
abbrev pub event_answers : Round → ℕ → Core → List (List ℕ) → List Verdict
event_answers round pieces start further =
    each
    (λ place line.
    event_answer round.source.model (replay round pieces start (events_in (take place further))) (place + 2) (event_of line))
    further

-- ---- the end

-- the answer where what stands behind the end of this turn is not what is to stand there: behind `done` the text is another
-- one, behind a fault nothing may stand [own]
abbrev pub behind_answer : Turn → ℕ → Verdict
behind_answer (Done world boards) number = OtherEnd number
behind_answer (Faulted fault) number = Form number

-- the verdict where so many events led to this turn, and this line tells the end, with this behind it [own]
abbrev pub turn_verdict : Model → ℤ → ℕ → Turn → List ℕ → List ℕ → Verdict
turn_verdict model iteration events turn line rest =
    if not (bytes_eq line (end_line turn)) then OtherEnd (events + 2)
    else if not (bytes_eq rest (behind_end model iteration turn)) then behind_answer turn (events + 3)
    else Yes events

-- the verdict where so many events led to this core, and this line tells the end, with this behind it [own]
abbrev pub end_verdict : Round → ℕ → Core → List ℕ → List ℕ → Verdict
end_verdict round events core line rest =
    if is_complete round.source.model core
    then turn_verdict round.source.model round.iteration events (ending round core) line rest
    else Incomplete (events + 2)

-- the same where the line of the end may be missing, or lack its line feed [own]
abbrev pub end_verdict_at : Round → ℕ → Core → Option (List ℕ) → List ℕ → Verdict
end_verdict_at round events core None rest = Form (events + 2)
end_verdict_at round events core (Some line) rest = end_verdict round events core line rest

-- ---- the whole

-- the verdict where line 1 is as it is to be, of the lines behind it: the first answer of a line that is to tell an event,
-- else that of the end [own]
abbrev pub verdict_behind : Round → ℕ → Core → List (List ℕ) → List ℕ → Verdict
verdict_behind round pieces start further bytes =
    unwrap_or
    (first (event_answers round pieces start (event_lines further)))
    (end_verdict_at round (length (event_lines further))
    (replay round pieces start (events_in (event_lines further)))
    (slice_get further (length (event_lines further)))
    (behind (length (event_lines further) + 2) bytes))

-- the number of the iteration that comes next [own]
abbrev pub next_number : Start → ℤ
next_number start = start.itno +ℤ pos 1

-- the verdict where line 1 says this [own]
abbrev pub verdict_under : Source → Start → Option Head → List (List ℕ) → List ℕ → Verdict
verdict_under source start None further bytes = Form 1
verdict_under source start (Some head) further bytes =
    if int_eq (pos head.iteration) (next_number start)
    then
    verdict_behind (round_of source start.world (next_number start) head.fuel) head.pieces
    (opening_core source.model start.world.agents) further bytes
    else OtherStart 1

-- the verdict on a text of these lines [own]
abbrev pub verdict_of : Source → Start → List (List ℕ) → List ℕ → Verdict
verdict_of source start [] bytes = Form 1
verdict_of source start (line ∷ further) bytes = verdict_under source start (head_of line) further bytes

-- the verdict on a text [own]
abbrev pub verdict : Source → Start → List ℕ → Verdict
verdict source start bytes = verdict_of source start (lines bytes) bytes
