-- Lines that were gone by, and the line of the end.
use Rattle.std.proofs.Common.{◌≡◌, ℕ, ◌+◌, Bool, true, false, cond, List, ◌∷◌, Some, None, sym, ap, ◌∙◌, subst}
use Rattle.flame_world.specs.declared.verdicts.Verdict.{Verdict}
use Rattle.flame_world.specs.Iterations.{Round}
use Rattle.flame_events.specs.declared.events.Event.{Event}
use Rattle.flame_events.specs.CoreStates.{Core}
use Rattle.flame_events.specs.EventSteps.{after}
use Rattle.flame_core.specs.SeenCores.{Seen, round_in}
use Rattle.flame_trace.specs.TraceLines.{parts, event_of, is_end}
use Rattle.flame_trace.specs.TraceVerdicts.{end_verdict}
use Rattle.flame_trace.specs.TraceSteps.{where_legal, onward, IsSameRun, WentBy}
use Rattle.flame_trace.proofs.Following.{onward-line}

-- from line to line, at a line of which it is known whether it tells an end
onward-at : (round : Round) (pieces : ℕ) (core : Core) (events : ℕ) (line rest : List ℕ) (test : Bool)
    → is_end line ≡ test
    → onward round pieces core events (line ∷ parts rest)
    ≡ cond test (end_verdict round events core line rest)
    (where_legal round.source.model core (events + 2) (event_of line)
    (λ event. onward round pieces (after round pieces core event) (events + 1) (parts rest)))
onward-at round pieces core events line rest test is =
    onward-line round pieces core events line rest
    ∙ ap
    (λ (test : Bool).
    cond test (end_verdict round events core line rest)
    (where_legal round.source.model core (events + 2) (event_of line)
    (λ event. onward round pieces (after round pieces core event) (events + 1) (parts rest))))
    is

-- it is still the same iteration
pub same-run : (first old new : Seen) (number : ℕ) (line : List ℕ) → IsSameRun first old → WentBy old new number line None
    → IsSameRun first new
same-run first old new number line same went = went.0 ∙ ap (λ (s : Seen). record s { core = new.core }) same

-- the event of a line came
pub went-on : (first old new : Seen) (events : ℕ) (line rest : List ℕ) → IsSameRun first old → is_end line ≡ false
    → WentBy old new (events + 2) line None
    → onward (round_in first) first.pieces old.core events (line ∷ parts rest)
    ≡ onward (round_in first) first.pieces new.core (events + 1) (parts rest)
went-on first old new events line rest same is went =
    let go : Core → Verdict = λ core. onward (round_in first) first.pieces core (events + 1) (parts rest) in
    onward-at (round_in first) first.pieces old.core events line rest false is
    ∙ subst
    (λ (s : Seen).
    where_legal s.source.model old.core (events + 2) (event_of line)
    (λ event. go (after (round_in s) s.pieces old.core event))
    ≡ go new.core)
    same (went.1 go)

-- a line has an answer
pub answered : (first old new : Seen) (events : ℕ) (line rest : List ℕ) (answer : Verdict) → IsSameRun first old
    → is_end line ≡ false
    → WentBy old new (events + 2) line (Some answer)
    → onward (round_in first) first.pieces old.core events (line ∷ parts rest) ≡ answer
answered first old new events line rest answer same is went =
    let go : Event → Verdict =
    λ event. onward (round_in first) first.pieces (after (round_in first) first.pieces old.core event) (events + 1) (parts rest) in
    onward-at (round_in first) first.pieces old.core events line rest false is
    ∙ subst (λ (s : Seen). where_legal s.source.model old.core (events + 2) (event_of line) go ≡ answer) same (went go)

-- a line tells the end
pub ended-at : (first old : Seen) (events : ℕ) (line rest : List ℕ) → IsSameRun first old → is_end line ≡ true
    → onward (round_in first) first.pieces old.core events (line ∷ parts rest)
    ≡ end_verdict (round_in old) events old.core line rest
ended-at first old events line rest same is =
    onward-at (round_in first) first.pieces old.core events line rest true is
    ∙ ap (λ (s : Seen). end_verdict (round_in s) events old.core line rest) (sym same)
