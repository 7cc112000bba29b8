-- A whole function runs, in a core where it is open and nothing of it ran.
use Rattle.std.specs.Prelude.{◌≡◌, ℕ, ◌+◌, ◌<◌, ℤ, List, [], ◌∷◌, ◌++◌, slice_get, slice_set, Some, IsTrue}
use Rattle.std.specs.List.{flat_map}
use Rattle.flame_rows.specs.Bags.{merge}
use Rattle.flame_spec.specs.declared.models.Model.{Model}
use Rattle.flame_spec.specs.declared.outcomes.Outcome.{Outcome}
use Rattle.flame_spec.specs.Accepted.{IsAccepted}
use Rattle.flame_spec.specs.Functions.{Place, functions}
use Rattle.flame_spec.specs.States.{state_place}
use Rattle.flame_meaning.specs.RangeLaws.{Each}
use Rattle.flame_world.specs.AgentRuns.{survivors, sent_from, born_from, least_fault, messages_of, births_of}
use Rattle.flame_world.specs.Fields.{Field, changed_pool, joined}
use Rattle.flame_world.specs.Iterations.{Round, taking, outcome_in, moved}
use Rattle.flame_events.specs.declared.events.Event.{Event}
use Rattle.flame_events.specs.declared.events.Event.TheVariants as event
use Rattle.flame_events.specs.AbsorbedPieces.{agent_events}
use Rattle.flame_events.specs.CoreLaws.{EventsLeadTo}
use Rattle.flame_events.specs.CoreStates.{Work, Open, works_of, Core, status_of}
use Rattle.flame_events.specs.EventSteps.{done_with, after}
use Rattle.flame_events.specs.HandedPieces.{hand_in_events}
use Rattle.flame_events.specs.Histories.{Leads}
use Rattle.flame_events.specs.LegalEvents.{outputs_of, is_legal}

-- ---- its events

-- all agents of these pieces run, piece by piece; the first of them has this number [own]
abbrev pub all_agent_events : ℕ → ℕ → List Work → List Event
all_agent_events function piece [] = []
all_agent_events function piece (work ∷ works) =
    agent_events function piece work ++ all_agent_events function (piece + 1) works

-- these pieces hand in their messages for these outputs, piece by piece; the first of them has this number [own]
abbrev pub all_hand_in_events : List ℕ → ℕ → ℕ → List Work → List Event
all_hand_in_events outputs function piece [] = []
all_hand_in_events outputs function piece (work ∷ works) =
    hand_in_events outputs function piece ++ all_hand_in_events outputs function (piece + 1) works

-- all agents of a function with these pieces run, then all its messages are handed in, and then it is shut [own]
abbrev pub function_events : Model → ℕ → List Work → List Event
function_events model function works =
    all_agent_events function 0 works
    ++ (all_hand_in_events (outputs_of model function) function 0 works ++ event.Shut function ∷ [])

-- ---- what they leave

-- the agents of these pieces, piece by piece [own]
abbrev pub agents_in_pieces : List Work → List (List ℤ)
agents_in_pieces works = flat_map (λ work. work.agents) works

-- what these agents leave of the function of this place: survivors arrived in the next state, births are set aside, and
-- messages joined their boards [FLAME User Manual; when births act: own]
abbrev pub left_by : Round → ℕ → Place → List (List ℤ) → Field → Field
left_by round function place agents field =
    let run : List ℤ → Outcome = outcome_in round function field in
    record {
      pools =
          changed_pool place.agent (state_place place.type place.function.next)
          (λ pool. merge pool (survivors run agents)) field.pools;
      born = joined (births_of (born_from run agents)) field.born;
      boards = joined (messages_of (sent_from run agents)) field.boards;
    }

-- the function is done with the least fault of these agents, over the boards as they were, and this is the field [own]
abbrev pub done_by : Round → ℕ → List (List ℤ) → Field → Core → Core
done_by round function agents field core = record core {
  statuses =
      slice_set core.statuses function
      (done_with (least_fault round.iteration function (outcome_in round function core.field) agents));
  field = field;
}

-- ---- the laws

-- in a core to which events of an accepted source led, where a function is open and no agent of it ran: its events, each
-- legal when it comes, lead to the core in which it is done with the least fault of its agents, and the field has what
-- these leave together [own]
abbrev pub WholeFunctionsRun : Type 0
WholeFunctionsRun =
    (round : Round) (pieces function : ℕ) (place : Place) (works : List Work) (core : Core)
    → IsAccepted round.source
    → EventsLeadTo round pieces core
    → slice_get (functions round.source.model) function ≡ Some place
    → status_of core function ≡ Open works
    → Each (λ work. work.ran ≡ 0) works
    → Leads round pieces core (function_events round.source.model function works)
    (done_by round function (agents_in_pieces works) (left_by round function place (agents_in_pieces works) core.field) core)

-- the pieces of a function that was opened just now: no agent of them ran, and piece by piece they have its takers [own]
abbrev pub OpenedPiecesAreTakers : Type 0
OpenedPiecesAreTakers =
    (round : Round) (pieces function : ℕ) (place : Place) (core : Core)
    → EventsLeadTo round pieces core
    → 0 < pieces
    → slice_get (functions round.source.model) function ≡ Some place
    → IsTrue (is_legal round.source.model core (event.Open function))
    → let begun : Core = after round pieces core (event.Open function) in
    let works : List Work = works_of (status_of begun function) in
    (status_of begun function ≡ Open works)
    × Each (λ work. work.ran ≡ 0) works
    × (agents_in_pieces works ≡ taking round function place core.field)

-- where it is opened and then runs at once: these events lead to the core in which it is done with the least fault of its
-- takers, and the field is what the serial step makes of it where nobody faults [own]
abbrev pub OpenedFunctionsMove : Type 0
OpenedFunctionsMove =
    (round : Round) (pieces function : ℕ) (place : Place) (core : Core)
    → IsAccepted round.source
    → EventsLeadTo round pieces core
    → 0 < pieces
    → slice_get (functions round.source.model) function ≡ Some place
    → IsTrue (is_legal round.source.model core (event.Open function))
    → let begun : Core = after round pieces core (event.Open function) in
    Leads round pieces core
    (event.Open function ∷ function_events round.source.model function (works_of (status_of begun function)))
    (done_by round function (taking round function place core.field) (moved round function place core.field) core)
