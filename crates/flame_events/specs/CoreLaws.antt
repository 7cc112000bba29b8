-- Laws of a core that legal events led to: what holds of its functions, their pieces, and boards.
use Rattle.std.specs.Prelude.{◌≡◌, ℕ, ◌<◌, ◌≤◌, ℤ, List, length, true, false, IsTrue, Some, is_some}
use Rattle.std.specs.List.{list_all}
use Rattle.flame_meaning.specs.RangeLaws.{Each}
use Rattle.flame_world.specs.Iterations.{Round}
use Rattle.flame_events.specs.declared.events.Event.{Event}
use Rattle.flame_events.specs.declared.events.Event.TheVariants as event
use Rattle.flame_events.specs.CoreStates.{Work, is_waiting, works_of, has_left, Core, status_of, work_of, is_frozen}
use Rattle.flame_events.specs.CoreStates.{opening_core}
use Rattle.flame_events.specs.LegalEvents.{predecessors, inputs_of, outputs_of, writers, are_shut, is_legal}
use Rattle.flame_events.specs.EventSteps.{fresh_work}
use Rattle.flame_events.specs.Histories.{Leads}

-- events, each legal when it came, lead to the core from one with which an iteration begins [own]
pub record EventsLeadTo (round : Round) (pieces : ℕ) (core : Core) : Type 0 where
  pub agents : List (List (List ℤ))
  pub events : List Event
  pub leads : Leads round pieces (opening_core round.source.model agents) events core

-- where a function is open or done, its predecessors are shut and the boards of its inputs are frozen [own]
abbrev pub WhatBeganMayBegin : Type 0
WhatBeganMayBegin =
    (round : Round) (pieces function : ℕ) (core : Core)
    → EventsLeadTo round pieces core
    → is_waiting (status_of core function) ≡ false
    → (are_shut core (predecessors round.source.model function) ≡ true)
    × (list_all (is_frozen core) (inputs_of round.source.model function) ≡ true)

-- where a board is frozen, the functions that output its message are shut [own]
abbrev pub FrozenBoardsAreWritten : Type 0
FrozenBoardsAreWritten =
    (round : Round) (pieces message : ℕ) (core : Core)
    → EventsLeadTo round pieces core
    → is_frozen core message ≡ true
    → are_shut core (writers round.source.model message) ≡ true

-- a function has at most so many pieces, and none is empty [own]
abbrev pub PiecesAreFewAndFilled : Type 0
PiecesAreFewAndFilled =
    (round : Round) (pieces function : ℕ) (core : Core)
    → EventsLeadTo round pieces core
    → (length (works_of (status_of core function)) ≤ pieces)
    × Each (λ work. 0 < length work.agents) (works_of (status_of core function))

-- a piece of which no agent ran is as opening a function makes one of its agents: nothing is sent or handed in, and
-- nobody faulted [own]
abbrev pub UnrunPiecesAreFresh : Type 0
UnrunPiecesAreFresh =
    (round : Round) (pieces function piece : ℕ) (work : Work) (core : Core)
    → EventsLeadTo round pieces core
    → work_of core function piece ≡ Some work
    → work.ran ≡ 0
    → work ≡ fresh_work (outputs_of round.source.model function) work.agents

-- while an agent of a piece has not run, the messages for no output are handed in [own]
abbrev pub PartsAreKeptUntilAllRan : Type 0
PartsAreKeptUntilAllRan =
    (round : Round) (pieces function piece : ℕ) (work : Work) (core : Core)
    → EventsLeadTo round pieces core
    → work_of core function piece ≡ Some work
    → has_left work ≡ true
    → list_all is_some work.parts ≡ true

-- where messages may be handed in for a board, it is one of the model's, and gathers [own]
abbrev pub BoardsGatherWhatIsHandedIn : Type 0
BoardsGatherWhatIsHandedIn =
    (round : Round) (pieces function piece message : ℕ) (core : Core)
    → EventsLeadTo round pieces core
    → IsTrue (is_legal round.source.model core (event.HandIn function piece message))
    → (message < length round.source.model.messages) × (is_frozen core message ≡ false)
