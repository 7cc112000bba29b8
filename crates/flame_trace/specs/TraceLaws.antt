-- What a verdict says, and that what is written is read again.
use Rattle.std.specs.Prelude.{◌≡◌, ℕ, ◌<◌, ◌≤◌, pos, ◌≤ℤ◌, List, length, All, true, IsTrue}
use Rattle.flame_spec.specs.declared.outcomes.Source.{Source}
use Rattle.flame_spec.specs.Accepted.{IsAccepted}
use Rattle.flame_world.specs.declared.verdicts.Verdict.TheVariants.{Yes}
use Rattle.flame_world.specs.Iterations.{round_of, iteration}
use Rattle.flame_events.specs.declared.events.Event.{Event}
use Rattle.flame_events.specs.declared.events.Event.TheVariants as event
use Rattle.flame_events.specs.CoreStates.{opening_core}
use Rattle.flame_events.specs.CoreEnds.{is_complete}
use Rattle.flame_events.specs.EventSteps.{replay, are_legal}
use Rattle.flame_popfile.specs.declared.starts.Start.{Start}
use Rattle.flame_trace.specs.TraceTexts.{trace_text}
use Rattle.flame_trace.specs.TraceVerdicts.{verdict, next_number}

-- ---- what is told

-- these events, each legal when it comes, lead from the start to a core that is complete [own]
pub record LeadToTheEnd (source : Source) (start : Start) (pieces fuel : ℕ) (events : List Event) : Type 0 where
  pub legal :
      IsTrue
      (are_legal (round_of source start.world (next_number start) fuel) pieces
      (opening_core source.model start.world.agents) events)
  pub complete :
      is_complete source.model
      (replay (round_of source start.world (next_number start) fuel) pieces
      (opening_core source.model start.world.agents) events)
      ≡ true

-- 32 bits hold the numbers of an event [own]
abbrev pub IsNumberedEvent : Event → Type 0
IsNumberedEvent (event.Open function) = function < 4294967296
IsNumberedEvent (event.Agent function piece) = (function < 4294967296) × (piece < 4294967296)
IsNumberedEvent (event.HandIn function piece message) =
    (function < 4294967296) × (piece < 4294967296) × (message < 4294967296)
IsNumberedEvent (event.Shut function) = function < 4294967296
IsNumberedEvent (event.Freeze message) = message < 4294967296

-- the text tells the next iteration of the start by so many events: they lead to its end, the text is that of these events
-- and of what the iteration comes to, and its numbers are within the bounds of a trace [own]
pub record TellsIteration (source : Source) (start : Start) (bytes : List ℕ) (count : ℕ) : Type 0 where
  pub pieces : ℕ
  pub fuel : ℕ
  pub events : List Event
  pub first : pos 1 ≤ℤ next_number start
  pub last : next_number start ≤ℤ pos 2147483647
  pub some : 1 ≤ pieces
  pub few : pieces ≤ 64
  pub enough : fuel ≤ 1000000000
  pub numbered : All IsNumberedEvent events
  pub counted : length events ≡ count
  pub lead : LeadToTheEnd source start pieces fuel events
  pub written :
      bytes
      ≡ trace_text source.model (next_number start) pieces fuel (iteration source start.world (next_number start) fuel)
      events

-- ---- the verdict is Yes exactly where this is told

-- a text of which the verdict is Yes tells the next iteration of the start, by as many events as the verdict says [own]
abbrev pub YesTellsTheIteration : Type 0
YesTellsTheIteration =
    (source : Source) (start : Start) (bytes : List ℕ) (count : ℕ)
    → IsAccepted source
    → length start.world.agents ≡ length source.model.agents
    → verdict source start bytes ≡ Yes count
    → TellsIteration source start bytes count

-- a text that tells the next iteration of the start by so many events has the verdict Yes, with this number [own]
abbrev pub WrittenIsYes : Type 0
WrittenIsYes =
    (source : Source) (start : Start) (bytes : List ℕ) (count : ℕ)
    → IsAccepted source
    → length start.world.agents ≡ length source.model.agents
    → TellsIteration source start bytes count
    → verdict source start bytes ≡ Yes count
