-- What the calls of a flow answer.
use Rattle.std.specs.Prelude.{◌≡◌, ℕ, ℤ, ◌+◌, ◌<◌, List, ◌++◌, map, slice_get, slice_index, slice_set, nat_lt, not, true, false, Some, None, IsTrue}
use Rattle.std.specs.List.{list_all}
use Rattle.flame_spec.specs.Columns.{width}
use Rattle.flame_spec.specs.Functions.{Place, functions}
use Rattle.flame_meaning.specs.Outcomes.{place_of}
use Rattle.flame_index.specs.FrozenBoards.{shared_messages}
use Rattle.flame_world.specs.declared.pieces.Piece.{Piece}
use Rattle.flame_world.specs.declared.shares.Share.{Share}
use Rattle.flame_world.specs.InputBoards.{boards_named}
use Rattle.flame_world.specs.Settings.{boards_of}
use Rattle.flame_world.specs.Shares.{piece_of, setting_of}
use Rattle.flame_world.specs.WorldFits.{AreWide}
use Rattle.flame_agent.specs.FunctionFits.{AreBoardsFor}
use Rattle.flame_events.specs.declared.events.Event.{Event}
use Rattle.flame_events.specs.CoreEnds.{is_complete}
use Rattle.flame_events.specs.CoreStates.{Work as PieceWork, work_of}
use Rattle.flame_events.specs.EventBounds.{is_of_piece}
use Rattle.flame_events.specs.EventSteps.{are_legal}
use Rattle.flame_core.specs.declared.faults.StepFault.{StepFault}
use Rattle.flame_core.specs.declared.faults.StepFault.TheVariants.{Illegal, NoMemory}
use Rattle.flame_core.specs.CoreCalls.{CanAbsorb, IsPieceOf}
use Rattle.flame_core.specs.SeenCores.{Seen, IsReached, round_in}
use Rattle.flame_flow.specs.declared.jobs.Job.{Job}
use Rattle.flame_flow.specs.declared.jobs.Ready.{Ready}
use Rattle.flame_flow.specs.declared.jobs.Ready.TheVariants.{Short, Done, Work, Idle}
use Rattle.flame_flow.specs.FlowStates.{next_piece, HasBegun}
use Rattle.flame_flow.specs.QuietCores.{IsQuiet, ArePiecesWhole}
use Rattle.flame_flow.specs.SeenFlows.{Start, start_of, SeenFlow, flow_on}
use Rattle.flame_flow.specs.ToldCores.{IsTold, settling_events}

-- ---- what a flow's type keeps

-- events, each legal when it came, led from the beginning to the core; and where the flow is not short, no Open, Shut or
-- Freeze is legal, each piece of an open function has none of its agents run, or all of them and everything handed in, and
-- each of which an agent ran was begun [own]
pub record IsKept (flow : SeenFlow) : Type 0 where
  pub told : IsTold (record { seen = flow.seen; history = flow.history })
  pub quiet : flow.short ≡ false → IsQuiet flow.seen.source.model flow.seen.core
  pub whole : flow.short ≡ false → ArePiecesWhole flow.seen.source.model flow.seen.core
  pub marked :
      flow.short ≡ false
      → (function piece : ℕ) (work : PieceWork)
      → work_of flow.seen.core function piece ≡ Some work
      → 0 < work.ran
      → piece < slice_index flow.begun function

-- ---- what a worker may do

-- the flow is short; else its core is complete; else this is the first piece by rank and number of a wanted function that was
-- not begun; else there is none, and one was begun and is not settled [own]
abbrev pub IsReady : SeenFlow → Ready → Type 0
IsReady flow Short = flow.short ≡ true
IsReady flow Done = (flow.short ≡ false) × (is_complete flow.seen.source.model flow.seen.core ≡ true)
IsReady flow (Work function piece) =
    (flow.short ≡ false)
    × (is_complete flow.seen.source.model flow.seen.core ≡ false)
    × (next_piece flow.seen.source.model flow.begun flow.seen.core ≡ Some (function, piece))
IsReady flow Idle =
    (flow.short ≡ false)
    × (is_complete flow.seen.source.model flow.seen.core ≡ false)
    × (next_piece flow.seen.source.model flow.begun flow.seen.core ≡ None)
    × HasBegun flow.seen.source.model flow.begun flow.seen.core

-- it has this piece of an open function, and the boards of the function's inputs, in their order, as wide as the model
-- declares [own]
pub record IsJobOf (seen : Seen) (function piece : ℕ) (job : Job) : Type 0 where
  pub is : IsPieceOf seen function piece job.piece
  pub read :
      map shared_messages job.boards
      ≡ boards_named (place_of seen.source function) seen.source.model seen.core.field.boards
  pub memories :
      (place : Place)
      → slice_get (functions seen.source.model) function ≡ Some place
      → AreWide (width place.type.memory) job.piece.agents
  pub messages :
      (place : Place)
      → slice_get (functions seen.source.model) function ≡ Some place
      → AreBoardsFor seen.source.model place.function.inputs (map shared_messages job.boards)

-- the piece of this number of the function was begun too [own]
abbrev pub with_begun : ℕ → ℕ → SeenFlow → SeenFlow
with_begun function piece flow = record flow { begun = slice_set flow.begun function (piece + 1) }

-- a begin, settle or take_in found no memory, or somebody said that it ends [own]
abbrev pub cut_short : SeenFlow → SeenFlow
cut_short flow = record flow { short = true }

-- ---- shares

-- the flow is not short, the share's piece was begun, is one of an open function, with the same agents, of which none ran, and
-- its setting is that of the core and the function [own]
pub record CanSettle (flow : SeenFlow) (share : Share) : Type 0 where
  pub long : flow.short ≡ false
  pub begun : IsTrue (nat_lt (piece_of share).number (slice_index flow.begun (piece_of share).function))
  pub can : CanAbsorb flow.seen share

-- the share's piece ran and handed in its messages, and then every Open, Shut and Freeze came that was legal, until none was
-- [own]
pub record Settled (share : Share) (old new : SeenFlow) : Type 0 where
  pub can : CanSettle old share
  pub further : List Event
  pub kinds : list_all (λ event. not (is_of_piece event)) further ≡ true
  pub legal :
      IsTrue
      (are_legal (round_in old.seen) old.seen.pieces old.seen.core
      (settling_events old.seen.source.model (piece_of share).function (piece_of share).number can.can.work ++ further))
  pub left :
      new
      ≡ flow_on
      (settling_events old.seen.source.model (piece_of share).function (piece_of share).number can.can.work ++ further) old
  pub quiet : IsQuiet new.seen.source.model new.seen.core

-- some events came, each legal when it did, and the flow is short [own]
pub record BecameShort (old new : SeenFlow) : Type 0 where
  pub more : List Event
  pub legal : IsTrue (are_legal (round_in old.seen) old.seen.pieces old.seen.core more)
  pub left : new ≡ cut_short (flow_on more old)

-- the share cannot be settled, and nothing changed; or it can, and memory was not found [own]
abbrev pub NotSettled : Share → SeenFlow → SeenFlow → StepFault → Type 0
NotSettled share old new Illegal = (¬ CanSettle old share) × (new ≡ old)
NotSettled share old new NoMemory = CanSettle old share × BecameShort old new

-- ---- shares that are known to be due

-- some core that events, each legal when it came, led to from this beginning has the piece, and these boards for its
-- function's inputs [own]
pub record IsDue (start : Start) (piece : Piece) (boards : List (List (List ℤ))) : Type 0 where
  pub seen : Seen
  pub started : start_of seen ≡ start
  pub reached : IsReached seen
  pub is : IsPieceOf seen piece.function piece.number piece
  pub read : boards ≡ boards_named (place_of seen.source piece.function) seen.source.model seen.core.field.boards

-- the share is one of such a piece, under these boards and what the iteration began with [own]
pub record IsDueShare (start : Start) (share : Share) : Type 0 where
  pub due : IsDue start (piece_of share) (boards_of (setting_of share))
  pub source : (setting_of share).source.now ≡ start.source
  pub constants : (setting_of share).constants.now ≡ start.world.constants
  pub iteration : (setting_of share).iteration ≡ start.iteration
  pub fuel : (setting_of share).fuel ≡ start.fuel
