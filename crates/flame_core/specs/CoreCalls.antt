-- What the calls of a core answer.
use Rattle.std.specs.Prelude.{◌≡◌, ℕ, ℤ, Bool, true, false, [], ◌∷◌, Some, IsTrue}
use Rattle.flame_spec.specs.declared.outcomes.Source.{Source}
use Rattle.flame_meaning.specs.Outcomes.{place_of}
use Rattle.flame_world.specs.declared.pieces.Piece.{Piece}
use Rattle.flame_world.specs.declared.settings.Setting.{Setting}
use Rattle.flame_world.specs.declared.shares.Share.{Share}
use Rattle.flame_world.specs.declared.worlds.World.{World}
use Rattle.flame_world.specs.InputBoards.{boards_named}
use Rattle.flame_world.specs.Settings.{boards_of}
use Rattle.flame_world.specs.Shares.{piece_of, setting_of}
use Rattle.flame_events.specs.declared.events.Event.{Event}
use Rattle.flame_events.specs.declared.events.Event.TheVariants as event
use Rattle.flame_events.specs.AbsorbedPieces.{agent_events}
use Rattle.flame_events.specs.CoreStates.{Work, work_of}
use Rattle.flame_events.specs.EventSteps.{are_legal}
use Rattle.flame_events.specs.LegalEvents.{is_legal}
use Rattle.flame_core.specs.declared.faults.StepFault.{StepFault}
use Rattle.flame_core.specs.declared.faults.StepFault.TheVariants.{Illegal, NoMemory}
use Rattle.flame_core.specs.SeenCores.{Seen, round_in, when_came}

-- ---- an event

-- the event is legal [own]
abbrev pub allows : Seen → Event → Bool
allows seen event = is_legal seen.source.model seen.core event

-- the event was legal, and came [own]
pub record Happened (event : Event) (old new : Seen) : Type 0 where
  pub legal : IsTrue (allows old event)
  pub left : new ≡ when_came (event ∷ []) old

-- it takes memory: it copies an agent's memory, or makes lists or makes them longer [own]
abbrev pub takes_memory : Event → Bool
takes_memory (event.Open function) = true
takes_memory (event.Agent function piece) = true
takes_memory (event.HandIn function piece message) = true
takes_memory (event.Shut function) = false
takes_memory (event.Freeze message) = false

-- nothing changed: the event is not legal, or it is, and takes memory, which was not found [own]
abbrev pub Refused : Event → Seen → Seen → StepFault → Type 0
Refused event old new Illegal = (allows old event ≡ false) × (new ≡ old)
Refused event old new NoMemory = (allows old event ≡ true) × (takes_memory event ≡ true) × (new ≡ old)

-- ---- a share

-- this is what the agents of this function have before them in the core [own]
pub record IsSettingIn (seen : Seen) (function : ℕ) (setting : Setting) : Type 0 where
  pub source : setting.source.now ≡ seen.source
  pub constants : setting.constants.now ≡ seen.world.constants
  pub boards : boards_of setting ≡ boards_named (place_of seen.source function) seen.source.model seen.core.field.boards
  pub iteration : setting.iteration ≡ seen.iteration
  pub fuel : setting.fuel ≡ seen.fuel

-- the share's piece is a piece of an open function, with the same agents, of which none has run, and its setting is that of
-- the core and the function [own]
pub record CanAbsorb (seen : Seen) (share : Share) : Type 0 where
  pub work : Work
  pub there : work_of seen.core (piece_of share).function (piece_of share).number ≡ Some work
  pub agents : (piece_of share).agents ≡ work.agents
  pub new : work.ran ≡ 0
  pub setting : IsSettingIn seen (piece_of share).function (setting_of share)

-- the share's piece ran: its Agent events, each legal when it comes, came [own]
pub record Absorbed (share : Share) (old new : Seen) : Type 0 where
  pub can : CanAbsorb old share
  pub legal :
      IsTrue
      (are_legal (round_in old) old.pieces old.core
      (agent_events (piece_of share).function (piece_of share).number can.work))
  pub left : new ≡ when_came (agent_events (piece_of share).function (piece_of share).number can.work) old

-- nothing changed: the share cannot be absorbed, or it can and memory was not found [own]
abbrev pub NotAbsorbed : Share → Seen → Seen → StepFault → Type 0
NotAbsorbed share old new Illegal = (¬ CanAbsorb old share) × (new ≡ old)
NotAbsorbed share old new NoMemory = CanAbsorb old share × (new ≡ old)

-- ---- a piece

-- it is this piece of an open function [own]
pub record IsPieceOf (seen : Seen) (function number : ℕ) (piece : Piece) : Type 0 where
  pub work : Work
  pub there : work_of seen.core function number ≡ Some work
  pub function_is : piece.function ≡ function
  pub number_is : piece.number ≡ number
  pub agents : piece.agents ≡ work.agents

-- ---- where it began

-- it began with these [own]
pub record BeganWith (seen : Seen) (source : Source) (world : World) (iteration : ℤ) (fuel pieces : ℕ) : Type 0 where
  pub source_is : source ≡ seen.source
  pub world_is : world ≡ seen.world
  pub iteration_is : iteration ≡ seen.iteration
  pub fuel_is : fuel ≡ seen.fuel
  pub pieces_is : pieces ≡ seen.pieces
