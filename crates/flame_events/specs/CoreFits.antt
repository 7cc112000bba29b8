-- What fits a model stays so while events come.
use Rattle.std.specs.Prelude.{◌≡◌, ℕ, ◌<◌, ◌≤◌, ℤ, List, Some, length, slice_get, IsTrue}
use Rattle.flame_spec.specs.declared.models.AgentType.{AgentType}
use Rattle.flame_spec.specs.declared.models.MessageType.{MessageType}
use Rattle.flame_spec.specs.declared.models.Model.{Model}
use Rattle.flame_spec.specs.Before.{function_count}
use Rattle.flame_spec.specs.Columns.{width}
use Rattle.flame_spec.specs.Functions.{Place, functions}
use Rattle.flame_meaning.specs.RangeLaws.{Each}
use Rattle.flame_world.specs.declared.worlds.World.{World}
use Rattle.flame_world.specs.Iterations.{Round}
use Rattle.flame_world.specs.WorldFits.{AreWide, FitsModel, FitsField}
use Rattle.flame_events.specs.declared.events.Event.{Event}
use Rattle.flame_events.specs.CoreStates.{Work, works_of, part_in, Core, status_of, opening_core}
use Rattle.flame_events.specs.LegalEvents.{outputs_of, is_legal}
use Rattle.flame_events.specs.EventSteps.{after}

-- a piece of this function fits the model: it has agents, as wide as their type declares, and no more ran than it has;
-- and it has a part for each output, with messages as wide as declared [own]
pub record FitsWork (model : Model) (function : ℕ) (type : AgentType) (work : Work) : Type 0 where
  pub agents : AreWide (width type.memory) work.agents
  pub some : 0 < length work.agents
  pub ran : work.ran ≤ length work.agents
  pub parts : length work.parts ≡ length (outputs_of model function)
  pub messages :
      (message : ℕ) (declared : MessageType) (rows : List (List ℤ))
      → slice_get model.messages message ≡ Some declared
      → part_in (outputs_of model function) work.parts message ≡ Some rows
      → AreWide (width declared.variables) rows

-- a core fits the model: it has a status for each function and a mark for each message, and its field and its pieces
-- fit [own]
pub record FitsCore (model : Model) (core : Core) : Type 0 where
  pub statuses : length core.statuses ≡ function_count model
  pub frozen : length core.frozen ≡ length model.messages
  pub field : FitsField model core.field
  pub works :
      (function : ℕ) (place : Place)
      → slice_get (functions model) function ≡ Some place
      → Each (FitsWork model function place.type) (works_of (status_of core function))

-- in a world that fits a core begins that fits [own]
abbrev pub FittingCoresOpen : Type 0
FittingCoresOpen =
    (model : Model) (world : World) → FitsModel model world → FitsCore model (opening_core model world.agents)

-- a core that fits still does after a legal event [own]
abbrev pub FittingCoresStay : Type 0
FittingCoresStay =
    (round : Round) (pieces : ℕ) (core : Core) (event : Event)
    → FitsCore round.source.model core
    → IsTrue (is_legal round.source.model core event)
    → FitsCore round.source.model (after round pieces core event)
