-- Cores with their histories.
use Rattle.std.specs.Prelude.{◌≡◌, ℕ, ◌<◌, List, ◌++◌, replicate, not, true}
use Rattle.std.specs.List.{flat_map, list_all}
use Rattle.flame_spec.specs.declared.models.Model.{Model}
use Rattle.flame_world.specs.declared.shares.Share.{Share}
use Rattle.flame_world.specs.Shares.{piece_of}
use Rattle.flame_world.specs.WorldFits.{FitsModel}
use Rattle.flame_events.specs.declared.events.Event.{Event}
use Rattle.flame_events.specs.AbsorbedPieces.{agent_events}
use Rattle.flame_events.specs.CoreStates.{Work}
use Rattle.flame_events.specs.EventBounds.{is_of_piece}
use Rattle.flame_events.specs.HandedPieces.{hand_in_events}
use Rattle.flame_events.specs.Histories.{Leads}
use Rattle.flame_events.specs.LegalEvents.{outputs_of}
use Rattle.flame_core.specs.CoreCalls.{CanAbsorb}
use Rattle.flame_core.specs.SeenCores.{Seen, round_in, start_in, when_came}
use Rattle.flame_flow.specs.declared.told.Came.{Came}

-- how a core is seen, and the events that came, the first one first [own]
pub record ToldCore : Type 0 where
  pub seen : Seen
  pub history : List Event

-- it began with a world that fits the model, functions are cut into one piece at least, and the events, each legal when it
-- came, led from the beginning to the core [own]
pub record IsTold (told : ToldCore) : Type 0 where
  pub fits : FitsModel told.seen.source.model told.seen.world
  pub some : 0 < told.seen.pieces
  pub leads : Leads (round_in told.seen) told.seen.pieces (start_in told.seen) told.history told.seen.core

-- when these events came more [own]
abbrev pub told_on : List Event → ToldCore → ToldCore
told_on events told = record { seen = when_came events told.seen; history = told.history ++ events }

-- some events came more [own]
pub record HasGrown (old new : ToldCore) : Type 0 where
  pub more : List Event
  pub left : new ≡ told_on more old

-- some events of functions and boards came more [own]
pub record HasGoneOn (old new : ToldCore) : Type 0 where
  pub more : List Event
  pub kinds : list_all (λ event. not (is_of_piece event)) more ≡ true
  pub left : new ≡ told_on more old

-- all events of a piece: its agents run, and it hands in its messages, output by output [own]
abbrev pub settling_events : Model → ℕ → ℕ → Work → List Event
settling_events model function piece work =
    agent_events function piece work ++ hand_in_events (outputs_of model function) function piece

-- the agents of the share's piece ran, which could be absorbed [own]
pub record Ran (share : Share) (old new : ToldCore) : Type 0 where
  pub can : CanAbsorb old.seen share
  pub left : new ≡ told_on (agent_events (piece_of share).function (piece_of share).number can.work) old

-- and it handed in its messages [own]
pub record RanWhole (share : Share) (old new : ToldCore) : Type 0 where
  pub can : CanAbsorb old.seen share
  pub left :
      new
      ≡ told_on (settling_events old.seen.source.model (piece_of share).function (piece_of share).number can.work) old

-- and then events of functions and boards came [own]
pub record SettledWhole (share : Share) (old new : ToldCore) : Type 0 where
  pub ran : ToldCore
  pub whole : RanWhole share old ran
  pub on : HasGoneOn ran new

-- ---- how histories are kept

-- an event that came so many times in a row [own]
abbrev pub came_events : Came → List Event
came_events came = replicate came.times came.event

-- all that came [own]
abbrev pub history_of : List Came → List Event
history_of history = flat_map came_events history
