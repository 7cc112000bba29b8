-- How a core is seen, and how it came to be.
use Rattle.std.specs.Prelude.{◌≡◌, ℕ, ◌<◌, ℤ, List}
use Rattle.flame_spec.specs.declared.outcomes.Source.{Source}
use Rattle.flame_world.specs.declared.worlds.World.{World}
use Rattle.flame_world.specs.Iterations.{Round, round_of}
use Rattle.flame_world.specs.WorldFits.{FitsModel}
use Rattle.flame_events.specs.declared.events.Event.{Event}
use Rattle.flame_events.specs.CoreStates.{Core, opening_core}
use Rattle.flame_events.specs.EventSteps.{replay}
use Rattle.flame_events.specs.Histories.{Leads}

-- the model and its function files, the world that the iteration began with, its number, the fuel of each call of a
-- function, into how many pieces the agents of a function are cut at most, and how far the iteration is [own]
pub record Seen : Type 0 where
  pub source : Source
  pub world : World
  pub iteration : ℤ
  pub fuel : ℕ
  pub pieces : ℕ
  pub core : Core

-- what stays the same throughout [own]
abbrev pub round_in : Seen → Round
round_in seen = round_of seen.source seen.world seen.iteration seen.fuel

-- the core with which the iteration began [own]
abbrev pub start_in : Seen → Core
start_in seen = opening_core seen.source.model seen.world.agents

-- the world that it began with fits the model, functions are cut into one piece at least, and events, each legal when it
-- came, led from the beginning to the core [own]
pub record IsReached (seen : Seen) : Type 0 where
  pub fits : FitsModel seen.source.model seen.world
  pub some : 0 < seen.pieces
  pub events : List Event
  pub leads : Leads (round_in seen) seen.pieces (start_in seen) events seen.core

-- it is as it began [own]
abbrev pub IsNew : Seen → Type 0
IsNew seen = seen.core ≡ start_in seen

-- how it is seen when these events came more [own]
abbrev pub when_came : List Event → Seen → Seen
when_came events seen = record seen { core = replay (round_in seen) seen.pieces seen.core events }
