-- How a flow is seen.
use Rattle.std.specs.Prelude.{ℕ, ℤ, List, ◌++◌, Bool}
use Rattle.flame_spec.specs.declared.outcomes.Source.{Source}
use Rattle.flame_world.specs.declared.worlds.World.{World}
use Rattle.flame_events.specs.declared.events.Event.{Event}
use Rattle.flame_core.specs.SeenCores.{Seen, when_came}

-- with what an iteration begins: the model and its function files, the world, its number, the fuel of each call of a
-- function, and into how many pieces the agents of a function are cut at most [own]
pub record Start : Type 0 where
  pub source : Source
  pub world : World
  pub iteration : ℤ
  pub fuel : ℕ
  pub pieces : ℕ

-- with what the iteration of a core began [own]
abbrev pub start_of : Seen → Start
start_of seen = record {
  source = seen.source;
  world = seen.world;
  iteration = seen.iteration;
  fuel = seen.fuel;
  pieces = seen.pieces;
}

-- how its core is seen, the events that came, the first one first, how many pieces of each function were begun, in document
-- order, and whether the flow is short: whether a begin, settle or take_in found no memory, or it was cut short [own]
pub record SeenFlow : Type 0 where
  pub seen : Seen
  pub history : List Event
  pub begun : List ℕ
  pub short : Bool

-- how it is seen when these events came more [own]
abbrev pub flow_on : List Event → SeenFlow → SeenFlow
flow_on events flow = record flow { seen = when_came events flow.seen; history = flow.history ++ events }
