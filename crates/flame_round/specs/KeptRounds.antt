-- What stays the same throughout an iteration, and by what a function goes.
use Rattle.std.specs.Prelude.{◌≡◌, ◌<◌, ℕ, ℤ, List, [], Some, length, slice_get, slice_index_or}
use Rattle.flame_spec.specs.declared.models.Model.{Model}
use Rattle.flame_spec.specs.Choice.{functions_out}
use Rattle.flame_spec.specs.Columns.{width}
use Rattle.flame_spec.specs.Functions.{Place, functions}
use Rattle.flame_agent.specs.FunctionFits.{AreBoardsFor}
use Rattle.flame_world.specs.Iterations.{Round}
use Rattle.flame_world.specs.WorldFits.{AreWide}
use Rattle.flame_route.specs.declared.routes.Route.{Route}
use Rattle.flame_route.specs.ModelRoutes.{IsRouteOf}
use Rattle.flame_round.specs.declared.rounds.Round as run

-- what stays the same, with the program's source [own]
abbrev pub round_of : run.Round → Round
round_of round = record {
  source = round.program.now;
  constants = round.constants.now;
  iteration = round.iteration;
  fuel = round.fuel;
}

-- the function of this number goes by this route, in its turn [own]
pub record GoesBy (model : Model) (function : ℕ) (route : Route) : Type 0 where
  pub place : Place
  pub there : slice_get (functions model) function ≡ Some place
  pub routed : IsRouteOf model place route
  pub choice : slice_get (functions_out model place.agent place.function.current) route.choice ≡ Some function

-- there is a pool for the state that the route leaves, and for the one that it enters [own]
pub record HasRoute (pools : List (List (List (List ℤ)))) (route : Route) : Type 0 where
  pub from : route.from < length (slice_index_or pools route.agent [])
  pub to : route.to < length (slice_index_or pools route.agent [])

-- the function of this number has what it reads: agents, constants and boards of its inputs as wide as declared [own]
pub record FitsRun
    (model : Model) (function : ℕ) (constants : List ℤ) (boards : List (List (List ℤ))) (agents : List (List ℤ)) :
    Type 0 where
  pub place : Place
  pub there : slice_get (functions model) function ≡ Some place
  pub memories : AreWide (width place.type.memory) agents
  pub known : length constants ≡ length model.constants
  pub wide : AreBoardsFor model place.function.inputs boards
