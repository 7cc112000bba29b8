-- How far an iteration is between two layers.
use Rattle.std.specs.Prelude.{◌≡◌, ℕ, ◌<◌, ◌≤◌, ℤ, List, length, true, Option, option_map, IsTrue}
use Rattle.flame_spec.specs.Before.{function_count}
use Rattle.flame_spec.specs.Below.{is_in}
use Rattle.flame_spec.specs.ModelOrder.{model_order}
use Rattle.flame_world.specs.Fields.{Field}
use Rattle.flame_world.specs.Iterations.{Round}
use Rattle.flame_events.specs.declared.events.Event.{Event}
use Rattle.flame_events.specs.CoreEnds.{first_fault, least_fault_rank}
use Rattle.flame_events.specs.CoreStates.{Waiting, is_shut, Core, is_frozen, opening_core, status_of}
use Rattle.flame_events.specs.Histories.{Leads}
use Rattle.flame_events.specs.LegalEvents.{are_shut, writers}
use Rattle.flame_layers.specs.declared.stops.Stop.{Stop}
use Rattle.flame_layers.specs.LayerFunctions.{layer_of, still_run}

-- an iteration that began with these agents has come to this layer, where it stops here, with this field: events, each legal
-- when it came, led to a core with this field and this fault; the functions of this layer and of later ones wait, those of
-- earlier ones are shut, as far as they are still run, and the boards of which all writers are shut are frozen [own]
pub record HasComeTo
    (round : Round) (agents : List (List (List ℤ))) (layer : ℕ) (stop : Option Stop) (field : Field) :
    Type 0 where
  pub core : Core
  pub events : List Event
  pub leads : Leads round 1 (opening_core round.source.model agents) events core
  pub field_is : core.field ≡ field
  pub rank_is : least_fault_rank round.source.model core ≡ option_map (λ (stop : Stop). stop.rank) stop
  pub fault_is : first_fault core (model_order round.source.model) ≡ option_map (λ (stop : Stop). stop.fault) stop
  pub later :
      (function : ℕ)
      → function < function_count round.source.model
      → layer ≤ layer_of round.source.model function
      → status_of core function ≡ Waiting
  pub earlier :
      (function : ℕ)
      → layer_of round.source.model function < layer
      → IsTrue (is_in function (still_run round.source.model stop))
      → is_shut (status_of core function) ≡ true
  pub frozen :
      (message : ℕ)
      → message < length round.source.model.messages
      → are_shut core (writers round.source.model message) ≡ true
      → is_frozen core message ≡ true
