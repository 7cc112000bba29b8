-- Laws of iterations by layers: they end as iterations whose functions run one after another.
use Rattle.std.specs.Prelude.{◌≡◌, ℕ, ◌+◌, ◌<◌, ℤ, List, length, Option, None, option_map}
use Rattle.flame_spec.specs.declared.outcomes.Source.{Source}
use Rattle.flame_spec.specs.Accepted.{IsAccepted}
use Rattle.flame_spec.specs.Before.{function_count}
use Rattle.flame_world.specs.declared.worlds.World.{World}
use Rattle.flame_world.specs.Fields.{Field, opening}
use Rattle.flame_world.specs.Iterations.{Round, iteration, round_of, turn_of, unless_faulted}
use Rattle.flame_world.specs.WorldFits.{FitsField, FitsModel}
use Rattle.flame_layers.specs.declared.stops.Stop.{Stop}
use Rattle.flame_layers.specs.LayerFields.{layer_field, layer_stop, left_by_takers}
use Rattle.flame_layers.specs.LayerFunctions.{layer_of, runs_in_layer}
use Rattle.flame_layers.specs.LayerStates.{HasComeTo}

-- an iteration of an accepted source comes to its first layer with the field with which it begins [own]
abbrev pub IterationsBegin : Type 0
IterationsBegin =
    (round : Round) (agents : List (List (List ℤ)))
    → IsAccepted round.source
    → length agents ≡ length round.source.model.agents
    → HasComeTo round agents 0 None (opening round.source.model agents)

-- and from a layer to the next: the functions of the layer that are still run, run side by side [own]
abbrev pub LayersLeadOn : Type 0
LayersLeadOn =
    (round : Round) (agents : List (List (List ℤ))) (layer : ℕ) (stop : Option Stop) (field : Field)
    → IsAccepted round.source
    → length agents ≡ length round.source.model.agents
    → HasComeTo round agents layer stop field
    → let functions : List ℕ = runs_in_layer round.source.model layer stop in
    HasComeTo round agents (layer + 1) (layer_stop round functions field stop) (layer_field round functions field)

-- behind the last layer it has come to its end, the fault or the field: that of the iteration whose functions run one after
-- another [FLAME User Manual]
abbrev pub LayersEnd : Type 0
LayersEnd =
    (source : Source) (world : World) (number : ℤ) (fuel layers : ℕ) (stop : Option Stop) (field : Field)
    → IsAccepted source
    → length world.agents ≡ length source.model.agents
    → ((function : ℕ) → function < function_count source.model → layer_of source.model function < layers)
    → HasComeTo (round_of source world number fuel) world.agents layers stop field
    → iteration source world number fuel
    ≡ turn_of world.constants (unless_faulted (option_map (λ (stop : Stop). stop.fault) stop) field)

-- ---- what fits

-- in a world that fits the model each layer finds a field that fits [own]
abbrev pub LayersFit : Type 0
LayersFit =
    (source : Source) (world : World) (number : ℤ) (fuel layer : ℕ) (stop : Option Stop) (field : Field)
    → FitsModel source.model world
    → HasComeTo (round_of source world number fuel) world.agents layer stop field
    → FitsField source.model field

-- a field that fits still does when the takers of a function left their state [own]
abbrev pub LeavingFits : Type 0
LeavingFits =
    (round : Round) (function : ℕ) (field : Field)
    → FitsField round.source.model field
    → FitsField round.source.model (left_by_takers round function field)
