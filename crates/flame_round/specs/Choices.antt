-- What agents take, by place.
use Rattle.std.specs.Prelude.{ℕ, ℤ, List, [], Vec, length, slice_get, slice_index_or}
use Rattle.std.specs.Global.{Global}
use Rattle.std.specs.Option.{option_map_or}
use Rattle.flame_spec.specs.declared.models.Model.{Model}
use Rattle.flame_spec.specs.States.{states}
use Rattle.flame_pool.specs.PoolLaws.{chosen_place}
use Rattle.flame_field.specs.declared.pools.Pool.{Pool}
use Rattle.flame_field.specs.KeptPools.{chosen_at, pool_at}
use Rattle.flame_route.specs.declared.routes.Route.{Route}

-- the state of this number of a type of the model [FLAME User Manual; no such state: own]
abbrev pub state_at : Model → ℕ → ℕ → List ℕ
state_at model agent state =
    option_map_or (λ type. slice_index_or (states type.functions) state []) (slice_get model.agents agent) []

-- the place, among the functions out of this state of this type, of that which an agent with this memory takes [own]
abbrev pub choice_at : Model → ℤ → ℕ → ℕ → List ℤ → ℕ
choice_at model iteration agent state memory =
    chosen_place model agent (state_at model agent state) iteration memory

-- how many agents are kept that chose the function which goes by this route [own]
abbrev pub takers_kept : Route → List (Vec Pool Global) → ℕ
takers_kept route pools =
    option_map_or (λ pool. length (chosen_at pool route.choice)) (pool_at pools route.agent route.from) 0
