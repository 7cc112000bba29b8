-- What the functions of a layer leave that run side by side.
use Rattle.std.specs.Prelude.{ℕ, ℤ, List, [], ◌∷◌, slice_get, Option, Some, None, option_map}
use Rattle.std.specs.Option.{option_or}
use Rattle.flame_rows.specs.Bags.{merge}
use Rattle.flame_spec.specs.declared.models.Model.{Model}
use Rattle.flame_spec.specs.declared.outcomes.Outcome.{Outcome}
use Rattle.flame_spec.specs.Before.{before, function_count}
use Rattle.flame_spec.specs.Functions.{Place, functions}
use Rattle.flame_spec.specs.ModelOrder.{rank}
use Rattle.flame_spec.specs.States.{state_place}
use Rattle.flame_world.specs.declared.faults.SimFault.{SimFault}
use Rattle.flame_world.specs.AgentRuns.{survivors, sent_from, born_from, least_fault, messages_of, births_of}
use Rattle.flame_world.specs.Fields.{Field, changed_pool, joined}
use Rattle.flame_world.specs.Iterations.{Round, taking, staying, outcome_in}
use Rattle.flame_layers.specs.declared.stops.Stop.{Stop}

-- ---- takers leave

-- the takers of the function of this place [FLAME User Manual; no place: own]
abbrev pub takers_at : Option Place → Round → ℕ → Field → List (List ℤ)
takers_at None round function field = []
takers_at (Some place) round function field = taking round function place field

-- the takers of the function of this number [FLAME User Manual]
abbrev pub takers_in : Round → ℕ → Field → List (List ℤ)
takers_in round function field = takers_at (slice_get (functions round.source.model) function) round function field

-- they leave its state [FLAME User Manual; no place: own]
abbrev pub left_at : Option Place → Round → ℕ → Field → Field
left_at None round function field = field
left_at (Some place) round function field = record field {
  pools =
      changed_pool place.agent (state_place place.type place.function.current) (staying round function place) field.pools;
}

-- the takers of the function of this number leave its state [FLAME User Manual]
abbrev pub left_by_takers : Round → ℕ → Field → Field
left_by_takers round function field =
    left_at (slice_get (functions round.source.model) function) round function field

-- those of these functions leave, function by function [own]
abbrev pub left_by_all : Round → List ℕ → Field → Field
left_by_all round [] field = field
left_by_all round (function ∷ functions) field = left_by_all round functions (left_by_takers round function field)

-- the takers of each of these functions, which leave function by function [own]
abbrev pub all_takers : Round → List ℕ → Field → List (List (List ℤ))
all_takers round [] field = []
all_takers round (function ∷ functions) field =
    takers_in round function field ∷ all_takers round functions (left_by_takers round function field)

-- ---- what they leave behind

-- these agents ran the function of this place over the boards of the field `read`: survivors arrived in the next state,
-- births are set aside, and messages joined their boards [FLAME User Manual; when births act, and no place: own]
abbrev pub brought_at : Option Place → Round → Field → ℕ → List (List ℤ) → Field → Field
brought_at None round read function agents field = field
brought_at (Some place) round read function agents field =
    let run : List ℤ → Outcome = outcome_in round function read in
    record {
      pools =
          changed_pool place.agent (state_place place.type place.function.next)
          (λ pool. merge pool (survivors run agents)) field.pools;
      born = joined (births_of (born_from run agents)) field.born;
      boards = joined (messages_of (sent_from run agents)) field.boards;
    }

-- these agents ran the function of this number over those boards [FLAME User Manual; when births act: own]
abbrev pub brought_by : Round → Field → ℕ → List (List ℤ) → Field → Field
brought_by round read function agents field =
    brought_at (slice_get (functions round.source.model) function) round read function agents field

-- these agents ran each of these functions over those boards [own]
abbrev pub brought_by_all : Round → Field → List ℕ → List (List (List ℤ)) → Field → Field
brought_by_all round read [] takers field = field
brought_by_all round read (function ∷ functions) [] field = field
brought_by_all round read (function ∷ functions) (agents ∷ takers) field =
    brought_by_all round read functions takers (brought_by round read function agents field)

-- the takers of these functions leave, run over the boards as they are, and what they leave goes where it belongs [own]
abbrev pub layer_field : Round → List ℕ → Field → Field
layer_field round functions field =
    brought_by_all round field functions (all_takers round functions field) (left_by_all round functions field)

-- ---- faults

-- the rank of the function of this number: its place in model order [own]
abbrev pub rank_of : Model → ℕ → ℕ
rank_of model function = rank (function_count model) (before model) function

-- where the function stops the iteration, of which these agents ran over those boards [own]
abbrev pub stop_by : Round → Field → ℕ → List (List ℤ) → Option Stop
stop_by round read function agents =
    option_map
    (λ (fault : SimFault). record { rank = rank_of round.source.model function; fault = fault })
    (least_fault round.iteration function (outcome_in round function read) agents)

-- where the first of these functions stops it that does [own]
abbrev pub first_stop : Round → Field → List ℕ → List (List (List ℤ)) → Option Stop
first_stop round read [] takers = None
first_stop round read (function ∷ functions) [] = None
first_stop round read (function ∷ functions) (agents ∷ takers) =
    option_or (stop_by round read function agents) (first_stop round read functions takers)

-- where it stops when these functions ran side by side in this field, which are of lower ranks than where it stopped before
-- [own]
abbrev pub layer_stop : Round → List ℕ → Field → Option Stop → Option Stop
layer_stop round functions field stop =
    option_or (first_stop round field functions (all_takers round functions field)) stop
