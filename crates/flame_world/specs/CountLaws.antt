-- How many agents there are.
use Rattle.std.specs.Prelude.{◌≡◌, ℕ, ◌+◌, ◌-◌, ◌≤◌, ℤ, List, [], ◌∷◌, Some, Result, Ok, Err, length, slice_get}
use Rattle.std.specs.Prelude.{is_none, IsTrue}
use Rattle.std.specs.List.{filter, flat_map, list_all}
use Rattle.std.specs.Option.{option_map_or}
use Rattle.flame_spec.specs.declared.models.Model.{Model}
use Rattle.flame_spec.specs.declared.outcomes.Source.{Source}
use Rattle.flame_spec.specs.Accepted.{has_one_start}
use Rattle.flame_spec.specs.Functions.{Place, functions}
use Rattle.flame_spec.specs.ModelOrder.{model_order}
use Rattle.flame_world.specs.declared.faults.SimFault.{SimFault}
use Rattle.flame_world.specs.declared.turns.Turn.TheVariants.{Done}
use Rattle.flame_world.specs.declared.worlds.World.{World}
use Rattle.flame_world.specs.declared.worlds.Boards.{Boards}
use Rattle.flame_world.specs.AgentRuns.{kept, survivors, born_from}
use Rattle.flame_world.specs.Fields.{Field, HasPools, opening, gathered}
use Rattle.flame_world.specs.Iterations.{Round, taking, outcome_in, step, round_of, iteration}

-- ---- step by step

-- the number of rows in some bags [own]
abbrev pub count_in : List (List (List ℤ)) → ℕ
count_in bags = length (flat_map (λ bag. bag) bags)

-- the number of agents that rest in all states of all types [own]
abbrev pub resting_in : Field → ℕ
resting_in field = length (flat_map (λ pools. flat_map (λ pool. pool) pools) field.pools)

-- where each type has one start state, an iteration begins with the agents of the world, each once, and with a pool for
-- each state [FLAME User Manual]
abbrev pub AllAgentsBegin : Type 0
AllAgentsBegin =
    (model : Model) (agents : List (List (List ℤ)))
    → IsTrue (list_all has_one_start model.agents)
    → length agents ≡ length model.agents
    → (resting_in (opening model agents) ≡ count_in agents) × HasPools model (opening model agents)

-- where a function runs, its survivors rest in place of its takers, and each state keeps its pool [FLAME User Manual]
abbrev pub SurvivorsReplaceTakers : Type 0
SurvivorsReplaceTakers =
    (round : Round) (function : ℕ) (place : Place) (field after : Field)
    → HasPools round.source.model field
    → slice_get (functions round.source.model) function ≡ Some place
    → step round function field ≡ Ok after
    → (resting_in after + length (taking round function place field)
    ≡ resting_in field + length (survivors (outcome_in round function field) (taking round function place field)))
    × HasPools round.source.model after

-- at the end there are the agents that rest, who survived, and the births [FLAME User Manual]
abbrev pub SurvivorsAndBirthsRemain : Type 0
SurvivorsAndBirthsRemain =
    (field : Field)
    → length field.born ≡ length field.pools
    → count_in (gathered field) ≡ resting_in field + count_in field.born

-- ---- a whole iteration

-- how many of its takers the function of this place removes: those that keep no memory [FLAME User Manual]
abbrev pub removed_at : Round → ℕ → Place → Field → ℕ
removed_at round function place field =
    length
    (filter (λ memory. is_none (kept (outcome_in round function field memory))) (taking round function place field))

-- how many agents its takers add [FLAME User Manual]
abbrev pub added_at : Round → ℕ → Place → Field → ℕ
added_at round function place field =
    length (born_from (outcome_in round function field) (taking round function place field))

-- what is counted after a step, and nothing after a fault [own]
abbrev pub counted_after : Result Field SimFault → (Field → ℕ) → ℕ
counted_after (Ok field) count = count field
counted_after (Err fault) count = 0

-- what is counted at each of these functions, which run one after another, all together [own]
abbrev pub counted_over : (Round → ℕ → Place → Field → ℕ) → Round → List ℕ → Field → ℕ
counted_over count round [] field = 0
counted_over count round (function ∷ later) field =
    option_map_or (λ place. count round function place field) (slice_get (functions round.source.model) function) 0
    + counted_after (step round function field) (counted_over count round later)

-- what is counted at all steps of the iteration of this number of a world [own]
abbrev pub counted_in : (Round → ℕ → Place → Field → ℕ) → Source → World → ℤ → ℕ → ℕ
counted_in count source world number fuel =
    counted_over count (round_of source world number fuel) (model_order source.model)
    (opening source.model world.agents)

-- where each type has one start state and an iteration is done, the number of agents after it is that of the survivors
-- of all steps, who are the agents of the world without those that a step removed, and of all births
-- [FLAME User Manual]
abbrev pub SurvivorsAndBirthsAreAll : Type 0
SurvivorsAndBirthsAreAll =
    (source : Source) (world after : World) (number : ℤ) (fuel : ℕ) (boards : Boards)
    → IsTrue (list_all has_one_start source.model.agents)
    → length world.agents ≡ length source.model.agents
    → iteration source world number fuel ≡ Done after boards
    → (counted_in removed_at source world number fuel ≤ count_in world.agents)
    × (count_in after.agents
    ≡ (count_in world.agents - counted_in removed_at source world number fuel)
    + counted_in added_at source world number fuel)
