-- How agents are kept that rest in states.
use Rattle.std.specs.Prelude.{◌≡◌, ◌==◌, ℕ, ◌+◌, ◌≤◌, ℤ, List, [], Vec, map, length, Option, Some, option_and_then, slice_get, slice_index_or}
use Rattle.std.specs.Vec.{vec_len, vec_capacity}
use Rattle.std.specs.Global.{Global}
use Rattle.std.specs.List.{All, filter}
use Rattle.flame_rows.specs.Bags.{merge, merge_all}
use Rattle.flame_field.specs.declared.gatherings.Gathering.{Gathering}
use Rattle.flame_field.specs.KeptGatherings.{bag_of, bags_of}
use Rattle.flame_field.specs.declared.pools.Pool.{Pool}

-- ---- one state

-- the bag of the agents that rest there, whether they chose or not [own]
abbrev pub pool_bag : Pool → List (List ℤ)
pool_bag pool = merge (bag_of pool.fresh) (merge_all (bags_of pool.chosen))

-- those that chose the function at this place [own]
abbrev pub chosen_at : Pool → ℕ → List (List ℤ)
chosen_at pool place = slice_index_or (bags_of pool.chosen) place []

-- each agent in these bags, one for each place, is where its choice is, which this tells by its memory [own]
abbrev pub AreApart : (List ℤ → ℕ) → List (List (List ℤ)) → Type 0
AreApart choose bags = (place : ℕ) → All (λ memory. choose memory ≡ place) (slice_index_or bags place [])

-- each agent that chose is where its choice is [own]
abbrev pub IsDealt : (List ℤ → ℕ) → Pool → Type 0
IsDealt choose pool = AreApart choose (bags_of pool.chosen)

-- how many of these choices are this place [own]
abbrev pub choosing : List ℕ → ℕ → ℕ
choosing choices place = length (filter (λ choice. choice == place) choices)

-- at each place is room for those who choose it [own]
abbrev pub HaveRooms : List ℕ → Vec Gathering Global → Type 0
HaveRooms choices chosen =
    (place : ℕ) (own : Gathering)
    → slice_get chosen.items place ≡ Some own
    → vec_len own.rows + choosing choices place ≤ vec_capacity own.rows

-- ---- all states of all types

-- the bags of the pools of a type, in order [own]
abbrev pub pool_bags : Vec Pool Global → List (List (List ℤ))
pool_bags pools = map pool_bag pools.items

-- the bags of the pools of all types, in order [own]
abbrev pub pools_of : Vec (Vec Pool Global) Global → List (List (List (List ℤ)))
pools_of pools = map pool_bags pools.items

-- the pool of this state of this type, as it is kept; none where there is none [own]
abbrev pub pool_at : List (Vec Pool Global) → ℕ → ℕ → Option Pool
pool_at pools agent state = option_and_then (λ own. slice_get own.items state) (slice_get pools agent)

-- in each state of each type each agent that chose is where its choice is: what this tells by its memory [own]
abbrev pub AreDealt : (ℕ → ℕ → List ℤ → ℕ) → Vec (Vec Pool Global) Global → Type 0
AreDealt choose pools =
    (agent state : ℕ) (pool : Pool) → pool_at pools.items agent state ≡ Some pool → IsDealt (choose agent state) pool

-- all agents in this state of this type chose [own]
abbrev pub HaveChosen : Vec (Vec Pool Global) Global → ℕ → ℕ → Type 0
HaveChosen pools agent state =
    (pool : Pool) → pool_at pools.items agent state ≡ Some pool → pool.fresh.rows.items ≡ []
