-- What holds of every iteration.
use Rattle.std.specs.Prelude.{◌≡◌, ◌⊎◌, ℕ, ℤ, List, [], map, Some, Ok, length, slice_get}
use Rattle.std.specs.List.{AllZip}
use Rattle.flame_rows.specs.Order.{row_order}
use Rattle.flame_rows.specs.Sorted.{IsAscending}
use Rattle.flame_rows.specs.Bags.{count_of}
use Rattle.flame_spec.specs.declared.outcomes.Source.{Source}
use Rattle.flame_spec.specs.Functions.{Place, functions}
use Rattle.flame_meaning.specs.RangeLaws.{Each}
use Rattle.flame_world.specs.declared.turns.Turn.TheVariants.{Done}
use Rattle.flame_world.specs.declared.worlds.World.{World}
use Rattle.flame_world.specs.Fields.{Field}
use Rattle.flame_world.specs.Iterations.{Round, resting, taking, outcome_in, step, iteration}

-- ---- what an iteration depends on

-- two lists have each row equally often, in whatever order [own]
abbrev pub AreAlike : List (List ℤ) → List (List ℤ) → Type 0
AreAlike rows others = (row : List ℤ) → count_of rows row ≡ count_of others row

-- the constants are the same, and each type has the same agents, each equally often, in whatever order [own]
pub record HaveSameAgents (world other : World) : Type 0 where
  pub constants : world.constants ≡ other.constants
  pub agents : AllZip AreAlike world.agents other.agents

-- an iteration depends on its agents as a multiset alone [FLAME User Manual]
abbrev pub AgentsHaveNoOrder : Type 0
AgentsHaveNoOrder =
    (source : Source) (world other : World) (number : ℤ) (fuel : ℕ)
    → HaveSameAgents world other
    → iteration source world number fuel ≡ iteration source other number fuel

-- of the agents with equal memory that rest in a state, all take the function or none does [FLAME User Manual]
abbrev pub EqualAgentsChooseAlike : Type 0
EqualAgentsChooseAlike =
    (round : Round) (function : ℕ) (place : Place) (field : Field) (memory : List ℤ)
    → (count_of (taking round function place field) memory ≡ count_of (resting place field) memory)
    ⊎ (count_of (taking round function place field) memory ≡ 0)

-- the outcome of a function for an agent depends on its memory and on the boards alone: equal agents fare alike, wherever
-- others rest and whatever is born [FLAME User Manual]
abbrev pub EqualAgentsFareAlike : Type 0
EqualAgentsFareAlike =
    (round : Round) (function : ℕ) (field other : Field) (memory : List ℤ)
    → field.boards ≡ other.boards
    → outcome_in round function field memory ≡ outcome_in round function other memory

-- ---- where nothing happens

-- pools, births and boards are bags [own]
pub record HasBags (field : Field) : Type 0 where
  pub pools : Each (λ pools. Each (IsAscending row_order) pools) field.pools
  pub born : Each (IsAscending row_order) field.born
  pub boards : Each (IsAscending row_order) field.boards

-- a function that nobody takes changes nothing [FLAME User Manual]
abbrev pub NobodyChangesNothing : Type 0
NobodyChangesNothing =
    (round : Round) (function : ℕ) (place : Place) (field : Field)
    → HasBags field
    → slice_get (functions round.source.model) function ≡ Some place
    → taking round function place field ≡ []
    → step round function field ≡ Ok field

-- an iteration of a model without functions is the world itself, with empty boards [FLAME User Manual]
abbrev pub NoFunctionsNoChange : Type 0
NoFunctionsNoChange =
    (source : Source) (world : World) (number : ℤ) (fuel : ℕ)
    → functions source.model ≡ []
    → length world.agents ≡ length source.model.agents
    → Each (IsAscending row_order) world.agents
    → iteration source world number fuel
    ≡ Done world (record { boards = map (λ message. []) source.model.messages })
