-- Fields: where agents, births and messages are between two functions of an iteration.
use Rattle.std.specs.Prelude.{◌≡◌, ℕ, zero, suc, ◌+◌, ℤ, List, [], ◌∷◌, map, length, slice_index_or, if◌then◌else◌}
use Rattle.std.specs.List.{AllZip, zip, flat_map}
use Rattle.flame_rows.specs.Bags.{ascending, merge}
use Rattle.flame_spec.specs.declared.models.Model.{Model}
use Rattle.flame_spec.specs.declared.models.AgentType.{AgentType}
use Rattle.flame_spec.specs.States.{states, is_entered}
use Rattle.flame_world.specs.declared.worlds.World.{World}

-- the bag of agents that rest in each state of each type, the bag of births of each type, and the board of each message;
-- types and messages in the order of the model, states in the order of the type's functions [FLAME User Manual]
pub record Field : Type 0 where
  pub pools : List (List (List (List ℤ)))
  pub born : List (List (List ℤ))
  pub boards : List (List (List ℤ))

-- ---- at the beginning

-- the bag of all agents of a type rests in its start state, the one that no function enters; an accepted model has one
-- for each type [FLAME User Manual]
abbrev pub begun : AgentType → List (List ℤ) → List (List (List ℤ))
begun type agents =
    map (λ state. if is_entered type.functions state then [] else ascending agents) (states type.functions)

-- an iteration begins: agents rest in their start states, births and boards are empty [FLAME User Manual]
abbrev pub opening : Model → List (List (List ℤ)) → Field
opening model agents = record {
  pools = map (λ (type, bag). begun type bag) (zip model.agents agents);
  born = map (λ type. []) model.agents;
  boards = map (λ message. []) model.messages;
}

-- ---- pools

-- each type has a pool for each of its states [own]
abbrev pub HasPools : Model → Field → Type 0
HasPools model field = AllZip (λ type pools. length pools ≡ length (states type.functions)) model.agents field.pools

-- the agents of a type that rest in a state [FLAME User Manual; no such state: own]
abbrev pub pool_in : List (List (List (List ℤ))) → ℕ → ℕ → List (List ℤ)
pool_in pools agent state = slice_index_or (slice_index_or pools agent []) state []

-- the element at a place is changed [own]
abbrev pub changed : {X : Type 0} → ℕ → (X → X) → List X → List X
changed place change [] = []
changed zero change (x ∷ xs) = change x ∷ xs
changed (suc place) change (x ∷ xs) = x ∷ changed place change xs

-- the pool of a state of a type is changed [own]
abbrev pub changed_pool :
    ℕ → ℕ → (List (List ℤ) → List (List ℤ)) → List (List (List (List ℤ))) → List (List (List (List ℤ)))
changed_pool agent state change pools = changed agent (changed state change) pools

-- ---- births and boards

-- to each of these bags, which are numbered from i, the rows of its number are added [own]
abbrev pub joined_from : ℕ → (ℕ → List (List ℤ)) → List (List (List ℤ)) → List (List (List ℤ))
joined_from i rows [] = []
joined_from i rows (bag ∷ bags) = merge bag (rows i) ∷ joined_from (i + 1) rows bags

-- to each bag the rows of its number are added [own]
abbrev pub joined : (ℕ → List (List ℤ)) → List (List (List ℤ)) → List (List (List ℤ))
joined rows bags = joined_from 0 rows bags

-- ---- at the end

-- the agents of each type: those in all its states, and its births [FLAME User Manual; when births act: own]
abbrev pub gathered : Field → List (List (List ℤ))
gathered field = map (λ (pools, born). merge (flat_map (λ pool. pool) pools) born) (zip field.pools field.born)
