-- The parts that are handed in by a lane: some went by its channel, the others stayed with it.
use Rattle.std.specs.Prelude.{ℕ, zero, suc, ◌+◌, ℤ, List, [], ◌∷◌, Option, Some, None}
use Rattle.std.specs.List.{flat_map}
use Rattle.flame_rows.specs.Bags.{weigh}
use Rattle.flame_world.specs.declared.pieces.Part.{Part}

-- ---- room

-- the room of a channel for so many parts: for all of them, and for one at least [own]
abbrev pub room_for : ℕ → ℕ
room_for zero = 1
room_for (suc parts) = suc parts

-- ---- where it lies

-- all parts in order: for each gap the next that went, and those that stayed in their places [own]
abbrev pub put_in : List (Option Part) → List Part → List Part
put_in [] went = went
put_in (Some part ∷ stayed) went = part ∷ put_in stayed went
put_in (None ∷ stayed) [] = put_in stayed []
put_in (None ∷ stayed) (part ∷ went) = part ∷ put_in stayed went

-- how many gaps there are [own]
abbrev pub gaps : List (Option Part) → ℕ
gaps [] = 0
gaps (Some part ∷ stayed) = gaps stayed
gaps (None ∷ stayed) = 1 + gaps stayed

-- ---- what it weighs

-- the weights of all rows of the bags together [own]
abbrev pub weigh_bags : (List ℤ → ℕ) → List (List (List ℤ)) → ℕ
weigh_bags weight bags = weigh weight (flat_map (λ bag. bag) bags)

-- the weights of all rows of the parts together [own]
abbrev pub weigh_parts : (List ℤ → ℕ) → List Part → ℕ
weigh_parts weight [] = 0
weigh_parts weight (part ∷ parts) = weigh weight part.rows + weigh_parts weight parts

-- those of the parts that stayed [own]
abbrev pub weigh_stayed : (List ℤ → ℕ) → List (Option Part) → ℕ
weigh_stayed weight [] = 0
weigh_stayed weight (Some part ∷ stayed) = weigh weight part.rows + weigh_stayed weight stayed
weigh_stayed weight (None ∷ stayed) = weigh_stayed weight stayed
