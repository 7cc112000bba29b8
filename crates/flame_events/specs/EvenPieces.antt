-- Laws of cuts: how the agents that take a function stand in its pieces.
use Rattle.std.specs.Prelude.{◌≡◌, ℕ, ◌+◌, ◌*◌, ◌<◌, ◌≤◌, ℤ, List, [], length, slice_get, Some}
use Rattle.std.specs.List.{flat_map}
use Rattle.flame_rows.specs.Cuts.{piece_size, cut}

-- these pieces, laid end to end, are the agents; there are at most so many of them; each has an agent at least and this
-- many at most, and each but the last has this many [own]
pub record AreEven (agents : List (List ℤ)) (pieces size : ℕ) (bags : List (List (List ℤ))) : Type 0 where
  pub whole : flat_map (λ bag. bag) bags ≡ agents
  pub few : length bags ≤ pieces
  pub filled :
      (piece : ℕ) (bag : List (List ℤ)) → slice_get bags piece ≡ Some bag → (0 < length bag) × (length bag ≤ size)
  pub even :
      (piece : ℕ) (bag : List (List ℤ))
      → slice_get bags piece ≡ Some bag
      → piece + 1 < length bags
      → length bag ≡ size

-- the size of a piece is an equal share, rounded up: so many pieces of it are enough for all agents, and no lesser size
-- is [own]
abbrev pub PieceSizesAreShares : Type 0
PieceSizesAreShares =
    (agents pieces : ℕ)
    → 0 < pieces
    → (agents ≤ pieces * piece_size agents pieces)
    × ((size : ℕ) → agents ≤ pieces * size → piece_size agents pieces ≤ size)

-- all agents are cut into at most so many pieces of that size, of which the last one may be smaller [own]
abbrev pub CutsAreEven : Type 0
CutsAreEven =
    (agents : List (List ℤ)) (pieces : ℕ)
    → 0 < pieces
    → AreEven agents pieces (piece_size (length agents) pieces) (cut pieces agents)

-- where there is nobody there is no piece [own]
abbrev pub NobodyIsNoPiece : Type 0
NobodyIsNoPiece = (pieces : ℕ) → let nobody : List (List ℤ) = [] in cut pieces nobody ≡ []
