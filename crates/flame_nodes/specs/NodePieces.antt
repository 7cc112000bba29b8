-- The pieces of nodes.
use Rattle.std.specs.Prelude.{ℕ, ℤ, List, [], ◌∷◌}
use Rattle.std.specs.List.{flat_map}
use Rattle.flame_spec.specs.Lists.{each}
use Rattle.flame_share.specs.NumberedPieces.{numbered_piece}
use Rattle.flame_world.specs.declared.pieces.Piece.{Piece}

-- the piece of the node of this number that has these agents; where there are none there is no piece [own]
abbrev pub piece_for : ℕ → ℕ → List (List ℤ) → List Piece
piece_for function node [] = []
piece_for function node (agent ∷ agents) = numbered_piece function node (agent ∷ agents) ∷ []

-- the pieces of all nodes, which have the agents in these bags, numbered from 0 [own]
abbrev pub node_pieces : ℕ → List (List (List ℤ)) → List Piece
node_pieces function bags = each (piece_for function) bags

-- the agents of all pieces, one piece after another [own]
abbrev pub agents_in : List Piece → List (List ℤ)
agents_in pieces = flat_map (λ piece. piece.agents) pieces
