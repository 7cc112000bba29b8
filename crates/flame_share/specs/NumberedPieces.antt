-- The pieces of a function, by number.
use Rattle.std.specs.Prelude.{ℕ, ℤ, List, [], ◌∷◌}
use Rattle.flame_spec.specs.Lists.{each}
use Rattle.flame_world.specs.declared.pieces.Piece.{Piece}

-- the piece of this number of the function, with these agents [own]
abbrev pub numbered_piece : ℕ → ℕ → List (List ℤ) → Piece
numbered_piece function number agents = record { function = function; number = number; agents = agents }

-- the pieces of the function with these agents, numbered in their order from 0 [own]
abbrev pub numbered_pieces : ℕ → List (List (List ℤ)) → List Piece
numbered_pieces function bags = each (λ number agents. numbered_piece function number agents ∷ []) bags
