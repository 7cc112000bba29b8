-- How a list is cut into even pieces.
use Rattle.std.specs.Prelude.{ℕ, zero, suc, ◌+◌, ◌-◌, ◌/◌, List, [], ◌∷◌, length, take, drop}

-- how many of so many elements stand in a piece: as many as an equal share is, rounded up
abbrev pub piece_size : ℕ → ℕ → ℕ
piece_size elements pieces = (elements + pieces - 1) / pieces

-- the first runs of this length, of which the last may be shorter, until all is taken or there are so many: within that
-- number a cut takes all, and by it the recursion ends
abbrev pub runs : {X : Type 0} → ℕ → ℕ → List X → List (List X)
runs zero size xs = []
runs (suc more) size [] = []
runs (suc more) size (x ∷ xs) = take size (x ∷ xs) ∷ runs more size (drop size (x ∷ xs))

-- the elements in at most so many pieces, in order; none where there are no elements
abbrev pub cut : {X : Type 0} → ℕ → List X → List (List X)
cut pieces xs = runs pieces (piece_size (length xs) pieces) xs
