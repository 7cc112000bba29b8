-- Rows in parts. Each part has its rows in the order in which they stand.
use Rattle.std.specs.Prelude.{◌≡◌, ℕ, ◌==◌, ℤ, List, [], ◌∷◌, map, Bool, if◌then◌else◌}
use Rattle.std.specs.List.{range_with_len}
use denote.Ref.{Bor}

-- the rows whose choices pass
abbrev pub whose : (ℕ → Bool) → List (List ℤ) → List ℕ → List (List ℤ)
whose passes (row ∷ rows) (choice ∷ choices) =
    if passes choice then row ∷ whose passes rows choices else whose passes rows choices
whose passes _ _ = []

-- for each number below this one the rows whose choice it is
abbrev pub parts_by : ℕ → List (List ℤ) → List ℕ → List (List (List ℤ))
parts_by count rows choices = map (λ number. whose (λ choice. choice == number) rows choices) (range_with_len 0 count)

-- what the test answers at a row is whether the row passes
abbrev pub TestsBy : (Bor (List ℤ) → Bool → Type 0) → (List ℤ → Bool) → Type 0
TestsBy gives passes = (row : Bor (List ℤ)) (answer : Bool) → gives row answer → answer ≡ passes row.now
