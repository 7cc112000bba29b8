-- Heights on the way to layers.
use Rattle.std.specs.Prelude.{ℕ, ◌+◌, max, Bool, List, [], ◌∷◌, if◌then◌else◌}

-- a height that is lifted to another, where a test says so [own]
abbrev pub lifted : ℕ → Bool → ℕ → ℕ
lifted to test height = if test then max height to else height

-- 0, or 1 more than the greatest height of those nodes in the list that stand before g [own]
abbrev pub reached : (ℕ → ℕ → Bool) → (ℕ → ℕ) → List ℕ → ℕ → ℕ
reached before height [] g = 0
reached before height (f ∷ nodes) g = max (if before f g then height f + 1 else 0) (reached before height nodes g)
