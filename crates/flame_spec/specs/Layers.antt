-- Layers: of n functions, numbered in document order, where `before f g` tells whether f stands before g.
use Rattle.std.specs.Prelude.{ℕ, zero, suc, ◌+◌, max, Bool, List, map, if◌then◌else◌}
use Rattle.std.specs.List.{range_with_len}
use Rattle.flame_spec.specs.declared.models.Model.{Model}
use Rattle.flame_spec.specs.Before.{before, function_count}

-- 0 where no function below n stands before g, else 1 more than the greatest height of those that do [own]
abbrev pub above : ℕ → (ℕ → ℕ → Bool) → (ℕ → ℕ) → ℕ → ℕ
above zero before height g = 0
above (suc n) before height g = max (above n before height g) (if before n g then height n + 1 else 0)

-- the layer of g, over paths of at most so many steps: 0, or 1 more than the greatest layer of its predecessors [own]
abbrev pub layer_within : ℕ → ℕ → (ℕ → ℕ → Bool) → ℕ → ℕ
layer_within zero n before g = 0
layer_within (suc steps) n before g = above n before (layer_within steps n before) g

-- the layer of g; without a cycle no path has more than n steps [own]
abbrev pub layer : ℕ → (ℕ → ℕ → Bool) → ℕ → ℕ
layer n before g = layer_within n n before g

-- the layers of all functions, in document order [own]
abbrev pub layers : ℕ → (ℕ → ℕ → Bool) → List ℕ
layers n before = map (layer n before) (range_with_len 0 n)

-- the layers of the model's functions [own]
abbrev pub model_layers : Model → List ℕ
model_layers model = layers (function_count model) (before model)
