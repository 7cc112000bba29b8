-- The edges of a model: which function stands before which.
use Rattle.std.specs.Prelude.{ℕ, zero, suc, Bool, List, [], ◌++◌, map}
use Rattle.flame_spec.specs.declared.models.Model.{Model}
use Rattle.flame_spec.specs.Before.{before, function_count}
use Rattle.flame_spec.specs.Below.{all_below}
use Rattle.flame_depend.specs.declared.pairs.Edge.{Edge}

-- from f to g [own]
abbrev pub edge : ℕ → ℕ → Edge
edge f g = record { before = f; after = g }

-- from f to each of these [own]
abbrev pub edges_to : ℕ → List ℕ → List Edge
edges_to f targets = map (edge f) targets

-- from each function below k, in order, to each of the n functions that it stands before, in order [own]
abbrev pub edges_below : ℕ → ℕ → (ℕ → ℕ → Bool) → List Edge
edges_below zero n before = []
edges_below (suc k) n before = edges_below k n before ++ edges_to k (all_below (before k) n)

-- from each function of the model to each that it stands before [own]
abbrev pub edges_of : Model → List Edge
edges_of model = edges_below (function_count model) (function_count model) (before model)
