-- The way back from nodes that are left over.
use Rattle.std.specs.Prelude.{◌≡◌, ℕ, ◌<◌, ◌&&◌, Bool, false, List, Option, Some, None, length}
use Rattle.std.specs.Prelude.{slice_index_or, if◌then◌else◌}
use Rattle.std.specs.Option.{option_or}
use Rattle.flame_spec.specs.Below.{first_below, is_in}
use Rattle.flame_graph.specs.Graph.{waits}

-- where it points already, else to f, where a test says so [own]
abbrev pub pointed : ℕ → Bool → Option ℕ → Option ℕ
pointed f test back = option_or back (if test then Some f else None)

-- each of n nodes points to the first node below k that stands before it and waits itself [own]
pub record ArePointing (k n : ℕ) (before : ℕ → ℕ → Bool) (waiting : List ℕ) (backs : List (Option ℕ)) : Type 0 where
  pub len : length backs ≡ n
  pub at : (g : ℕ) → g < n → slice_index_or backs g None ≡ first_below (λ f. before f g && waits waiting f) k

-- where each node points to [own]
abbrev pub back_from : List (Option ℕ) → ℕ → Option ℕ
back_from backs g = slice_index_or backs g None

-- each node that is marked is in the path [own]
pub record AreSeen (n : ℕ) (path : List ℕ) (marks : List Bool) : Type 0 where
  pub len : length marks ≡ n
  pub at : (g : ℕ) → g < n → slice_index_or marks g false ≡ is_in g path
