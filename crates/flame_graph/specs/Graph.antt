-- What lists of successors say of what stands before what, and how many predecessors are open.
use Rattle.std.specs.Prelude.{◌≡◌, ℕ, zero, suc, ◌+◌, ◌<◌, ◌==◌, ◌&&◌, not, Bool, List, [], length, slice_index}
use Rattle.std.specs.Prelude.{slice_index_or, if◌then◌else◌}
use Rattle.flame_spec.specs.Below.{all_below, is_in}

-- of n nodes, where `before f g` tells whether f stands before g: the list of each node has its successors, ascending,
-- and there is no list beyond [own]
pub record AreSuccessors (n : ℕ) (before : ℕ → ℕ → Bool) (lists : List (List ℕ)) : Type 0 where
  pub len : length lists ≡ n
  pub at : (f : ℕ) → slice_index_or lists f [] ≡ all_below (before f) n

-- g is in the list of f [own]
abbrev pub follows : List (List ℕ) → ℕ → ℕ → Bool
follows lists f g = is_in g (slice_index_or lists f [])

-- each list ascends, and its members are nodes that have lists [own]
abbrev pub AreAscending : List (List ℕ) → Type 0
AreAscending lists = AreSuccessors (length lists) (follows lists) lists

-- how many nodes below k stand before g and are not taken [own]
abbrev pub open_count : ℕ → (ℕ → ℕ → Bool) → List ℕ → ℕ → ℕ
open_count zero before taken g = 0
open_count (suc k) before taken g = open_count k before taken g + (if before k g && not (is_in k taken) then 1 else 0)

-- for each of n nodes how many nodes below k stand before it and are not taken [own]
pub record AreWaiting (k n : ℕ) (before : ℕ → ℕ → Bool) (taken counts : List ℕ) : Type 0 where
  pub len : length counts ≡ n
  pub at : (g : ℕ) → g < n → slice_index counts g ≡ open_count k before taken g

-- one of the nodes that wait for others [own]
abbrev pub waits : List ℕ → ℕ → Bool
waits waiting f = not (slice_index waiting f == 0)
