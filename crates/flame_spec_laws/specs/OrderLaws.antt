-- What holds of model order, cycles and layers: of any n functions and any `before`. [own]
use Rattle.std.specs.Prelude.{◌≡◌, ◌↔◌, ℕ, suc, ◌<◌, ◌≤◌, Bool, true, false, List, [], ◌∷◌, ◌++◌, Some, None, length}
use Rattle.std.specs.Prelude.{take, slice_index}
use Rattle.flame_spec.specs.Below.{is_in, HasNoTwice}
use Rattle.flame_spec.specs.ModelOrder.{next, order, rank, first_left, step_back, cycle}
use Rattle.flame_spec.specs.Layers.{above, layer}

-- model order lists functions of the model
abbrev pub OrderListsFunctions : Type 0
OrderListsFunctions =
    (n : ℕ) (before : ℕ → ℕ → Bool) (place : ℕ)
    → place < length (order n before)
    → slice_index (order n before) place < n

-- it lists none twice
abbrev pub OrderListsNoneTwice : Type 0
OrderListsNoneTwice = (n : ℕ) (before : ℕ → ℕ → Bool) → HasNoTwice (order n before)

-- it lists each function after all that stand before it
abbrev pub OrderRespectsBefore : Type 0
OrderRespectsBefore =
    (n : ℕ) (before : ℕ → ℕ → Bool) (place f : ℕ)
    → place < length (order n before)
    → f < n
    → before f (slice_index (order n before) place) ≡ true
    → is_in f (take place (order n before)) ≡ true

-- at each place stands the first function in document order that is not taken and whose predecessors are all taken
abbrev pub OrderTakesFirst : Type 0
OrderTakesFirst =
    (n : ℕ) (before : ℕ → ℕ → Bool) (place : ℕ)
    → place < length (order n before)
    → next n before (take place (order n before)) ≡ Some (slice_index (order n before) place)

-- it lists all functions exactly where none is left over
abbrev pub OrderIsWhole : Type 0
OrderIsWhole =
    (n : ℕ) (before : ℕ → ℕ → Bool)
    → (first_left n before ≡ None) ↔ ((g : ℕ) → g < n → is_in g (order n before) ≡ true)

-- from a function that is left over one can step back to one that is left over and stands before it
abbrev pub LeftOverStepsBack : Type 0
LeftOverStepsBack =
    (n : ℕ) (before : ℕ → ℕ → Bool) (g : ℕ)
    → g < n
    → is_in g (order n before) ≡ false
    → (f : ℕ)
    × (step_back n before g ≡ Some f)
    × (f < n)
    × (is_in f (order n before) ≡ false)
    × (before f g ≡ true)

-- ---- ranks

-- what stands before a function of the order has the smaller rank
abbrev pub RanksRise : Type 0
RanksRise =
    (n : ℕ) (before : ℕ → ℕ → Bool) (f g : ℕ)
    → f < n
    → is_in g (order n before) ≡ true
    → before f g ≡ true
    → rank n before f < rank n before g

-- at the rank of a function of the order stands the function
abbrev pub OrderHasAtRank : Type 0
OrderHasAtRank =
    (n : ℕ) (before : ℕ → ℕ → Bool) (f : ℕ)
    → is_in f (order n before) ≡ true
    → (rank n before f < length (order n before)) × (slice_index (order n before) (rank n before f) ≡ f)

-- the rank of the function at a place is the place
abbrev pub RankIsPlace : Type 0
RankIsPlace =
    (n : ℕ) (before : ℕ → ℕ → Bool) (place : ℕ)
    → place < length (order n before)
    → rank n before (slice_index (order n before) place) ≡ place

-- the rank of a function that is left over is the length of the order
abbrev pub LeftOverHasNoRank : Type 0
LeftOverHasNoRank =
    (n : ℕ) (before : ℕ → ℕ → Bool) (f : ℕ)
    → is_in f (order n before) ≡ false
    → rank n before f ≡ length (order n before)

-- ---- cycles

-- each stands before the next one
abbrev pub IsChain : (ℕ → ℕ → Bool) → List ℕ → Type 0
IsChain before [] = Unit {0}
IsChain before (f ∷ []) = Unit {0}
IsChain before (f ∷ g ∷ functions) = (before f g ≡ true) × IsChain before (g ∷ functions)

-- each stands before the next one, and the last one before the first one
pub record IsRound (before : ℕ → ℕ → Bool) (functions : List ℕ) : Type 0 where
  pub front : List ℕ
  pub last : ℕ
  pub ends : functions ≡ front ++ last ∷ []
  pub closes : IsChain before (last ∷ functions)

-- the members of a cycle form a round in the direction of `before`, each once, begun with the first in document order
pub record IsCycle (n : ℕ) (before : ℕ → ℕ → Bool) (functions : List ℕ) : Type 0 where
  pub round : IsRound before functions
  pub once : HasNoTwice functions
  pub first : (place : ℕ) → place < length functions → slice_index functions 0 ≤ slice_index functions place
  pub below : (place : ℕ) → place < length functions → slice_index functions place < n

-- where a function is left over, there is a cycle
abbrev pub LeftOverHasCycle : Type 0
LeftOverHasCycle =
    (n : ℕ) (before : ℕ → ℕ → Bool) (g : ℕ)
    → first_left n before ≡ Some g
    → IsCycle n before (cycle n before)

-- each is a function of the model
abbrev pub AreFunctions : ℕ → List ℕ → Type 0
AreFunctions n [] = Unit {0}
AreFunctions n (f ∷ functions) = (f < n) × AreFunctions n functions

-- where functions form a round, one is left over
abbrev pub RoundLeavesOver : Type 0
RoundLeavesOver =
    (n : ℕ) (before : ℕ → ℕ → Bool) (functions : List ℕ)
    → AreFunctions n functions
    → IsRound before functions
    → first_left n before ≡ None
    → ⊥

-- ---- layers

-- without a cycle the layer of each function is 0, or 1 more than the greatest layer of its predecessors
abbrev pub LayersAreAbove : Type 0
LayersAreAbove =
    (n : ℕ) (before : ℕ → ℕ → Bool)
    → first_left n before ≡ None
    → (g : ℕ)
    → g < n
    → layer n before g ≡ above n before (layer n before) g

-- without a cycle layers rise wherever a function stands before another
abbrev pub LayersRise : Type 0
LayersRise =
    (n : ℕ) (before : ℕ → ℕ → Bool)
    → first_left n before ≡ None
    → (f g : ℕ)
    → f < n
    → g < n
    → before f g ≡ true
    → layer n before f < layer n before g

-- without a cycle a function of a layer above 0 has a predecessor in the layer below
abbrev pub LayersHaveNoGap : Type 0
LayersHaveNoGap =
    (n : ℕ) (before : ℕ → ℕ → Bool)
    → first_left n before ≡ None
    → (g below : ℕ)
    → g < n
    → layer n before g ≡ suc below
    → (f : ℕ) × (f < n) × (before f g ≡ true) × (layer n before f ≡ below)
