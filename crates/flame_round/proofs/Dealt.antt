-- Pools in which each agent that chose is where its choice is.
use Rattle.std.proofs.Common.{◌≡◌, ℕ, zero, suc, List, [], ◌∷◌, ◌++◌, Vec, Some, subst, sym}
use Rattle.std.specs.Prelude.{ℤ, slice_get, slice_set}
use Rattle.std.specs.Global.{Global}
use Rattle.flame_field.specs.declared.pools.Pool.{Pool}
use Rattle.std.proofs.lemmas.Option.{option_and_then_some}
use Rattle.flame_field.specs.KeptPools.{AreDealt, IsDealt}

-- what holds of each element and of one more
module _ {X : Type 0} (P : X → Type 0) where
  pub each-pushed : (xs : List X) (x : X)
      → ((k : ℕ) (y : X) → slice_get xs k ≡ Some y → P y)
      → P x
      → (k : ℕ) (y : X) → slice_get (xs ++ x ∷ []) k ≡ Some y → P y
  each-pushed [] x all one zero y at = let same : x ≡ y = cc in subst P same one
  each-pushed [] x all one (suc k) y at = absurd cc
  each-pushed (z ∷ xs) x all one zero y at = all 0 y at
  each-pushed (z ∷ xs) x all one (suc k) y at = each-pushed xs x (λ j other there. all (suc j) other there) one k y at

  -- and of what is written
  pub each-written : (xs : List X) (place : ℕ) (x : X)
      → ((k : ℕ) (y : X) → slice_get xs k ≡ Some y → P y)
      → P x
      → (k : ℕ) (y : X) → slice_get (slice_set xs place x) k ≡ Some y → P y
  each-written [] place x all one k y at = all k y at
  each-written (z ∷ xs) zero x all one zero y at = let same : x ≡ y = cc in subst P same one
  each-written (z ∷ xs) zero x all one (suc k) y at = all (suc k) y at
  each-written (z ∷ xs) (suc place) x all one zero y at = all 0 y at
  each-written (z ∷ xs) (suc place) x all one (suc k) y at =
      each-written xs place x (λ j other there. all (suc j) other there) one k y at

-- in each pool of a type each agent that chose is where its choice is, whatever tells the choice
abbrev pub AnyDealt : List Pool → Type 0
AnyDealt pools = (state : ℕ) (pool : Pool) → slice_get pools state ≡ Some pool → (choose : List ℤ → ℕ) → IsDealt choose pool

-- the same of all types
abbrev pub AllDealt : List (Vec Pool Global) → Type 0
AllDealt pools = (agent : ℕ) (own : Vec Pool Global) → slice_get pools agent ≡ Some own → AnyDealt own.items

pub all-none : (pools : List (Vec Pool Global)) → pools ≡ [] → AllDealt pools
all-none pools none = subst AllDealt (sym none) (λ agent own at. absurd cc)

pub all-dealt : (choose : ℕ → ℕ → List ℤ → ℕ) (pools : Vec (Vec Pool Global) Global) → AllDealt pools.items → AreDealt choose pools
all-dealt choose pools all agent state pool at =
    option_and_then_some (λ (own : Vec Pool Global). slice_get own.items state) (slice_get pools.items agent) pool at
    (λ own there found. all agent own there state pool found (choose agent state))
