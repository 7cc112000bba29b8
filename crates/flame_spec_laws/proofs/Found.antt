-- What is found in lists, and what is not.
use Rattle.std.proofs.Common.{◌≡◌, zero, suc, Bool, true, false, ◌||◌, List, [], ◌∷◌, Contains, ◌⊎◌}
use Rattle.std.proofs.Common.{inl, inr, refl, ap, sym, ◌∙◌, arith}
use Rattle.std.proofs.lemmas.Bool.{or_left, or_right}
use Rattle.std.specs.List.{list_any, flat_map}
use Rattle.flame_rows.proofs.Lists.{append-is_nil_left, append-is_nil_right}

-- ---- nothing

-- ---- elements

pub Contains-head : {X : Type 0} (x : X) (xs : List X) → Contains (x ∷ xs) x
Contains-head x xs = (0, omega arith, refl)

pub Contains-later : {X : Type 0} (x : X) (xs : List X) (y : X) → Contains xs y → Contains (x ∷ xs) y
Contains-later x xs y (k, below, at) = (suc k, omega arith, at)

pub Contains-cases : {X : Type 0} (x : X) (xs : List X) (y : X) → Contains (x ∷ xs) y → (x ≡ y) ⊎ Contains xs y
Contains-cases x xs y (zero, below, at) = inl at
Contains-cases x xs y (suc k, below, at) = inr (k, omega arith, at)

pub flat_map-none :
    {X Y : Type 0} (f : X → List Y) (xs : List X) (y : X)
    → Contains xs y
    → flat_map f xs ≡ []
    → f y ≡ []
flat_map-none f [] y (k, below, at) none = absurd (omega arith)
flat_map-none f (x ∷ xs) y c none = by_place (Contains-cases x xs y c) (flat_map-none f xs y)
  where
    by_place : (x ≡ y) ⊎ Contains xs y → (Contains xs y → flat_map f xs ≡ [] → f y ≡ []) → f y ≡ []
    by_place (inl e) later = sym (ap f e) ∙ append-is_nil_left (f x) (flat_map f xs) none
    by_place (inr c') later = later c' (append-is_nil_right (f x) (flat_map f xs) none)

-- ---- tests

pub list_any-found :
    {X : Type 0} (p : X → Bool) (xs : List X)
    → list_any p xs ≡ true
    → (x : X) × Contains xs x × (p x ≡ true)
list_any-found p [] any = cc
list_any-found {X} p (x ∷ xs) any = by_head (p x) refl any (list_any-found p xs)
  where
    by_head :
        (b : Bool)
        → p x ≡ b
        → b || list_any p xs ≡ true
        → (list_any p xs ≡ true → (y : X) × Contains xs y × (p y ≡ true))
        → (y : X) × Contains (x ∷ xs) y × (p y ≡ true)
    by_head true e any' later = (x, Contains-head x xs, e)
    by_head false e any' later = let (y, c, holds) = later any' in (y, Contains-later x xs y c, holds)

pub list_any-at : {X : Type 0} (p : X → Bool) (xs : List X) (y : X) → Contains xs y → p y ≡ true → list_any p xs ≡ true
list_any-at p [] y (k, below, at) holds = absurd (omega arith)
list_any-at {X} p (x ∷ xs) y c holds = by_place (Contains-cases x xs y c) (list_any-at p xs y)
  where
    by_place :
        (x ≡ y) ⊎ Contains xs y
        → (Contains xs y → p y ≡ true → list_any p xs ≡ true)
        → p x || list_any p xs ≡ true
    by_place (inl e) later = or_left (p x) (list_any p xs) (ap p e ∙ holds)
    by_place (inr c') later = or_right (p x) (list_any p xs) (later c' holds)
