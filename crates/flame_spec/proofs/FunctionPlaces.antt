-- Functions with their places are functions of their types.
use Rattle.std.proofs.Common.{◌≡◌, ℕ, zero, suc, ◌+◌, List, ◌∷◌, ◌++◌, map, Some, refl, subst, []}
use Rattle.std.specs.Prelude.{slice_get}
use Rattle.flame_spec.specs.declared.models.AgentType.{AgentType}
use Rattle.flame_spec.specs.declared.models.Function.{Function}
use Rattle.flame_spec.specs.Functions.{Place, functions_from, at_type}

pub functions_from-function : (i : ℕ) (types : List AgentType) (f : ℕ) (place : Place)
    → slice_get (functions_from i types) f ≡ Some place
    → (j : ℕ) × (slice_get place.type.functions j ≡ Some place.function)
functions_from-function i [] f place at = absurd cc
functions_from-function i (type ∷ types) f place at = go type.functions f at (λ g there. functions_from-function (i + 1) types g place there) (λ j found there. (j, there))
  where
    go : (own : List Function) (g : ℕ) → slice_get (map (at_type i type) own ++ functions_from (i + 1) types) g ≡ Some place
        → ((h : ℕ) → slice_get (functions_from (i + 1) types) h ≡ Some place → (j : ℕ) × (slice_get place.type.functions j ≡ Some place.function))
        → ((j : ℕ) (found : Function) → slice_get own j ≡ Some found → (k : ℕ) × (slice_get type.functions k ≡ Some found))
        → (j : ℕ) × (slice_get place.type.functions j ≡ Some place.function)
    go [] g there later within = later g there
    go (function ∷ own) zero there later within =
        let same : at_type i type function ≡ place = cc in
        let found = within 0 function refl in
        subst (λ (p : Place). (j : ℕ) × (slice_get p.type.functions j ≡ Some p.function)) same found
    go (function ∷ own) (suc g) there later within = go own g there later (λ j found here. within (suc j) found here)
