-- Bodies are found by number.
use Rattle.std.proofs.Common.{◌≡◌, ℕ, zero, suc, ◌+◌, List, [], ◌∷◌, Some, refl, ap, ◌∙◌, arith}
use Rattle.std.specs.Prelude.{length, slice_get, option_map}
use Rattle.flame_spec.specs.Definitions.{helpers}
use Rattle.flame_spec.specs.Functions.{functions}
use Rattle.flame_spec.specs.Lists.{each_from}
use Rattle.flame_body.specs.FunctionBodies.{function_body, helper_body}
use Rattle.flame_body.specs.BodyLaws.{BodiesByNumber}

-- where each element gives one
each-at :
    {X Y : Type 0} (f : ℕ → X → Y) (i : ℕ) (xs : List X) (n : ℕ)
    → slice_get (each_from (λ k x. f k x ∷ []) i xs) n ≡ option_map (f (i + n)) (slice_get xs n)
each-at f i [] n = refl
each-at f i (x ∷ xs) zero = let same : i ≡ i + 0 = omega arith in ap (λ k. Some (f k x)) same
each-at f i (x ∷ xs) (suc n) =
    let same : i + 1 + n ≡ i + suc n = omega arith in
    each-at f (i + 1) xs n ∙ ap (λ k. option_map (f k) (slice_get xs n)) same

-- and there are as many as elements
each-length :
    {X Y : Type 0} (f : ℕ → X → Y) (i : ℕ) (xs : List X)
    → length (each_from (λ k x. f k x ∷ []) i xs) ≡ length xs
each-length f i [] = refl
each-length f i (x ∷ xs) = ap suc (each-length f (i + 1) xs)

-- where the elements are numbered from 0
from-first :
    {X Y : Type 0} (f : ℕ → X → Y) (xs : List X) (n : ℕ)
    → slice_get (each_from (λ k x. f k x ∷ []) 0 xs) n ≡ option_map (f n) (slice_get xs n)
from-first f xs n =
    let same : 0 + n ≡ n = omega arith in each-at f 0 xs n ∙ ap (λ k. option_map (f k) (slice_get xs n)) same

-- the law
pub bodies-by-number : BodiesByNumber
bodies-by-number = record {
  function_at = λ model units n. from-first (function_body model units) (functions model) n;
  function_count = λ model units. each-length (function_body model units) 0 (functions model);
  helper_at = λ model units n. from-first (helper_body model units) (helpers model units) n;
  helper_count = λ model units. each-length (helper_body model units) 0 (helpers model units);
}
