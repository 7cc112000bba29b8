-- What stands at a place, and one element more.
use Rattle.std.proofs.Common.{◌≡◌, ℕ, zero, suc, ◌+◌, ◌<◌, List, [], ◌∷◌, ◌++◌, length, take, get_or, map, refl, sym, ap, ◌∙◌, arith, true, false, Bool, Some, None, Option, cond, ⊎_elim}
use Rattle.std.specs.Prelude.{◌==◌, ◌&&◌, ◌||◌, slice_get, option_map}
use Rattle.std.proofs.Math.Bool.{or-false}
use Rattle.std.proofs.lemmas.Bool.{eq-eqb, ne_eqb, cases_eq}
use Rattle.std.proofs.lemmas.List.{take_more, length-take-le}
use Rattle.std.proofs.lemmas.Option.{slice_get_past, slice_get-map, slice_get-get_or}
use Rattle.flame_spec.specs.Below.{is_in}
use Rattle.flame_spec.proofs.FirstBelow.{is_in_push}
use Rattle.flame_depend.specs.declared.place.Placed.{Placed}
use Rattle.flame_depend.specs.PlacedFunctions.{shown}

module _ {X : Type 0} where
  push_get : (xs : List X) (y : X) (f : ℕ) → slice_get (xs ++ y ∷ []) f ≡ cond (length xs == f) (Some y) (slice_get xs f)
  push_get [] y zero = refl
  push_get [] y (suc f) = sym (ap (λ b. cond b (Some y) None) (ne_eqb 0 (suc f) (λ e. absurd (omega (arith, e)))))
  push_get (x ∷ xs) y zero = sym (ap (λ b. cond b (Some y) (Some x)) (ne_eqb (suc (length xs)) 0 (λ e. absurd (omega (arith, e)))))
  push_get (x ∷ xs) y (suc f) = push_get xs y f ∙ ap (λ b. cond b (Some y) (slice_get xs f)) (same (length xs) f)
    where
      same : (a b : ℕ) → (a == b) ≡ (suc a == suc b)
      same a b = ⊎_elim (λ e. eq-eqb a b e ∙ sym (eq-eqb (suc a) (suc b) (ap suc e))) (λ e. ne_eqb a b e ∙ sym (ne_eqb (suc a) (suc b) (λ q. e (omega (arith, q))))) (cases_eq a b)

  -- one element more
  pub slice_get_more : (xs : List X) (i : ℕ) (d : X) (f : ℕ) → i < length xs → slice_get (take (i + 1) xs) f ≡ cond (i == f) (Some (get_or xs i d)) (slice_get (take i xs) f)
  slice_get_more xs i d f h =
      ap (λ ys. slice_get ys f) (take_more xs i d h) ∙ push_get (take i xs) (get_or xs i d) f
      ∙ ap (λ k. cond (k == f) (Some (get_or xs i d)) (slice_get (take i xs) f)) (length-take-le i xs (omega arith))

pub some_within : {X : Type 0} (xs : List X) (i : ℕ) (y : X) → slice_get xs i ≡ Some y → (i < length xs) × (get_or xs i y ≡ y)
some_within [] i y h = cc
some_within (x ∷ xs) zero y h = let same : x ≡ y = cc in (omega arith, same)
some_within (x ∷ xs) (suc i) y h = let r = some_within xs i y h in (omega (arith, r.0), r.1)

-- a test that nothing passes, at one element more
pub test_more : {X : Type 0} (test : Option X → Bool) → test None ≡ false → (xs : List X) (i : ℕ) (y : X) (f : ℕ) → slice_get xs i ≡ Some y → (test (slice_get (take i xs) f) || ((i == f) && test (Some y))) ≡ test (slice_get (take (i + 1) xs) f)
test_more {X} test none xs i y f e =
    let within = some_within xs i y e in
    let more : slice_get (take (i + 1) xs) f ≡ cond (i == f) (Some y) (slice_get (take i xs) f) = slice_get_more xs i y f within.0 ∙ ap (λ z. cond (i == f) (Some z) (slice_get (take i xs) f)) within.1 in
    ⊎_elim (same within.0 more) (other more) (cases_eq i f)
  where
    same : i < length xs → slice_get (take (i + 1) xs) f ≡ cond (i == f) (Some y) (slice_get (take i xs) f) → i ≡ f → (test (slice_get (take i xs) f) || ((i == f) && test (Some y))) ≡ test (slice_get (take (i + 1) xs) f)
    same h more q =
        let past : slice_get (take i xs) f ≡ None = slice_get_past (take i xs) f (omega (arith, length-take-le i xs (omega (arith, h)))) in
        ap (λ o. test o || ((i == f) && test (Some y))) past ∙ ap (λ b. b || ((i == f) && test (Some y))) none ∙ ap (λ b. b && test (Some y)) (eq-eqb i f q)
        ∙ sym (ap test (more ∙ ap (λ b. cond b (Some y) (slice_get (take i xs) f)) (eq-eqb i f q)))

    other : slice_get (take (i + 1) xs) f ≡ cond (i == f) (Some y) (slice_get (take i xs) f) → (i ≡ f → ⊥) → (test (slice_get (take i xs) f) || ((i == f) && test (Some y))) ≡ test (slice_get (take (i + 1) xs) f)
    other more q =
        ap (λ b. test (slice_get (take i xs) f) || (b && test (Some y))) (ne_eqb i f q) ∙ or-false (test (slice_get (take i xs) f))
        ∙ sym (ap test (more ∙ ap (λ b. cond b (Some y) (slice_get (take i xs) f)) (ne_eqb i f q)))

-- a function in the code's list is the one of the model
pub shown_at : (places : List Placed) (i : ℕ) (x : Placed) → i < length places → x ≡ get_or places i x → slice_get (map shown places) i ≡ Some (shown x)
shown_at places i x h e = slice_get-map shown places i ∙ ap (option_map shown) (slice_get-get_or places i x h) ∙ ap (λ y. Some (shown y)) (sym e)

-- ---- one function more under some names

pub noted : (f function : ℕ) (b : Bool) (fs : List ℕ) → is_in f (cond b (fs ++ function ∷ []) fs) ≡ (is_in f fs || ((function == f) && b))
noted f function true fs = is_in_push f function fs ∙ ap (λ t. is_in f fs || t) (sym (and_true (function == f)))
  where
    and_true : (b : Bool) → (b && true) ≡ b
    and_true true = refl
    and_true false = refl
noted f function false fs = sym (ap (λ t. is_in f fs || t) (and_false (function == f)) ∙ or-false (is_in f fs))
  where
    and_false : (b : Bool) → (b && false) ≡ false
    and_false true = refl
    and_false false = refl
