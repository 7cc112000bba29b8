-- From a helper that is left over a cycle is met.
use Rattle.std.proofs.Common.{◌≡◌, ℕ, zero, suc, ◌+◌, ◌<◌, List, [], ◌∷◌, ◌++◌, length, take, drop, reverse, refl, sym, subst, arith, true, false, Bool, not, Some, Option, cond}
use Rattle.std.specs.Prelude.{◌==◌}
use Rattle.std.specs.List.{All, position_or_len}
use Rattle.std.proofs.lemmas.Bool.{not-true}
use Rattle.std.proofs.lemmas.List.{reverse-reverse, length-append, length-take, length-drop}
use Rattle.std.proofs.lemmas.List.Elements.{All-append, All-drop, All-take}
use Rattle.flame_spec.specs.Below.{is_in}
use Rattle.flame_spec.specs.HelperFaults.{call_cycle_from, call_cycle}
use Rattle.flame_spec.specs.ModelOrder.{order, first_left, step_back, from_there, repeated_part, walk_back, least_of, begun_with_least}
use Rattle.flame_spec.proofs.FirstBelow.{first_is_first}
use Rattle.flame_spec.proofs.Orders.{Relation, remaining, remaining_push, remaining_all, left_steps_back}
use Rattle.flame_spec.proofs.Counts.{position_or_len-is_in}

-- at least one number, and each is below n
pub record IsRound (n : ℕ) (xs : List ℕ) : Type 0 where
  pub some : 0 < length xs
  pub below : All (λ f. f < n) xs

one_below : (n g : ℕ) → g < n → All (λ f. f < n) (g ∷ [])
one_below n g l zero d h = l
one_below n g l (suc i) d h = absurd (omega arith)

repeats : (n : ℕ) (path : List ℕ) (g : ℕ) → All (λ f. f < n) path → is_in g path ≡ true → IsRound n (reverse (repeated_part path g))
repeats n path g all there =
    let place = position_or_len (λ f. f == g) path in
    let P : List ℕ → Type 0 = IsRound n in
    let rest : IsRound n (drop place path) = record {
      some = omega (arith, position_or_len-is_in g path there, length-drop place path);
      below = All-drop (λ f. f < n) place path all;
    } in
    subst P (sym (reverse-reverse (drop place path))) rest

walk_round : (n : ℕ) (before : Relation) (more : ℕ) (path : List ℕ) (g : ℕ) → g < n → is_in g (order n before) ≡ false → All (λ f. f < n) path → remaining n path < more → IsRound n (reverse (walk_back more (step_back n before) path g))
walk_round n before zero path g l left all fuel = absurd (omega arith)
walk_round n before (suc more) path g l left all fuel = go (is_in g path) refl (left_steps_back n before g l left)
    (λ f. walk_round n before more (path ++ g ∷ []) f)
  where
    next : List ℕ
    next = path ++ g ∷ []

    go : (b : Bool) → is_in g path ≡ b
        → (f : ℕ) × ((step_back n before g ≡ Some f) × (f < n) × (is_in f (order n before) ≡ false) × (before f g ≡ true))
        → ((f : ℕ) → f < n → is_in f (order n before) ≡ false → All (λ f. f < n) (path ++ g ∷ []) → remaining n (path ++ g ∷ []) < more → IsRound n (reverse (walk_back more (step_back n before) (path ++ g ∷ []) f)))
        → IsRound n (reverse (cond b (repeated_part path g) (from_there (step_back n before g) (walk_back more (step_back n before) (path ++ g ∷ [])))))
    go true e step rest = repeats n path g all e
    go false e step rest =
        let P : Option ℕ → Type 0 = λ o. IsRound n (reverse (from_there o (walk_back more (step_back n before) (path ++ g ∷ [])))) in
        let enough : remaining n (path ++ g ∷ []) < more = omega (arith, fuel, remaining_push n path g l e) in
        subst P (sym step.1.0) (rest step.0 step.1.1 step.1.2 (All-append (λ f. f < n) path (g ∷ []) all (one_below n g l)) enough)

turned : (n : ℕ) (xs : List ℕ) → IsRound n xs → IsRound n (begun_with_least xs)
turned n [] r = r
turned n (x ∷ xs) r =
    let place = position_or_len (λ g. g == least_of x xs) (x ∷ xs) in
    let all = x ∷ xs in
    record {
      some = omega (arith, length-append (drop place all) (take place all), length-drop place all, length-take place all, r.some);
      below = All-append (λ f. f < n) (drop place all) (take place all) (All-drop (λ f. f < n) place all r.below) (All-take (λ f. f < n) place all r.below);
    }

-- where a helper is left over, the cycle of calls has some helpers
pub cycle_round : (n : ℕ) (before : Relation) (g : ℕ) → first_left n before ≡ Some g → IsRound n (call_cycle n before)
cycle_round n before g e =
    let found = first_is_first (λ g. not (is_in g (order n before))) n g e in
    let P : Option ℕ → Type 0 = λ o. IsRound n (from_there o (call_cycle_from n before)) in
    let fuel : remaining n [] < n + 1 = omega (arith, remaining_all n) in
    subst P (sym e) (turned n (reverse (walk_back (n + 1) (step_back n before) [] g))
    (walk_round n before (n + 1) [] g found.below (not-true (is_in g (order n before)) found.passes) (λ i d h. absurd (omega (arith, h))) fuel))
