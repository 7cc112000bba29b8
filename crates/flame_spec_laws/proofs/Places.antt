-- Ranks, and types with one start state.
use Rattle.std.proofs.Common.{◌≡◌, ℕ, zero, suc, ◌+◌, ◌<◌, Bool, true, false, cond, List, [], ◌∷◌, length, take, get_or}
use Rattle.std.proofs.Common.{Some, None, refl, ap, ◌∙◌, arith}
use Rattle.std.specs.Prelude.{◌==◌, ◌||◌, not, nat_lt}
use Rattle.std.specs.List.{position_or_len, list_all}
use Rattle.std.proofs.lemmas.Bool.{eqb-true, eq-eqb, false≢true, ltb-false}
use Rattle.std.proofs.lemmas.List.Sums.{passes_at_first, position_or_len_is}
use Rattle.flame_spec.specs.declared.models.Model.{Model}
use Rattle.flame_spec.specs.declared.models.AgentType.{AgentType}
use Rattle.flame_spec.specs.Below.{is_in}
use Rattle.flame_spec.specs.ModelOrder.{order, rank, left_over}
use Rattle.flame_spec.specs.States.{start_states, many_from, many_starts}
use Rattle.flame_spec.specs.Accepted.{has_one_start}
use Rattle.flame_spec.proofs.Orders.{Relation, order_is_order, order_takes, next_is_next, ready_taken}
use Rattle.flame_spec.proofs.Beginnings.{types_start}
use Rattle.flame_spec.proofs.Counts.{position_or_len-is_in}

-- a member of the first so many stands at a lower place
place_of_early : (f p : ℕ) (xs : List ℕ) → is_in f (take p xs) ≡ true → position_or_len (λ h. h == f) xs < p
place_of_early f zero xs h = absurd (false≢true h)
place_of_early f (suc p) [] h = absurd (false≢true h)
place_of_early f (suc p) (x ∷ xs) h = go (x == f) h (place_of_early f p xs)
  where
    go :
        (b : Bool)
        → (b || is_in f (take p xs)) ≡ true
        → (is_in f (take p xs) ≡ true → position_or_len (λ h. h == f) xs < p)
        → cond (not b) (1 + position_or_len (λ h. h == f) xs) 0 < suc p
    go true h rest = omega arith
    go false h rest = omega (arith, rest h)

at_place : (f : ℕ) (xs : List ℕ) → is_in f xs ≡ true → get_or xs (position_or_len (λ h. h == f) xs) 0 ≡ f
at_place f xs there = eqb-true _ f (passes_at_first (λ h. h == f) xs 0 (position_or_len-is_in f xs there))

earlier_fails :
    (g i k : ℕ) (xs : List ℕ)
    → k < i
    → k < length xs
    → is_in g (take i xs) ≡ false
    → (get_or xs k 0 == g) ≡ false
earlier_fails g i k [] below inside none = absurd (omega arith)
earlier_fails g zero k (x ∷ xs) below inside none = absurd (omega arith)
earlier_fails g (suc i) zero (x ∷ xs) below inside none = go (x == g) none
  where
    go : (b : Bool) → (b || is_in g (take i xs)) ≡ false → b ≡ false
    go true e = cc
    go false e = refl
earlier_fails g (suc i) (suc k) (x ∷ xs) below inside none =
    earlier_fails g i k xs (omega arith) (omega arith) (go (x == g) none)
  where
    go : (b : Bool) → (b || is_in g (take i xs)) ≡ false → is_in g (take i xs) ≡ false
    go true e = cc
    go false e = e

pub ranks_rise :
    (n : ℕ) (before : Relation) (f g : ℕ)
    → f < n
    → is_in g (order n before) ≡ true
    → before f g ≡ true
    → rank n before f < rank n before g
ranks_rise n before f g below there stands =
    let p = rank n before g in
    let inside : p < length (order n before) = position_or_len-is_in g (order n before) there in
    let here : get_or (order n before) p 0 ≡ g = at_place g (order n before) there in
    place_of_early f p (order n before)
    (ready_taken n before (take p (order n before)) (get_or (order n before) p 0)
    ((order_is_order n before).ready p inside) f below (ap (before f) here ∙ stands))

pub rank_is_place :
    (n : ℕ) (before : Relation) (place : ℕ)
    → place < length (order n before)
    → rank n before (get_or (order n before) place 0) ≡ place
rank_is_place n before place inside =
    let g = get_or (order n before) place 0 in
    let fresh : is_in g (take place (order n before)) ≡ false
    = (next_is_next n before (take place (order n before)) g (order_takes n before place inside)).fresh in
    position_or_len_is (λ h. h == g) (order n before) place 0 (omega arith)
    (λ k below. earlier_fails g place k (order n before) below (omega arith) fresh)
    (λ l. eq-eqb g g refl)

pub order_has :
    (n : ℕ) (before : Relation) (f : ℕ)
    → is_in f (order n before) ≡ true
    → (rank n before f < length (order n before)) × (get_or (order n before) (rank n before f) 0 ≡ f)
order_has n before f there = (position_or_len-is_in f (order n before) there, at_place f (order n before) there)

no_place : (f : ℕ) (xs : List ℕ) → is_in f xs ≡ false → position_or_len (λ h. h == f) xs ≡ length xs
no_place f [] none = refl
no_place f (x ∷ xs) none = go (x == f) none (no_place f xs)
  where
    go :
        (b : Bool)
        → (b || is_in f xs) ≡ false
        → (is_in f xs ≡ false → position_or_len (λ h. h == f) xs ≡ length xs)
        → cond (not b) (1 + position_or_len (λ h. h == f) xs) 0 ≡ suc (length xs)
    go true e rest = cc
    go false e rest = let same = rest e in omega arith

pub left_over_rank :
    (n : ℕ) (before : Relation) (f : ℕ)
    → is_in f (order n before) ≡ false
    → rank n before f ≡ length (order n before)
left_over_rank n before f none = no_place f (order n before) none

-- ---- types with one start state

one_each :
    (i : ℕ) (types : List AgentType)
    → ((k : ℕ) (d : AgentType) → k < length types → 0 < length (start_states (get_or types k d).functions))
    → many_from i types ≡ None
    → list_all has_one_start types ≡ true
one_each i [] some none = refl
one_each i (type ∷ types) some none =
    go (nat_lt 1 (length (start_states type.functions))) refl none
    (one_each (i + 1) types (λ k d l. some (suc k) d (omega arith)))
  where
    go :
        (b : Bool)
        → nat_lt 1 (length (start_states type.functions)) ≡ b
        → cond b (Some (i, start_states type.functions)) (many_from (i + 1) types) ≡ None
        → (many_from (i + 1) types ≡ None → list_all has_one_start types ≡ true)
        → list_all has_one_start (type ∷ types) ≡ true
    go true e none' rest = cc
    go false e none' rest =
        let most = ltb-false 1 (length (start_states type.functions)) e in
        let least = some 0 type (omega arith) in
        let one : length (start_states type.functions) ≡ 1 = omega arith in
        rw (eq-eqb (length (start_states type.functions)) 1 one) (rest none')

pub one_start :
    (model : Model)
    → left_over model ≡ None
    → many_starts model ≡ None
    → list_all has_one_start model.agents ≡ true
one_start model acyclic none = one_each 0 model.agents (types_start model acyclic) none
