-- States as they are found.
use Rattle.std.proofs.Common.{◌≡◌, ℕ, suc, ◌+◌, ◌<◌, ◌≤◌, List, [], ◌∷◌, ◌++◌, length, map, drop, Bool, true, false, cond, codes, refl, ap, ◌∙◌, arith, append_assoc}
use Rattle.std.specs.Prelude.{not, ◌==◌}
use Rattle.std.specs.List.{position_or_len}
use Rattle.std.proofs.lemmas.Bool.{eqb-true, eqb-false}
use Rattle.std.proofs.Math.ListN.{get_or}
use Rattle.std.proofs.lemmas.List.Sums.{prefix_len-le-length, prefix_len-drop_no}
use Rattle.flame_spec.specs.declared.models.Function.{Function}
use Rattle.flame_spec.specs.KnownNames.{is_among}
use Rattle.flame_spec.specs.States.{distinct_after, ends, states}

-- one state more
pub one-state-more :
    (own : List (List ℕ)) (state : List ℕ) (rest : List (List ℕ)) (added : Bool) (after : List (List ℕ))
    → added ≡ not (is_among state own)
    → after ≡ cond added (own ++ state ∷ []) own
    → after ++ distinct_after after rest ≡ own ++ distinct_after own (state ∷ rest)
one-state-more own state rest added after e f =
    ap (λ texts. texts ++ distinct_after texts rest) (f ∙ ap (λ b. cond b (own ++ state ∷ []) own) e)
    ∙ by-test (is_among state own)
  where
    by-test :
        (b : Bool)
        → cond (not b) (own ++ state ∷ []) own ++ distinct_after (cond (not b) (own ++ state ∷ []) own) rest
        ≡ own ++ cond b (distinct_after own rest) (state ∷ distinct_after (own ++ state ∷ []) rest)
    by-test true = refl
    by-test false = append_assoc own (state ∷ []) (distinct_after (own ++ state ∷ []) rest)

-- the first place among what each key gives
pub position-map :
    {K Y : Type 0} (p : Y → Bool) (f : K → Y) (keys : List K)
    → position_or_len p (map f keys) ≡ position_or_len (λ key. p (f key)) keys
position-map p f [] = refl
position-map p f (key ∷ keys) = ap (λ n. cond (not (p (f key))) (1 + n) 0) (position-map p f keys)

-- it is here
pub first-here :
    {K : Type 0} (p : K → Bool) (keys : List K) (i : ℕ) (d : K)
    → i < length keys → p (get_or keys i d) ≡ true
    → position_or_len p keys ≡ i + position_or_len p (drop i keys)
    → i ≡ position_or_len p keys
first-here p keys i d within passes at =
    let none : position_or_len p (drop i keys) ≡ 0 = prefix_len-drop_no (λ key. not (p key)) keys i d within (ap not passes) in
    omega (arith, at, none)

-- it is nowhere
pub first-nowhere :
    {K : Type 0} (p : K → Bool) (keys : List K) (i : ℕ)
    → length keys ≤ i
    → position_or_len p keys ≡ i + position_or_len p (drop i keys)
    → length keys ≡ position_or_len p keys
first-nowhere p keys i past at =
    let most : position_or_len p keys ≤ length keys = prefix_len-le-length (λ key. not (p key)) keys in
    omega (arith, past, at, most)

-- a type without functions has the one state `start`
pub lone-state :
    (functions : List Function) (added : Bool) (after : List (List ℕ))
    → (length functions == 0) ≡ true → added ≡ true → after ≡ cond added (codes "start" ∷ []) [] → after ≡ states functions
lone-state [] added after none new is = is ∙ ap (λ b. cond b (codes "start" ∷ []) []) new
lone-state (function ∷ functions) added after none new is =
    let n = length functions in
    let same : suc n ≡ 0 = eqb-true (suc n) 0 none in
    absurd (omega (arith, same))

-- one with functions has those that they leave and enter
pub some-states :
    (functions : List Function) → (length functions == 0) ≡ false → distinct_after [] (ends functions) ≡ states functions
some-states [] some = absurd (eqb-false 0 0 some refl)
some-states (function ∷ functions) some = refl
