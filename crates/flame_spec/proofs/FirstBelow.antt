-- The first number below a bound that passes, and lists of numbers.
use mathlib.Core.Bool.{or-false, or-true}
use Rattle.std.proofs.Common.{◌≡◌, ℕ, zero, suc, ◌+◌, ◌<◌, ◌≤◌, List, [], ◌∷◌, ◌++◌, refl, sym, ap, ◌∙◌, arith, true, false, Bool, Some, None, Option, cond, ⊎_elim}
use Rattle.std.specs.Prelude.{◌==◌, ◌&&◌, ◌||◌, nat_lt}
use Rattle.std.specs.Option.{option_or}
use Rattle.std.proofs.lemmas.Bool.{eq-eqb, ne_eqb, true≢false, cases_eq, cases_lt, lt-ltb, le-ltb}
use Rattle.std.proofs.lemmas.List.Folds.{list_any-append}
use Rattle.std.proofs.lemmas.List.Sums.{sum_by-cons, sum_by-append}
use Rattle.flame_spec.specs.Below.{all_below, first_below, is_in, times, HasNoTwice}

-- ---- the first that passes

pub record IsFirst (test : ℕ → Bool) (n g : ℕ) : Type 0 where
  pub below : g < n
  pub passes : test g ≡ true
  pub least : (j : ℕ) → j < g → test j ≡ false

pub below_last : (j n : ℕ) → (n ≡ j → ⊥) → j < suc n → j < n
below_last j n e l = omega arith

pub none_fails : (test : ℕ → Bool) (n : ℕ) → first_below test n ≡ None → (j : ℕ) → j < n → test j ≡ false
none_fails test zero e j l = absurd (omega arith)
none_fails test (suc n) e j l = go (none_fails test n) (first_below test n) refl (test n) refl e
  where
    go : (first_below test n ≡ None → (j : ℕ) → j < n → test j ≡ false) → (o : Option ℕ) → first_below test n ≡ o → (b : Bool) → test n ≡ b → option_or o (cond b (Some n) None) ≡ None → test j ≡ false
    go rest (Some h) p b q e = cc
    go rest None p true q e = cc
    go rest None p false q e = ⊎_elim (λ s. ap test (sym s) ∙ q) (λ s. rest p j (below_last j n s l)) (cases_eq n j)

pub first_is_first : (test : ℕ → Bool) (n g : ℕ) → first_below test n ≡ Some g → IsFirst test n g
first_is_first test zero g e = cc
first_is_first test (suc n) g e = go (first_is_first test n g) (first_below test n) refl (test n) refl e
  where
    go : (first_below test n ≡ Some g → IsFirst test n g) → (o : Option ℕ) → first_below test n ≡ o → (b : Bool) → test n ≡ b → option_or o (cond b (Some n) None) ≡ Some g → IsFirst test (suc n) g
    go rest (Some h) p b q e = let r = rest (p ∙ e) in record { below = omega (arith, r.below); passes = r.passes; least = r.least }
    go rest None p true q e =
        let same : n ≡ g = cc in
        record { below = omega arith; passes = ap test (sym same) ∙ q; least = λ j l. none_fails test n p j (omega arith) }
    go rest None p false q e = cc

pub none_is : (test : ℕ → Bool) (n : ℕ) → ((j : ℕ) → j < n → test j ≡ false) → first_below test n ≡ None
none_is test zero h = refl
none_is test (suc n) h =
    ap (λ o. option_or o (cond (test n) (Some n) None)) (none_is test n (λ j l. h j (omega arith)))
    ∙ ap (λ b. cond b (Some n) None) (h n (omega arith))

pub first_is : (test : ℕ → Bool) (n g : ℕ) → g < n → test g ≡ true → ((j : ℕ) → j < g → test j ≡ false) → first_below test n ≡ Some g
first_is test zero g l t h = absurd (omega arith)
first_is test (suc n) g l t h = ⊎_elim
    (λ e. ap (λ o. option_or o (cond (test n) (Some n) None)) (none_is test n (λ j k. h j (omega arith))) ∙ ap (λ b. cond b (Some n) None) (ap test e ∙ t) ∙ ap Some e)
    (λ e. ap (λ o. option_or o (cond (test n) (Some n) None)) (first_is test n g (below_last g n e l) t h))
    (cases_eq n g)

pub first_agree : (test other : ℕ → Bool) (n : ℕ) → ((j : ℕ) → j < n → test j ≡ other j) → first_below test n ≡ first_below other n
first_agree test other zero h = refl
first_agree test other (suc n) h =
    ap (λ o. option_or o (cond (test n) (Some n) None)) (first_agree test other n (λ j l. h j (omega arith)))
    ∙ ap (λ b. option_or (first_below other n) (cond b (Some n) None)) (h n (omega arith))

-- ---- lists of numbers

-- 1 where it holds
abbrev pub one : Bool → ℕ
one b = cond b 1 0

pub is_in_push : (g f : ℕ) (fs : List ℕ) → is_in g (fs ++ f ∷ []) ≡ (is_in g fs || (f == g))
is_in_push g f fs = list_any-append (λ x. x == g) fs (f ∷ []) ∙ ap (λ b. is_in g fs || b) (or-false (f == g))

pub is_in_self : (g : ℕ) (fs : List ℕ) → is_in g (fs ++ g ∷ []) ≡ true
is_in_self g fs = is_in_push g g fs ∙ ap (λ b. is_in g fs || b) (eq-eqb g g refl) ∙ or-true (is_in g fs)

pub is_in_stays : (g f : ℕ) (fs : List ℕ) → is_in g fs ≡ true → is_in g (fs ++ f ∷ []) ≡ true
is_in_stays g f fs h = is_in_push g f fs ∙ ap (λ b. b || (f == g)) h

pub times-append : (g : ℕ) (xs ys : List ℕ) → times g (xs ++ ys) ≡ times g xs + times g ys
times-append g xs ys = sum_by-append (λ x. cond (x == g) 1 0) xs ys

pub times_one : (g f : ℕ) → times g (f ∷ []) ≡ one (f == g)
times_one g f = sum_by-cons (λ x. cond (x == g) 1 0) f [] ∙ omega arith

pub times_push : (g f : ℕ) (fs : List ℕ) → times g (fs ++ f ∷ []) ≡ times g fs + one (f == g)
times_push g f fs = times-append g fs (f ∷ []) ∙ ap (λ k. times g fs + k) (times_one g f)

one_most : (b : Bool) → cond b 1 0 ≤ 1
one_most true = omega arith
one_most false = omega arith

-- what is not in a list stands there no time
pub times_absent : (g : ℕ) (fs : List ℕ) → is_in g fs ≡ false → times g fs ≡ 0
times_absent g [] h = refl
times_absent g (f ∷ fs) h = sum_by-cons (λ x. cond (x == g) 1 0) f fs ∙ go (f == g) refl h (times_absent g fs)
  where
    go : (b : Bool) → (f == g) ≡ b → (b || is_in g fs) ≡ false → (is_in g fs ≡ false → times g fs ≡ 0) → cond b 1 0 + times g fs ≡ 0
    go true e h rest = absurd (true≢false h)
    go false e h rest = omega (arith, rest h)

pub once_push : (f : ℕ) (fs : List ℕ) → is_in f fs ≡ false → HasNoTwice fs → HasNoTwice (fs ++ f ∷ [])
once_push f fs h old = λ g. ⊎_elim
    (λ e. let none : times g fs ≡ 0 = times_absent g fs (ap (λ k. is_in k fs) (sym e) ∙ h) in omega (arith, times_push g f fs, none, one_most (f == g)))
    (λ e. let none : one (f == g) ≡ 0 = ap one (ne_eqb f g e) in omega (arith, times_push g f fs, none, old g))
    (cases_eq f g)

-- ---- all numbers below a bound that pass

pub is_in-all_below : (test : ℕ → Bool) (n g : ℕ) → is_in g (all_below test n) ≡ (nat_lt g n && test g)
is_in-all_below test zero g = sym (ap (λ b. b && test g) (le-ltb g zero (omega arith)))
is_in-all_below test (suc n) g =
    list_any-append (λ x. x == g) (all_below test n) (cond (test n) (n ∷ []) [])
    ∙ ap (λ b. b || is_in g (cond (test n) (n ∷ []) [])) (is_in-all_below test n g)
    ∙ ⊎_elim same other (cases_eq n g)
  where
    here : (b : Bool) → is_in g (cond b (n ∷ []) []) ≡ (b && (n == g))
    here true = or-false (n == g)
    here false = refl

    and_true : (b : Bool) → (b && true) ≡ b
    and_true true = refl
    and_true false = refl

    and_false : (b : Bool) → (b && false) ≡ false
    and_false true = refl
    and_false false = refl

    same : n ≡ g → ((nat_lt g n && test g) || is_in g (cond (test n) (n ∷ []) [])) ≡ (nat_lt g (suc n) && test g)
    same e =
        ap (λ b. (b && test g) || is_in g (cond (test n) (n ∷ []) [])) (le-ltb g n (omega arith))
        ∙ here (test n) ∙ ap (λ b. test n && b) (eq-eqb n g e) ∙ and_true (test n) ∙ ap test e
        ∙ sym (ap (λ b. b && test g) (lt-ltb g (suc n) (omega arith)))

    same_side : (n ≡ g → ⊥) → nat_lt g n ≡ nat_lt g (suc n)
    same_side e = ⊎_elim
        (λ l. lt-ltb g n l ∙ sym (lt-ltb g (suc n) (omega arith)))
        (λ l. le-ltb g n l ∙ sym (le-ltb g (suc n) (omega arith)))
        (cases_lt g n)

    other : (n ≡ g → ⊥) → ((nat_lt g n && test g) || is_in g (cond (test n) (n ∷ []) [])) ≡ (nat_lt g (suc n) && test g)
    other e =
        ap (λ b. (nat_lt g n && test g) || b) (here (test n) ∙ ap (λ b. test n && b) (ne_eqb n g e) ∙ and_false (test n))
        ∙ or-false (nat_lt g n && test g)
        ∙ ap (λ b. b && test g) (same_side e)

one_of : (b : Bool) (n g : ℕ) → times g (cond b (n ∷ []) []) ≡ one (b && (n == g))
one_of true n g = times_one g n
one_of false n g = refl

pub times-all_below : (test : ℕ → Bool) (n g : ℕ) → times g (all_below test n) ≡ one (nat_lt g n && test g)
times-all_below test zero g = sym (ap (λ b. one (b && test g)) (le-ltb g zero (omega arith)))
times-all_below test (suc n) g =
    times-append g (all_below test n) (cond (test n) (n ∷ []) [])
    ∙ ap (λ k. k + times g (cond (test n) (n ∷ []) [])) (times-all_below test n g)
    ∙ ap (λ k. one (nat_lt g n && test g) + k) (one_of (test n) n g)
    ∙ ⊎_elim same other (cases_eq n g)
  where
    and_true : (b : Bool) → (b && true) ≡ b
    and_true true = refl
    and_true false = refl

    and_false : (b : Bool) → (b && false) ≡ false
    and_false true = refl
    and_false false = refl

    same : n ≡ g → one (nat_lt g n && test g) + one (test n && (n == g)) ≡ one (nat_lt g (suc n) && test g)
    same e =
        let before : one (nat_lt g n && test g) ≡ 0 = ap (λ b. one (b && test g)) (le-ltb g n (omega arith)) in
        let here : one (test n && (n == g)) ≡ one (test g) = ap (λ b. one (test n && b)) (eq-eqb n g e) ∙ ap one (and_true (test n) ∙ ap test e) in
        let after : one (nat_lt g (suc n) && test g) ≡ one (test g) = ap (λ b. one (b && test g)) (lt-ltb g (suc n) (omega arith)) in
        omega (arith, before, here, after)

    same_side : (n ≡ g → ⊥) → nat_lt g n ≡ nat_lt g (suc n)
    same_side e = ⊎_elim
        (λ l. lt-ltb g n l ∙ sym (lt-ltb g (suc n) (omega arith)))
        (λ l. le-ltb g n l ∙ sym (le-ltb g (suc n) (omega arith)))
        (cases_lt g n)

    other : (n ≡ g → ⊥) → one (nat_lt g n && test g) + one (test n && (n == g)) ≡ one (nat_lt g (suc n) && test g)
    other e =
        let here : one (test n && (n == g)) ≡ 0 = ap (λ b. one (test n && b)) (ne_eqb n g e) ∙ ap one (and_false (test n)) in
        let after : one (nat_lt g n && test g) ≡ one (nat_lt g (suc n) && test g) = ap (λ b. one (b && test g)) (same_side e) in
        omega (arith, here, after)
