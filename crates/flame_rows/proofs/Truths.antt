-- Tests, and what is there or not.
use Rattle.std.proofs.Common.{◌≡◌, ℕ, ◌+◌, ◌<◌, Bool, true, false, cond, ◌||◌, ◌⊎◌, inl, inr, ⊎_elim, Option, Some, None, Bor, refl, sym, ◌∙◌, arith, option_map, ◌&&◌, ◌≤◌}
use Rattle.std.specs.Prelude.{◌==◌, nat_le}
use Rattle.std.specs.Option.{is_some, option_copied, option_or}
use Rattle.std.proofs.lemmas.Bool.{eq-eqb, ne_eqb, cases_eq, true≢false}
use Rattle.std.proofs.lemmas.Bool.Decides.{nat_tests}

-- ---- tests

-- what holds of either and not of the right one
pub or-true_left : (a b : Bool) → (a || b) ≡ true → b ≡ false → a ≡ true
or-true_left true b h none = refl
or-true_left false b h none = absurd (true≢false (sym h ∙ none))

-- where the second holds the first does
pub and-implied : (a b : Bool) → (b ≡ true → a ≡ true) → (a && b) ≡ b
and-implied true b needed = refl
and-implied false true needed = needed refl
and-implied false false needed = refl

pub nat_le-true : (a b : ℕ) → a ≤ b → nat_le a b ≡ true
nat_le-true a b h = grind (arith, nat_tests)

pub eqb-sym : (a b : ℕ) → (a == b) ≡ (b == a)
eqb-sym a b =
    ⊎_elim
    (λ (same : a ≡ b). eq-eqb a b same ∙ sym (eq-eqb b a (sym same)))
    (λ (apart : a ≡ b → ⊥). ne_eqb a b apart ∙ sym (ne_eqb b a (λ same. apart (sym same))))
    (cases_eq a b)

pub eqb-above : (a b : ℕ) → b < a → (a == b) ≡ false
eqb-above a b less = ne_eqb a b (λ same. omega (arith, less, same))

pub cond-same : {A : Type 0} (b : Bool) (x y u v : A) → x ≡ u → y ≡ v → cond b x y ≡ cond b u v
cond-same true x y u v p q = p
cond-same false x y u v p q = q

pub cond-add : (test : Bool) (n : ℕ) → cond test 1 0 + n ≡ cond test (1 + n) n
cond-add true n = refl
cond-add false n = omega arith

-- ---- what is there or not

pub cases_Option : {X : Type 0} (o : Option X) → (o ≡ None) ⊎ ((x : X) × (o ≡ Some x))
cases_Option None = inl refl
cases_Option (Some x) = inr (x, refl)

pub is_some-true : {X : Type 0} (o : Option X) → is_some o ≡ true → (x : X) × (o ≡ Some x)
is_some-true (Some x) h = (x, refl)
is_some-true None h = absurd (true≢false (sym h))

pub is_some-false : {X : Type 0} (o : Option X) → is_some o ≡ false → o ≡ None
is_some-false None h = refl
is_some-false (Some x) h = absurd (true≢false h)

pub is_some-option_map : {X Y : Type 0} (f : X → Y) (o : Option X) → is_some (option_map f o) ≡ is_some o
is_some-option_map f None = refl
is_some-option_map f (Some x) = refl

pub is_some-option_copied : {X : Type 0} (o : Option (Bor X)) → is_some (option_copied o) ≡ is_some o
is_some-option_copied None = refl
is_some-option_copied (Some x) = refl

pub option_map-none : {X Y : Type 0} (f : X → Y) (o : Option X) → option_map f o ≡ None → o ≡ None
option_map-none f None e = refl
option_map-none f (Some x) e = cc

pub option_or-None : {X : Type 0} (o : Option X) → option_or o None ≡ o
option_or-None None = refl
option_or-None (Some f) = refl

pub option_or-option_or : {X : Type 0} (a b c : Option X) → option_or (option_or a b) c ≡ option_or a (option_or b c)
option_or-option_or None b c = refl
option_or-option_or (Some fault) b c = refl

-- what is chosen, and then mapped
pub option_map-cond : {X Y : Type 0} (f : X → Y) (test : Bool) (x : X) (o : Option Y) (found : Option X)
    → o ≡ option_map f found
    → cond test (Some (f x)) o ≡ option_map f (cond test (Some x) found)
option_map-cond f true x o found e = refl
option_map-cond f false x o found e = e

-- two choices of which no more than one is met, in either order
pub cond-cond : {X : Type 0} (same front : Bool) (x y : X) (o : Option X)
    → (same ≡ true → front ≡ false)
    → cond front (Some y) (cond same (Some x) o) ≡ cond same (Some x) (cond front (Some y) o)
cond-cond true true x y o h = absurd (true≢false (h refl))
cond-cond true false x y o h = refl
cond-cond false front x y o h = refl
