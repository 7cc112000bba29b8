-- Lists of numbers in order.
use Rattle.std.proofs.Common.{◌≡◌, ℕ, ◌<◌, ◌≤◌, ⊎_elim, Bool, true, false, cond, List, [], ◌∷◌, refl, sym, ap, ◌∙◌, arith, subst}
use Rattle.std.specs.Prelude.{◌==◌, ◌||◌, nat_lt}
use Rattle.std.proofs.Math.Bool.{or_self_left}
use Rattle.std.proofs.lemmas.Bool.{cases_Bool, ltb-true, ltb-false, eqb-true, eq-eqb, true≢false}
use Rattle.flame_meaning.specs.RangeLaws.{Each}
use Rattle.flame_spec.specs.Below.{is_in}
use Rattle.flame_events.proofs.Serial.{is_in-cases}
use Rattle.flame_flow.specs.BegunPieces.{IsRising, with_number}

or_swap : (a b c : Bool) → (a || (b || c)) ≡ (b || (a || c))
or_swap true true c = refl
or_swap true false c = refl
or_swap false b c = refl

pub in_with_number : (number other : ℕ) (numbers : List ℕ) → is_in other (with_number number numbers) ≡ ((number == other) || is_in other numbers)
in_with_number number other [] = refl
in_with_number number other (n ∷ numbers) = go (in_with_number number other numbers) (nat_lt number n)
  where
    same_or_later : is_in other (with_number number numbers) ≡ ((number == other) || is_in other numbers) → (e : Bool) → (number == n) ≡ e
        → is_in other (cond e (n ∷ numbers) (n ∷ with_number number numbers)) ≡ ((number == other) || ((n == other) || is_in other numbers))
    same_or_later later true same =
        let is : number ≡ n = eqb-true number n same in
        sym (ap (λ k. (k == other) || ((n == other) || is_in other numbers)) is ∙ or_self_left (n == other) (is_in other numbers))
    same_or_later later false apart = ap (λ b. (n == other) || b) later ∙ or_swap (n == other) (number == other) (is_in other numbers)

    go : is_in other (with_number number numbers) ≡ ((number == other) || is_in other numbers) → (t : Bool)
        → is_in other (cond t (number ∷ n ∷ numbers) (cond (number == n) (n ∷ numbers) (n ∷ with_number number numbers)))
        ≡ ((number == other) || ((n == other) || is_in other numbers))
    go later true = refl
    go later false = same_or_later later (number == n) refl

above_with : (least number : ℕ) (numbers : List ℕ) → least < number → Each (λ other. least < other) numbers → Each (λ other. least < other) (with_number number numbers)
above_with least number [] less all = (less, tt)
above_with least number (n ∷ numbers) less all =
    elim (nat_lt number n) as (λ t. Each (λ other. least < other) (cond t (number ∷ n ∷ numbers) (cond (number == n) (n ∷ numbers) (n ∷ with_number number numbers)))) [
      | true ↦ (less, all)
      | false ↦ elim (number == n) as (λ e. Each (λ other. least < other) (cond e (n ∷ numbers) (n ∷ with_number number numbers))) [
        | true ↦ all
        | false ↦ (all.0, above_with least number numbers less all.1)
      ]
    ]

still_above : (least number : ℕ) (numbers : List ℕ) → least < number → Each (λ other. number < other) numbers → Each (λ other. least < other) numbers
still_above least number [] less all = tt
still_above least number (n ∷ numbers) less all = (omega (arith, all.0), still_above least number numbers less all.1)

pub rising_with : (number : ℕ) (numbers : List ℕ) → IsRising numbers → IsRising (with_number number numbers)
rising_with number [] rising = (tt, tt)
rising_with number (n ∷ numbers) rising = go (rising_with number numbers rising.1) (nat_lt number n) refl
  where
    same_or_later : IsRising (with_number number numbers) → n ≤ number → (e : Bool) → (number == n) ≡ e
        → IsRising (cond e (n ∷ numbers) (n ∷ with_number number numbers))
    same_or_later more least true same = rising
    same_or_later more least false apart =
        let below : n < number = omega (arith, least, apart_from (λ is. true≢false (sym (eq-eqb number n is) ∙ apart))) in
        (above_with n number numbers below rising.0, more)
      where
        apart_from : (number ≡ n → ⊥) → n ≡ number → ⊥
        apart_from apart same = apart (sym same)

    go : IsRising (with_number number numbers) → (t : Bool) → nat_lt number n ≡ t
        → IsRising (cond t (number ∷ n ∷ numbers) (cond (number == n) (n ∷ numbers) (n ∷ with_number number numbers)))
    go more true less =
        let below : number < n = ltb-true number n less in
        ((below, still_above number n numbers below rising.0), rising)
    go more false least = same_or_later more (ltb-false number n least) (number == n) refl

-- the first of them is less than any other
pub first_least : (least number : ℕ) (numbers : List ℕ) → IsRising (least ∷ numbers) → is_in number (least ∷ numbers) ≡ true → least ≤ number
first_least least number numbers rising within = ⊎_elim
    (λ (same : number ≡ least). omega arith)
    (λ (later : is_in number numbers ≡ true). let less = above_in number numbers rising.0 later in omega arith)
    (is_in-cases number least numbers within)
  where
    above_in : (number : ℕ) (numbers : List ℕ) → Each (λ other. least < other) numbers → is_in number numbers ≡ true → least < number
    above_in number [] all within = absurd (true≢false (sym within))
    above_in number (n ∷ numbers) all within = ⊎_elim
        (λ (same : number ≡ n). subst (λ k. least < k) (sym same) all.0)
        (λ (later : is_in number numbers ≡ true). above_in number numbers all.1 later)
        (is_in-cases number n numbers within)

-- and stands among the others no more
pub first_once : (least : ℕ) (numbers : List ℕ) → IsRising (least ∷ numbers) → is_in least numbers ≡ false
first_once least numbers rising = ⊎_elim
    (λ (t : is_in least numbers ≡ true). let low = in_above numbers rising.0 t in absurd (omega arith))
    (λ (f : is_in least numbers ≡ false). f)
    (cases_Bool (is_in least numbers))
  where
    in_above : (numbers : List ℕ) → Each (λ other. least < other) numbers → is_in least numbers ≡ true → least < least
    in_above [] all within = absurd (true≢false (sym within))
    in_above (n ∷ numbers) all within = ⊎_elim
        (λ (same : least ≡ n). subst (λ k. least < k) (sym same) all.0)
        (λ (later : is_in least numbers ≡ true). in_above numbers all.1 later)
        (is_in-cases least n numbers within)
