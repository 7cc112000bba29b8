-- The length of a unit, found from the last unit to the first.
use Rattle.std.proofs.Common.{◌≡◌, ℕ, zero, suc, ◌+◌, ◌*◌, ◌<◌, ◌≤◌, true, false, cond, List, [], ◌∷◌, length, get_or, take, Option, Some, None, IsTrue, sym, ap, ◌∙◌, subst, arith, add-one, codes, true≢false}
use Rattle.std.specs.Prelude.{ℤ, pos, negsuc, ◌≤ℤ◌, ◌*ℤ◌, All, int_le, reverse, option_map}
use Rattle.std.specs.Str.{bytes_eq}
use Rattle.std.proofs.Math.Nat.{le-mul_of_pos_right, mul_assoc}
use Rattle.std.proofs.lemmas.Int.{ints}
use Rattle.std.proofs.lemmas.List.{take_more, reverse-append}
use Rattle.flame_spec.specs.declared.models.TimeUnit.{TimeUnit}
use Rattle.flame_spec.specs.TimeUnits.{length_back}
use Rattle.flame_spec.specs.Conditions.{is_length}

-- the first n units, the last one first
abbrev pub back : ℕ → List TimeUnit → List TimeUnit
back n units = reverse (take n units)

-- the product so far, times what the first n units give, is the whole
pub record IsSoFar (whole : Option ℤ) (product : ℤ) (n : ℕ) (units : List TimeUnit) (wanted : List ℕ) : Type 0 where
  pub value : option_map (λ length. product *ℤ length) (length_back (back n units) wanted) ≡ whole
  pub low : pos 1 ≤ℤ product
  pub high : product ≤ℤ pos 2147483647

abbrev HasPeriods : List TimeUnit → Type 0
HasPeriods units = All (λ unit. IsTrue (int_le (pos 1) unit.period)) units

back-more : (n : ℕ) (units : List TimeUnit) (unit : TimeUnit) → n < length units → back (n + 1) units ≡ get_or units n unit ∷ back n units
back-more n units unit h = ap reverse (take_more units n unit h) ∙ reverse-append (take n units) (get_or units n unit ∷ [])

one_at_least : (z : ℤ) → int_le (pos 1) z ≡ true → pos 1 ≤ℤ z
one_at_least z h = grind (arith, ints)

product_low : (a b : ℤ) → pos 1 ≤ℤ a → pos 1 ≤ℤ b → pos 1 ≤ℤ (a *ℤ b)
product_low (pos a) (pos b) h k =
    let first : 0 < a = omega (arith, ints) in
    let second : 0 < b = omega (arith, ints) in
    let more : a ≤ a * b = le-mul_of_pos_right a second in
    omega (arith, ints)
product_low (pos a) (negsuc b) h k = absurd (omega (arith, ints))
product_low (negsuc a) b h k = absurd (omega (arith, ints))

product_high : (a b : ℤ) → pos 1 ≤ℤ a → pos 1 ≤ℤ b → (a *ℤ b) ≤ℤ pos 2147483647 → a ≤ℤ pos 2147483647
product_high (pos a) (pos b) h k m =
    let second : 0 < b = omega (arith, ints) in
    let more : a ≤ a * b = le-mul_of_pos_right a second in
    omega (arith, ints)
product_high (pos a) (negsuc b) h k m = absurd (omega (arith, ints))
product_high (negsuc a) b h k m = absurd (omega (arith, ints))

times_assoc : (a b c : ℤ) → pos 1 ≤ℤ a → pos 1 ≤ℤ b → pos 1 ≤ℤ c → a *ℤ (b *ℤ c) ≡ (a *ℤ b) *ℤ c
times_assoc (pos a) (pos b) (pos c) h k m = ap pos (sym (mul_assoc a b c))
times_assoc (pos a) (pos b) (negsuc c) h k m = absurd (omega (arith, ints))
times_assoc (pos a) (negsuc b) c h k m = absurd (omega (arith, ints))
times_assoc (negsuc a) b c h k m = absurd (omega (arith, ints))

-- a length, if there is one, is one at least
abbrev AtLeastOne : Option ℤ → Type 0
AtLeastOne None = Unit {0}
AtLeastOne (Some length) = pos 1 ≤ℤ length

AtLeastOne-times : (z : ℤ) (o : Option ℤ) → pos 1 ≤ℤ z → AtLeastOne o → AtLeastOne (option_map (λ length. z *ℤ length) o)
AtLeastOne-times z None h k = tt
AtLeastOne-times z (Some length) h k = product_low z length h k

AtLeastOne-length_back : (n : ℕ) (units : List TimeUnit) → TimeUnit → n ≤ length units → HasPeriods units → (name : List ℕ) → AtLeastOne (length_back (back n units) name)
AtLeastOne-length_back zero units d within periods name =
    elim (bytes_eq (codes "iteration") name) as (λ t. AtLeastOne (cond t (Some (pos 1)) None)) [
      | true ↦ omega (arith, ints)
      | false ↦ tt
    ]
AtLeastOne-length_back (suc n) units d within periods name =
    let unit = get_or units n d in
    let more : back (suc n) units ≡ unit ∷ back n units = ap (λ k. back k units) (sym (add-one n)) ∙ back-more n units d (omega arith) in
    let P : List TimeUnit → Type 0 = λ us. AtLeastOne (length_back us name) in
    let own = AtLeastOne-times unit.period (length_back (back n units) unit.unit) (one_at_least unit.period (periods n d (omega arith))) (AtLeastOne-length_back n units d (omega arith) periods unit.unit) in
    let other = AtLeastOne-length_back n units d (omega arith) periods name in
    subst P (sym more) (
    elim (bytes_eq unit.name name) as (λ t. AtLeastOne (cond t (option_map (λ length. unit.period *ℤ length) (length_back (back n units) unit.unit)) (length_back (back n units) name))) [
      | true ↦ own
      | false ↦ other
    ]
    )

length_high : (z : ℤ) → is_length (Some z) ≡ true → z ≤ℤ pos 2147483647
length_high z h = grind (arith, ints)

regrouped : (whole inner : Option ℤ) (product period : ℤ) → pos 1 ≤ℤ product → pos 1 ≤ℤ period → AtLeastOne inner
    → option_map (λ length. product *ℤ length) (option_map (λ length. period *ℤ length) inner) ≡ whole
    → is_length whole ≡ true
    → (option_map (λ length. (product *ℤ period) *ℤ length) inner ≡ whole) × ((product *ℤ period) ≤ℤ pos 2147483647)
regrouped whole None product period h k one e known = absurd (true≢false (sym known ∙ ap is_length (sym e)))
regrouped whole (Some length) product period h k one e known =
    let same : product *ℤ (period *ℤ length) ≡ (product *ℤ period) *ℤ length = times_assoc product period length h k one in
    let total : is_length (Some ((product *ℤ period) *ℤ length)) ≡ true = ap (λ z. is_length (Some z)) (sym same) ∙ ap is_length e ∙ known in
    (ap Some (sym same) ∙ e, product_high (product *ℤ period) length (product_low product period h k) one (length_high _ total))

module _ (whole : Option ℤ) (product : ℤ) (n : ℕ) (units : List TimeUnit) (wanted : List ℕ) (unit : TimeUnit) (stands : unit ≡ get_or units n unit) (less : n < length units) where
  opened : length_back (back (n + 1) units) wanted ≡ cond (bytes_eq unit.name wanted) (option_map (λ length. unit.period *ℤ length) (length_back (back n units) unit.unit)) (length_back (back n units) wanted)
  opened =
      ap (λ us. length_back us wanted) (back-more n units unit less)
      ∙ ap (λ u. length_back (u ∷ back n units) wanted) (sym stands)

  -- a unit of another name is passed over
  pub other_unit : IsSoFar whole product (n + 1) units wanted → bytes_eq unit.name wanted ≡ false → IsSoFar whole product n units wanted
  other_unit so differs = record {
    value = ap (option_map (λ length. product *ℤ length)) (sym (opened ∙ ap (λ t. cond t (option_map (λ length. unit.period *ℤ length) (length_back (back n units) unit.unit)) (length_back (back n units) wanted)) differs)) ∙ so.value;
    low = so.low;
    high = so.high;
  }

  -- the unit of this name is multiplied in, and the unit that it is measured in comes next
  pub same_unit : IsSoFar whole product (n + 1) units wanted → bytes_eq unit.name wanted ≡ true → HasPeriods units → is_length whole ≡ true
      → IsSoFar whole (product *ℤ unit.period) n units unit.unit
  same_unit so named periods known =
      let some : pos 1 ≤ℤ unit.period = one_at_least unit.period (ap (λ u. int_le (pos 1) u.period) stands ∙ periods n unit less) in
      let inner = length_back (back n units) unit.unit in
      let here = opened ∙ ap (λ t. cond t (option_map (λ length. unit.period *ℤ length) inner) (length_back (back n units) wanted)) named in
      let both = regrouped whole inner product unit.period so.low some (AtLeastOne-length_back n units unit (omega arith) periods unit.unit) (ap (option_map (λ length. product *ℤ length)) (sym here) ∙ so.value) known in
      record { value = both.0; low = product_low product unit.period so.low some; high = both.1 }

pub IsSoFar-at : (whole : Option ℤ) (units : List TimeUnit) (p q : ℤ) (n m : ℕ) (v w : List ℕ) → p ≡ q → n ≡ m → v ≡ w → IsSoFar whole p n units v → IsSoFar whole q m units w
IsSoFar-at whole units p q n m v w a b c so = subst (λ x. x) (λ i. IsSoFar whole (a i) (b i) units (c i)) so
