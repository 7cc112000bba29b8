-- The quotient of two numbers of int is one, but at -2147483648 by -1; a remainder always is.
use Rattle.std.proofs.Common.{◌≡◌, ◌≢◌, ℕ, ◌/◌, ◌<◌, ◌≤◌, zero, suc, true, ◌⊎◌, inl, inr, refl, ap, arith, leb, leb-true}
use Rattle.std.specs.Prelude.{ℤ, pos, negsuc, neg_ℤ, int_div, int_rem, unsigned_abs}
use Rattle.std.proofs.Math.Nat.{div-le_self, div-lt_self, div-one}
use Rattle.std.proofs.lemmas.Bool.{and_parts, and_from, cases_Bool, le-leb, leb-false}
use Rattle.std.proofs.lemmas.Int.{rem_below}
use Rattle.flame_ops.specs.Integers.{least, is_int}

is_int-neg : (n : ℕ) → n ≤ 2147483648 → is_int (neg_ℤ (pos n)) ≡ true
is_int-neg zero h = refl
is_int-neg (suc n) h = and_from _ _ (le-leb n 2147483647 (omega arith)) refl

is_int-small : (z : ℤ) → unsigned_abs z ≤ 2147483647 → is_int z ≡ true
is_int-small (pos n) h = le-leb n 2147483647 h
is_int-small (negsuc n) h = and_from _ _ (le-leb n 2147483647 (omega arith)) refl

abs_bound : (z : ℤ) → is_int z ≡ true → unsigned_abs z ≤ 2147483648
abs_bound (pos n) h = omega (arith, leb-true n 2147483647 h)
abs_bound (negsuc n) h = omega (arith, leb-true n 2147483647 (and_parts _ _ h).0)

abs_above : (z : ℤ) → z ≢ pos 0 → 0 < unsigned_abs z
abs_above (pos zero) h = absurd (h refl)
abs_above (pos (suc n)) h = omega arith
abs_above (negsuc n) h = omega arith

-- the quotient by -1
by_minus_one : (a : ℕ) → a ≤ 2147483647 → (a ≡ 2147483647) ⊎ (is_int (pos (suc a / suc zero)) ≡ true)
by_minus_one a h = elim (cases_Bool (leb (suc a / suc zero) 2147483647)) [
  | inl t ↦ inr t
  | inr f ↦ inl (omega (arith, leb-false _ _ f, div-one (suc a)))
]

pub quotient : (a b : ℤ) → is_int a ≡ true → is_int b ≡ true
    → ((a ≡ least) × (b ≡ neg_ℤ (pos 1))) ⊎ (is_int (int_div a b) ≡ true)
quotient (pos a) (pos b) a_in b_in =
    inr (le-leb (a / b) 2147483647 (omega (arith, div-le_self a b, leb-true a 2147483647 a_in)))
quotient (pos a) (negsuc b) a_in b_in =
    inr (is_int-neg (a / suc b) (omega (arith, div-le_self a (suc b), leb-true a 2147483647 a_in)))
quotient (negsuc a) (pos b) a_in b_in =
    inr (is_int-neg (suc a / b) (omega (arith, div-le_self (suc a) b, abs_bound (negsuc a) a_in)))
quotient (negsuc a) (negsuc zero) a_in b_in =
    elim (by_minus_one a (omega (arith, abs_bound (negsuc a) a_in))) [
      | inl e ↦ inl (ap negsuc e, refl)
      | inr t ↦ inr t
    ]
quotient (negsuc a) (negsuc (suc b)) a_in b_in =
    let less : suc a / suc (suc b) < suc a = div-lt_self (omega arith) (omega arith) in
    inr (le-leb _ 2147483647 (omega (arith, abs_bound (negsuc a) a_in)))

pub remainder : (a b : ℤ) → is_int b ≡ true → b ≢ pos 0 → is_int (int_rem a b) ≡ true
remainder a b b_in b_not =
    is_int-small (int_rem a b) (omega (arith, rem_below a b (abs_above b b_not), abs_bound b b_in))
