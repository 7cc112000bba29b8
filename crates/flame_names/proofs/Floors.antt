-- Lengths below the least number of 32 bits.
use Rattle.std.proofs.Common.{◌≡◌, ℕ, ◌*◌, ◌≤◌, suc, zero, ℤ, pos, negsuc, ◌*ℤ◌, refl, sym, ap, ◌∙◌, Bool, true, false, cond, true≢false, nat_lt, arith, neg_ℤ}
use Rattle.std.proofs.Math.IntN.{zero-*ℤ}
use Rattle.std.proofs.lemmas.Bool.{lt-ltb}
use Rattle.flame_spec.specs.UnitFaults.{is_long}
use Rattle.flame_names.specs.UnitTables.{floored}

not_below : (m k : ℕ) → nat_lt m k ≡ false → k ≤ m
not_below m k h = grind arith

at_least : (a m : ℕ) → suc m ≤ suc a * suc m
at_least a m = omega arith

not_above : (n x : ℕ) → x ≤ n → nat_lt n x ≡ false
not_above n x h = grind arith

-- a length that is not above 0 is not long
short : (x : ℕ) → is_long (neg_ℤ (pos x)) ≡ false
short zero = refl
short (suc n) = refl

long : (a m : ℕ) → 2147483647 ≤ m → is_long (negsuc a *ℤ negsuc m) ≡ true
long a m h = let k = at_least a m in lt-ltb 2147483647 (suc a * suc m) (omega arith)

low : (x : ℕ) → 2147483648 ≤ x → floored (neg_ℤ (pos x)) ≡ negsuc 2147483647
low zero h = absurd (omega arith)
low (suc n) h = ap (λ b. cond b (negsuc n) (negsuc 2147483647)) (not_above n 2147483647 (omega arith))

-- both are long, or neither is
long_low : (p : ℤ) (m : ℕ) → 2147483647 ≤ m → is_long (p *ℤ negsuc 2147483647) ≡ is_long (p *ℤ negsuc m)
long_low (pos a) m h = short (a * suc 2147483647) ∙ sym (short (a * suc m))
long_low (negsuc a) m h = long a 2147483647 (omega arith) ∙ sym (long a m h)

floored_low : (p : ℤ) (m : ℕ)
    → 2147483647 ≤ m
    → is_long (p *ℤ negsuc m) ≡ false
    → floored (p *ℤ negsuc 2147483647) ≡ floored (p *ℤ negsuc m)
floored_low (pos zero) m h s = ap floored (zero-*ℤ (negsuc 2147483647) ∙ sym (zero-*ℤ (negsuc m)))
floored_low (pos (suc a)) m h s =
    let k = at_least a m in
    let l = at_least a 2147483647 in
    low (suc a * suc 2147483647) (omega arith) ∙ sym (low (suc a * suc m) (omega arith))
floored_low (negsuc a) m h s = absurd (true≢false (sym (long a m h) ∙ s))

-- a unit of a floored length is long exactly where it is without the floor
pub is_long-floored : (p z : ℤ) → is_long (p *ℤ floored z) ≡ is_long (p *ℤ z)
is_long-floored p (pos n) = refl
is_long-floored p (negsuc m) = by (nat_lt m 2147483647) refl
  where
    by : (b : Bool) → nat_lt m 2147483647 ≡ b → is_long (p *ℤ cond b (negsuc m) (negsuc 2147483647)) ≡ is_long (p *ℤ negsuc m)
    by true e = refl
    by false e = long_low p m (not_below m 2147483647 e)

-- and else its floored length is the same
pub floored-floored : (p z : ℤ) → is_long (p *ℤ z) ≡ false → floored (p *ℤ floored z) ≡ floored (p *ℤ z)
floored-floored p (pos n) s = refl
floored-floored p (negsuc m) s = by (nat_lt m 2147483647) refl
  where
    by : (b : Bool) → nat_lt m 2147483647 ≡ b → floored (p *ℤ cond b (negsuc m) (negsuc 2147483647)) ≡ floored (p *ℤ negsuc m)
    by true e = refl
    by false e = floored_low p m (not_below m 2147483647 e) s
