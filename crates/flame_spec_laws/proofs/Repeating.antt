-- The place of an iteration in a period is that of the iteration a period later.
use Rattle.std.proofs.Common.{◌≡◌, ℕ, suc, ◌+◌, ◌-◌, ◌*◌, ◌<◌, ◌≤◌, refl, sym, ap, ◌∙◌, arith}
use Rattle.std.specs.Prelude.{ℤ, pos, negsuc, ◌+ℤ◌, ◌&&◌, int_le, int_lt}
use Rattle.std.specs.Int.{int_rem_euclid}
use Rattle.std.proofs.Math.Nat.{mul-le-mul_left}
use Rattle.std.proofs.lemmas.Int.{ints, int_rem_euclid_is}
use Rattle.flame_spec.specs.ViewLaws.{TimeRepeats}

rem-plus : (z : ℤ) (n : ℕ) → 0 < n → int_rem_euclid (z +ℤ pos n) (pos n) ≡ int_rem_euclid z (pos n)
rem-plus (pos a) n h = sym (int_rem_euclid_is (pos a) (pos n) n 1 (a + n) h refl (ap (λ m. pos (a + m)) (omega arith)))
rem-plus (negsuc a) n h =
    let enough : suc a * 1 ≤ suc a * n = mul-le-mul_left (suc a) h in
    int_rem_euclid_is (negsuc a +ℤ pos n) (pos n) n a (suc a * n - suc a) h refl (omega (arith, ints))
    ∙ sym (int_rem_euclid_is (negsuc a) (pos n) n (suc a) (suc a * n - suc a) h refl (omega (arith, ints)))

pub time_repeats : TimeRepeats
time_repeats (negsuc n) phase duration iteration h = absurd (omega (arith, ints))
time_repeats (pos n) phase duration iteration h =
    ap (λ place. int_le phase place && int_lt place (phase +ℤ duration)) (rem-plus iteration n (omega (arith, ints)))
