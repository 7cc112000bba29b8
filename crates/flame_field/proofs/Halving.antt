-- Numbers that are halved down to none.
use Rattle.std.proofs.Common.{◌≡◌, ℕ, ◌<◌, ◌≤◌, ◌^◌, ◌/◌, true, nat_eq, arith}
use Rattle.std.proofs.lemmas.Bool.{lt-ltb, ltb_from_iff, eqb-true, eq-eqb}
use Rattle.std.proofs.lemmas.Nat.{pow_pos}
use Rattle.std.proofs.Math.Nat.{div-lt_iff_lt-mul}
use Rattle.std.proofs.Math.Pow.{pow_mono}
use Rattle.flame_field.specs.KeptOrders.{are_enough}

pub enough-wide : (views rows : ℕ) → 64 ≤ views → rows < 2 ^ 64 → are_enough views rows ≡ true
enough-wide views rows wide fits = lt-ltb rows (2 ^ views) (omega (arith, fits, pow_mono {i = 64} {j = views} wide))

-- what is left after so many halvings
pub halved-enough : (views rows : ℕ) → nat_eq (rows / 2 ^ views) 0 ≡ are_enough views rows
halved-enough views rows =
    let few = div-lt_iff_lt-mul {k = 2 ^ views} {x = rows} {y = 1} (pow_pos views) in
    ltb_from_iff (
      (λ none. omega (arith, few.0 (omega (arith, eqb-true (rows / 2 ^ views) 0 none)))),
      (λ less. eq-eqb (rows / 2 ^ views) 0 (omega (arith, few.1 (omega (arith, less))))),
    )
