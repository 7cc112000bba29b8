-- Whole division: the quotient truncated towards zero, and the remainder that it leaves.
use Rattle.std.specs.Prelude.{◌≡◌, ◌≢◌, ◌<◌, ℤ, pos, ◌+ℤ◌, ◌*ℤ◌, ◌≤ℤ◌, unsigned_abs, int_div, int_rem}

-- quotient and remainder make up the dividend again
abbrev pub QuotientAndRemainder : Type 0
QuotientAndRemainder = (a b : ℤ) → int_div a b *ℤ b +ℤ int_rem a b ≡ a

-- the remainder is nearer to zero than the divisor
abbrev pub RemainderIsLess : Type 0
RemainderIsLess = (a b : ℤ) → b ≢ pos 0 → unsigned_abs (int_rem a b) < unsigned_abs b

-- the remainder lies on the dividend's side of zero, so that the quotient is rounded towards zero
abbrev pub RemainderHasSign : Type 0
RemainderHasSign =
    (a b : ℤ)
    → (pos 0 ≤ℤ a → pos 0 ≤ℤ int_rem a b)
    × (a ≤ℤ pos 0 → int_rem a b ≤ℤ pos 0)
