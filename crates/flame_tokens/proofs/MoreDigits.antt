-- A number with a decimal digit more.
use Rattle.std.proofs.Common.{◌≡◌, ℕ, ◌+◌, ◌*◌, ◌/◌, ◌%◌, ◌^◌, ◌<◌, ◌≤◌, List, [], ◌∷◌, ◌++◌, take, length, get_or, decimal, refl, sym, ap, ap₂, ◌∙◌, arith}
use Rattle.std.proofs.lemmas.Fmt.{decimal_digit, decimal_step}
use Rattle.std.proofs.lemmas.List.{take_more}
use native.Mathlib.Nat.{pow-le-pow_right}
use native.Mathlib.Numerals.{unary_clauses}

-- one digit
pub first_digit :
    (bytes : List ℕ) (digit : ℕ)
    → 0 < length bytes → get_or bytes 0 0 ≡ 48 + digit → digit < 10 → take 1 bytes ≡ decimal digit
first_digit [] digit some is small = absurd (omega (arith, some))
first_digit (byte ∷ bytes) digit some is small =
    ap (λ (b : ℕ). b ∷ []) is ∙ sym (decimal_digit digit small)

as_nine : (place : ℕ) → place < 10 → place ≤ 9
as_nine place short = omega (arith, short)

-- fewer than ten digits are a number below a thousand million
few :
    (place number : ℕ)
    → place < 10 → number < 10 ^ place → number < 1000000000
few place number short below =
    omega (arith, below, pow-le-pow_right {n = 10} (omega arith) (as_nine place short))

-- one digit more
pub digit_more :
    (bytes : List ℕ) (place number digit : ℕ)
    → place < length bytes
    → place < 10
    → get_or bytes place 0 ≡ 48 + digit
    → digit < 10
    → 0 < number
    → number < 10 ^ place
    → take place bytes ≡ decimal number
    → take (place + 1) bytes ≡ decimal (10 * number + digit)
digit_more bytes place number digit within short is small some below so_far =
    let next : ℕ = 10 * number + digit in
    let bound = few place number short below in
    let front : next / 10 ≡ number = omega (arith, small) in
    let last : 48 + next % 10 ≡ 48 + digit = omega (arith, small) in
    take_more bytes place 0 within
    ∙ ap₂ (λ (ds : List ℕ) (d : ℕ). ds ++ d ∷ []) so_far is
    ∙ sym
    (decimal_step next (omega (arith, some)) (omega (arith, bound, small))
    ∙ ap₂ (λ (n d : ℕ). decimal n ++ d ∷ []) front last)

-- and how large it is
pub larger : (place number digit : ℕ) → digit < 10 → number < 10 ^ place → 10 * number + digit < 10 ^ (place + 1)
larger place number digit small below =
    let more : 10 ^ (place + 1) ≡ 10 ^ place * 10 = simp unary_clauses refl in
    omega (arith, small, below, more)
