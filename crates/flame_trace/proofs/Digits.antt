-- Numbers grow with each digit.
use Rattle.std.proofs.Common.{◌≡◌, ℕ, ◌+◌, ◌*◌, ◌<◌, ◌≤◌, List, [], ◌∷◌, ◌++◌, take, drop, arith, fold}
use Rattle.std.proofs.Common.{get_or, length}
use Rattle.std.specs.Char.{digit_value}
use Rattle.std.proofs.lemmas.List.{take-append-drop}
use Rattle.std.proofs.lemmas.List.Sums.{fold-append, fold_more}
use Rattle.flame_trace.specs.TraceLines.{numeral_value}

grows : (a : ℕ) (digits : List ℕ) → a ≤ fold (λ value digit. 10 * value + digit_value digit) a digits
grows a [] = omega arith
grows a (digit ∷ digits) = let more = grows (10 * a + digit_value digit) digits in omega (arith, more)

pub value-take : (digits : List ℕ) (n : ℕ) → numeral_value (take n digits) ≤ numeral_value digits
value-take digits n =
    let e = fold-append (λ value digit. 10 * value + digit_value digit) 0 (take n digits) (drop n digits) in
    let more : numeral_value (take n digits) ≤ numeral_value (take n digits ++ drop n digits) =
    rw e (grows (numeral_value (take n digits)) (drop n digits)) in
    rw (take-append-drop n digits) at more

pub value-take_more : (digits : List ℕ) (n value : ℕ) → n < length digits
    → value ≡ numeral_value (take n digits)
    → numeral_value (take (n + 1) digits) ≡ value * 10 + digit_value (get_or digits n 0)
value-take_more digits n value within is =
    let more = fold_more (λ value digit. 10 * value + digit_value digit) 0 digits n 0 within in omega (arith, more, is)
