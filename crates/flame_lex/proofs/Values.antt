-- Numbers grow with each digit.
use Rattle.std.proofs.Common.{◌≡◌, ℕ, zero, suc, ◌+◌, ◌*◌, ◌<◌, ◌≤◌, List, [], ◌∷◌, ◌++◌, take, drop, arith, fold}
use Rattle.std.proofs.Common.{sym, ap, ◌∙◌, get_or, length}
use Rattle.std.specs.Char.{digit_value}
use Rattle.std.proofs.lemmas.List.Sums.{fold-append, fold_more}
use Rattle.std.proofs.Math.Nat.{mul_comm}
use Rattle.std.proofs.lemmas.List.{take-append-drop}
use Rattle.flame_lex.specs.Numerals.{value_in}

le_times : (base a : ℕ) → 0 < base → a ≤ base * a
le_times zero a h = absurd (omega arith)
le_times (suc base) a h = omega arith

grows : (base a : ℕ) (digits : List ℕ) → 0 < base → a ≤ fold (λ value digit. base * value + digit_value digit) a digits
grows base a [] h = omega arith
grows base a (digit ∷ digits) h =
    let more = grows base (base * a + digit_value digit) digits h in
    let times = le_times base a h in
    omega arith

pub value_in-take : (base : ℕ) (digits : List ℕ) (n : ℕ) → 0 < base
    → value_in base (take n digits) ≤ value_in base digits
value_in-take base digits n h =
    let e = fold-append (λ value digit. base * value + digit_value digit) 0 (take n digits) (drop n digits) in
    let more : value_in base (take n digits) ≤ value_in base (take n digits ++ drop n digits) =
    rw e (grows base (value_in base (take n digits)) (drop n digits) h) in
    rw (take-append-drop n digits) at more

pub value_in-take_more : (base : ℕ) (digits : List ℕ) (n value : ℕ) → n < length digits
    → value ≡ value_in base (take n digits)
    → value_in base (take (n + 1) digits) ≡ value * base + digit_value (get_or digits n 0)
value_in-take_more base digits n value h e =
    fold_more (λ value digit. base * value + digit_value digit) 0 digits n 0 h
    ∙ ap (λ v. base * v + digit_value (get_or digits n 0)) (sym e)
    ∙ ap (λ p. p + digit_value (get_or digits n 0)) (mul_comm base value)
