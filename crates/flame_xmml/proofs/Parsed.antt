-- What `parse` reads of a text that does not begin with `+`.
use Rattle.std.proofs.Common.{◌≡◌, ◌≢◌, ℕ, zero, suc, ◌<◌, ◌≤◌, ◌^◌, List, length, drop, get_or, Bool}
use Rattle.std.proofs.Common.{true, false, cond, ◌&&◌, nat_eq, nat_lt, Some, None, refl}
use Rattle.std.proofs.Common.{arith, rules, ltb-true, leb-true, lt-ltb, le-leb, ne_eqb, Result, Ok, Err}
use Rattle.std.specs.Prelude.{ℤ, pos, neg_ℤ, option_and_then}
use Rattle.std.specs.Result.{OkIff, result_ok}
use Rattle.std.specs.List.{list_all}
use Rattle.std.specs.Char.{is_ascii_digit}
use Rattle.std.specs.Int.{w32}
use Rattle.std.specs.Str.Parse.{ParsesSigned, digits_value}
use Rattle.std.proofs.lemmas.Bool.{and_parts, and_from, eqb-true, eqb-false}
use Rattle.std.proofs.lemmas.Str.Parse.{IsNumeralModel, numerals_by_value, parse_signed_plain, parse_signed_minus}
use Rattle.flame_ops.specs.Integers.{is_int}
use Rattle.flame_xmml.specs.Wants.{held, whole_named}

own : IsNumeralModel (λ digits. list_all is_ascii_digit digits ≡ true) (digits_value 10)
own = numerals_by_value _ (search rules)

-- what is read exactly where P holds
decided :
    {E : Type 0} (r : Result ℤ E) (whole : Bool) (z : ℤ) (P : Type 0)
    → OkIff r P z
    → (whole ≡ true → is_int z ≡ true → P)
    → (P → (whole ≡ true) × (is_int z ≡ true))
    → result_ok r ≡ option_and_then held (cond whole (Some z) None)
decided (Ok x) whole z P (p, e) into from =
    let parts = from p in
    let is_whole : whole ≡ true = parts.0 in
    let is_held : is_int z ≡ true = parts.1 in
    rw (is_whole, is_held, e) refl
decided (Err e) false z P not into from = refl
decided (Err e) true z P not into from =
    elim (is_int z) as (λ b. (is_int z ≡ b) → None ≡ cond b (Some z) None)
    [ true ↦ λ is_held. absurd (not (into refl is_held)) | false ↦ λ _. refl ] refl

is_int-pos : (n : ℕ) → n < 2 ^ 31 → is_int (pos n) ≡ true
is_int-pos n h = le-leb n 2147483647 (omega arith)

pos-is_int : (n : ℕ) → is_int (pos n) ≡ true → n < 2 ^ 31
pos-is_int n h = let most : n ≤ 2147483647 = leb-true n 2147483647 h in omega arith

is_int-neg : (n : ℕ) → n ≤ 2 ^ 31 → is_int (neg_ℤ (pos n)) ≡ true
is_int-neg zero h = refl
is_int-neg (suc n) h = and_from _ _ (le-leb n 2147483647 (omega arith)) refl

neg-is_int : (n : ℕ) → is_int (neg_ℤ (pos n)) ≡ true → n ≤ 2 ^ 31
neg-is_int zero h = omega arith
neg-is_int (suc n) h = let most : n ≤ 2147483647 = leb-true n 2147483647 (and_parts _ _ h).0 in omega arith

abbrev are_digits : List ℕ → Bool
are_digits digits = nat_lt 0 (length digits) && list_all is_ascii_digit digits

are_digits-parts : (digits : List ℕ) → are_digits digits ≡ true
    → (list_all is_ascii_digit digits ≡ true) × (0 < length digits)
are_digits-parts digits h = let parts = and_parts _ _ h in (parts.1, ltb-true 0 (length digits) parts.0)

are_digits-from :
    (digits : List ℕ) → list_all is_ascii_digit digits ≡ true → 0 < length digits → are_digits digits ≡ true
are_digits-from digits all filled = and_from _ _ (lt-ltb 0 (length digits) filled) all

without_sign :
    {E : Type 0} (text : List ℕ) (r : Result ℤ E)
    → ParsesSigned w32 10 text r
    → get_or text 0 0 ≢ 43
    → get_or text 0 0 ≢ 45
    → result_ok r ≡ option_and_then held (cond (are_digits text) (Some (pos (digits_value 10 text))) None)
without_sign text r parses plain signless =
    decided r (are_digits text) (pos (digits_value 10 text)) _
    (parse_signed_plain own w32 text r parses plain signless)
    (λ whole held.
    let parts = are_digits-parts text whole in
    (parts.0, parts.1, pos-is_int (digits_value 10 text) held))
    (λ (all, filled, few). (are_digits-from text all filled, is_int-pos (digits_value 10 text) few))

with_minus :
    {E : Type 0} (text : List ℕ) (r : Result ℤ E)
    → ParsesSigned w32 10 text r
    → get_or text 0 0 ≡ 45
    → result_ok r
    ≡ option_and_then held (cond (are_digits (drop 1 text)) (Some (neg_ℤ (pos (digits_value 10 (drop 1 text))))) None)
with_minus text r parses minus =
    let digits : List ℕ = drop 1 text in
    decided r (are_digits digits) (neg_ℤ (pos (digits_value 10 digits))) _
    (parse_signed_minus own w32 text r parses minus)
    (λ whole held.
    let parts = are_digits-parts digits whole in
    (parts.0, parts.1, neg-is_int (digits_value 10 digits) held))
    (λ (all, filled, few). (are_digits-from digits all filled, is_int-neg (digits_value 10 digits) few))

pub parsed :
    {E : Type 0} (text : List ℕ) (r : Result ℤ E)
    → ParsesSigned w32 10 text r
    → get_or text 0 0 ≢ 43
    → result_ok r ≡ option_and_then held (whole_named text)
parsed text r parses plain =
    let no_plus : nat_eq (get_or text 0 0) 43 ≡ false = ne_eqb _ _ plain in
    elim (nat_eq (get_or text 0 0) 45) as (λ b.
    (nat_eq (get_or text 0 0) 45 ≡ b) → result_ok r ≡ option_and_then held (whole_named text)) [
      | true ↦ λ minus. rw minus (with_minus text r parses (eqb-true _ _ minus))
      | false ↦ λ signless. rw (signless, no_plus) (without_sign text r parses plain (eqb-false _ _ signless))
    ] refl
