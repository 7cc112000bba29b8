-- What a run of letters, digits and `_` that begins with a digit says, where it is a number.
use Rattle.std.specs.Prelude.{◌≡◌, ℕ, ◌<◌, ◌≤◌, ℤ, pos, ◌+◌, ◌*◌, ◌==◌, ◌||◌, ◌&&◌, not, Bool, false, List, [], ◌∷◌}
use Rattle.std.specs.Prelude.{length, drop, fold}
use Rattle.std.specs.Prelude.{Option, Some, None, if◌then◌else◌}
use Rattle.std.specs.List.{list_all}
use Rattle.std.specs.Char.{is_ascii_digit, is_ascii_hexdigit, digit_value}

-- the number that the digits write in this base [C, 6.4.4.1]
abbrev pub value_in : ℕ → List ℕ → ℕ
value_in base digits = fold (λ value digit. base * value + digit_value digit) 0 digits

-- `0`, or a digit from 1 to 9 and any further digits [C, 6.4.4.1]
abbrev pub is_decimal : List ℕ → Bool
is_decimal [] = false
is_decimal (first ∷ further) = list_all is_ascii_digit (first ∷ further) && (not (first == 48) || (length further == 0))

-- `0x` or `0X`, and one or more hexadecimal digits [C, 6.4.4.1]
abbrev pub is_hexadecimal : List ℕ → Bool
is_hexadecimal (lead ∷ x ∷ first ∷ further) =
    (lead == 48)
    && ((x == 120) || (x == 88))
    && list_all is_ascii_hexdigit (first ∷ further)
is_hexadecimal _ = false

-- the number that the run writes, without a bound; none where it is of neither form [own]
abbrev pub number_value : List ℕ → Option ℕ
number_value run =
    if is_decimal run then Some (value_in 10 run)
    else if is_hexadecimal run then Some (value_in 16 (drop 2 run))
    else None

-- the run writes this number, and int holds it [own]
pub record IsNumber (n : ℤ) (run : List ℕ) : Type 0 where
  pub value : ℕ
  pub written : number_value run ≡ Some value
  pub small : value ≤ 2147483647
  pub same : n ≡ pos value

-- the run writes a number that int does not hold [own]
pub record IsBigNumber (run : List ℕ) : Type 0 where
  pub value : ℕ
  pub written : number_value run ≡ Some value
  pub big : 2147483647 < value
