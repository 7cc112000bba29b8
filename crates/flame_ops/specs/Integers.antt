-- What an operator gives: its value over whole numbers without a bound, or why int does not hold it.
use Rattle.std.specs.Prelude.{ℤ, pos, neg_ℤ, ◌+ℤ◌, ◌-ℤ◌, ◌*ℤ◌, int_div, int_rem, int_le, int_lt}
use Rattle.std.specs.Prelude.{Bool, true, false, not, ◌&&◌, if◌then◌else◌, Result, Ok, Err}
use Rattle.std.specs.Ordering.{int_eq}
use Rattle.flame_ops.specs.declared.integers.Op.{Op}
use Rattle.flame_ops.specs.declared.integers.Op.TheVariants.{Add, Sub, Mul, Div, Rem, Lt, Gt, Le, Ge, Eq, Ne}
use Rattle.flame_ops.specs.declared.integers.Cause.{Cause}
use Rattle.flame_ops.specs.declared.integers.Cause.TheVariants.{Overflow, DivideByZero}

-- the least number of int, -2147483648
abbrev pub least : ℤ
least = neg_ℤ (pos 2147483648)

-- the greatest number of int
abbrev pub greatest : ℤ
greatest = pos 2147483647

-- int holds the number
abbrev pub is_int : ℤ → Bool
is_int z = int_le least z && int_le z greatest

-- 1 where the comparison holds, else 0
abbrev pub truth : Bool → ℤ
truth holds = if holds then pos 1 else pos 0

-- the operator's value; a quotient is truncated towards zero, and a remainder is what it leaves
abbrev pub value : Op → ℤ → ℤ → ℤ
value Add a b = a +ℤ b
value Sub a b = a -ℤ b
value Mul a b = a *ℤ b
value Div a b = int_div a b
value Rem a b = int_rem a b
value Lt a b = truth (int_lt a b)
value Gt a b = truth (int_lt b a)
value Le a b = truth (int_le a b)
value Ge a b = truth (int_le b a)
value Eq a b = truth (int_eq a b)
value Ne a b = truth (not (int_eq a b))

-- the right operand is a divisor
abbrev pub divides : Op → Bool
divides Div = true
divides Rem = true
divides _ = false

-- the whole number that int has to hold; a remainder is given only where int holds its quotient
abbrev pub bounded : Op → ℤ → ℤ → ℤ
bounded Rem a b = int_div a b
bounded op a b = value op a b

-- what the operator gives for two numbers of int
abbrev pub applied : Op → ℤ → ℤ → Result ℤ Cause
applied op a b =
    if divides op && int_eq b (pos 0) then Err DivideByZero
    else if is_int (bounded op a b) then Ok (value op a b)
    else Err Overflow

-- what the sign `-` gives for a number of int
abbrev pub negated : ℤ → Result ℤ Cause
negated a = if is_int (neg_ℤ a) then Ok (neg_ℤ a) else Err Overflow
