-- Where the operators overflow, for operands that int holds.
use Rattle.std.specs.Prelude.{◌≡◌, ◌↔◌, ℤ, pos, neg_ℤ, IsTrue, IfOk, Err}
use Rattle.flame_ops.specs.declared.integers.Op.{Op}
use Rattle.flame_ops.specs.declared.integers.Cause.TheVariants.{Overflow}
use Rattle.flame_ops.specs.Integers.{least, is_int, divides, applied}

-- int holds what an operator gives
abbrev pub AnswersAreInts : Type 0
AnswersAreInts =
    (op : Op) (a b : ℤ)
    → IsTrue (is_int a)
    → IsTrue (is_int b)
    → IfOk (applied op a b) (λ answer. IsTrue (is_int answer))

-- `/` and `%` overflow at -2147483648 by -1 alone
abbrev pub DivisionOverflows : Type 0
DivisionOverflows =
    (op : Op) (a b : ℤ)
    → IsTrue (divides op)
    → IsTrue (is_int a)
    → IsTrue (is_int b)
    → (applied op a b ≡ Err Overflow) ↔ ((a ≡ least) × (b ≡ neg_ℤ (pos 1)))
