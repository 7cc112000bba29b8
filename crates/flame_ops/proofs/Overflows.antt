-- Which answers the operators give, by what their tests say.
use Rattle.std.proofs.Common.{◌≡◌, ◌≢◌, Bool, true, false, ◌⊎◌, inl, inr, refl, sym, subst, zero, suc}
use Rattle.std.specs.Prelude.{ℤ, pos, negsuc, neg_ℤ, int_div, int_rem, Result, Ok, Err, IfOk, if◌then◌else◌, ◌+ℤ◌, ◌-ℤ◌, ◌*ℤ◌}
use Rattle.std.specs.Ordering.{int_eq}
use Rattle.flame_ops.specs.declared.integers.Op.{Op}
use Rattle.flame_ops.specs.declared.integers.Op.TheVariants.{Add, Sub, Mul, Div, Rem, Lt, Gt, Le, Ge, Eq, Ne}
use Rattle.flame_ops.specs.declared.integers.Cause.{Cause}
use Rattle.flame_ops.specs.declared.integers.Cause.TheVariants.{Overflow, DivideByZero}
use Rattle.flame_ops.specs.Integers.{least, is_int, divides, value, applied}
use Rattle.flame_ops.proofs.Quotients.{quotient, remainder}

non_zero : (b : ℤ) → int_eq b (pos 0) ≡ false → b ≢ pos 0
non_zero (pos zero) h e = cc
non_zero (pos (suc n)) h e = cc
non_zero (negsuc n) h e = cc

answer : Bool → Bool → ℤ → Result ℤ Cause
answer zero_divisor held v = if zero_divisor then Err DivideByZero else if held then Ok v else Err Overflow

-- an answer is the value where int holds it
answer_is : (z t : Bool) (v : ℤ) → (z ≡ false → t ≡ true → is_int v ≡ true) → IfOk (answer z t v) (λ w. is_int w ≡ true)
unfolding answer
answer_is true t v f = tt
answer_is false true v f = f refl refl
answer_is false false v f = tt

pub answers : (op : Op) (a b : ℤ) → is_int a ≡ true → is_int b ≡ true → IfOk (applied op a b) (λ v. is_int v ≡ true)
unfolding answer
answers Add a b a_in b_in = answer_is false _ (a +ℤ b) (λ z t. t)
answers Sub a b a_in b_in = answer_is false _ (a -ℤ b) (λ z t. t)
answers Mul a b a_in b_in = answer_is false _ (a *ℤ b) (λ z t. t)
answers Div a b a_in b_in = answer_is _ _ (int_div a b) (λ z t. t)
answers Rem a b a_in b_in = answer_is _ _ (int_rem a b) (λ z t. remainder a b b_in (non_zero b z))
answers Lt a b a_in b_in = answer_is false _ (value Lt a b) (λ z t. t)
answers Gt a b a_in b_in = answer_is false _ (value Gt a b) (λ z t. t)
answers Le a b a_in b_in = answer_is false _ (value Le a b) (λ z t. t)
answers Ge a b a_in b_in = answer_is false _ (value Ge a b) (λ z t. t)
answers Eq a b a_in b_in = answer_is false _ (value Eq a b) (λ z t. t)
answers Ne a b a_in b_in = answer_is false _ (value Ne a b) (λ z t. t)

overflow_is : (z t : Bool) (v : ℤ) → answer z t v ≡ Err Overflow → t ≡ false
unfolding answer
overflow_is true t v e = cc
overflow_is false true v e = cc
overflow_is false false v e = refl

-- the quotient is outside, so the operands are those two
only_there : (a b : ℤ) → ((a ≡ least) × (b ≡ neg_ℤ (pos 1))) ⊎ (is_int (int_div a b) ≡ true)
    → is_int (int_div a b) ≡ false → (a ≡ least) × (b ≡ neg_ℤ (pos 1))
only_there a b (inl there) outside = there
only_there a b (inr held) outside = cc

-- a quotient or a remainder overflows only at -2147483648 by -1
pub overflows : (op : Op) (a b : ℤ) → divides op ≡ true → is_int a ≡ true → is_int b ≡ true
    → applied op a b ≡ Err Overflow → (a ≡ least) × (b ≡ neg_ℤ (pos 1))
unfolding answer
overflows Div a b d a_in b_in e = only_there a b (quotient a b a_in b_in) (overflow_is _ _ (int_div a b) e)
overflows Rem a b d a_in b_in e = only_there a b (quotient a b a_in b_in) (overflow_is _ _ (int_rem a b) e)
overflows op a b d a_in b_in e = cc

-- and there both do
pub overflows_there : (op : Op) (a b : ℤ) → divides op ≡ true
    → (a ≡ least) × (b ≡ neg_ℤ (pos 1)) → applied op a b ≡ Err Overflow
overflows_there Div a b d p =
    subst (λ x. applied Div x b ≡ Err Overflow) (sym p.0)
    (subst (λ y. applied Div least y ≡ Err Overflow) (sym p.1) refl)
overflows_there Rem a b d p =
    subst (λ x. applied Rem x b ≡ Err Overflow) (sym p.0)
    (subst (λ y. applied Rem least y ≡ Err Overflow) (sym p.1) refl)
overflows_there op a b d p = cc
