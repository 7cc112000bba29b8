-- Lists that are filled with zeros, and locals in lists.
use Rattle.std.proofs.Common.{◌≡◌, ℕ, zero, suc, ◌-◌, ◌<◌, ◌≤◌, List, [], ◌∷◌, ◌++◌, length, refl, ap, ◌∙◌, take, arith, append-nil, length-append}
use Rattle.std.specs.Prelude.{ℤ, pos, replicate}
use Rattle.std.proofs.lemmas.List.{take_all}
use mathlib.Core.Path.{fun_ext}
use Rattle.flame_spec.specs.Conditions.{number_at}
use Rattle.flame_code.specs.Machine.{first_locals}

pub filled_up : (xs : List ℤ) (n : ℕ) → length xs < n → take n xs ++ replicate (n - length xs) (pos 0) ≡ xs ++ replicate (n - length xs) (pos 0)
filled_up xs n h = ap (λ l. l ++ replicate (n - length xs) (pos 0)) (take_all n xs (omega arith))

pub none_filled : (n : ℕ) → (let e : List ℤ = [] in e ++ replicate (n - length e) (pos 0)) ≡ replicate n (pos 0)
none_filled n = let e : n - 0 ≡ n = omega arith in ap (λ m. replicate m (pos 0)) e

pub no_zeros : (xs : List ℤ) (n : ℕ) → n ≤ length xs → xs ++ replicate (n - length xs) (pos 0) ≡ xs
no_zeros xs n h = let e : n - length xs ≡ 0 = omega arith in ap (λ m. xs ++ replicate m (pos 0)) e ∙ append-nil xs

-- a local that is 0 is one that nothing has set
zeros_after : (xs : List ℤ) (n s : ℕ) → number_at (xs ++ replicate n (pos 0)) s ≡ number_at xs s
zeros_after [] zero s = refl
zeros_after [] (suc n) zero = refl
zeros_after [] (suc n) (suc s) = zeros_after [] n s
zeros_after (x ∷ xs) n zero = refl
zeros_after (x ∷ xs) n (suc s) = zeros_after xs n s

pub first_locals-zeros : (xs : List ℤ) (n : ℕ) → first_locals (xs ++ replicate n (pos 0)) ≡ first_locals xs
first_locals-zeros xs n = fun_ext (zeros_after xs n)

length-zeros : (n : ℕ) → length (replicate n (pos 0)) ≡ n
length-zeros zero = refl
length-zeros (suc n) = ap suc (length-zeros n)

pub length-filled : (xs : List ℤ) (n : ℕ) → n ≤ length (xs ++ replicate (n - length xs) (pos 0))
length-filled xs n = omega (arith, length-append xs (replicate (n - length xs) (pos 0)), length-zeros (n - length xs))
