-- Lists of numbers in which none stands twice.
use Rattle.std.proofs.Common.{◌≡◌, ℕ, ◌+◌, ◌||◌, true, false, cond, List, [], ◌∷◌, refl, sym, ap, ◌∙◌, arith}
use Rattle.std.specs.Prelude.{◌==◌}
use Rattle.std.proofs.lemmas.List.Sums.{sum_by-cons}
use Rattle.flame_spec.specs.Below.{HasNoTwice, is_in, times}

-- one more in a list
times-cons : (number own : ℕ) (numbers : List ℕ) → times number (own ∷ numbers) ≡ cond (own == number) 1 0 + times number numbers
times-cons number own numbers = sum_by-cons (λ x. cond (x == number) 1 0) own numbers

none-in : (number : ℕ) (numbers : List ℕ) → times number numbers ≡ 0 → is_in number numbers ≡ false
none-in number [] none = refl
none-in number (own ∷ numbers) none =
    let sum : cond (own == number) 1 0 + times number numbers ≡ 0 = sym (times-cons number own numbers) ∙ none in
    (elim (own == number) as (λ b. cond b 1 0 + times number numbers ≡ 0 → (b || is_in number numbers) ≡ false) [
      | true ↦ λ one. absurd (omega (arith, one))
      | false ↦ λ none_else. none-in number numbers (omega (arith, none_else))
    ])
    sum

-- where it stands at the head, and none stands twice, it stands nowhere else
pub once-there : (number own : ℕ) (numbers : List ℕ) → HasNoTwice (own ∷ numbers) → (own == number) ≡ true → is_in number numbers ≡ false
once-there number own numbers once is =
    let one : ◌≡◌ {A = ℕ} (cond (own == number) 1 0) 1 = ap (λ b. cond b 1 0) is in
    none-in number numbers (omega (arith, times-cons number own numbers, once number, one))

pub later-once : (own : ℕ) (numbers : List ℕ) → HasNoTwice (own ∷ numbers) → HasNoTwice numbers
later-once own numbers once = λ number. omega (arith, times-cons number own numbers, once number)
