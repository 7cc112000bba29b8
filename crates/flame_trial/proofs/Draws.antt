-- Two draws for an agent.
use Rattle.std.proofs.Common.{◌≡◌, ℕ, ◌+◌, ◌*◌, refl, ap, sym, ◌∙◌, add-one, arith}
use Rattle.flame_trial.specs.MeadowPopulations.{next_number, number_after}

one_more : (seed draws : ℕ) → number_after seed (draws + 1) ≡ next_number (number_after seed draws)
one_more seed draws = rw add-one refl

-- the numbers after the first and after the second draw of an agent
pub two_draws :
    (seed place number first second : ℕ)
    → number ≡ number_after seed (2 * place)
    → first ≡ next_number number
    → second ≡ next_number first
    → (first ≡ number_after seed (2 * place + 1)) × (second ≡ number_after seed (2 * place + 2))
two_draws seed place number first second before one two =
    let after_one : first ≡ number_after seed (2 * place + 1) =
    one ∙ ap next_number before ∙ sym (one_more seed (2 * place)) in
    let next : 2 * place + 1 + 1 ≡ 2 * place + 2 = omega arith in
    let after_two : second ≡ number_after seed (2 * place + 1 + 1) =
    two ∙ ap next_number after_one ∙ sym (one_more seed (2 * place + 1)) in
    (after_one, after_two ∙ ap (number_after seed) next)

-- so many draws were made before the next agent
pub next_place : (seed place : ℕ) → number_after seed (2 * place + 2) ≡ number_after seed (2 * (place + 1))
next_place seed place =
    let same : 2 * place + 2 ≡ 2 * (place + 1) = omega arith in
    ap (number_after seed) same
