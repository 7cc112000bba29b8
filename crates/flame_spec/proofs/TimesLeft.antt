-- How often a number is still to come in a list that is walked.
use Rattle.std.proofs.Common.{◌≡◌, ℕ, ◌+◌, ◌<◌, ◌≤◌, List, length, take, get_or, refl, ap, arith, cond, ◌-◌, set, sym, ◌∙◌, ⊎_elim}
use Rattle.std.specs.Prelude.{◌==◌}
use Rattle.std.proofs.lemmas.Bool.{eq-eqb, ne_eqb, cases_eq}
use Rattle.std.proofs.lemmas.List.Sums.{sum_by_more_le, sum_by_more}
use Rattle.std.proofs.lemmas.List.{get_or-set_same, get_or-set_other}
use Rattle.flame_spec.specs.Below.{times}
use Rattle.flame_spec.proofs.FirstBelow.{one}

pub times-left : (ts : List ℕ) (i w o : ℕ) → i < length ts → w + times (get_or ts i 0) (take i ts) ≡ o → times (get_or ts i 0) ts ≤ o → 1 ≤ w
times-left ts i w o h e enough =
    let t = get_or ts i 0 in
    let self : one (t == t) ≡ 1 = ap one (eq-eqb t t refl) in
    omega (arith, sum_by_more_le (λ x. cond (x == t) 1 0) ts i 0 h, self, e, enough)

pub times-lessened : (ts ws os : List ℕ) (i : ℕ) → i < length ts → get_or ts i 0 < length ws → 1 ≤ get_or ws (get_or ts i 0) 0 → (g : ℕ) → get_or ws g 0 + times g (take i ts) ≡ get_or os g 0 → get_or (set ws (get_or ts i 0) (get_or ws (get_or ts i 0) 0 - 1)) g 0 + times g (take (i + 1) ts) ≡ get_or os g 0
times-lessened ts ws os i h l w g e = ⊎_elim same other (cases_eq (get_or ts i 0) g)
  where
    more : times g (take (i + 1) ts) ≡ times g (take i ts) + one (get_or ts i 0 == g)
    more = sum_by_more (λ x. cond (x == g) 1 0) ts i 0 h

    same : get_or ts i 0 ≡ g → get_or (set ws (get_or ts i 0) (get_or ws (get_or ts i 0) 0 - 1)) g 0 + times g (take (i + 1) ts) ≡ get_or os g 0
    same q =
        let here : get_or (set ws (get_or ts i 0) (get_or ws (get_or ts i 0) 0 - 1)) g 0 ≡ get_or ws (get_or ts i 0) 0 - 1 = ap (λ k. get_or (set ws (get_or ts i 0) (get_or ws (get_or ts i 0) 0 - 1)) k 0) (sym q) ∙ get_or-set_same ws (get_or ts i 0) (get_or ws (get_or ts i 0) 0 - 1) 0 l in
        let was : get_or ws (get_or ts i 0) 0 ≡ get_or ws g 0 = ap (λ k. get_or ws k 0) q in
        let self : one (get_or ts i 0 == g) ≡ 1 = ap one (eq-eqb (get_or ts i 0) g q) in
        omega (arith, here, was, self, more, e, w)

    other : (get_or ts i 0 ≡ g → ⊥) → get_or (set ws (get_or ts i 0) (get_or ws (get_or ts i 0) 0 - 1)) g 0 + times g (take (i + 1) ts) ≡ get_or os g 0
    other q =
        let here = get_or-set_other ws (get_or ts i 0) g (get_or ws (get_or ts i 0) 0 - 1) 0 (λ s. q (sym s)) in
        let none : one (get_or ts i 0 == g) ≡ 0 = ap one (ne_eqb (get_or ts i 0) g q) in
        omega (arith, here, none, more, e)
