-- One successor more is settled.
use mathlib.Core.Bool.{or-true}
use Rattle.std.proofs.Common.{◌≡◌, ℕ, ◌+◌, ◌-◌, ◌<◌, ◌≤◌, List, length, take, get_or, set, sym, ap, ◌∙◌, arith, true, false, Bool, ⊎_elim}
use Rattle.std.specs.Prelude.{◌==◌, ◌&&◌, ◌||◌}
use Rattle.std.proofs.lemmas.Bool.{eq-eqb, ne_eqb, cases_eq}
use Rattle.std.proofs.lemmas.List.{get_or-set_same, get_or-set_other}
use Rattle.std.proofs.lemmas.List.Folds.{list_any_more}
use Rattle.flame_spec.specs.Below.{is_in}
use Rattle.std.proofs.Math.Bool.{and-true, and-false, or-false}

-- r are the nodes that are ready before, r' those after, and r0 those at the start
pub ready_more : (ts ws r0 r r' : List ℕ) (i : ℕ) → i < length ts → get_or ts i 0 < length ws → 1 ≤ get_or ws (get_or ts i 0) 0 → (g : ℕ)
    → is_in g r ≡ (is_in g r0 || (is_in g (take i ts) && (get_or ws g 0 == 0)))
    → is_in g r' ≡ (is_in g r || ((get_or ws (get_or ts i 0) 0 - 1 == 0) && (get_or ts i 0 == g)))
    → is_in g r' ≡ (is_in g r0 || (is_in g (take (i + 1) ts) && (get_or (set ws (get_or ts i 0) (get_or ws (get_or ts i 0) 0 - 1)) g 0 == 0)))
ready_more ts ws r0 r r' i h l w g old now = now ∙ ⊎_elim same other (cases_eq (get_or ts i 0) g)
  where
    z : Bool
    z = get_or ws (get_or ts i 0) 0 - 1 == 0

    more : is_in g (take (i + 1) ts) ≡ (is_in g (take i ts) || (get_or ts i 0 == g))
    more = list_any_more (λ x. x == g) ts i 0 h

    same : get_or ts i 0 ≡ g → (is_in g r || (z && (get_or ts i 0 == g))) ≡ (is_in g r0 || (is_in g (take (i + 1) ts) && (get_or (set ws (get_or ts i 0) (get_or ws (get_or ts i 0) 0 - 1)) g 0 == 0)))
    same q =
        let here : get_or (set ws (get_or ts i 0) (get_or ws (get_or ts i 0) 0 - 1)) g 0 ≡ get_or ws (get_or ts i 0) 0 - 1 = ap (λ k. get_or (set ws (get_or ts i 0) (get_or ws (get_or ts i 0) 0 - 1)) k 0) (sym q) ∙ get_or-set_same ws (get_or ts i 0) (get_or ws (get_or ts i 0) 0 - 1) 0 l in
        let waits : get_or ws g 0 ≡ get_or ws (get_or ts i 0) 0 = ap (λ k. get_or ws k 0) (sym q) in
        let not_ready : (get_or ws g 0 == 0) ≡ false = ne_eqb (get_or ws g 0) 0 (λ e. absurd (omega (arith, waits, e, w))) in
        let was : is_in g r ≡ is_in g r0 = old ∙ ap (λ b. is_in g r0 || (is_in g (take i ts) && b)) not_ready ∙ ap (λ b. is_in g r0 || b) (and-false (is_in g (take i ts))) ∙ or-false (is_in g r0) in
        let there : is_in g (take (i + 1) ts) ≡ true = more ∙ ap (λ b. is_in g (take i ts) || b) (eq-eqb (get_or ts i 0) g q) ∙ or-true (is_in g (take i ts)) in
        ap (λ b. b || (z && (get_or ts i 0 == g))) was
        ∙ ap (λ b. is_in g r0 || (z && b)) (eq-eqb (get_or ts i 0) g q)
        ∙ ap (λ b. is_in g r0 || b) (and-true z)
        ∙ sym (ap (λ b. is_in g r0 || (b && (get_or (set ws (get_or ts i 0) (get_or ws (get_or ts i 0) 0 - 1)) g 0 == 0))) there ∙ ap (λ k. is_in g r0 || (k == 0)) here)

    other : (get_or ts i 0 ≡ g → ⊥) → (is_in g r || (z && (get_or ts i 0 == g))) ≡ (is_in g r0 || (is_in g (take (i + 1) ts) && (get_or (set ws (get_or ts i 0) (get_or ws (get_or ts i 0) 0 - 1)) g 0 == 0)))
    other q =
        let here = get_or-set_other ws (get_or ts i 0) g (get_or ws (get_or ts i 0) 0 - 1) 0 (λ s. q (sym s)) in
        let there : is_in g (take (i + 1) ts) ≡ is_in g (take i ts) = more ∙ ap (λ b. is_in g (take i ts) || b) (ne_eqb (get_or ts i 0) g q) ∙ or-false (is_in g (take i ts)) in
        ap (λ b. is_in g r || (z && b)) (ne_eqb (get_or ts i 0) g q)
        ∙ ap (λ b. is_in g r || b) (and-false z)
        ∙ or-false (is_in g r)
        ∙ old
        ∙ sym (ap (λ b. is_in g r0 || (b && (get_or (set ws (get_or ts i 0) (get_or ws (get_or ts i 0) 0 - 1)) g 0 == 0))) there ∙ ap (λ k. is_in g r0 || (is_in g (take i ts) && (k == 0))) here)
