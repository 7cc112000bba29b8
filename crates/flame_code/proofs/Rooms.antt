-- The stack of a run of valid code is never higher than the code is long.
use Rattle.std.proofs.Common.{◌≡◌, ◌≢◌, ℕ, zero, suc, ◌+◌, ◌<◌, ◌≤◌, true, false, cond, ◌==◌, length, sym, ap, ◌∙◌, subst, arith, ◌⊎◌, inl, inr, ⊎_elim}
use Rattle.std.proofs.lemmas.Bool.{cases_lt, cases_Bool, eqb-true, eq-eqb}
use Rattle.flame_spec.specs.declared.outcomes.Widths.{Widths}
use Rattle.flame_code.specs.declared.instrs.Instr.{Instr}
use Rattle.flame_code.specs.declared.instrs.Instr.TheVariants.{Push}
use Rattle.flame_code.specs.Routines.{Routine, takes, leaves, Delivered}
use Rattle.flame_code.specs.Validity.{Path, starts, goes, jumps, IsValid}
use Rattle.flame_code.specs.Machine.{Config}
use Rattle.flame_code.specs.OnPath.{IsOnPath}
use Rattle.flame_code.proofs.Safety.{path_within}

-- ORDER INSTRUCTIONS
leaves_most : (w : Widths) (i : Instr) → leaves w i ≤ takes w i + 1
leaves_most w (Push n) = omega arith
leaves_most w i = omega arith

-- a path to a height passes all lower ones
record Passed (r : Routine) (k : ℕ) : Type 0 where
  place : ℕ
  delivered : Delivered
  path : Path r place k delivered

lower : (r : Routine) (p h : ℕ) (d : Delivered) → Path r p h d → (k : ℕ) → k ≤ h → Passed r k
lower r p h d starts k le = let e : 0 ≡ k = omega arith in subst (Passed r) e (record { place = 0; delivered = d; path = starts })
lower r p h d (goes {p = q} {h = g} {d = b} {i = i} path at on moves) k le =
    ⊎_elim (λ lt. lower r q g b path k (omega arith))
    (λ ge. let m = leaves_most r.widths i in let e : h ≡ k = omega arith in
    subst (Passed r) e (record { place = p; delivered = d; path = goes path at on moves }))
    (cases_lt k (g + 1))
lower r p h d (jumps {p = q} {h = g} {d = b} {i = i} path at aims moves) k le =
    ⊎_elim (λ lt. lower r q g b path k (omega arith))
    (λ ge. let m = leaves_most r.widths i in let e : h ≡ k = omega arith in
    subst (Passed r) e (record { place = p; delivered = d; path = jumps path at aims moves }))
    (cases_lt k (g + 1))

-- so many different numbers below n are at most n
record AreApart (f : ℕ → ℕ) (m n : ℕ) : Type 0 where
  below : (k : ℕ) → k < m → f k < n
  apart : (j k : ℕ) → j < m → k < m → f j ≡ f k → j ≡ k

abbrev moved : (ℕ → ℕ) → ℕ → ℕ → ℕ → ℕ
moved f m n k = cond (f k == n) (f m) (f k)

moved_at : (f : ℕ → ℕ) (m n k : ℕ) → ((f k ≡ n) × (moved f m n k ≡ f m)) ⊎ ((f k ≢ n) × (moved f m n k ≡ f k))
moved_at f m n k =
    ⊎_elim (λ t. inl (eqb-true (f k) n t, ap (λ b. cond b (f m) (f k)) t))
    (λ e. inr ((λ same. let bad : true ≡ false = sym (eq-eqb (f k) n same) ∙ e in cc), ap (λ b. cond b (f m) (f k)) e))
    (cases_Bool (f k == n))

moved_below : (f : ℕ → ℕ) (m n : ℕ) → AreApart f (suc m) (suc n) → (k : ℕ) → k < m → moved f m n k < n
moved_below f m n all k lt =
    let a = all.below k (omega arith) in let b = all.below m (omega arith) in
    ⊎_elim (λ x. let ne : f m ≢ n = λ e. let same : k ≡ m = all.apart k m (omega arith) (omega arith) (x.0 ∙ sym e) in omega arith in omega (arith, x.1))
    (λ x. omega (arith, x.0, x.1))
    (moved_at f m n k)

moved_apart : (f : ℕ → ℕ) (m n : ℕ) → AreApart f (suc m) (suc n) → (j k : ℕ) → j < m → k < m → moved f m n j ≡ moved f m n k → j ≡ k
moved_apart f m n all j k lj lk e =
    ⊎_elim
    (λ x. ⊎_elim (λ y. all.apart j k (omega arith) (omega arith) (x.0 ∙ sym y.0))
    (λ y. let same : m ≡ k = all.apart m k (omega arith) (omega arith) (sym x.1 ∙ e ∙ y.1) in omega arith)
    (moved_at f m n k))
    (λ x. ⊎_elim
    (λ y. let same : j ≡ m = all.apart j m (omega arith) (omega arith) (sym x.1 ∙ e ∙ y.1) in omega arith)
    (λ y. all.apart j k (omega arith) (omega arith) (sym x.1 ∙ e ∙ y.1))
    (moved_at f m n k))
    (moved_at f m n j)

crowded : (m n : ℕ) (f : ℕ → ℕ) → AreApart f m n → m ≤ n
crowded zero n f all = omega arith
crowded (suc m) zero f all = let b = all.below 0 (omega arith) in omega arith
crowded (suc m) (suc n) f all =
    let le = crowded m n (moved f m n) (record { below = moved_below f m n all; apart = moved_apart f m n all }) in omega arith

module _ (r : Routine) (valid : IsValid r) (p h : ℕ) (d : Delivered) (path : Path r p h d) where
  passed_at : (k : ℕ) → (k < suc h) ⊎ (suc h ≤ k) → ℕ
  passed_at k (inl lt) = (lower r p h d path k (omega arith)).place
  passed_at k (inr ge) = 0

  place_at : ℕ → ℕ
  place_at k = passed_at k (cases_lt k (suc h))

  at_height : (k : ℕ) → k < suc h → (c : (k < suc h) ⊎ (suc h ≤ k)) → (e : Delivered) × Path r (passed_at k c) k e
  unfolding passed_at
  at_height k lt (inl l) = let x = lower r p h d path k (omega arith) in (x.delivered, x.path)
  at_height k lt (inr ge) = absurd (omega arith)

  here_at : (k : ℕ) → k < suc h → (e : Delivered) × Path r (place_at k) k e
  unfolding place_at
  here_at k lt = at_height k lt (cases_lt k (suc h))

  pub height_within : h < length r.instrs
  height_within =
      let le = crowded (suc h) (length r.instrs) place_at (record {
        below = λ k lt. let x = here_at k lt in path_within r valid (place_at k) k x.0 x.1;
        apart = λ j k lj lk e.
            let x = here_at j lj in let y = here_at k lk in
            valid.level (subst (λ q. Path r q j x.0) e x.1) y.1;
      }) in
      omega arith

pub stack_within : (r : Routine) (c : Config) → IsValid r → IsOnPath r c → length c.stack < length r.instrs
stack_within r c valid stands = height_within r valid c.place (length c.stack) stands.delivered stands.path
