-- A pool that is written, and all others.
use Rattle.std.proofs.Common.{◌≡◌, ℕ, List, [], Vec, Some, sym, ap, ◌∙◌, subst, inl, inr}
use Rattle.std.specs.Prelude.{ℤ, option_and_then, slice_get, slice_set}
use Rattle.std.specs.Global.{Global}
use Rattle.std.proofs.lemmas.Bool.Decides.{eqb_tells}
use Rattle.flame_rows.proofs.Lists.{slice_get-slice_set, slice_get-slice_set_other}
use Rattle.flame_field.specs.declared.pools.Pool.{Pool}
use Rattle.flame_field.specs.KeptPools.{pool_at, IsDealt}

module _ (pools : List (Vec Pool Global)) (agent state : ℕ) (old new : Vec Pool Global) (was pool : Pool)
    (own : slice_get pools agent ≡ Some old) (there : slice_get old.items state ≡ Some was) (written : new.items ≡ slice_set old.items state pool) where
  pub pool-kept : pool_at pools agent state ≡ Some was
  pool-kept = ap (option_and_then (λ (o : Vec Pool Global). slice_get o.items state)) own ∙ there

  pub pool-placed : pool_at (slice_set pools agent new) agent state ≡ Some pool
  pool-placed =
      ap (option_and_then (λ (o : Vec Pool Global). slice_get o.items state)) (slice_get-slice_set pools agent new old own)
      ∙ ap (λ (l : List Pool). slice_get l state) written
      ∙ slice_get-slice_set old.items state pool was there

  pub pool-others : (a s : ℕ) → (a ≡ agent → s ≡ state → ⊥) → pool_at (slice_set pools agent new) a s ≡ pool_at pools a s
  pool-others a s other =
      elim (eqb_tells a agent) [
        | inl one ↦
            let within : pool_at (slice_set pools agent new) agent s ≡ pool_at pools agent s =
            ap (option_and_then (λ (o : Vec Pool Global). slice_get o.items s)) (slice_get-slice_set pools agent new old own)
            ∙ ap (λ (l : List Pool). slice_get l s) written
            ∙ slice_get-slice_set_other old.items state s pool (other one.1)
            ∙ ap (option_and_then (λ (o : Vec Pool Global). slice_get o.items s)) (sym own) in
            subst (λ n. pool_at (slice_set pools agent new) n s ≡ pool_at pools n s) (sym one.1) within
        | inr differ ↦ ap (option_and_then (λ (o : Vec Pool Global). slice_get o.items s)) (slice_get-slice_set_other pools agent a new differ.1)
      ]

  pub pool-dealt : (choose : ℕ → ℕ → List ℤ → ℕ)
      → ((a s : ℕ) (one : Pool) → pool_at pools a s ≡ Some one → IsDealt (choose a s) one)
      → IsDealt (choose agent state) pool
      → (a s : ℕ) (one : Pool) → pool_at (slice_set pools agent new) a s ≡ Some one → IsDealt (choose a s) one
  pool-dealt choose dealt here a s one at =
      elim (eqb_tells a agent) [
        | inl first ↦ elim (eqb_tells s state) [
          | inl second ↦
              let same : Some pool ≡ Some one = sym pool-placed ∙ (λ i. pool_at (slice_set pools agent new) (sym first.1 i) (sym second.1 i)) ∙ at in
              let is : pool ≡ one = cc in
              subst (λ n. IsDealt (choose n s) one) (sym first.1)
              (subst (λ n. IsDealt (choose agent n) one) (sym second.1) (subst (λ (p : Pool). IsDealt (choose agent state) p) is here))
          | inr differ ↦ dealt a s one (sym (pool-others a s (λ _ same. differ.1 same)) ∙ at)
        ]
        | inr differ ↦ dealt a s one (sym (pool-others a s (λ same _. differ.1 same)) ∙ at)
      ]
