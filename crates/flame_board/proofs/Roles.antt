-- A role that one pass at most has, while views change.
use Rattle.std.proofs.Common.{◌≡◌, ◌≢◌, ℕ, zero, suc, Bool, true, false, List, [], ◌∷◌, ◌++◌, length, set, ◌⊎◌, inl, inr, ⊎_elim, refl, sym, ap, ◌∙◌}
use Rattle.std.proofs.lemmas.Bool.{false≢true}
use mathlib.Core.Option.{some, some-injective, some-ne-none}
use lib.ListN.{get_elem?}
use Rattle.atomic_table.proofs.Lists.{at_set}
use Rattle.flame_world.specs.declared.pieces.Part.{Part}
use Rattle.flame_board.specs.declared.logs.Log.{Log}
use Rattle.flame_board.specs.LaneRules.{IsAlone}

-- of one view more, what stands at a number stood there before, or is the new one
at_more : (views : List Log) (w u : Log) (number : ℕ) → get_elem? (views ++ w ∷ []) number ≡ some u
    → (get_elem? views number ≡ some u) ⊎ ((number ≡ length views) × (w ≡ u))
at_more [] w u zero there = inr (refl, some-injective w u there)
at_more [] w u (suc number) there = absurd (some-ne-none u (sym there))
at_more (v ∷ views) w u zero there = inl there
at_more (v ∷ views) w u (suc number) there =
    ⊎_elim (λ h. inl h) (λ h. inr (ap suc h.0, h.1)) (at_more views w u number there)

module _ (has : Log → Bool) (knows : Log → List Part) where
  -- the view that changed has the role only if it had it, and then knows the same
  pub stays : (number : ℕ) (list : List Part) (views : List Log) (port : ℕ) (v w : Log)
      → IsAlone has knows number list views
      → get_elem? views port ≡ some v
      → (has w ≡ true → (has v ≡ true) × (knows w ≡ knows v))
      → IsAlone has knows number list (set views port w)
  stays number list views port v w alone at same other u there may =
      ⊎_elim
      (λ (h : (other ≡ port) × (w ≡ u)).
      let had = same (ap has h.1 ∙ may) in
      let own = alone port v at had.0 in
      (h.0 ∙ own.0, ap knows (sym h.1) ∙ had.1 ∙ own.1))
      (λ (h : (other ≢ port) × (get_elem? views other ≡ some u)). alone other u h.1 may)
      (at_set views port other w u there)

  -- the one that has the role comes to know another list
  pub learns : (number : ℕ) (list known : List Part) (views : List Log) (port : ℕ) (v w : Log)
      → IsAlone has knows number list views
      → get_elem? views port ≡ some v
      → has v ≡ true
      → knows w ≡ known
      → IsAlone has knows port known (set views port w)
  learns number list known views port v w alone at had is other u there may =
      ⊎_elim
      (λ (h : (other ≡ port) × (w ≡ u)). (h.0, ap knows (sym h.1) ∙ is))
      (λ (h : (other ≢ port) × (get_elem? views other ≡ some u)).
      absurd (h.0 ((alone other u h.1 may).0 ∙ sym (alone port v at had).0)))
      (at_set views port other w u there)

  -- nobody has it once the one that had it gave it up
  pub given_up : (number : ℕ) (list : List Part) (views : List Log) (port : ℕ) (v w : Log)
      → IsAlone has knows number list views
      → get_elem? views port ≡ some v
      → has v ≡ true
      → has w ≡ false
      → (other : ℕ) (u : Log) → get_elem? (set views port w) other ≡ some u → has u ≡ true → ⊥
  given_up number list views port v w alone at had none other u there may =
      ⊎_elim
      (λ (h : (other ≡ port) × (w ≡ u)). false≢true (sym none ∙ ap has h.1 ∙ may))
      (λ (h : (other ≢ port) × (get_elem? views other ≡ some u)).
      h.0 ((alone other u h.1 may).0 ∙ sym (alone port v at had).0))
      (at_set views port other w u there)

  -- a further view does not have it
  pub beside : (number : ℕ) (list : List Part) (views : List Log) (w : Log)
      → IsAlone has knows number list views
      → has w ≡ false
      → IsAlone has knows number list (views ++ w ∷ [])
  beside number list views w alone none other u there may =
      ⊎_elim
      (λ (h : get_elem? views other ≡ some u). alone other u h may)
      (λ (h : (other ≡ length views) × (w ≡ u)). absurd (false≢true (sym none ∙ ap has h.1 ∙ may)))
      (at_more views w u other there)

  -- a further view has it, and nobody else
  pub passed_on : (list : List Part) (views : List Log) (w : Log)
      → ((other : ℕ) (u : Log) → get_elem? views other ≡ some u → has u ≡ true → ⊥)
      → knows w ≡ list
      → IsAlone has knows (length views) list (views ++ w ∷ [])
  passed_on list views w none is other u there may =
      ⊎_elim
      (λ (h : get_elem? views other ≡ some u). absurd (none other u h may))
      (λ (h : (other ≡ length views) × (w ≡ u)). (h.0, ap knows (sym h.1) ∙ is))
      (at_more views w u other there)

  -- one takes it over from another
  pub taken_over : (number : ℕ) (list : List Part) (views : List Log) (port other : ℕ) (u w spent : Log)
      → IsAlone has knows number list views
      → get_elem? views other ≡ some u
      → has u ≡ true
      → knows w ≡ knows u
      → has spent ≡ false
      → IsAlone has knows port list (set (set views port w) other spent)
  taken_over number list views port other u w spent alone at had same none place y there may =
      let own = alone other u at had in
      ⊎_elim
      (λ (h : (place ≡ other) × (spent ≡ y)). absurd (false≢true (sym none ∙ ap has h.1 ∙ may)))
      (λ (h : (place ≢ other) × (get_elem? (set views port w) place ≡ some y)).
      ⊎_elim
      (λ (z : (place ≡ port) × (w ≡ y)). (z.0, ap knows (sym z.1) ∙ same ∙ own.1))
      (λ (z : (place ≢ port) × (get_elem? views place ≡ some y)). absurd (h.0 ((alone place y z.1 may).0 ∙ sym own.0)))
      (at_set views port place w y h.1))
      (at_set (set views port w) other place spent y there)
