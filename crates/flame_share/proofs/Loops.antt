-- Lists that loops go through: numbered, and two beside each other.
use Rattle.std.proofs.Common.{◌≡◌, ℕ, List, [], ◌∷◌, ◌++◌, map, length, ◌⊎◌, inl, inr, sym, ◌∙◌, arith, append_assoc, append-nil}
use Rattle.std.specs.List.{zip}
use Rattle.flame_spec.specs.Lists.{each_from}

-- ---- numbered

module _ {X Y : Type 0} (f : ℕ → X → Y) where
  abbrev given : ℕ → List X → List Y
  given n xs = each_from (λ number x. f number x ∷ []) n xs

  pub number-over : (all found : List Y) (left : List X) (n : ℕ) → all ≡ found ++ given n left → length left ≡ 0 → found ≡ all
  number-over all found [] n so_far over = sym (so_far ∙ append-nil found)
  number-over all found (x ∷ left) n so_far over = absurd (omega (arith, over))

-- ---- beside each other

module _ {X Y Z : Type 0} (f : X × Y → Z) where
  pub pair-next : (all found after : List Z) (left rest : List X) (more others : List Y) (x : X) (y : Y) (z : Z)
      → all ≡ found ++ map f (zip left more)
      → left ≡ x ∷ rest
      → more ≡ y ∷ others
      → z ≡ f (x, y)
      → after ≡ found ++ z ∷ []
      → all ≡ after ++ map f (zip rest others)
  pair-next all found after left rest more others x y z so_far is too same put =
      so_far
      ∙ (λ i. found ++ map f (zip (is i) (too i)))
      ∙ sym (append_assoc found (f (x, y) ∷ []) (map f (zip rest others)))
      ∙ (λ i. (found ++ sym same i ∷ []) ++ map f (zip rest others))
      ∙ (λ i. sym put i ++ map f (zip rest others))

  pub pair-over : (all found : List Z) (left : List X) (more : List Y)
      → all ≡ found ++ map f (zip left more) → (length left ≡ 0) ⊎ (length more ≡ 0) → found ≡ all
  pair-over all found [] more so_far over = sym (so_far ∙ append-nil found)
  pair-over all found (x ∷ left) [] so_far over = sym (so_far ∙ append-nil found)
  pair-over all found (x ∷ left) (y ∷ more) so_far over =
      elim over [ inl none ↦ absurd (omega (arith, none)) | inr none ↦ absurd (omega (arith, none)) ]
