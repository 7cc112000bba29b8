-- Marks one after another.
use Rattle.std.proofs.Common.{◌≡◌, ℕ, zero, suc, ◌+◌, ◌<◌, List, [], ◌∷◌, length, drop, replicate, get_or, refl, sym, ap, ◌∙◌, Bool}
use Rattle.std.specs.Prelude.{◌||◌}
use Rattle.std.proofs.lemmas.List.{drop_more}
use Rattle.flame_graph.specs.Marks.{marked_where}
use Rattle.flame_graph.proofs.Marking.{marked_or}

-- what is marked once more
pub then_marked : (g : ℕ) (a b : Bool) (old mid new : List ℕ) → mid ≡ marked_where g a old → new ≡ marked_where g b mid → new ≡ marked_where g (a || b) old
then_marked g a b old mid new p q = q ∙ ap (marked_where g b) p ∙ marked_or g a b old

-- a loop that has marked one more: what is still to be marked gives all that was to be marked
module _ {X : Type 0} where
  pub loop_marked : (g : ℕ) (test : X → Bool) (rest : List X → Bool) (xs : List X) (i : ℕ) (x : X) (all : Bool) (first old new : List ℕ)
      → ((y : X) (ys : List X) → rest (y ∷ ys) ≡ (test y || rest ys))
      → i < length xs → x ≡ get_or xs i x → new ≡ marked_where g (test x) old
      → marked_where g (rest (drop i xs)) old ≡ marked_where g all first
      → marked_where g (rest (drop (i + 1) xs)) new ≡ marked_where g all first
  loop_marked g test rest xs i x all first old new step l e p inv =
      let more : drop i xs ≡ x ∷ drop (i + 1) xs = drop_more xs i x l ∙ ap (λ y. y ∷ drop (i + 1) xs) (sym e) in
      let left : rest (drop i xs) ≡ (test x || rest (drop (i + 1) xs)) = ap rest more ∙ step x (drop (i + 1) xs) in
      ap (marked_where g (rest (drop (i + 1) xs))) p
      ∙ marked_or g (test x) (rest (drop (i + 1) xs)) old
      ∙ ap (λ b. marked_where g b old) (sym left)
      ∙ inv

-- empty lists, and nothing past them
pub no_lists : (n f : ℕ) → get_or (replicate {A = List ℕ} n []) f [] ≡ []
no_lists zero f = refl
no_lists (suc n) zero = refl
no_lists (suc n) (suc f) = no_lists n f
