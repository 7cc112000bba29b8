-- Texts with commas between them, written from the last.
use Rattle.std.proofs.Common.{◌≡◌, ℕ, ◌+◌, ◌<◌, List, [], ◌∷◌, ◌++◌, Bool, true, ◌||◌, length, drop, get_or, map, refl, ap, ap₂, sym, ◌∙◌}
use Rattle.std.proofs.Common.{append_assoc, append-nil, arith}
use Rattle.std.proofs.lemmas.List.{at_drop_more, map-append}
use mathlib.Core.Bool.{or-true}
use Rattle.flame_popfile.specs.RowTexts.{with_commas}
use Rattle.flame_popfile.specs.CommaTexts.{comma_where, behind, has_some}
use Rattle.flame_popfile.proofs.CommaLists.{has_some-map, behind-append}

-- a text before those behind it
before_those : (x : List ℕ) (xs : List (List ℕ)) → with_commas (x ∷ xs) ≡ x ++ (comma_where (has_some xs) ++ with_commas xs)
before_those x [] = sym (append-nil x)
before_those x (y ∷ xs) = refl

-- a comma and a text were put before those behind it, which are texts of a list
pub texts_before :
    {X : Type 0} (text : X → List ℕ) (xs : List X) (i : ℕ) (x : X) (after : List ℕ)
    → i < length xs
    → x ≡ get_or xs i x
    → text x ++ (comma_where (has_some (drop (i + 1) xs)) ++ (with_commas (map text (drop (i + 1) xs)) ++ after))
    ≡ with_commas (map text (drop i xs)) ++ after
texts_before text xs i x after h is =
    let later = map text (drop (i + 1) xs) in
    ap (λ b. text x ++ (comma_where b ++ (with_commas later ++ after))) (sym (has_some-map text (drop (i + 1) xs)))
    ∙ ap (λ l. text x ++ l) (sym (append_assoc (comma_where (has_some later)) (with_commas later) after))
    ∙ sym (append_assoc (text x) (comma_where (has_some later) ++ with_commas later) after)
    ∙ ap (λ l. l ++ after) (sym (before_those (text x) later))
    ∙ ap (λ y. with_commas (map text (y ∷ drop (i + 1) xs)) ++ after) is
    ∙ sym (at_drop_more (λ l. with_commas (map text l) ++ after) xs i x h)

-- functions that give each the same give a list the same
pub same_texts :
    {X : Type 0} (f g : X → List ℕ) → ((x : X) → f x ≡ g x) → (xs : List X) → map f xs ≡ map g xs
same_texts f g same [] = refl
same_texts f g same (x ∷ xs) = ap₂ (λ y ys. y ∷ ys) (same x) (same_texts f g same xs)

-- a text was put before those behind it, and a comma where there is more
pub row_before :
    {X : Type 0} (text : X → List ℕ) (more : Bool) (xs : List X) (i : ℕ) (x : X) (after : List ℕ)
    → i < length xs
    → x ≡ get_or xs i x
    → comma_where more ++ (text x ++ (behind true (map text (drop (i + 1) xs)) ++ after))
    ≡ behind more (map text (drop i xs)) ++ after
row_before text more xs i x after h is =
    let later = behind true (map text (drop (i + 1) xs)) in
    ap (λ l. comma_where more ++ l) (sym (append_assoc (text x) later after))
    ∙ sym (append_assoc (comma_where more) (text x ++ later) after)
    ∙ ap (λ y. behind more (map text (y ∷ drop (i + 1) xs)) ++ after) is
    ∙ sym (at_drop_more (λ l. behind more (map text l) ++ after) xs i x h)

-- texts that begin with some, and those behind these
pub block_more :
    {X : Type 0} (text : X → List ℕ) (before written : List ℕ) (more : Bool) (block others rest : List X)
    → rest ≡ block ++ others
    → 0 < length block
    → written ≡ before ++ behind more (map text block)
    → written ++ behind true (map text others) ≡ before ++ behind more (map text rest)
block_more {X = X} text before written more block others rest whole some item =
    ap (λ l. l ++ behind true (map text others)) item
    ∙ append_assoc before (behind more (map text block)) (behind true (map text others))
    ∙ ap (λ b. before ++ (behind more (map text block) ++ behind b (map text others))) (sym (begun block some))
    ∙ ap (λ l. before ++ l) (sym (behind-append more (map text block) (map text others)))
    ∙ ap (λ l. before ++ behind more l) (sym (map-append text block others))
    ∙ ap (λ l. before ++ behind more (map text l)) (sym whole)
  where
    begun : (xs : List X) → 0 < length xs → more || has_some (map text xs) ≡ true
    begun [] none = absurd (omega (arith, none))
    begun (x ∷ xs) h = or-true more
