-- What is left of a list in a loop.
use Rattle.std.proofs.Common.{◌≡◌, ℕ, ◌+◌, ◌<◌, List, [], ◌∷◌, ◌++◌, length, drop, get_or, sym, ap, ◌∙◌, append_assoc}
use Rattle.std.proofs.lemmas.List.{at_drop_more}

-- what is left is the next one and what is left behind it
pub rest-next :
    {X Y : Type 0} (f : List X → Y) (xs : List X) (i : ℕ) (x : X)
    → i < length xs
    → x ≡ get_or xs i x
    → f (drop i xs) ≡ f (x ∷ drop (i + 1) xs)
rest-next f xs i x h is = at_drop_more f xs i x h ∙ ap (λ y. f (y ∷ drop (i + 1) xs)) (sym is)

-- one more is pushed, and it is the next one
pub rest-pushed :
    {X : Type 0} (all pushed more left : List X) (x y : X) (rest : List X)
    → all ≡ pushed ++ left
    → left ≡ x ∷ rest
    → y ≡ x
    → more ≡ pushed ++ y ∷ []
    → all ≡ more ++ rest
rest-pushed all pushed more left x y rest is next same push =
    is
    ∙ ap (λ l. pushed ++ l) (next ∙ ap (λ z. z ∷ rest) (sym same))
    ∙ sym (append_assoc pushed (y ∷ []) rest)
    ∙ ap (λ l. l ++ rest) (sym push)
