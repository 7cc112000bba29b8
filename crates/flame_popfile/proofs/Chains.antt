-- Texts that were written one after another.
use Rattle.std.proofs.Common.{◌≡◌, ℕ, List, [], ◌∷◌, ◌++◌, sym, ap, ◌∙◌, append_assoc, append-nil}
use Rattle.std.specs.List.{concat}

-- what stands there after these texts
abbrev pushed : List ℕ → List (List ℕ) → List ℕ
pushed before [] = before
pushed before (text ∷ texts) = pushed (before ++ text) texts

pushed-is : (before : List ℕ) (texts : List (List ℕ)) → pushed before texts ≡ before ++ concat texts
pushed-is before [] = sym (append-nil before)
pushed-is before (text ∷ texts) = pushed-is (before ++ text) texts ∙ append_assoc before text (concat texts)

pub chain_three :
    (before one two three x y z : List ℕ)
    → one ≡ before ++ x
    → two ≡ one ++ y
    → three ≡ two ++ z
    → three ≡ before ++ concat (x ∷ y ∷ z ∷ [])
chain_three before one two three x y z a b c =
    c ∙ ap (λ l. l ++ z) (b ∙ ap (λ l. l ++ y) a) ∙ pushed-is before (x ∷ y ∷ z ∷ [])

pub chain_five :
    (before one two three four five v w x y z : List ℕ)
    → one ≡ before ++ v
    → two ≡ one ++ w
    → three ≡ two ++ x
    → four ≡ three ++ y
    → five ≡ four ++ z
    → five ≡ before ++ concat (v ∷ w ∷ x ∷ y ∷ z ∷ [])
chain_five before one two three four five v w x y z a b c d e =
    e
    ∙ ap (λ l. l ++ z)
    (d ∙ ap (λ l. l ++ y) (c ∙ ap (λ l. l ++ x) (b ∙ ap (λ l. l ++ w) a)))
    ∙ pushed-is before (v ∷ w ∷ x ∷ y ∷ z ∷ [])
