-- Parts of ascending lists ascend.
use Rattle.std.proofs.Common.{◌≡◌, ℕ, zero, suc, List, [], ◌∷◌, ◌++◌, drop, sym, ap, ◌∙◌, subst, append_assoc, Ordering}
use Rattle.flame_rows.specs.Sorted.{IsBelowAll, IsAscending}

module _ {X : Type 0} (order : X → X → Ordering) where
  IsBelowAll-front : (x : X) (xs ys : List X) → IsBelowAll order x (xs ++ ys) → IsBelowAll order x xs
  IsBelowAll-front x [] ys below = tt
  IsBelowAll-front x (next ∷ xs) ys below = (below.0, IsBelowAll-front x xs ys below.1)

  pub IsAscending-front : (xs ys : List X) → IsAscending order (xs ++ ys) → IsAscending order xs
  IsAscending-front [] ys up = tt
  IsAscending-front (x ∷ xs) ys up = (IsBelowAll-front x xs ys up.0, IsAscending-front xs ys up.1)

  pub IsAscending-drop : (n : ℕ) (xs : List X) → IsAscending order xs → IsAscending order (drop n xs)
  IsAscending-drop zero xs up = up
  IsAscending-drop (suc n) [] up = tt
  IsAscending-drop (suc n) (x ∷ xs) up = IsAscending-drop n xs up.1

  IsBelowAll-without : (x : X) (xs : List X) (y : X) (ys : List X) → IsBelowAll order x (xs ++ y ∷ ys) → IsBelowAll order x (xs ++ ys)
  IsBelowAll-without x [] y ys below = below.1
  IsBelowAll-without x (next ∷ xs) y ys below = (below.0, IsBelowAll-without x xs y ys below.1)

  IsAscending-without : (xs : List X) (y : X) (ys : List X) → IsAscending order (xs ++ y ∷ ys) → IsAscending order (xs ++ ys)
  IsAscending-without [] y ys up = up.1
  IsAscending-without (x ∷ xs) y ys up = (IsBelowAll-without x xs y ys up.0, IsAscending-without xs y ys up.1)

  -- a part ascends with all that may come to it: the next element comes, or stays away
  pub next_comes : (part left rest : List X) (x : X) → IsAscending order (part ++ left) → left ≡ x ∷ rest → IsAscending order (part ++ x ∷ [])
  next_comes part left rest x up is =
      IsAscending-front (part ++ x ∷ []) rest
      (subst (IsAscending order) (ap (λ l. part ++ l) is ∙ sym (append_assoc part (x ∷ []) rest)) up)

  pub came : (part after left rest : List X) (x : X) → IsAscending order (part ++ left) → left ≡ x ∷ rest → after ≡ part ++ x ∷ []
      → IsAscending order (after ++ rest)
  came part after left rest x up is put =
      subst (IsAscending order)
      (ap (λ l. part ++ l) is ∙ sym (append_assoc part (x ∷ []) rest) ∙ ap (λ l. l ++ rest) (sym put)) up

  pub stayed_away : (part left rest : List X) (x : X) → IsAscending order (part ++ left) → left ≡ x ∷ rest → IsAscending order (part ++ rest)
  stayed_away part left rest x up is =
      IsAscending-without part x rest (subst (λ l. IsAscending order (part ++ l)) is up)
