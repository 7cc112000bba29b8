-- Two lists compared place by place, by what is seen of the elements of each.
use Rattle.std.proofs.Common.{◌≡◌, ℕ, zero, suc, ◌+◌, ◌<◌, List, [], ◌∷◌, length, map, take, get_or, sym, ap, ◌∙◌, arith, add-one}

module _ {X Y Z : Type 0} (f : X → Z) (g : Y → Z) where
  pub same_at : (xs : List X) (ys : List Y) (i : ℕ) (x : X) (y : Y)
      → i < length xs → length xs ≡ length ys
      → x ≡ get_or xs i x → y ≡ get_or ys i y
      → map f xs ≡ map g ys → f x ≡ g y
  same_at [] ys i x y within long here there same = absurd (omega (arith, within))
  same_at (a ∷ xs) [] i x y within long here there same = absurd (omega (arith, long))
  same_at (a ∷ xs) (b ∷ ys) zero x y within long here there same =
      let heads : f a ≡ g b = cc in ap f here ∙ heads ∙ sym (ap g there)
  same_at (a ∷ xs) (b ∷ ys) (suc i) x y within long here there same =
      let tails : map f xs ≡ map g ys = cc in
      same_at xs ys i x y (omega (arith, within)) (omega (arith, long)) here there tails

  one_more : (xs : List X) (ys : List Y) (i : ℕ) (x : X) (y : Y)
      → i < length xs → length xs ≡ length ys
      → x ≡ get_or xs i x → y ≡ get_or ys i y
      → take i (map f xs) ≡ take i (map g ys) → f x ≡ g y
      → take (suc i) (map f xs) ≡ take (suc i) (map g ys)
  one_more [] ys i x y within long here there so_far same = absurd (omega (arith, within))
  one_more (a ∷ xs) [] i x y within long here there so_far same = absurd (omega (arith, long))
  one_more (a ∷ xs) (b ∷ ys) zero x y within long here there so_far same =
      ap (λ z. z ∷ []) (sym (ap f here) ∙ same ∙ ap g there)
  one_more (a ∷ xs) (b ∷ ys) (suc i) x y within long here there so_far same =
      let heads : f a ≡ g b = cc in
      let tails : take i (map f xs) ≡ take i (map g ys) = cc in
      let rest = one_more xs ys i x y (omega (arith, within)) (omega (arith, long)) here there tails same in
      (λ j. heads j ∷ rest j)

  pub same_more : (xs : List X) (ys : List Y) (i : ℕ) (x : X) (y : Y)
      → i < length xs → length xs ≡ length ys
      → x ≡ get_or xs i x → y ≡ get_or ys i y
      → take i (map f xs) ≡ take i (map g ys) → f x ≡ g y
      → take (i + 1) (map f xs) ≡ take (i + 1) (map g ys)
  same_more xs ys i x y within long here there so_far same =
      rw add-one (one_more xs ys i x y within long here there so_far same)
