-- Two lists compared place by place, by what is seen of their elements.
use Rattle.std.proofs.Common.{◌≡◌, ℕ, zero, suc, ◌+◌, ◌<◌, List, [], ◌∷◌, length, map, take, get_or, refl, sym, ap, ◌∙◌, arith, add-one}

module _ {X Y : Type 0} (f : X → Y) where
  pub seen_alike : (xs ys : List X) (i : ℕ) (x y : X)
      → i < length xs → length xs ≡ length ys
      → x ≡ get_or xs i x → y ≡ get_or ys i y
      → map f xs ≡ map f ys → f x ≡ f y
  seen_alike [] ys i x y within long here there same = absurd (omega (arith, within))
  seen_alike (a ∷ xs) [] i x y within long here there same = absurd (omega (arith, long))
  seen_alike (a ∷ xs) (b ∷ ys) zero x y within long here there same =
      let heads : f a ≡ f b = cc in ap f here ∙ heads ∙ sym (ap f there)
  seen_alike (a ∷ xs) (b ∷ ys) (suc i) x y within long here there same =
      let tails : map f xs ≡ map f ys = cc in
      seen_alike xs ys i x y (omega (arith, within)) (omega (arith, long)) here there tails

  one_more : (xs ys : List X) (i : ℕ) (x y : X)
      → i < length xs → length xs ≡ length ys
      → x ≡ get_or xs i x → y ≡ get_or ys i y
      → take i (map f xs) ≡ take i (map f ys) → f x ≡ f y
      → take (suc i) (map f xs) ≡ take (suc i) (map f ys)
  one_more [] ys i x y within long here there so_far same = absurd (omega (arith, within))
  one_more (a ∷ xs) [] i x y within long here there so_far same = absurd (omega (arith, long))
  one_more (a ∷ xs) (b ∷ ys) zero x y within long here there so_far same =
      ap (λ z. z ∷ []) (sym (ap f here) ∙ same ∙ ap f there)
  one_more (a ∷ xs) (b ∷ ys) (suc i) x y within long here there so_far same =
      let heads : f a ≡ f b = cc in
      let tails : take i (map f xs) ≡ take i (map f ys) = cc in
      let rest = one_more xs ys i x y (omega (arith, within)) (omega (arith, long)) here there tails same in
      (λ j. heads j ∷ rest j)

  pub alike_more : (xs ys : List X) (i : ℕ) (x y : X)
      → i < length xs → length xs ≡ length ys
      → x ≡ get_or xs i x → y ≡ get_or ys i y
      → take i (map f xs) ≡ take i (map f ys) → f x ≡ f y
      → take (i + 1) (map f xs) ≡ take (i + 1) (map f ys)
  alike_more xs ys i x y within long here there so_far same =
      rw add-one (one_more xs ys i x y within long here there so_far same)
