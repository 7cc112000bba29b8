-- Two lists, place by place, and lists one behind the other.
use Rattle.std.proofs.Common.{◌≡◌, ℕ, zero, suc, ◌+◌, List, [], ◌∷◌, ◌++◌, map, take, length, Some, refl, sym, ap, ◌∙◌, subst, arith}
use Rattle.std.specs.Prelude.{slice_get}
use Rattle.std.specs.List.{AllZip}
use Rattle.flame_rows.proofs.Lists.{AllZip-append}

-- one item more at the end of what is taken
pub take-more :
    {A : Type 0} (xs : List A) (k : ℕ) (x : A)
    → slice_get xs k ≡ Some x → take (suc k) xs ≡ take k xs ++ x ∷ []
take-more [] k x at = absurd (cc)
take-more (y ∷ ys) zero x at = let same : y ≡ x = cc in ap (λ z. z ∷ []) same
take-more (y ∷ ys) (suc k) x at = ap (λ zs. y ∷ zs) (take-more ys k x at)

-- one pair more, where the first list is taken from the front
pub zip-taken :
    {A B : Type 0} (P : A → B → Type 0) (xs : List A) (k : ℕ) (ys : List B) (x : A) (y : B)
    → slice_get xs k ≡ Some x
    → AllZip P (take k xs) ys → P x y → AllZip P (take (k + 1) xs) (ys ++ y ∷ [])
zip-taken P xs k ys x y at all one =
    let next : k + 1 ≡ suc k = omega arith in
    subst (λ zs. AllZip P zs (ys ++ y ∷ [])) (sym (ap (λ n. take n xs) next ∙ take-more xs k x at))
    (AllZip-append P (take k xs) ys (x ∷ []) (y ∷ []) all (one, tt))

-- an item of two lists, one behind the other, is of the first or of the second
pub of-either :
    {A : Type 0} (P : Type 0) (xs ys : List A) (i : ℕ) (x : A)
    → slice_get (xs ++ ys) i ≡ Some x
    → (slice_get xs i ≡ Some x → P)
    → ((j : ℕ) → i ≡ length xs + j → slice_get ys j ≡ Some x → P)
    → P
of-either P [] ys i x at first second = second i (omega arith) at
of-either P (a ∷ xs) ys zero x at first second = first at
of-either P (a ∷ xs) ys (suc i) x at first second =
    of-either P xs ys i x at first (λ j e there. second j (omega (arith, e)) there)

-- the item of a mapped list comes from the list
pub record ComesFrom {A B : Type 0} (f : A → B) (xs : List A) (i : ℕ) (y : B) : Type 0 where
  pub item : A
  pub there : slice_get xs i ≡ Some item
  pub same : f item ≡ y

pub comes-from :
    {A B : Type 0} (f : A → B) (xs : List A) (i : ℕ) (y : B)
    → slice_get (map f xs) i ≡ Some y → ComesFrom f xs i y
comes-from f [] i y at = absurd (cc)
comes-from f (x ∷ xs) zero y at =
    let same : f x ≡ y = cc in
    record { item = x; there = refl; same = same }
comes-from f (x ∷ xs) (suc i) y at =
    let rest = comes-from f xs i y at in
    record { item = rest.item; there = rest.there; same = rest.same }
