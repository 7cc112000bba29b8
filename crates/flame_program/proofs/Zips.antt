-- Two lists, place by place.
use Rattle.std.proofs.Common.{◌≡◌, ℕ, zero, suc, ◌<◌, List, [], ◌∷◌, map, length, Some, refl, sym, ap, ◌∙◌}
use Rattle.std.specs.Prelude.{slice_get, slice_index_or, option_map}
use Rattle.std.specs.List.{AllZip}
use Rattle.std.proofs.lemmas.Option.{slice_get-map, slice_get_read}

-- where the first list has an item, the second has one
pub zip-there :
    {A B : Type 0} (P : A → B → Type 0) (xs : List A) (ys : List B) (k : ℕ) (x : A)
    → AllZip P xs ys → slice_get xs k ≡ Some x → (y : B) × (slice_get ys k ≡ Some y)
zip-there P [] ys k x all at = absurd (cc)
zip-there P (a ∷ xs) [] k x all at = absurd (all)
zip-there P (a ∷ xs) (b ∷ ys) zero x all at = (b, refl)
zip-there P (a ∷ xs) (b ∷ ys) (suc k) x all at = zip-there P xs ys k x all.1 at

-- where the second list has an item, the first has one
pub zip-back :
    {A B : Type 0} (P : A → B → Type 0) (xs : List A) (ys : List B) (k : ℕ) (y : B)
    → AllZip P xs ys → slice_get ys k ≡ Some y → (x : A) × (slice_get xs k ≡ Some x)
zip-back P xs [] k y all at = absurd (cc)
zip-back P [] (b ∷ ys) k y all at = absurd (all)
zip-back P (a ∷ xs) (b ∷ ys) zero y all at = (a, refl)
zip-back P (a ∷ xs) (b ∷ ys) (suc k) y all at = zip-back P xs ys k y all.1 at

-- an item of a mapped list, where it was read from the list
pub mapped-there :
    {A B : Type 0} (f : A → B) (xs : List A) (ys : List B) (k : ℕ) (x : A)
    → map f xs ≡ ys → k < length xs → x ≡ slice_index_or xs k x → slice_get ys k ≡ Some (f x)
mapped-there f xs ys k x same within is =
    ap (λ zs. slice_get zs k) (sym same) ∙ slice_get-map f xs k
    ∙ ap (option_map f) (slice_get_read xs (length xs) k x refl within is)
