-- Lists that are as long as others.
use Rattle.std.proofs.Common.{◌≡◌, suc, List, [], ◌∷◌, length, map, refl, ap}
use Rattle.std.specs.List.{AllZip, zip}

pub zip-long : {X Y Z : Type 0} (R : X → Y → Type 0) (f : X × Y → Z) (xs : List X) (ys : List Y)
    → AllZip R xs ys → length (map f (zip xs ys)) ≡ length xs
zip-long R f [] [] all = refl
zip-long R f [] (y ∷ ys) all = refl
zip-long R f (x ∷ xs) [] all = absurd all
zip-long R f (x ∷ xs) (y ∷ ys) all = ap suc (zip-long R f xs ys all.1)
