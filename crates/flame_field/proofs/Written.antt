-- Lists of which one element is written, as they are seen.
use Rattle.std.proofs.Common.{◌≡◌, ℕ, zero, suc, ◌<◌, List, [], ◌∷◌, length, map, get_or, Option, Some, Result, Ok, Err, OnErr, sym, ap, ◌∙◌, arith}
use Rattle.std.specs.Prelude.{slice_get, slice_set, slice_index_or, unwrap_or}
use Rattle.std.proofs.lemmas.Option.{unwrap_or-slice_get}

-- an element that is seen as it was
pub map-kept : {X Y : Type 0} (g : X → Y) (xs : List X) (place : ℕ) (old new : X)
    → place < length xs → old ≡ get_or xs place old → g new ≡ g old → map g (slice_set xs place new) ≡ map g xs
map-kept g [] place old new within at same = absurd (omega (arith, within))
map-kept g (x ∷ xs) zero old new within at same = λ i. (same ∙ ap g at) i ∷ map g xs
map-kept g (x ∷ xs) (suc place) old new within at same = λ i. g x ∷ map-kept g xs place old new (omega (arith, within)) at same i

pub got_is : {X Y : Type 0} (g : X → Y) (xs : List X) (place : ℕ) (old : X) (y : Y)
    → old ≡ get_or xs place old → slice_get (map g xs) place ≡ Some y → g old ≡ y
got_is g [] place old y at there = absurd cc
got_is g (x ∷ xs) zero old y at there = let same : g x ≡ y = cc in ap g at ∙ same
got_is g (x ∷ xs) (suc place) old y at there = got_is g xs place old y at there

-- a list of which this is got, or nothing
pub or_else_is : {X : Type 0} (xs : List X) (place : ℕ) (d : X) (got : Option X) → got ≡ slice_get xs place → slice_index_or xs place d ≡ unwrap_or got d
or_else_is xs place d got is = sym (unwrap_or-slice_get xs place d) ∙ ap (λ o. unwrap_or o d) (sym is)

-- what holds anyway holds where there is an error
pub on_err : {A E P : Type 0} (r : Result A E) → P → OnErr r P
on_err (Ok a) holds = tt
on_err (Err e) holds = holds
