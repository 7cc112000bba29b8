-- One piece of many.
use Rattle.std.proofs.Common.{◌≡◌, ℕ, zero, suc, List, [], ◌∷◌, Some}
use Rattle.std.specs.Prelude.{slice_get, slice_set}

pub got_back : {X : Type 0} (xs : List X) (i : ℕ) (x y : X) → slice_get (slice_set xs i x) i ≡ Some y → x ≡ y
got_back [] i x y is = absurd cc
got_back (z ∷ xs) zero x y is = cc
got_back (z ∷ xs) (suc i) x y is = got_back xs i x y is
