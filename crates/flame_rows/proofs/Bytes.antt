-- When texts are equal, byte for byte.
use Rattle.std.proofs.Common.{◌≡◌, ℕ, List, true, refl, sym}
use Rattle.std.specs.Str.{bytes_eq}
use Rattle.std.proofs.lemmas.Bool.Decides.{same_from_decides}
use Rattle.std.proofs.lemmas.Slice.Eq.{bytes_eq-Decides}

pub bytes_eq-true : (xs ys : List ℕ) → bytes_eq xs ys ≡ true → xs ≡ ys
bytes_eq-true xs ys e = (bytes_eq-Decides xs ys).0 e

pub bytes_eq-same : (xs ys : List ℕ) → xs ≡ ys → bytes_eq xs ys ≡ true
bytes_eq-same xs ys e = (bytes_eq-Decides xs ys).1 e

pub bytes_eq-self : (xs : List ℕ) → bytes_eq xs xs ≡ true
bytes_eq-self xs = bytes_eq-same xs xs refl

pub bytes_eq-sym : (xs ys : List ℕ) → bytes_eq xs ys ≡ bytes_eq ys xs
bytes_eq-sym xs ys =
    let back = bytes_eq-Decides ys xs in
    same_from_decides (bytes_eq xs ys) (bytes_eq ys xs) (bytes_eq-Decides xs ys) (λ e. sym (back.0 e), λ e. back.1 (sym e))
