-- Names that are seen, and their numbers.
use Rattle.std.proofs.Common.{◌≡◌, ℕ, List, [], ◌∷◌, length, Some, Bool, true, false, cond, refl, ap, ◌∙◌, ◌<◌, arith}
use Rattle.std.specs.Prelude.{is_some, ◌||◌}
use Rattle.std.specs.Str.{bytes_eq}
use Rattle.flame_rows.proofs.Bytes.{bytes_eq-sym}
use Rattle.flame_spec.specs.KnownNames.{is_among}
use Rattle.flame_body.specs.WordSlots.{local_number}

-- a name is there where it has a number
pub among-number : (word : List ℕ) (names : List (List ℕ)) → is_among word names ≡ is_some (local_number names word)
among-number word [] = refl
among-number word (name ∷ names) =
    ap (λ b. b || is_among word names) (bytes_eq-sym word name)
    ∙ by_test (bytes_eq name word) (among-number word names)
  where
    by_test :
        (b : Bool)
        → is_among word names ≡ is_some (local_number names word)
        → (b || is_among word names) ≡ is_some (cond b (Some (length names)) (local_number names word))
    by_test true more = refl
    by_test false more = more

-- a number is below that of the names
pub number-below :
    (word : List ℕ) (names : List (List ℕ)) (number : ℕ)
    → local_number names word ≡ Some number
    → number < length names
number-below word [] number h = absurd (cc)
number-below word (name ∷ names) number h = by_test (bytes_eq name word) (number-below word names number) h
  where
    by_test :
        (b : Bool)
        → (local_number names word ≡ Some number → number < length names)
        → cond b (Some (length names)) (local_number names word) ≡ Some number
        → number < length (name ∷ names)
    by_test true more g = let same : length names ≡ number = cc in omega arith
    by_test false more g = let below : number < length names = more g in omega arith
