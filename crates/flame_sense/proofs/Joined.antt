-- Words that are made of names.
use Rattle.std.proofs.Common.{◌≡◌, ℕ, List, [], ◌∷◌, ◌++◌, length, take, drop, refl, ◌∙◌, Bool, true, false, ◌&&◌}
use Rattle.std.specs.Cmp.Lexicographic.{pointwise}
use Rattle.std.specs.Prelude.{nat_eq}
use Rattle.std.specs.Str.{bytes_eq}
use Rattle.flame_rows.proofs.Bytes.{bytes_eq-sym}

-- what does not begin with the front is not the whole
not_joined :
    (word front rest : List ℕ)
    → pointwise nat_eq (take (length front) word) front ≡ false
    → pointwise nat_eq word (front ++ rest) ≡ false
not_joined word [] rest h = cc
not_joined [] (x ∷ front) rest h = refl
not_joined (y ∷ word) (x ∷ front) rest h = by_test (nat_eq y x) (not_joined word front rest) h
  where
    by_test :
        (b : Bool)
        → (pointwise nat_eq (take (length front) word) front ≡ false → pointwise nat_eq word (front ++ rest) ≡ false)
        → b && pointwise nat_eq (take (length front) word) front ≡ false
        → b && pointwise nat_eq word (front ++ rest) ≡ false
    by_test true more g = more g
    by_test false more g = refl

-- behind the front the rest has to stand
joined_rest :
    (word front rest : List ℕ)
    → pointwise nat_eq (take (length front) word) front ≡ true
    → pointwise nat_eq word (front ++ rest) ≡ pointwise nat_eq (drop (length front) word) rest
joined_rest word [] rest h = refl
joined_rest [] (x ∷ front) rest h = cc
joined_rest (y ∷ word) (x ∷ front) rest h = by_test (nat_eq y x) (joined_rest word front rest) h
  where
    by_test :
        (b : Bool)
        → (pointwise nat_eq (take (length front) word) front ≡ true
        → pointwise nat_eq word (front ++ rest) ≡ pointwise nat_eq (drop (length front) word) rest)
        → b && pointwise nat_eq (take (length front) word) front ≡ true
        → b && pointwise nat_eq word (front ++ rest) ≡ pointwise nat_eq (drop (length front) word) rest
    by_test true more g = more g
    by_test false more g = cc

-- the word begins otherwise
pub no_front :
    (word before name behind : List ℕ)
    → pointwise nat_eq (take (length before) word) before ≡ false
    → bytes_eq (before ++ (name ++ behind)) word ≡ false
no_front word before name behind h =
    bytes_eq-sym (before ++ (name ++ behind)) word ∙ not_joined word before (name ++ behind) h

-- the name does not stand behind its beginning
pub no_name :
    (word before name behind : List ℕ)
    → pointwise nat_eq (take (length before) word) before ≡ true
    → pointwise nat_eq (take (length name) (drop (length before) word)) name ≡ false
    → bytes_eq (before ++ (name ++ behind)) word ≡ false
no_name word before name behind h g =
    bytes_eq-sym (before ++ (name ++ behind)) word
    ∙ joined_rest word before (name ++ behind) h
    ∙ not_joined (drop (length before) word) name behind g

-- what stands behind the name tells
pub end_tells :
    (word before name behind : List ℕ)
    → pointwise nat_eq (take (length before) word) before ≡ true
    → pointwise nat_eq (take (length name) (drop (length before) word)) name ≡ true
    → bytes_eq (before ++ (name ++ behind)) word
    ≡ pointwise nat_eq (drop (length name) (drop (length before) word)) behind
end_tells word before name behind h g =
    bytes_eq-sym (before ++ (name ++ behind)) word
    ∙ joined_rest word before (name ++ behind) h
    ∙ joined_rest (drop (length before) word) name behind g
