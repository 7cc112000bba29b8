-- Bytes that are cut, and bytes that are one part.
use Rattle.std.proofs.Common.{◌≡◌, ℕ, ◌+◌, ◌<◌, ◌≤◌, Bool, true, false, cond, not, List, [], ◌∷◌, length, take, drop, arith, refl, sym, ap, subst, length-drop, ◌⊎◌, inl, inr, nat_lt, ltb-true, ltb-false}
use Rattle.std.specs.Prelude.{◌==◌}
use Rattle.std.specs.List.{slice_split, onto_first, position_or_len, before_first, after_first}
use Rattle.std.proofs.lemmas.List.Splits.{slice_split_first}
use Rattle.flame_trace.specs.TraceCuts.{IsCut}

-- a list whose first element is this one, which passes or does not
whole_from : {X : Type 0} (p : X → Bool) (test : Bool) (x : X) (xs : List X)
    → (length xs ≤ position_or_len p xs → slice_split p xs ≡ xs ∷ [])
    → length xs + 1 ≤ cond (not test) (1 + position_or_len p xs) 0
    → cond test ([] ∷ slice_split p xs) (onto_first x (slice_split p xs)) ≡ (x ∷ xs) ∷ []
whole_from p true x xs rest none = absurd (omega arith)
whole_from p false x xs rest none = ap (onto_first x) (rest (omega arith))

-- where no element passes, the list is the one part
pub split-whole : {X : Type 0} (p : X → Bool) (xs : List X) → length xs ≤ position_or_len p xs → slice_split p xs ≡ xs ∷ []
split-whole p [] none = refl
split-whole p (x ∷ xs) none = whole_from p (p x) x xs (split-whole p xs) (omega arith)

-- what stands before the first byte of this value, and behind it
pub cut-first : (byte : ℕ) (bytes : List ℕ)
    → position_or_len (λ other. other == byte) bytes < length bytes
    → IsCut byte bytes (before_first (λ other. other == byte) bytes) (after_first (λ other. other == byte) bytes)
cut-first byte bytes there = record {
  parts = slice_split_first (λ other. other == byte) bytes 0 there;
  shorter = omega (arith, length-drop (position_or_len (λ other. other == byte) bytes + 1) bytes);
}

-- the same at a place that is known to be the first
pub cut-at : (byte place : ℕ) (bytes rest : List ℕ)
    → place ≡ position_or_len (λ other. other == byte) bytes
    → rest ≡ drop (place + 1) bytes
    → place < length bytes
    → IsCut byte bytes (take place bytes) rest
cut-at byte place bytes rest first behind there =
    subst (λ (r : List ℕ). IsCut byte bytes (take place bytes) r) (sym behind)
    (subst (λ (n : ℕ). n < length bytes → IsCut byte bytes (take n bytes) (drop (n + 1) bytes)) (sym first)
    (cut-first byte bytes) there)

-- bytes have no such byte, or are cut at the first
cases_by : (byte : ℕ) (bytes : List ℕ) (test : Bool)
    → nat_lt (position_or_len (λ other. other == byte) bytes) (length bytes) ≡ test
    → (slice_split (λ other. other == byte) bytes ≡ bytes ∷ [])
    ⊎ ((front : List ℕ) × (rest : List ℕ) × IsCut byte bytes front rest)
cases_by byte bytes true is =
    let there = ltb-true (position_or_len (λ other. other == byte) bytes) (length bytes) is in
    inr (_, _, cut-first byte bytes there)
cases_by byte bytes false is =
    let none = ltb-false (position_or_len (λ other. other == byte) bytes) (length bytes) is in
    inl (split-whole (λ other. other == byte) bytes none)

pub cut-cases : (byte : ℕ) (bytes : List ℕ)
    → (slice_split (λ other. other == byte) bytes ≡ bytes ∷ [])
    ⊎ ((front : List ℕ) × (rest : List ℕ) × IsCut byte bytes front rest)
cut-cases byte bytes = cases_by byte bytes (nat_lt (position_or_len (λ other. other == byte) bytes) (length bytes)) refl
