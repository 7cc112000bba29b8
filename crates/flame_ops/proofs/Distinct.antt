-- A list of spellings is a table where a test that computes says so.
use Rattle.std.proofs.Common.{◌≡◌, ◌≢◌, ℕ, ◌<◌, List, [], ◌∷◌, length, get_or, Bool, true, false, not, ◌&&◌, zero, suc, nat_eq, nat_le, leb-true, refl, sym, ap, arith}
use Rattle.std.specs.List.{list_all}
use Rattle.std.proofs.lemmas.Bool.{and_parts}
use Rattle.std.proofs.lemmas.Bool.Decides.{Decides-eqb}
use Rattle.std.proofs.lemmas.Slice.Eq.{slice_eq-Decides}
use lib.Pointwise.{pointwise}
use Rattle.flame_ops.specs.Spellings.{IsTable}

-- the text has a byte
abbrev is_filled : List ℕ → Bool
is_filled [] = false
is_filled (b ∷ bs) = true

-- the texts are not the same
abbrev is_other : List ℕ → List ℕ → Bool
is_other s t = not (pointwise nat_eq s t)

-- none of the spellings is one that stands later
abbrev all_differ : List (List ℕ) → Bool
all_differ [] = true
all_differ (s ∷ ss) = list_all (is_other s) ss && all_differ ss

-- the test of a table
abbrev pub is_table : List (List ℕ) → Bool
is_table ss = nat_le (length ss) 64 && (list_all is_filled ss && all_differ ss)

filled_at : (ss : List (List ℕ)) (k : ℕ) → list_all is_filled ss ≡ true → k < length ss → 0 < length (get_or ss k [])
filled_at [] k h within = absurd (omega arith)
filled_at ([] ∷ ss) k h within = cc
filled_at ((b ∷ bs) ∷ ss) zero h within = omega arith
filled_at ((b ∷ bs) ∷ ss) (suc k) h within = filled_at ss k h (omega arith)

other_at : (s : List ℕ) (ss : List (List ℕ)) (k : ℕ)
    → list_all (is_other s) ss ≡ true → k < length ss → s ≢ get_or ss k []
other_at s [] k h within same = omega arith
other_at s (t ∷ ss) zero h within same =
    let differs : not (pointwise nat_eq s t) ≡ true = (and_parts _ _ h).0 in
    let equal : pointwise nat_eq s t ≡ true = (slice_eq-Decides Decides-eqb s t _ refl).1 same in
    grind arith
other_at s (t ∷ ss) (suc k) h within same = other_at s ss k (and_parts _ _ h).1 (omega arith) same

once : (ss : List (List ℕ)) (j k : ℕ)
    → all_differ ss ≡ true → j < length ss → k < length ss → get_or ss j [] ≡ get_or ss k [] → j ≡ k
once [] j k h j_in k_in same = absurd (omega arith)
once (s ∷ ss) zero zero h j_in k_in same = refl
once (s ∷ ss) zero (suc k) h j_in k_in same = absurd (other_at s ss k (and_parts _ _ h).0 (omega arith) same)
once (s ∷ ss) (suc j) zero h j_in k_in same = absurd (other_at s ss j (and_parts _ _ h).0 (omega arith) (sym same))
once (s ∷ ss) (suc j) (suc k) h j_in k_in same =
    ap suc (once ss j k (and_parts _ _ h).1 (omega arith) (omega arith) same)

-- what passes it is a table
pub IsTable-is_table : (ss : List (List ℕ)) → is_table ss ≡ true → IsTable ss
IsTable-is_table ss h =
    let few : nat_le (length ss) 64 ≡ true = (and_parts _ _ h).0 in
    let more = and_parts _ _ (and_parts _ _ h).1 in
    record {
      few = leb-true _ _ few;
      filled = λ k within. filled_at ss k more.0 within;
      once = λ j k j_in k_in same. once ss j k more.1 j_in k_in same;
    }
