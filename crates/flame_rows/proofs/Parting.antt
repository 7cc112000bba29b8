-- Rows parted one by one.
use Rattle.std.proofs.Common.{◌≡◌, ℕ, ◌<◌, ◌≤◌, Bool, true, false, cond, List, [], ◌∷◌, ◌++◌, length, get_or, set, sym, ap, ◌∙◌, subst, arith, append_assoc, append-nil, ◌⊎◌, inl, inr}
use Rattle.std.specs.Prelude.{ℤ, ◌==◌, nat_le}
use Rattle.std.specs.List.{filter}
use Rattle.std.proofs.lemmas.List.{get_or-set_same, get_or-set_other}
use Rattle.std.proofs.lemmas.Bool.{eq-eqb}
use Rattle.std.proofs.lemmas.Bool.Decides.{eqb_tells, nat_tests}
use Rattle.flame_rows.specs.Order.{row_order}
use Rattle.flame_rows.specs.Sorted.{IsAscending}
use Rattle.flame_rows.specs.Parted.{whose}
use Rattle.flame_rows.proofs.Subsequences.{came, stayed_away}

abbrev Rows : Type 0
Rows = List (List ℤ)

-- ---- by a test

module _ (passes : List ℤ → Bool) where
  pub filter-passed : (all found after left rest : Rows) (row : List ℤ)
      → all ≡ found ++ filter passes left
      → left ≡ row ∷ rest
      → passes row ≡ true
      → after ≡ found ++ row ∷ []
      → all ≡ after ++ filter passes rest
  filter-passed all found after left rest row so_far is passed put =
      so_far
      ∙ (λ i. found ++ filter passes (is i))
      ∙ (λ i. found ++ cond (passed i) (row ∷ filter passes rest) (filter passes rest))
      ∙ sym (append_assoc found (row ∷ []) (filter passes rest))
      ∙ (λ i. sym put i ++ filter passes rest)

  pub filter-failed : (all found left rest : Rows) (row : List ℤ)
      → all ≡ found ++ filter passes left
      → left ≡ row ∷ rest
      → passes row ≡ false
      → all ≡ found ++ filter passes rest
  filter-failed all found left rest row so_far is failed =
      so_far
      ∙ (λ i. found ++ filter passes (is i))
      ∙ (λ i. found ++ cond (failed i) (row ∷ filter passes rest) (filter passes rest))

-- ---- by choices

module _ (passes : ℕ → Bool) where
  pub whose-passed : (all found after left rest : Rows) (row : List ℤ) (choices more : List ℕ) (choice : ℕ)
      → all ≡ found ++ whose passes left choices
      → left ≡ row ∷ rest
      → choices ≡ choice ∷ more
      → passes choice ≡ true
      → after ≡ found ++ row ∷ []
      → all ≡ after ++ whose passes rest more
  whose-passed all found after left rest row choices more choice so_far is chosen passed put =
      so_far
      ∙ (λ i. found ++ whose passes (is i) (chosen i))
      ∙ (λ i. found ++ cond (passed i) (row ∷ whose passes rest more) (whose passes rest more))
      ∙ sym (append_assoc found (row ∷ []) (whose passes rest more))
      ∙ (λ i. sym put i ++ whose passes rest more)

  pub whose-failed : (all found left rest : Rows) (row : List ℤ) (choices more : List ℕ) (choice : ℕ)
      → all ≡ found ++ whose passes left choices
      → left ≡ row ∷ rest
      → choices ≡ choice ∷ more
      → passes choice ≡ false
      → all ≡ found ++ whose passes rest more
  whose-failed all found left rest row choices more choice so_far is chosen failed =
      so_far
      ∙ (λ i. found ++ whose passes (is i) (chosen i))
      ∙ (λ i. found ++ cond (failed i) (row ∷ whose passes rest more) (whose passes rest more))

  pub whose-over : (all found left : Rows) (choices : List ℕ)
      → all ≡ found ++ whose passes left choices
      → (length left ≡ 0) ⊎ (length choices ≡ 0)
      → found ≡ all
  whose-over all found [] choices so_far over = sym (so_far ∙ append-nil found)
  whose-over all found (row ∷ left) [] so_far over = sym (so_far ∙ append-nil found)
  whose-over all found (row ∷ left) (choice ∷ choices) so_far over =
      elim over [ inl none ↦ absurd (omega (arith, none)) | inr none ↦ absurd (omega (arith, none)) ]

-- where the pairs end, one of the two lists does
pub over : {X Y L M : Type 0} {A : X → Type 0} {B : Y → Type 0} (count : ℕ) (left : List L) (choices : List M)
    → count ≡ length left
    → ((x : X) × ((count ≡ 0) × A x)) ⊎ ((y : Y) × ((length choices ≡ 0) × B y))
    → (length left ≡ 0) ⊎ (length choices ≡ 0)
over count left choices counted (inl ends) = inl (sym counted ∙ ends.1.0)
over count left choices counted (inr ends) = inr ends.1.0

pub is_same : (a b : ℕ) → a ≡ b → (a == b) ≡ true
is_same a b same = eq-eqb a b same

pub is_other : (a b : ℕ) → (a ≡ b → ⊥) → (a == b) ≡ false
is_other a b other = elim (eqb_tells a b) [ inl agree ↦ absurd (other agree.1) | inr differ ↦ differ.0 ]

pub all_below : (choice count : ℕ) → choice < count → nat_le count choice ≡ false
all_below choice count below = grind (arith, nat_tests)

-- ---- many parts

-- the part of this number
abbrev pub part_at : List Rows → ℕ → Rows
part_at parts number = get_or parts number []

-- one row more in the part of this number
abbrev pub put_at : List Rows → ℕ → List ℤ → List Rows
put_at parts number row = set parts number (part_at parts number ++ row ∷ [])

module _ (parts : List Rows) (left rest : Rows) (row : List ℤ) (is : left ≡ row ∷ rest) (count : ℕ) where
  module _ (number : ℕ) (within : number < length parts) (after : List Rows) (put : after ≡ put_at parts number row) where
    own : (other : ℕ) → number ≡ other → part_at after other ≡ part_at parts other ++ row ∷ []
    own other same =
        (λ i. part_at (put i) (sym same i))
        ∙ get_or-set_same parts number (part_at parts number ++ row ∷ []) [] within
        ∙ ap (λ n. part_at parts n ++ row ∷ []) same

    not_own : (other : ℕ) → (number ≡ other → ⊥) → part_at after other ≡ part_at parts other
    not_own other differs =
        ap (λ l. part_at l other) put
        ∙ get_or-set_other parts number other (part_at parts number ++ row ∷ []) [] (λ same. differs (sym same))

    pub parts_up : ((other : ℕ) → other < count → IsAscending row_order (part_at parts other ++ left))
        → (other : ℕ) → other < count → IsAscending row_order (part_at after other ++ rest)
    parts_up up other known = elim (eqb_tells number other) [
      | inl agree ↦ came row_order (part_at parts other) (part_at after other) left rest row (up other known) is (own other agree.1)
      | inr differ ↦
          subst (λ part. IsAscending row_order (part ++ rest)) (sym (not_own other differ.1))
          (stayed_away row_order (part_at parts other) left rest row (up other known) is)
    ]

    pub parts_put : (all : ℕ → Rows) (choices more : List ℕ) → choices ≡ number ∷ more
        → ((other : ℕ) → other < count → all other ≡ part_at parts other ++ whose (λ choice. choice == other) left choices)
        → (other : ℕ) → other < count → all other ≡ part_at after other ++ whose (λ choice. choice == other) rest more
    parts_put all choices more chosen so_far other known = elim (eqb_tells number other) [
      | inl agree ↦
          whose-passed (λ choice. choice == other) (all other) (part_at parts other) (part_at after other) left rest row
          choices more number (so_far other known) is chosen agree.0 (own other agree.1)
      | inr differ ↦
          whose-failed (λ choice. choice == other) (all other) (part_at parts other) left rest row choices more number
          (so_far other known) is chosen differ.0
          ∙ ap (λ part. part ++ whose (λ choice. choice == other) rest more) (sym (not_own other differ.1))
    ]

  -- the row goes to none of the parts
  pub parts_up_still : ((other : ℕ) → other < count → IsAscending row_order (part_at parts other ++ left))
      → (other : ℕ) → other < count → IsAscending row_order (part_at parts other ++ rest)
  parts_up_still up other known = stayed_away row_order (part_at parts other) left rest row (up other known) is

  pub parts_left : (all : ℕ → Rows) (number : ℕ) (choices more : List ℕ) → choices ≡ number ∷ more → count ≤ number
      → ((other : ℕ) → other < count → all other ≡ part_at parts other ++ whose (λ choice. choice == other) left choices)
      → (other : ℕ) → other < count → all other ≡ part_at parts other ++ whose (λ choice. choice == other) rest more
  parts_left all number choices more chosen none so_far other known =
      whose-failed (λ choice. choice == other) (all other) (part_at parts other) left rest row choices more number
      (so_far other known) is chosen (is_other number other (λ same. absurd (omega (arith, same, none, known))))
