-- What a test says of a row by its first equality, and of the memory where it reads none.
use Rattle.std.proofs.Common.{◌≡◌, Bool, true, false, not, ◌&&◌, ◌||◌, true≢false, refl, sym, ap, ap₂, ◌∙◌, Option, Some, None, is_some, List}
use Rattle.std.specs.Prelude.{ℤ, pos}
use Rattle.std.specs.Option.{option_or}
use Rattle.std.specs.Ordering.{int_eq}
use Rattle.std.specs.Cmp.{int_eq_equiv, signed_Decides}
use Rattle.std.proofs.lemmas.Bool.{and_parts, or_parts}
use Rattle.flame_ops.specs.declared.integers.Op.{Op}
use Rattle.flame_ops.specs.declared.integers.Op.TheVariants.{Eq}
use Rattle.flame_spec.specs.Conditions.{Moment, number_at, compares, in_unit}
use Rattle.flame_cond.specs.declared.equalities.Equality.{Equality}
use Rattle.flame_cond.specs.declared.forms.Term.{Term}
use Rattle.flame_cond.specs.declared.forms.Term.TheVariants.{Number, Memory, Row}
use Rattle.flame_cond.specs.TestForms.{TestForm, comparison, both, either, negation, timing, form_of}
use Rattle.flame_cond.specs.Tests.{moment, term_value}
use Rattle.flame_cond.specs.Equalities.{equal_value, has_value, equality_between, equality_compared, first_equality, is_one_equality, is_remembered, reads_memory, PassingIsEqual, OneEqualityIsAll, OneEqualityIsFirst, UnreadMemoryTellsNothing}
use Rattle.flame_cond.proofs.FormTruths.{form_truth, answer-form}

-- whether a row has what an equality asks for, with a memory
abbrev meets : Equality → Moment → Bool
meets equality now = has_value equality.column (equal_value equality.equal now.memory) now.row

same_meets : (found equality : Equality) (now : Moment) → Some found ≡ Some equality → meets found now ≡ meets equality now
same_meets found equality now e = let same : found ≡ equality = cc in ap (λ one. meets one now) same

pub int_eq-sym : (a b : ℤ) → int_eq a b ≡ int_eq b a
int_eq-sym = int_eq_equiv.symm

between-meets : (a b : Term) (equality : Equality) (now : Moment)
    → equality_between a b ≡ Some equality → int_eq (term_value a now) (term_value b now) ≡ meets equality now
between-meets (Row column) (Number number) equality now e = same_meets _ equality now e
between-meets (Row column) (Memory place) equality now e = same_meets _ equality now e
between-meets (Number number) (Row column) equality now e =
    int_eq-sym number (number_at now.row column) ∙ same_meets _ equality now e
between-meets (Memory place) (Row column) equality now e =
    int_eq-sym (number_at now.memory place) (number_at now.row column) ∙ same_meets _ equality now e
between-meets (Row column) (Row other) equality now e = cc
between-meets (Number number) (Number other) equality now e = cc
between-meets (Number number) (Memory place) equality now e = cc
between-meets (Memory place) (Number number) equality now e = cc
between-meets (Memory place) (Memory other) equality now e = cc

compared-meets : (op : Op) (a b : Term) (equality : Equality) (now : Moment)
    → equality_compared op a b ≡ Some equality → compares op (term_value a now) (term_value b now) ≡ meets equality now
compared-meets Eq a b equality now e = between-meets a b equality now e
compared-meets _ a b equality now e = cc

form-meets : (form : TestForm) (equality : Equality) (now : Moment)
    → first_equality form ≡ Some equality → form_truth form now ≡ true → meets equality now ≡ true
form-meets (comparison op a b) equality now e holds = sym (compared-meets op a b equality now e) ∙ holds
form-meets (both left right) equality now e holds =
    let parts = and_parts (form_truth left now) (form_truth right now) holds in
    by_case (λ here one. form-meets left equality now here one) (λ here two. form-meets right equality now here two)
    (first_equality left) refl e parts.0 parts.1
  where
    by_case : (first_equality left ≡ Some equality → form_truth left now ≡ true → meets equality now ≡ true)
        → (first_equality right ≡ Some equality → form_truth right now ≡ true → meets equality now ≡ true)
        → (first : Option Equality) → first_equality left ≡ first → option_or first (first_equality right) ≡ Some equality
        → form_truth left now ≡ true → form_truth right now ≡ true → meets equality now ≡ true
    by_case by_left by_right None is here one two = by_right here two
    by_case by_left by_right (Some found) is here one two = by_left (is ∙ here) one
form-meets (either left right) equality now e holds = cc
form-meets (negation part) equality now e holds = cc
form-meets (timing period phase duration) equality now e holds = cc

pub passing_is_equal : PassingIsEqual
passing_is_equal test equality memory row e holds =
    let now = moment memory row (pos 0) in
    (signed_Decides (number_at row equality.column) (equal_value equality.equal memory)).0
    (form-meets (form_of test) equality now e (sym (answer-form test now) ∙ holds))

one_form-meets : (form : TestForm) (equality : Equality) (now : Moment)
    → is_one_equality form ≡ true → first_equality form ≡ Some equality → form_truth form now ≡ meets equality now
one_form-meets (comparison op a b) equality now one e = compared-meets op a b equality now e
one_form-meets (both left right) equality now one e = absurd (true≢false (sym one))
one_form-meets (either left right) equality now one e = absurd (true≢false (sym one))
one_form-meets (negation part) equality now one e = absurd (true≢false (sym one))
one_form-meets (timing period phase duration) equality now one e = absurd (true≢false (sym one))

pub one_equality_is_all : OneEqualityIsAll
one_equality_is_all test equality memory row one e =
    let now = moment memory row (pos 0) in
    answer-form test now ∙ one_form-meets (form_of test) equality now one e

one_form-first : (form : TestForm) → is_one_equality form ≡ true → is_some (first_equality form) ≡ true
one_form-first (comparison op a b) one = one
one_form-first (both left right) one = absurd (true≢false (sym one))
one_form-first (either left right) one = absurd (true≢false (sym one))
one_form-first (negation part) one = absurd (true≢false (sym one))
one_form-first (timing period phase duration) one = absurd (true≢false (sym one))

pub one_equality_is_first : OneEqualityIsFirst
one_equality_is_first test one = one_form-first (form_of test) one

-- ---- the memory

neither_right : (a b : Bool) → (a || b) ≡ false → b ≡ false
neither_right true b h = absurd (true≢false h)
neither_right false b h = h

module _ (memory other row : List ℤ) (iteration : ℤ) where
  abbrev here : Moment
  here = moment memory row iteration

  abbrev there : Moment
  there = moment other row iteration

  unread-term : (term : Term) → is_remembered term ≡ false → term_value term here ≡ term_value term there
  unread-term (Number number) h = refl
  unread-term (Memory column) h = absurd (true≢false h)
  unread-term (Row column) h = refl

  unread-form : (form : TestForm) → reads_memory form ≡ false → form_truth form here ≡ form_truth form there
  unread-form (comparison op a b) h =
      ap₂ (compares op)
      (unread-term a ((or_parts (is_remembered a) (is_remembered b) h).0))
      (unread-term b (neither_right (is_remembered a) (is_remembered b) h))
  unread-form (both left right) h =
      ap₂ ◌&&◌
      (unread-form left ((or_parts (reads_memory left) (reads_memory right) h).0))
      (unread-form right (neither_right (reads_memory left) (reads_memory right) h))
  unread-form (either left right) h =
      ap₂ ◌||◌
      (unread-form left ((or_parts (reads_memory left) (reads_memory right) h).0))
      (unread-form right (neither_right (reads_memory left) (reads_memory right) h))
  unread-form (negation part) h = ap not (unread-form part h)
  unread-form (timing period phase duration) h = ap (λ z. in_unit period z duration iteration) (unread-term phase h)

pub unread_memory_tells_nothing : UnreadMemoryTellsNothing
unread_memory_tells_nothing test memory other row h =
    answer-form test (moment memory row (pos 0))
    ∙ unread-form memory other row (pos 0) (form_of test) h
    ∙ sym (answer-form test (moment other row (pos 0)))
