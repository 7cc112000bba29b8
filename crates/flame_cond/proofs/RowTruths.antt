-- What a test says of a row by a comparison of one of the row's columns.
use Rattle.std.proofs.Common.{◌≡◌, true, not, ◌&&◌, refl, sym, ap, ◌∙◌, Option, Some, None, List}
use Rattle.std.specs.Prelude.{ℤ, pos}
use Rattle.std.specs.Option.{option_or}
use Rattle.std.proofs.lemmas.Bool.{and_parts}
use Rattle.flame_rows.proofs.Truths.{and-implied}
use Rattle.flame_ops.specs.declared.integers.Op.{Op}
use Rattle.flame_ops.specs.declared.integers.Op.TheVariants.{Lt, Gt, Le, Ge, Eq, Ne}
use Rattle.flame_spec.specs.Conditions.{number_at, compares}
use Rattle.flame_cond.specs.declared.row_tests.ColumnTest.{ColumnTest}
use Rattle.flame_cond.specs.declared.forms.Test.{Test}
use Rattle.flame_cond.specs.declared.forms.Term.{Term}
use Rattle.flame_cond.specs.declared.forms.Term.TheVariants.{Number, Memory, Row}
use Rattle.flame_cond.specs.TestForms.{TestForm, comparison, both, either, negation, timing, form_of}
use Rattle.flame_cond.specs.Tests.{moment, term_value}
use Rattle.flame_cond.specs.Said.{passes}
use Rattle.flame_cond.specs.RowTests.{column_passes}
use Rattle.flame_cond.specs.ColumnTests.{turned, column_test, first_column_test, only_column_test}
use Rattle.flame_cond.proofs.FormTruths.{form_truth, answer-form}
use Rattle.flame_cond.proofs.EqualTruths.{int_eq-sym}

compares-turned : (op : Op) (a b : ℤ) → compares op a b ≡ compares (turned op) b a
compares-turned Lt a b = refl
compares-turned Gt a b = refl
compares-turned Le a b = refl
compares-turned Ge a b = refl
compares-turned Eq a b = int_eq-sym a b
compares-turned Ne a b = ap not (int_eq-sym a b)
compares-turned _ a b = refl

same_column : (found test : ColumnTest) (row : List ℤ) → Some found ≡ Some test → column_passes found row ≡ column_passes test row
same_column found test row e = let same : found ≡ test = cc in ap (λ one. column_passes one row) same

module _ (memory row : List ℤ) (test : ColumnTest) where
  compared : (op : Op) (a b : Term) → column_test op a b memory ≡ Some test
      → compares op (term_value a (moment memory row (pos 0))) (term_value b (moment memory row (pos 0))) ≡ column_passes test row
  compared op (Row column) (Number number) e = same_column _ test row e
  compared op (Row column) (Memory place) e = same_column _ test row e
  compared op (Number number) (Row column) e =
      compares-turned op number (number_at row column) ∙ same_column _ test row e
  compared op (Memory place) (Row column) e =
      compares-turned op (number_at memory place) (number_at row column) ∙ same_column _ test row e
  compared op (Row column) (Row other) e = cc
  compared op (Number number) (Number other) e = cc
  compared op (Number number) (Memory place) e = cc
  compared op (Memory place) (Number number) e = cc
  compared op (Memory place) (Memory other) e = cc

  only_form : (form : TestForm) → only_column_test form memory ≡ Some test
      → form_truth form (moment memory row (pos 0)) ≡ column_passes test row
  only_form (comparison op a b) e = compared op a b e
  only_form (both left right) e = cc
  only_form (either left right) e = cc
  only_form (negation part) e = cc
  only_form (timing period phase duration) e = cc

  first_form : (form : TestForm) → first_column_test form memory ≡ Some test
      → form_truth form (moment memory row (pos 0)) ≡ true → column_passes test row ≡ true
  first_form (comparison op a b) e holds = sym (compared op a b e) ∙ holds
  first_form (both left right) e holds =
      let now = moment memory row (pos 0) in
      let parts = and_parts (form_truth left now) (form_truth right now) holds in
      by_case (λ here. first_form left here parts.0) (λ here. first_form right here parts.1)
      (first_column_test left memory) refl e
    where
      by_case : (first_column_test left memory ≡ Some test → column_passes test row ≡ true)
          → (first_column_test right memory ≡ Some test → column_passes test row ≡ true)
          → (first : Option ColumnTest) → first_column_test left memory ≡ first
          → option_or first (first_column_test right memory) ≡ Some test → column_passes test row ≡ true
      by_case by_left by_right None is here = by_right here
      by_case by_left by_right (Some found) is here = by_left (is ∙ here)
  first_form (either left right) e holds = cc
  first_form (negation part) e holds = cc
  first_form (timing period phase duration) e holds = cc

-- a test that is one comparison passes the rows that pass it
pub only_column : (filter : Test) (memory : List ℤ) (test : ColumnTest)
    → only_column_test (form_of filter) memory ≡ Some test
    → (row : List ℤ) → column_passes test row ≡ passes filter memory row
only_column filter memory test e row =
    sym (answer-form filter (moment memory row (pos 0)) ∙ only_form memory row test (form_of filter) e)

-- the rows that pass a test pass its first comparison
pub first_column : (filter : Test) (memory : List ℤ) (test : ColumnTest)
    → first_column_test (form_of filter) memory ≡ Some test
    → (row : List ℤ) → (column_passes test row && passes filter memory row) ≡ passes filter memory row
first_column filter memory test e row =
    and-implied (column_passes test row) (passes filter memory row)
    (λ holds. first_form memory row test (form_of filter) e (sym (answer-form filter (moment memory row (pos 0))) ∙ holds))
