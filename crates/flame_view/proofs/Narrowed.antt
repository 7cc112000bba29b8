-- Rows that were found, put in order or all looked at make the view.
use Rattle.std.proofs.Common.{◌≡◌, ℕ, ◌+◌, Bool, true, false, cond, List, [], ◌∷◌, ◌++◌, take, Option, Some, None, Bor, IfOk, refl, sym, ap, ◌∙◌, int_eq, is_eq}
use Rattle.std.specs.Prelude.{ℤ, Result, slice_get, is_some}
use Rattle.std.specs.Option.{option_copied}
use Rattle.std.specs.List.{filter}
use Rattle.std.specs.Cmp.{int_cmp_total}
use Rattle.std.proofs.lemmas.Cmp.{tied_itself}
use Rattle.std.proofs.lemmas.List.Elements.{filter_agree, filter_more}
use Rattle.std.proofs.lemmas.Option.{slice_get_within, get_or_from_slice_get}
use Rattle.std.proofs.lemmas.Result.{IfOk-weaker}
use Rattle.flame_rows.specs.Order.{row_order}
use Rattle.flame_rows.specs.Sorted.{IsAscending, sorted_by}
use Rattle.flame_rows.proofs.BagLaws.{ascending-IsAscending}
use Rattle.flame_spec.specs.Conditions.{number_at}
use Rattle.flame_spec.specs.Views.{view_order}
use Rattle.flame_spec.proofs.Viewed.{view_total, view_tied}
use Rattle.flame_cond.specs.declared.equalities.Equality.{Equality}
use Rattle.flame_cond.specs.declared.forms.Test.{Test}
use Rattle.flame_cond.specs.declared.keys.SortBy.{SortBy}
use Rattle.flame_cond.specs.TestForms.{form_of}
use Rattle.flame_cond.specs.Said.{passes, key_by}
use Rattle.flame_cond.specs.Equalities.{equal_value, has_value, first_equality, is_one_equality, PassingIsEqual, OneEqualityIsAll}
use Rattle.flame_index.proofs.SortedParts.{IsAscending-filter, filter-sorted_by}
use Rattle.flame_view.specs.Compiled.{is_read_by, picked_by, view_by}
use Rattle.flame_view.specs.ViewWays.{first_has_number, goes_by_first, in_order_of}
use Rattle.flame_view.proofs.Filtered.{filter-given}
use Rattle.flame_view.proofs.Alike.{sorted_by-alike}
use Rattle.flame_view.proofs.FirstColumns.{sorted_by-first_picked}

pub IfOk-same : {X E : Type 0} (r : Result X E) (x y : X) → x ≡ y → IfOk r (λ v. v ≡ x) → IfOk r (λ v. v ≡ y)
IfOk-same r x y same = IfOk-weaker r (λ v. v ≡ x) (λ v. v ≡ y) (λ v is. is ∙ same)

pub option_copied-None : {T : Type 0} (o : Option (Bor T)) → is_some o ≡ false → option_copied o ≡ None
option_copied-None None h = refl
option_copied-None (Some x) h = cc

-- the next row of a list, where it passes and where not
pub filter-next : (p : List ℤ → Bool) (rows : List (List ℤ)) (place : ℕ) (row : List ℤ) → slice_get rows place ≡ Some row
    → filter p (take (place + 1) rows) ≡ filter p (take place rows) ++ cond (p row) (row ∷ []) []
filter-next p rows place row at =
    let within = slice_get_within rows place row at in
    filter_more p rows place row within
    ∙ ap (λ here. filter p (take place rows) ++ cond (p here) (here ∷ []) []) (get_or_from_slice_get rows place row row at)

-- without a filter all rows pass
pub picked_by-None : (memory : List ℤ) (rows : List (List ℤ)) → picked_by None memory rows ≡ rows
picked_by-None memory [] = refl
picked_by-None memory (row ∷ rows) = ap (λ rest. row ∷ rest) (picked_by-None memory rows)

-- all rows are looked at, in content order
pub in_order_of-picked_by : (test : Option Test) (sort : Option SortBy) (memory : List ℤ) (rows : List (List ℤ)) → IsAscending row_order rows
    → in_order_of sort (picked_by test memory rows) ≡ view_by test sort memory rows
in_order_of-picked_by test None memory rows up =
    sym (ascending-IsAscending (picked_by test memory rows) (IsAscending-filter row_order (is_read_by test memory) rows up))
in_order_of-picked_by test (Some by) memory rows up = refl

-- they are looked at in the order of the key
pub picked_by-sorted_by : (test : Option Test) (by : SortBy) (memory : List ℤ) (rows : List (List ℤ))
    → picked_by test memory (sorted_by (view_order (Some (key_by by))) rows) ≡ view_by test (Some by) memory rows
picked_by-sorted_by test by memory rows =
    filter-sorted_by (view_order (Some (key_by by))) (is_read_by test memory)
    (view_total (Some (key_by by))) (view_tied (Some (key_by by))) rows

-- none has to be sorted where none is empty and the key is column 0
pub in_order_of-first : (test : Option Test) (by : SortBy) (memory : List ℤ) (rows : List (List ℤ)) → IsAscending row_order rows
    → goes_by_first (key_by by) ≡ true → first_has_number rows ≡ true
    → in_order_of (Some by) (picked_by test memory rows) ≡ picked_by test memory rows
in_order_of-first test by memory rows up goes filled =
    sorted_by-first_picked (key_by by) goes rows filled up (is_read_by test memory)

module _ (test : Test) (equality : Equality) (is : first_equality (form_of test) ≡ Some equality) (memory : List ℤ) where
  -- the number that the filter asks for
  abbrev value : ℤ
  value = equal_value equality.equal memory

  -- whether a row has it
  abbrev has_it : List ℤ → Bool
  has_it = has_value equality.column value

  passing_has_it : PassingIsEqual → (row : List ℤ) → passes test memory row ≡ true → has_it row ≡ true
  passing_has_it law row holds =
      ap (λ number. int_eq number value) (law test equality memory row is holds)
      ∙ ap is_eq (tied_itself int_cmp_total value)

  pub picked_by-found : PassingIsEqual → (found rows : List (List ℤ)) → found ≡ filter has_it rows
      → picked_by (Some test) memory found ≡ picked_by (Some test) memory rows
  picked_by-found law found rows same =
      ap (picked_by (Some test) memory) same
      ∙ filter-given (passes test memory) has_it (passing_has_it law) rows

  pub found-picked_by : OneEqualityIsAll → is_one_equality (form_of test) ≡ true → (found rows : List (List ℤ)) → found ≡ filter has_it rows
      → found ≡ picked_by (Some test) memory rows
  found-picked_by law one found rows same =
      same ∙ filter_agree has_it (passes test memory) (λ row. sym (law test equality memory row one is)) rows

  -- none has to be sorted where all have one number in the column of the key
  pub in_order_of-alike : PassingIsEqual → (by : SortBy) → equality.column ≡ by.variable → (rows : List (List ℤ)) → IsAscending row_order rows
      → in_order_of (Some by) (picked_by (Some test) memory rows) ≡ picked_by (Some test) memory rows
  in_order_of-alike law by same rows up =
      sorted_by-alike (key_by by) (passes test memory) value
      (λ row holds. ap (number_at row) (sym same) ∙ law test equality memory row is holds) rows up
