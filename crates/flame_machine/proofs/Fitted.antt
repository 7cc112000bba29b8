-- What passes the tests of what a run asks for meets it.
use Rattle.std.proofs.Common.{◌≡◌, ℕ, zero, suc, ◌==◌, Bool, true, ◌&&◌, ℤ, List, [], ◌∷◌, length, get_or, Some, refl, sym, ap, ◌∙◌, subst, arith}
use Rattle.std.specs.Prelude.{slice_get, slice_index, nat_le, IsTrue}
use Rattle.std.specs.List.{list_all, zip}
use Rattle.std.proofs.lemmas.Bool.{and_parts, eqb-true, eq-eqb, leb-true}
use Rattle.std.proofs.lemmas.Option.{slice_get_within, slice_get-get_or, get_or_from_slice_get}
use Rattle.flame_rows.proofs.Lists.{list_all-at, list_all-each}
use Rattle.flame_spec.specs.HelperFaults.{deepest_calls}
use Rattle.flame_code.specs.HelperCodes.{HelperCodes, AreHelpers, calls_below, calls_fit, sees_nothing}
use Rattle.flame_code.specs.InputRows.{HaveWidths, rows_of}
use Rattle.flame_code.specs.Routines.{Routine}
use Rattle.flame_machine.specs.declared.lists.Cursor.{Cursor}
use Rattle.flame_machine.specs.ListCursors.{feeds_of}
use Rattle.flame_machine.specs.Fitting.{helper_fits, heights_fit, rows_fit}

-- ---- tests of lists

at_zip : {B : Type 0} (test : ℕ → B → Bool) (xs : List ℕ) (ys : List B) (k : ℕ) (y : B) → length xs ≡ length ys
    → list_all (λ (pair : ℕ × B). test pair.0 pair.1) (zip xs ys) ≡ true → slice_get ys k ≡ Some y → test (get_or xs k 0) y ≡ true
at_zip test xs [] k y same all found = cc
at_zip test [] (z ∷ ys) k y same all found = absurd (omega arith)
at_zip test (x ∷ xs) (z ∷ ys) zero y same all found = let e : z ≡ y = cc in subst (λ u. test x u ≡ true) e (and_parts _ _ all).0
at_zip test (x ∷ xs) (z ∷ ys) (suc k) y same all found = at_zip test xs ys k y (omega arith) (and_parts _ _ all).1 found

zip_at : {B : Type 0} (test : ℕ → B → Bool) (xs : List ℕ) (ys : List B) → ((k : ℕ) (y : B) → slice_get ys k ≡ Some y → test (get_or xs k 0) y ≡ true)
    → list_all (λ (pair : ℕ × B). test pair.0 pair.1) (zip xs ys) ≡ true
zip_at test [] ys each = refl
zip_at test (x ∷ xs) [] each = refl
zip_at test (x ∷ xs) (y ∷ ys) each =
    ap (λ b. b && list_all (λ pair. test pair.0 pair.1) (zip xs ys)) (each zero y refl)
    ∙ zip_at test xs ys (λ k z found. each (suc k) z found)

-- ---- helpers

five : (a b c d e : Bool) → ((a && b) && (c && (d && e))) ≡ true → (a ≡ true) × (b ≡ true) × (c ≡ true) × (d ≡ true) × (e ≡ true)
five a b c d e h =
    let halves = and_parts (a && b) (c && (d && e)) h in
    let first = and_parts a b halves.0 in
    let rest = and_parts c (d && e) halves.1 in
    let end = and_parts d e rest.1 in
    (first.0, first.1, rest.0, end.0, end.1)

module _ (helpers : HelperCodes) (heights : List ℕ) (fit : heights_fit helpers heights ≡ true) where
  helper_of : (h : ℕ) (r : Routine) → slice_get helpers.routines h ≡ Some r → helper_fits helpers.parameters heights (slice_index heights h) r ≡ true
  helper_of h r found =
      at_zip (helper_fits helpers.parameters heights) heights helpers.routines h r
      (eqb-true _ _ (and_parts _ _ (and_parts _ _ fit).1).0) (and_parts _ _ (and_parts _ _ fit).1).1 found

  parts_of : (h : ℕ) (r : Routine) → slice_get helpers.routines h ≡ Some r
      → (nat_le 1 (slice_index heights h) ≡ true) × (nat_le (slice_index heights h) deepest_calls ≡ true)
      × (list_all (calls_below heights (slice_index heights h)) r.instrs ≡ true)
      × (calls_fit helpers.parameters r ≡ true) × (sees_nothing r ≡ true)
  parts_of h r found = five (nat_le 1 (slice_index heights h)) (nat_le (slice_index heights h) deepest_calls)
      (list_all (calls_below heights (slice_index heights h)) r.instrs) (calls_fit helpers.parameters r) (sees_nothing r)
      (helper_of h r found)

  -- codes whose heights fit are helpers of one another
  pub heights_show : AreHelpers helpers
  heights_show = record {
    counts = eqb-true _ _ (and_parts _ _ fit).0;
    heights = heights;
    bounded = λ h r found. (
      (leb-true _ _ (parts_of h r found).0, leb-true _ _ (parts_of h r found).1),
      (parts_of h r found).2,
    );
    fitting = λ h r found. (parts_of h r found).3;
    blind = λ h r found. (parts_of h r found).4;
  }

-- ---- rows of inputs

rows_at : (cursors : List Cursor) (k : ℕ) (cursor : Cursor) → slice_get cursors k ≡ Some cursor
    → slice_get (rows_of (feeds_of cursors)) k ≡ Some cursor.rows.now
rows_at [] k cursor found = cc
rows_at (c ∷ cs) zero cursor found = let same : c ≡ cursor = cc in ap (λ x. Some x.rows.now) same
rows_at (c ∷ cs) (suc k) cursor found = rows_at cs k cursor found

cursor_at : (cursors : List Cursor) (k : ℕ) (rows : List (List ℤ)) → slice_get (rows_of (feeds_of cursors)) k ≡ Some rows
    → (cursor : Cursor) × (slice_get cursors k ≡ Some cursor) × (cursor.rows.now ≡ rows)
cursor_at [] k rows found = cc
cursor_at (c ∷ cs) zero rows found = (c, refl, let same : c.rows.now ≡ rows = cc in same)
cursor_at (c ∷ cs) (suc k) rows found = cursor_at cs k rows found

rows_long : (cursors : List Cursor) → length (rows_of (feeds_of cursors)) ≡ length cursors
rows_long [] = refl
rows_long (c ∷ cs) = ap suc (rows_long cs)

module _ (widths : List ℕ) (cursors : List Cursor) where
  -- rows that pass the test have the widths
  pub widths_show : length cursors ≡ length widths
      → list_all (λ (pair : ℕ × Cursor). rows_fit pair.0 pair.1.rows.now) (zip widths cursors) ≡ true
      → HaveWidths widths (rows_of (feeds_of cursors))
  widths_show count fit = record {
    count = rows_long cursors ∙ count;
    wide = λ input place rows row found at.
        let c = cursor_at cursors input rows found in
        let within = slice_get_within cursors input c.0 c.1 in
        let wide = at_zip (λ width (cursor : Cursor). rows_fit width cursor.rows.now) widths cursors input c.0 (sym count) fit c.1 in
        let long = list_all-at (λ (row : List ℤ). length row == get_or widths input 0) rows place row
        (subst (λ xs. rows_fit (get_or widths input 0) xs ≡ true) c.2 wide) at in
        slice_get-get_or widths input 0 (omega arith) ∙ ap (λ n. Some n) (sym (eqb-true _ _ long));
  }

  -- rows that have the widths pass the test
  pub widths_fit : HaveWidths widths (rows_of (feeds_of cursors))
      → list_all (λ (pair : ℕ × Cursor). rows_fit pair.0 pair.1.rows.now) (zip widths cursors) ≡ true
  widths_fit have =
      zip_at (λ width (cursor : Cursor). rows_fit width cursor.rows.now) widths cursors (λ k cursor found.
      list_all-each (λ (row : List ℤ). length row == get_or widths k 0) cursor.rows.now (λ place row at.
      eq-eqb _ _ (sym (get_or_from_slice_get widths k (length row) 0
      (have.wide k place cursor.rows.now row (rows_at cursors k cursor found) at)))))

  -- the test of widths is exact where there are as many lists as widths
  pub widths_tested : length cursors ≡ length widths → (b : Bool)
      → b ≡ list_all (λ (pair : ℕ × Cursor). rows_fit pair.0 pair.1.rows.now) (zip widths cursors)
      → (IsTrue b → HaveWidths widths (rows_of (feeds_of cursors))) × (HaveWidths widths (rows_of (feeds_of cursors)) → IsTrue b)
  widths_tested count b e = ((λ t. widths_show count (sym e ∙ t)), (λ have. e ∙ widths_fit have))
