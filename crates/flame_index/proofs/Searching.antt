-- Searches in the values of an index: what they pass, and how many probes they take.
use Rattle.std.proofs.Common.{◌≡◌, ℕ, zero, suc, ◌+◌, ◌-◌, ◌/◌, ◌^◌, ◌<◌, ◌≤◌, ◌↔◌, Bool, true, false, List, length, get_or, Some, sym, ap, ◌∙◌, subst, arith, true≢false, ⊎_elim, IsTrue, filter, slice_get, slice_range, option_map}
use Rattle.std.specs.Prelude.{ℤ, pos, int_le, int_lt}
use Rattle.std.specs.Ordering.{is_gt, int_cmp, nat_cmp}
use Rattle.std.specs.Cmp.{signed_Decides}
use Rattle.std.proofs.Math.Nat.{pow-succ'}
use Rattle.std.proofs.lemmas.Bool.{cases_lt, false_from_ne_true}
use Rattle.std.proofs.lemmas.Int.{ints}
use Rattle.std.proofs.lemmas.Option.{slice_get-map, slice_get-get_or}
use Rattle.flame_rows.specs.Sorted.{IsAscending}
use Rattle.flame_rows.proofs.Sorting.{IsAscending-sorted_by}
use Rattle.flame_spec.proofs.Viewed.{first_not_gt}
use Rattle.flame_cond.specs.Equalities.{has_value}
use Rattle.flame_index.specs.Indexes.{Entry, IndexTable, entries_from, entry_order, IsIndexOf, values_of, places_of, rows_at}
use Rattle.flame_index.specs.IndexBodies.{is_passed}
use Rattle.flame_index.proofs.SortedParts.{IsAscending-at, IsAscending-seen}
use Rattle.flame_index.proofs.Entered.{entry_total}
use Rattle.flame_index.proofs.Ranged.{is_at, rows_in_range}

-- ---- the values ascend

pub values_ascend : (index : IndexTable) (rows : List (List ℤ)) → IsIndexOf index rows → index.key.descending ≡ false → IsAscending int_cmp (values_of index)
values_ascend index rows stands forward =
    let entries : List Entry = entries_from index.key.column 0 rows in
    let up : IsAscending (entry_order index.key.descending) index.entries =
    subst (IsAscending (entry_order index.key.descending)) (sym stands)
    (IsAscending-sorted_by (entry_order index.key.descending) (entry_total index.key.descending) entries) in
    let ahead : IsAscending (entry_order false) index.entries = subst (λ t. IsAscending (entry_order t) index.entries) forward up in
    IsAscending-seen (entry_order false) int_cmp (λ (entry : Entry). entry.value) (λ (entry : Entry). Unit {0})
    (λ one two a b h. first_not_gt (int_cmp one.value two.value) (nat_cmp one.place two.place) h)
    index.entries (λ k d h. tt) ahead

-- ---- what a search passes

le_down : (wanted v w : ℤ) → is_gt (int_cmp v w) ≡ false → int_le w wanted ≡ true → int_le v wanted ≡ true
le_down wanted v w up h = grind (arith, ints)

lt_down : (wanted v w : ℤ) → is_gt (int_cmp v w) ≡ false → int_lt w wanted ≡ true → int_lt v wanted ≡ true
lt_down wanted v w up h = grind (arith, ints)

passed_down : (through : Bool) (wanted v w : ℤ) → is_gt (int_cmp v w) ≡ false → is_passed through wanted w ≡ true → is_passed through wanted v ≡ true
passed_down true wanted v w up h = le_down wanted v w up h
passed_down false wanted v w up h = lt_down wanted v w up h

-- of values in order a search passes those before a place, or leaves those from there
module _ (values : List ℤ) (through : Bool) (wanted : ℤ) where
  abbrev pub IsPassedBelow : ℕ → Type 0
  IsPassedBelow low = (at : ℕ) (value : ℤ) → slice_get values at ≡ Some value → at < low → is_passed through wanted value ≡ true

  abbrev pub IsLeftFrom : ℕ → Type 0
  IsLeftFrom high = (at : ℕ) (value : ℤ) → slice_get values at ≡ Some value → high ≤ at → is_passed through wanted value ≡ false

  module _ (up : IsAscending int_cmp values) (middle : ℕ) (found : ℤ) (there : slice_get values middle ≡ Some found) where
    pub passed_to : is_passed through wanted found ≡ true → IsPassedBelow (middle + 1)
    passed_to passed at value here less =
        ⊎_elim
        (λ (before : at < middle).
        passed_down through wanted value found (IsAscending-at int_cmp values at middle value found before up here there) passed)
        (λ (after : middle ≤ at).
        let same : at ≡ middle = omega arith in
        let one : Some found ≡ Some value = sym there ∙ ap (slice_get values) (sym same) ∙ here in
        let equal : found ≡ value = cc in
        subst (λ v. is_passed through wanted v ≡ true) equal passed)
        (cases_lt at middle)

    pub left_from : is_passed through wanted found ≡ false → IsLeftFrom middle
    left_from stays at value here least =
        ⊎_elim
        (λ (after : middle < at).
        false_from_ne_true (is_passed through wanted value)
        (λ passed. true≢false (sym (passed_down through wanted found value (IsAscending-at int_cmp values middle at found value after up there here) passed) ∙ stays)))
        (λ (before : at ≤ middle).
        let same : at ≡ middle = omega arith in
        let one : Some found ≡ Some value = sym there ∙ ap (slice_get values) (sym same) ∙ here in
        let equal : found ≡ value = cc in
        subst (λ v. is_passed through wanted v ≡ false) equal stays)
        (cases_lt middle at)

-- ---- how many probes it takes

-- so many are left of d probes, since there were old ones, and they halve what lies between the bounds to nothing
pub record IsLeft (d old now low high : ℕ) : Type 0 where
  pub left : ℕ
  pub bound : now + left ≤ old + d
  pub width : high < low + 2 ^ left

above : (d old now low high left : ℕ) → low < high → now + left ≤ old + d → high < low + 2 ^ left → IsLeft d old (now + 1) (low + (high - low) / 2 + 1) high
above d old now low high zero less bound width = absurd (omega (arith, less, width))
above d old now low high (suc left) less bound width =
    record { left = left; bound = omega (arith, bound); width = omega (arith, less, width, pow-succ' 2 left) }

below : (d old now low high left : ℕ) → low < high → now + left ≤ old + d → high < low + 2 ^ left → IsLeft d old (now + 1) low (low + (high - low) / 2)
below d old now low high zero less bound width = absurd (omega (arith, less, width))
below d old now low high (suc left) less bound width =
    record { left = left; bound = omega (arith, bound); width = omega (arith, less, width, pow-succ' 2 left) }

pub left_above : (d old now low high : ℕ) → low < high → IsLeft d old now low high → IsLeft d old (now + 1) (low + (high - low) / 2 + 1) high
left_above d old now low high less so = above d old now low high so.left less so.bound so.width

pub left_below : (d old now low high : ℕ) → low < high → IsLeft d old now low high → IsLeft d old (now + 1) low (low + (high - low) / 2)
left_below d old now low high less so = below d old now low high so.left less so.bound so.width

-- ---- the range of one value

lt_le : (number wanted : ℤ) → int_lt number wanted ≡ true → int_le number wanted ≡ true
lt_le number wanted h = grind (arith, ints)

le_itself : (number : ℤ) → int_le number number ≡ true
le_itself number = grind (arith, ints)

lt_itself : (number : ℤ) → int_lt number number ≡ true → ⊥
lt_itself number h = grind (arith, ints)

between : (number wanted : ℤ) → int_lt number wanted ≡ false → int_le number wanted ≡ true → number ≡ wanted
between number wanted a b = grind (arith, ints)

-- a bound parts the values by whether a search passes them
abbrev pub Parts : List ℤ → Bool → ℤ → ℕ → Type 0
Parts values through wanted bound =
    (at : ℕ) (value : ℤ) → slice_get values at ≡ Some value → (at < bound) ↔ IsTrue (is_passed through wanted value)

-- a range has the places with the number, and no other
abbrev pub IsRangeIn : List ℤ → ℤ → ℕ → ℕ → Type 0
IsRangeIn values wanted low high =
    (at : ℕ) (number : ℤ) → slice_get values at ≡ Some number → ((low ≤ at) × (at < high)) ↔ (number ≡ wanted)

pub range_order : (values : List ℤ) (wanted : ℤ) (low high : ℕ) → low ≤ length values
    → Parts values false wanted low → Parts values true wanted high → low ≤ high
range_order values wanted low high within one two =
    ⊎_elim
    (λ (less : high < low).
    let value : ℤ = get_or values high (pos 0) in
    let inside : high < length values = omega arith in
    let there : slice_get values high ≡ Some value = slice_get-get_or values high (pos 0) inside in
    let more : high < high = (two high value there).1 (lt_le value wanted ((one high value there).0 less)) in
    absurd (omega (arith, more)))
    (λ (least : low ≤ high). least)
    (cases_lt high low)

pub range_values : (values : List ℤ) (wanted : ℤ) (low high : ℕ)
    → Parts values false wanted low → Parts values true wanted high → IsRangeIn values wanted low high
range_values values wanted low high one two at number there =
    let upper = two at number there in
    let lower = one at number there in (
      λ inside.
          between number wanted
          (false_from_ne_true (int_lt number wanted) (λ h. let less : at < low = lower.1 h in absurd (omega (arith, less, inside.0))))
          (upper.0 inside.1),
      λ same. (
        ⊎_elim
            (λ (less : at < low). absurd (lt_itself wanted (subst (λ n. int_lt n wanted ≡ true) same (lower.0 less))))
            (λ (least : low ≤ at). least)
            (cases_lt at low),
        upper.1 (subst (λ n. int_le n wanted ≡ true) (sym same) (le_itself wanted)),
      ),
    )

pub rows_by_values : (index : IndexTable) (rows : List (List ℤ)) (wanted : ℤ) (low high : ℕ) → IsIndexOf index rows
    → low ≤ high → high ≤ length index.entries → IsRangeIn (values_of index) wanted low high
    → rows_at (slice_range (places_of index) low high) rows ≡ filter (has_value index.key.column wanted) rows
rows_by_values index rows wanted low high stands order within range =
    rows_in_range index rows wanted low high stands order within before inside after
  where
    valued : (at : ℕ) (entry : Entry) → slice_get index.entries at ≡ Some entry → slice_get (values_of index) at ≡ Some entry.value
    valued at entry there =
        slice_get-map (λ (one : Entry). one.value) index.entries at ∙ ap (option_map (λ (one : Entry). one.value)) there

    before : (at : ℕ) (entry : Entry) → slice_get index.entries at ≡ Some entry → at < low → is_at wanted entry ≡ false
    before at entry there less =
        false_from_ne_true (is_at wanted entry) (λ h.
        let inside = (range at entry.value (valued at entry there)).1 ((signed_Decides entry.value wanted).0 h) in
        absurd (omega (arith, less, inside.0)))

    inside : (at : ℕ) (entry : Entry) → slice_get index.entries at ≡ Some entry → low ≤ at → at < high → is_at wanted entry ≡ true
    inside at entry there least less =
        (signed_Decides entry.value wanted).1 ((range at entry.value (valued at entry there)).0 (least, less))

    after : (at : ℕ) (entry : Entry) → slice_get index.entries at ≡ Some entry → high ≤ at → is_at wanted entry ≡ false
    after at entry there least =
        false_from_ne_true (is_at wanted entry) (λ h.
        let inside = (range at entry.value (valued at entry there)).1 ((signed_Decides entry.value wanted).0 h) in
        absurd (omega (arith, least, inside.1)))
