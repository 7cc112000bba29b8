-- Tables of starts: what stands before a place, and one count more.
use Rattle.std.proofs.Common.{◌≡◌, ℕ, zero, suc, ◌+◌, ◌-◌, ◌<◌, ◌≤◌, true, false, List, [], ◌∷◌, ◌++◌, length, Option, Some, None, ◌⊎◌, inl, inr, refl, sym, ap, ◌∙◌, subst, arith, true≢false, ⊎_elim, slice_get}
use Rattle.std.specs.Prelude.{ℤ, pos, ◌+ℤ◌, ◌-ℤ◌, ◌≤ℤ◌, IfSome, int_le, int_lt}
use Rattle.std.specs.Ordering.{int_cmp, is_gt}
use Rattle.std.proofs.lemmas.Bool.{cases_lt}
use Rattle.std.proofs.lemmas.Int.{ints}
use Rattle.std.proofs.lemmas.Option.{slice_get_within}
use Rattle.flame_rows.specs.Sorted.{IsAscending}
use Rattle.flame_index.specs.IndexBodies.{IsStartOf, IsBoundOf, AreStartsOf, IsLessBelow, LieBetween, IsTableOf}
use Rattle.flame_index.proofs.SortedParts.{IsAscending-at}
use Rattle.flame_index.proofs.Searching.{passed_to, left_from}

-- ---- where values begin

module _ (wanted : ℤ) (values : List ℤ) where
  pub start_by : (place : ℕ) → place ≤ length values → IsLessBelow wanted values place
      → ((at : ℕ) (value : ℤ) → slice_get values at ≡ Some value → place ≤ at → int_lt value wanted ≡ false)
      → IsStartOf wanted values place
  start_by place within below left = record {
    within = within;
    sides = λ at value there. (
      λ less. below at value there less,
      λ is.
          ⊎_elim
          (λ (less : at < place). less)
          (λ (least : place ≤ at). absurd (true≢false (sym is ∙ left at value there least)))
          (cases_lt at place),
    );
  }

  pub less_to : IsAscending int_cmp values → (at : ℕ) (value : ℤ) → slice_get values at ≡ Some value → int_lt value wanted ≡ true → IsLessBelow wanted values (at + 1)
  less_to up at value there less = passed_to values false wanted up at value there less

  pub start_here : IsAscending int_cmp values → (at : ℕ) (value : ℤ) → at < length values → IsLessBelow wanted values at
      → slice_get values at ≡ Some value → int_lt value wanted ≡ false → IsStartOf wanted values at
  start_here up at value within below there stays =
      start_by at (omega (arith, within)) below (left_from values false wanted up at value there stays)

pub start_at_end : (wanted : ℤ) (values : List ℤ) (place : ℕ) → place ≤ length values → length values ≤ place → IsLessBelow wanted values place → IsStartOf wanted values place
start_at_end wanted values place within all below =
    start_by wanted values place within below (λ at value there least. let less : at < length values = slice_get_within values at value there in absurd (omega (arith, less, least, all)))

-- ---- the next number

lt_next : (value least : ℤ) (k : ℕ) → int_lt value (least +ℤ pos k) ≡ true → int_lt value (least +ℤ pos (k + 1)) ≡ true
lt_next value least k h = grind (arith, ints)

pub less_on : (least : ℤ) (k : ℕ) (values : List ℤ) (place : ℕ) → IsStartOf (least +ℤ pos k) values place → IsLessBelow (least +ℤ pos (k + 1)) values place
less_on least k values place is at value there less = lt_next value least k ((is.sides at value there).0 less)

-- ---- one count more

get_push : {X : Type 0} (xs : List X) (x y : X) (at : ℕ) → slice_get (xs ++ x ∷ []) at ≡ Some y → (slice_get xs at ≡ Some y) ⊎ ((at ≡ length xs) × (x ≡ y))
get_push [] x y zero e = let same : x ≡ y = cc in inr (refl, same)
get_push [] x y (suc at) e = absurd (cc)
get_push (z ∷ xs) x y zero e = inl e
get_push (z ∷ xs) x y (suc at) e =
    ⊎_elim
    (λ (old : slice_get xs at ≡ Some y). inl old)
    (λ (new : (at ≡ length xs) × (x ≡ y)). inr (ap suc new.0, new.1))
    (get_push xs x y at e)

pub starts_push : (least : ℤ) (counts : List ℕ) (count : ℕ) (values : List ℤ) → AreStartsOf least counts values
    → IsStartOf (least +ℤ pos (length counts)) values count → AreStartsOf least (counts ++ count ∷ []) values
starts_push least counts count values old new place one there =
    ⊎_elim
    (λ (before : slice_get counts place ≡ Some one). old place one before)
    (λ (last : (place ≡ length counts) × (count ≡ one)).
    subst (λ c. IsStartOf (least +ℤ pos place) values c) last.1
    (subst (λ k. IsStartOf (least +ℤ pos k) values count) (sym last.0) new))
    (get_push counts count one place there)

-- ---- a start, as a search gives it

le_next : (value wanted : ℤ) → int_lt value (wanted +ℤ pos 1) ≡ int_le value wanted
le_next value wanted = grind (arith, ints)

pub bounds_start : (wanted : ℤ) (values : List ℤ) (o : Option ℕ) → IfSome o (λ place. IsStartOf wanted values place) → IfSome o (λ place. IsBoundOf false wanted values place)
bounds_start wanted values None is = is
bounds_start wanted values (Some place) is = record { within = is.within; sides = is.sides }

pub bounds_next : (wanted : ℤ) (values : List ℤ) (o : Option ℕ) → IfSome o (λ place. IsStartOf (wanted +ℤ pos 1) values place) → IfSome o (λ place. IsBoundOf true wanted values place)
bounds_next wanted values None is = is
bounds_next wanted values (Some place) is = record {
  within = is.within;
  sides = λ at value there. (
    λ less. sym (le_next value wanted) ∙ (is.sides at value there).0 less,
    λ h. (is.sides at value there).1 (le_next value wanted ∙ h),
  );
}

-- ---- what a test of one value tells

pub not_less : (wanted value : ℤ) → int_le wanted value ≡ true → int_lt value wanted ≡ false
not_less wanted value h = grind (arith, ints)

pub is_less : (wanted value : ℤ) → int_le wanted value ≡ false → int_lt value wanted ≡ true
is_less wanted value h = grind (arith, ints)

-- ---- the whole table

le_of_order : (v w : ℤ) → is_gt (int_cmp v w) ≡ false → int_le v w ≡ true
le_of_order v w h = grind (arith, ints)

le_same : (v w : ℤ) → v ≡ w → int_le v w ≡ true
le_same v w h = grind (arith, ints)

-- values in order lie between the first and the last
pub lie_between : (values : List ℤ) (first last : ℤ) → IsAscending int_cmp values → slice_get values 0 ≡ Some first
    → slice_get values (length values - 1) ≡ Some last → LieBetween first last values
lie_between values first last up one two at value there =
    let inside : at < length values = slice_get_within values at value there in (
      ⊎_elim
          (λ (less : 0 < at). le_of_order first value (IsAscending-at int_cmp values 0 at first value less up one there))
          (λ (least : at ≤ 0).
          let same : at ≡ 0 = omega (arith, least) in
          let both : Some first ≡ Some value = sym one ∙ ap (slice_get values) (sym same) ∙ there in
          le_same first value (cc))
          (cases_lt 0 at),
      ⊎_elim
          (λ (less : at < length values - 1).
          le_of_order value last (IsAscending-at int_cmp values at (length values - 1) value last less up there two))
          (λ (least : length values - 1 ≤ at).
          let same : at ≡ length values - 1 = omega (arith, least, inside) in
          let both : Some value ≡ Some last = sym there ∙ ap (slice_get values) same ∙ two in
          le_same value last (cc))
          (cases_lt at (length values - 1)),
    )

back_two : (a b : ℤ) → a ≡ (b +ℤ pos 2) → b ≡ (a -ℤ pos 2)
back_two a b h = grind (arith, ints)

pub table_by : (least greatest : ℤ) (counts : List ℕ) (values : List ℤ) (extent : ℕ) → length counts ≡ extent
    → (0 < extent → (least +ℤ pos extent) ≡ (greatest +ℤ pos 2)) → LieBetween least greatest values → AreStartsOf least counts values
    → IsTableOf least counts values
table_by least greatest counts values extent long wide bounds starts = record {
  starts = starts;
  ends = λ some.
      let width : (least +ℤ pos (length counts)) ≡ (greatest +ℤ pos 2) =
      ap (λ n. least +ℤ pos n) long ∙ wide (subst (λ n. 0 < n) long some) in
      subst (λ last. LieBetween least last values) (back_two (least +ℤ pos (length counts)) greatest width) bounds;
}

-- ---- numbers that the table does not reach

lt_under : (v n w : ℤ) → int_lt v n ≡ true → n ≤ℤ w → int_lt v w ≡ true
lt_under v n w h k = grind (arith, ints)

lt_least : (v least w : ℤ) → int_le least v ≡ true → int_lt v (least +ℤ pos 0) ≡ true → int_lt v w ≡ true
lt_least v least w h k = grind (arith, ints)

lt_last : (v least : ℤ) (place extent : ℕ) → int_le v ((least +ℤ pos extent) -ℤ pos 2) ≡ true → extent ≤ place + 1 → int_lt v (least +ℤ pos place) ≡ true
lt_last v least place extent h k = grind (arith, ints)

less_than_wanted : (v least wanted : ℤ) (place : ℕ) → int_le least v ≡ true → (0 < place → (least +ℤ pos place) ≤ℤ wanted)
    → int_lt v (least +ℤ pos place) ≡ true → int_lt v wanted ≡ true
less_than_wanted v least wanted zero from low less = lt_least v least wanted from less
less_than_wanted v least wanted (suc k) from low less = lt_under v (least +ℤ pos (suc k)) wanted less (low (omega arith))

less_than_place : (v least wanted : ℤ) (place extent : ℕ) → int_le v ((least +ℤ pos extent) -ℤ pos 2) ≡ true
    → (place + 1 < extent → wanted ≤ℤ (least +ℤ pos place)) → int_lt v wanted ≡ true → int_lt v (least +ℤ pos place) ≡ true
less_than_place v least wanted place extent to high less =
    ⊎_elim
    (λ (more : place + 1 < extent). lt_under v wanted (least +ℤ pos place) less (high more))
    (λ (end : extent ≤ place + 1). lt_last v least place extent to end)
    (cases_lt (place + 1) extent)

-- the count in the place that is nearest to a number's is where the number begins
pub start_near : (least wanted : ℤ) (counts : List ℕ) (values : List ℤ) → IsTableOf least counts values
    → (place count : ℕ) → slice_get counts place ≡ Some count
    → (0 < place → (least +ℤ pos place) ≤ℤ wanted)
    → (place + 1 < length counts → wanted ≤ℤ (least +ℤ pos place))
    → IsStartOf wanted values count
start_near least wanted counts values table place count there low high =
    let here : IsStartOf (least +ℤ pos place) values count = table.starts place count there in
    let inside : place < length counts = slice_get_within counts place count there in
    let bounds : LieBetween least ((least +ℤ pos (length counts)) -ℤ pos 2) values = table.ends (omega (arith, inside)) in
    record {
      within = here.within;
      sides = λ at value is. (
        λ before. less_than_wanted value least wanted place (bounds at value is).0 low ((here.sides at value is).0 before),
        λ less.
            (here.sides at value is).1
            (less_than_place value least wanted place (length counts) (bounds at value is).1 high less),
      );
    }
