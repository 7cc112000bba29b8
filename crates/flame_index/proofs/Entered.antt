-- The entries of rows, their order, and the rows that they stand for.
use Rattle.std.proofs.Common.{◌≡◌, ℕ, zero, suc, ◌+◌, ◌<◌, Bool, true, false, cond, List, [], ◌∷◌, ◌++◌, map, length, get_or, take, drop, refl, sym, ap, ap₂, ◌∙◌, arith, Ordering, Less, Equal, Greater, All}
use Rattle.std.specs.Prelude.{ℤ, slice_index_or}
use Rattle.std.specs.Ordering.{nat_cmp, flip_args, ordering_then}
use Rattle.std.specs.Cmp.{IsTotalOrder, int_cmp_total, nat_cmp_total, on_total, back_total, then_total}
use Rattle.std.specs.FinMap.{int_cmp-IsAntisymmetric, nat_cmp-IsAntisymmetric}
use Rattle.std.proofs.lemmas.List.{take_more, length-take-le}
use Rattle.std.proofs.lemmas.List.Elements.{All-nil, All-cons}
use Rattle.flame_spec.specs.Conditions.{number_at}
use Rattle.flame_index.specs.declared.entries.Pair.{Pair}
use Rattle.flame_index.specs.Indexes.{Entry, entry_at, entries_from, value_order, entry_order}
use Rattle.flame_index.specs.IndexBodies.{entry_of, entries_of}

-- ---- one entry more

pub entries_from-push : (column place : ℕ) (rows : List (List ℤ)) (row : List ℤ)
    → entries_from column place (rows ++ row ∷ []) ≡ entries_from column place rows ++ entry_at column (place + length rows) row ∷ []
entries_from-push column place [] row =
    let same : place ≡ place + 0 = omega arith in ap (λ n. entry_at column n row ∷ []) same
entries_from-push column place (first ∷ rows) row =
    let along : suc place + length rows ≡ place + suc (length rows) = omega arith in
    ap (λ rest. entry_at column place first ∷ rest)
    (entries_from-push column (suc place) rows row
    ∙ ap (λ n. entries_from column (suc place) rows ++ entry_at column n row ∷ []) along)

pub entries_from-take : (column k : ℕ) (rows : List (List ℤ)) (row : List ℤ) → k < length rows → row ≡ get_or rows k row
    → entries_from column 0 (take (k + 1) rows) ≡ entries_from column 0 (take k rows) ++ entry_at column k row ∷ []
entries_from-take column k rows row within at =
    let all : 0 + length (take k rows) ≡ k = omega (arith, length-take-le k rows (omega (arith, within))) in
    ap (entries_from column 0) (take_more rows k row within ∙ ap (λ r. take k rows ++ r ∷ []) (sym at))
    ∙ entries_from-push column 0 (take k rows) row
    ∙ ap (λ n. entries_from column 0 (take k rows) ++ entry_at column n row ∷ []) all

pub length-entries_from : (column place : ℕ) (rows : List (List ℤ)) → length (entries_from column place rows) ≡ length rows
length-entries_from column place [] = refl
length-entries_from column place (row ∷ rows) = ap suc (length-entries_from column (suc place) rows)

-- ---- values and places beside each other

pub entries_of-pairs : (pairs : List Pair) → entries_of (map (λ pair. pair.value) pairs) (map (λ pair. pair.place) pairs) ≡ map entry_of pairs
entries_of-pairs [] = refl
entries_of-pairs (pair ∷ pairs) = ap (λ rest. entry_of pair ∷ rest) (entries_of-pairs pairs)

pub values-entries_of : (values : List ℤ) (places : List ℕ) → length values ≡ length places → map (λ entry. entry.value) (entries_of values places) ≡ values
values-entries_of [] places long = refl
values-entries_of (value ∷ values) [] long = absurd (omega (arith, long))
values-entries_of (value ∷ values) (place ∷ places) long =
    ap (λ rest. value ∷ rest) (values-entries_of values places (omega (arith, long)))

pub places-entries_of : (values : List ℤ) (places : List ℕ) → length values ≡ length places → map (λ entry. entry.place) (entries_of values places) ≡ places
places-entries_of [] [] long = refl
places-entries_of [] (place ∷ places) long = absurd (omega (arith, long))
places-entries_of (value ∷ values) [] long = absurd (omega (arith, long))
places-entries_of (value ∷ values) (place ∷ places) long =
    ap (λ rest. place ∷ rest) (places-entries_of values places (omega (arith, long)))

pub length-entries_of : (values : List ℤ) (places : List ℕ) → length values ≡ length places → length (entries_of values places) ≡ length values
length-entries_of [] places long = refl
length-entries_of (value ∷ values) [] long = absurd (omega (arith, long))
length-entries_of (value ∷ values) (place ∷ places) long = ap suc (length-entries_of values places (omega (arith, long)))

-- ---- the rows that entries stand for

abbrev pub row_of : List (List ℤ) → Entry → List ℤ
row_of rows entry = slice_index_or rows entry.place []

pub record IsEntryOf (column : ℕ) (rows : List (List ℤ)) (entry : Entry) : Type 0 where
  pub within : entry.place < length rows
  pub value : entry.value ≡ number_at (row_of rows entry) column

at_drop : {X : Type 0} (all rest : List X) (place : ℕ) (x d : X) → drop place all ≡ x ∷ rest
    → (place < length all) × (slice_index_or all place d ≡ x) × (drop (suc place) all ≡ rest)
at_drop [] rest zero x d e = absurd (cc)
at_drop [] rest (suc place) x d e = absurd (cc)
at_drop (y ∷ all) rest zero x d e =
    let one : y ≡ x = cc in
    let more : all ≡ rest = cc in
    (omega arith, one, more)
at_drop (y ∷ all) rest (suc place) x d e =
    let there = at_drop all rest place x d e in (omega (arith, there.0), there.1, there.2)

module _ (column : ℕ) (all : List (List ℤ)) where
  pub entries_are : (place : ℕ) (rows : List (List ℤ)) → drop place all ≡ rows → All (IsEntryOf column all) (entries_from column place rows)
  entries_are place [] e = All-nil (IsEntryOf column all)
  entries_are place (row ∷ rows) e =
      let there = at_drop all rows place row [] e in
      All-cons (IsEntryOf column all) (entry_at column place row) (entries_from column (suc place) rows)
      (record { within = there.0; value = ap (λ r. number_at r column) (sym there.1) })
      (entries_are (suc place) rows there.2)

  pub rows_seen : (place : ℕ) (rows : List (List ℤ)) → drop place all ≡ rows → map (row_of all) (entries_from column place rows) ≡ rows
  rows_seen place [] e = refl
  rows_seen place (row ∷ rows) e =
      let there = at_drop all rows place row [] e in
      ap₂ (λ one more. one ∷ more) there.1 (rows_seen (suc place) rows there.2)

-- ---- the order of entries

value_total : IsTotalOrder value_order
value_total = on_total (λ (entry : Entry). entry.value) int_cmp_total

-- by value in a direction
abbrev pub directed : Bool → Entry → Entry → Ordering
directed descending = cond descending (flip_args value_order) value_order

directed_total : (descending : Bool) → IsTotalOrder (directed descending)
directed_total true = back_total value_total
directed_total false = value_total

pub entry_total : (descending : Bool) → IsTotalOrder (entry_order descending)
entry_total descending =
    then_total (directed_total descending) (on_total (λ (entry : Entry). entry.place) nat_cmp_total)

both_equal : (o p : Ordering) → ordering_then o p ≡ Equal → (o ≡ Equal) × (p ≡ Equal)
both_equal Less p h = absurd (cc)
both_equal Equal p h = (refl, h)
both_equal Greater p h = absurd (cc)

directed_tied : (descending : Bool) (one two : Entry) → directed descending one two ≡ Equal → one.value ≡ two.value
directed_tied true one two e = sym (int_cmp-IsAntisymmetric two.value one.value e)
directed_tied false one two e = int_cmp-IsAntisymmetric one.value two.value e

pub entry_tied : (descending : Bool) (one two : Entry) → entry_order descending one two ≡ Equal → one ≡ two
entry_tied descending one two e =
    let parts = both_equal (directed descending one two) (nat_cmp one.place two.place) e in
    let values : one.value ≡ two.value = directed_tied descending one two parts.0 in
    let places : one.place ≡ two.place = nat_cmp-IsAntisymmetric one.place two.place parts.1 in
    λ i. record { value = values i; place = places i }

-- ---- an index as it lies in memory

module _ (values : List ℤ) (places : List ℕ) (long : length values ≡ length places) (entries : List Entry) (laid : entries_of values places ≡ entries) where
  pub laid_values : map (λ entry. entry.value) entries ≡ values
  laid_values = ap (map (λ (entry : Entry). entry.value)) (sym laid) ∙ values-entries_of values places long

  pub laid_places : map (λ entry. entry.place) entries ≡ places
  laid_places = ap (map (λ (entry : Entry). entry.place)) (sym laid) ∙ places-entries_of values places long

  pub laid_length : length entries ≡ length values
  laid_length = ap length (sym laid) ∙ length-entries_of values places long
