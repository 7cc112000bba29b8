-- What moving one input does to all of them.
use Rattle.std.proofs.Common.{◌≡◌, ◌≢◌, ℕ, zero, suc, ◌+◌, ◌<◌, Bool, true, false, cond, List, [], ◌∷◌, length, Option, Some, None, refl, sym, ap, ◌∙◌, arith, ⊎_elim, ◌==◌}
use Rattle.std.specs.Prelude.{ℤ, slice_get, slice_set, slice_index, option_and_then, option_map}
use Rattle.std.specs.Option.{option_map_or}
use Rattle.std.proofs.lemmas.Bool.{ltb-true, eqb-true, eq-eqb, cases_Bool}
use Rattle.std.proofs.lemmas.Option.{slice_get-map, get_or_from_slice_get}
use Rattle.flame_rows.proofs.Lists.{slice_get-slice_set, slice_get-some}
use Rattle.flame_code.specs.Feeds.{Fed, with_come, has_more, with_more, with_input, last_of, last_come, at_start, has_next, at_next, field}
use Rattle.flame_code.specs.InputRows.{rows_of, HaveWidths}
use Rattle.flame_code.specs.Routines.{Delivered, delivery}
use Rattle.flame_code.specs.OnPath.{AreCurrent}

get_other : (xs : List Fed) (i k : ℕ) (x : Fed) → k ≢ i → slice_get (slice_set xs i x) k ≡ slice_get xs k
get_other [] i k x ne = refl
get_other (y ∷ ys) zero zero x ne = absurd (ne refl)
get_other (y ∷ ys) zero (suc k) x ne = refl
get_other (y ∷ ys) (suc i) zero x ne = refl
get_other (y ∷ ys) (suc i) (suc k) x ne = get_other ys i k x (λ e. ne (ap suc e))

set_rows : (xs : List Fed) (i : ℕ) (x y : Fed) → slice_get xs i ≡ Some y → x.rows ≡ y.rows → rows_of (slice_set xs i x) ≡ rows_of xs
set_rows [] i x y e same = refl
set_rows (z ∷ zs) zero x y e same =
    let f : z ≡ y = cc in ap (λ l. l ∷ rows_of zs) (same ∙ sym (ap (λ f. f.rows) f))
set_rows (z ∷ zs) (suc i) x y e same = ap (λ l. z.rows ∷ l) (set_rows zs i x y e same)

module _ (change : Fed → Fed) (feeds : List Fed) (i : ℕ) where
  kept_by : ((fed : Fed) → (change fed).rows ≡ fed.rows) → (o : Option Fed) → slice_get feeds i ≡ o
      → rows_of (option_map_or (λ fed. slice_set feeds i (change fed)) o feeds) ≡ rows_of feeds
  kept_by same None e = refl
  kept_by same (Some fed) e = set_rows feeds i (change fed) fed e (same fed)

  pub rows-kept : ((fed : Fed) → (change fed).rows ≡ fed.rows) → rows_of (with_input change i feeds) ≡ rows_of feeds
  rows-kept same = kept_by same (slice_get feeds i) refl

  other_by : (k : ℕ) → k ≢ i → (o : Option Fed)
      → slice_get (option_map_or (λ fed. slice_set feeds i (change fed)) o feeds) k ≡ slice_get feeds k
  other_by k ne None = refl
  other_by k ne (Some fed) = get_other feeds i k (change fed) ne

  pub other-kept : (k : ℕ) → k ≢ i → slice_get (with_input change i feeds) k ≡ slice_get feeds k
  other-kept k ne = other_by k ne (slice_get feeds i)

more_rows_by : (b : Bool) (fed : Fed) → (let x : Fed = cond b (with_come (fed.come + 1) fed) fed in x.rows) ≡ fed.rows
more_rows_by true fed = refl
more_rows_by false fed = refl

pub rows-at_start : (i : ℕ) (feeds : List Fed) → rows_of (at_start i feeds) ≡ rows_of feeds
rows-at_start i feeds = rows-kept (with_come 0) feeds i (λ fed. refl)

pub rows-at_next : (i : ℕ) (feeds : List Fed) → rows_of (at_next i feeds) ≡ rows_of feeds
rows-at_next i feeds = rows-kept with_more feeds i (λ fed. more_rows_by (has_more fed) fed)

-- ---- what was delivered

-- an input that moves without a delivery
pub stays_current : (change : Fed → Fed) (i : ℕ) (d : Delivered) (feeds : List Fed) → AreCurrent d feeds → AreCurrent (delivery i false d) (with_input change i feeds)
stays_current change i d feeds all k e =
    ⊎_elim
    (λ t. absurd (let bad : false ≡ true = sym (ap (λ b. cond b false (d k)) t) ∙ e in cc))
    (λ f. let old = all k (sym (ap (λ b. cond b false (d k)) f) ∙ e) in
    let ne : k ≢ i = λ same. let bad : true ≡ false = sym (eq-eqb k i same) ∙ f in cc in
    (old.0, ap (option_and_then last_come) (other-kept change feeds i k ne) ∙ old.1))
    (cases_Bool (k == i))

pub left_current : (i : ℕ) (d : Delivered) (feeds : List Fed) → AreCurrent d feeds → AreCurrent (delivery i false d) feeds
left_current i d feeds all k e =
    ⊎_elim
    (λ t. absurd (let bad : false ≡ true = sym (ap (λ b. cond b false (d k)) t) ∙ e in cc))
    (λ f. all k (sym (ap (λ b. cond b false (d k)) f) ∙ e))
    (cases_Bool (k == i))

pub last_of-next : (rows : List (List ℤ)) (p : ℕ) → last_of (p + 1) rows ≡ slice_get rows p
last_of-next rows p = let e : p + 1 ≡ suc p = omega arith in ap (λ n. last_of n rows) e

came_by : (i : ℕ) (feeds : List Fed) (o : Option Fed) → slice_get feeds i ≡ o → option_map_or has_more o false ≡ true
    → (row : List ℤ) × (option_and_then last_come (slice_get (option_map_or (λ fed. slice_set feeds i (with_more fed)) o feeds) i) ≡ Some row)
came_by i feeds None e h = absurd (let bad : false ≡ true = h in cc)
came_by i feeds (Some fed) e h =
    let row = slice_get-some fed.rows fed.come (ltb-true _ _ h) in
    let moved : with_more fed ≡ with_come (fed.come + 1) fed = ap (λ b. cond b (with_come (fed.come + 1) fed) fed) h in
    (row.0, ap (option_and_then last_come) (slice_get-slice_set feeds i (with_more fed) fed e) ∙ ap last_come moved ∙ last_of-next fed.rows fed.come ∙ row.1)

-- an input of which a row came
pub comes_current : (i : ℕ) (d : Delivered) (feeds : List Fed) → AreCurrent d feeds → has_next i feeds ≡ true → AreCurrent (delivery i true d) (at_next i feeds)
comes_current i d feeds all h k e =
    ⊎_elim
    (λ t. let here = came_by i feeds (slice_get feeds i) refl h in let same : k ≡ i = eqb-true k i t in
    (here.0, ap (λ j. option_and_then last_come (slice_get (at_next i feeds) j)) same ∙ here.1))
    (λ f. let old = all k (sym (ap (λ b. cond b true (d k)) f) ∙ e) in
    let ne : k ≢ i = λ same. let bad : true ≡ false = sym (eq-eqb k i same) ∙ f in cc in
    (old.0, ap (option_and_then last_come) (other-kept with_more feeds i k ne) ∙ old.1))
    (cases_Bool (k == i))

-- ---- fields

wide_of : (w : List ℕ) (feeds : List Fed) (i : ℕ) (fed : Fed) (row : List ℤ) → HaveWidths w (rows_of feeds) → slice_get feeds i ≡ Some fed → (n : ℕ) → last_of n fed.rows ≡ Some row → slice_get w i ≡ Some (length row)
wide_of w feeds i fed row all e zero h = cc
wide_of w feeds i fed row all e (suc p) h = all.wide i p fed.rows row (slice_get-map (λ f. f.rows) feeds i ∙ ap (option_map (λ f. f.rows)) e) h

row_wide : (w : List ℕ) (feeds : List Fed) (i : ℕ) (row : List ℤ) (o : Option Fed) → HaveWidths w (rows_of feeds) → slice_get feeds i ≡ o → option_and_then last_come o ≡ Some row → slice_get w i ≡ Some (length row)
row_wide w feeds i row None all e h = cc
row_wide w feeds i row (Some fed) all e h = wide_of w feeds i fed row all e fed.come h

-- a column of a row that was delivered is there
pub field_there : (w : List ℕ) (d : Delivered) (feeds : List Fed) (i v : ℕ) → HaveWidths w (rows_of feeds) → AreCurrent d feeds → d i ≡ true → v < slice_index w i → (x : ℤ) × (field i v feeds ≡ Some x)
field_there w d feeds i v all now came h =
    let row = now i came in
    let wide = row_wide w feeds i row.0 (slice_get feeds i) all refl row.1 in
    let size : slice_index w i ≡ length row.0 = get_or_from_slice_get w i (length row.0) 0 wide in
    let x = slice_get-some row.0 v (omega arith) in
    (x.0, ap (option_and_then (λ row. slice_get row v)) row.1 ∙ x.1)
