-- Labels that fit show that a code is valid.
use Rattle.std.proofs.Common.{◌≡◌, ◌≢◌, ℕ, zero, suc, ◌+◌, ◌-◌, ◌<◌, ◌≤◌, ◌==◌, Bool, true, false, not, cond, ◌&&◌, ◌||◌, List, [], ◌∷◌, length, drop, Option, Some, None, refl, sym, ap, ◌∙◌, subst, arith, ◌⊎◌, inl, inr, ⊎_elim}
use Rattle.std.specs.Prelude.{slice_get, nat_le}
use Rattle.std.specs.List.{list_all}
use Rattle.std.specs.Option.{option_map_or}
use Rattle.std.proofs.lemmas.Bool.{and_parts, false_from_ne_true, eqb-true, ltb-true, leb-true, not-true, or_cases}
use Rattle.std.proofs.lemmas.Option.{slice_get_within}
use Rattle.flame_spec.specs.declared.outcomes.Widths.{Widths}
use Rattle.flame_code.specs.declared.instrs.Instr.{Instr}
use Rattle.flame_code.specs.declared.instrs.Instr.TheVariants.{Mem, SetMem, MemAt, SetMemAt}
use Rattle.flame_code.specs.declared.instrs.Instr.TheVariants.{Const, Field, FieldAt}
use Rattle.flame_code.specs.declared.instrs.Instr.TheVariants.{Pay}
use Rattle.flame_code.specs.declared.instrs.Instr.TheVariants.{Enter, Next, Leave, Send, Bear, Return}
use Rattle.flame_code.specs.declared.labels.Label.{Label}
use Rattle.flame_code.specs.Routines.{Routine, takes, leaves, goes_on, target, reads, Delivered, passed, jumped, IsWithin}
use Rattle.flame_code.specs.Validity.{Path, starts, goes, jumps, SpendsFuel, GoesForward, IsValid}
use Rattle.flame_code.specs.Labels.{has_input, has_passed, has_jumped, fits_at, goes_fit, spends, forward_fit, target_fit, is_within, place_fits, all_fit, starts_fit, is_return, labels_fit}

six : (a b c d e f : Bool) → (a && (b && (c && (d && (e && f))))) ≡ true → (a ≡ true) × (b ≡ true) × (c ≡ true) × (d ≡ true) × (e ≡ true) × (f ≡ true)
six true true true true true f h = (refl, refl, refl, refl, refl, h)
six true true true true false f h = absurd (let bad : false ≡ true = h in cc)
six true true true false e f h = absurd (let bad : false ≡ true = h in cc)
six true true false d e f h = absurd (let bad : false ≡ true = h in cc)
six true false c d e f h = absurd (let bad : false ≡ true = h in cc)
six false b c d e f h = absurd (let bad : false ≡ true = h in cc)

-- ---- rows

member : (test : ℕ → Bool) (rows : List ℕ) (k : ℕ) → list_all test rows ≡ true → has_input rows k ≡ true → test k ≡ true
member test [] k all e = absurd (let bad : false ≡ true = e in cc)
member test (x ∷ xs) k all e =
    ⊎_elim (λ t. subst (λ y. test y ≡ true) (eqb-true x k t) (and_parts _ _ all).0)
    (λ t. member test xs k (and_parts _ _ all).1 t)
    (or_cases (x == k) (has_input xs k) e)

gone : (k i : ℕ) (rows : List ℕ) (d : Delivered) → ((k : ℕ) → has_input rows k ≡ true → d k ≡ true) → (not (k == i) && has_input rows k) ≡ true → cond (k == i) false (d k) ≡ true
gone k i rows d knows e =
    let p = and_parts _ _ e in
    ap (λ b. cond b false (d k)) (not-true (k == i) p.0) ∙ knows k p.1

come : (k i : ℕ) (rows : List ℕ) (d : Delivered) → ((k : ℕ) → has_input rows k ≡ true → d k ≡ true) → ((k == i) || has_input rows k) ≡ true → cond (k == i) true (d k) ≡ true
come k i rows d knows e = by_case (k == i) (or_cases (k == i) (has_input rows k) e) (knows k)
  where
    by_case : (b : Bool) → (b ≡ true) ⊎ (has_input rows k ≡ true) → (has_input rows k ≡ true → d k ≡ true) → cond b true (d k) ≡ true
    by_case true o f = refl
    by_case false (inl e) f = absurd (let bad : false ≡ true = e in cc)
    by_case false (inr e) f = f e

passed_known : (i : Instr) (rows : List ℕ) (d : Delivered) → ((k : ℕ) → has_input rows k ≡ true → d k ≡ true) → (k : ℕ) → has_passed i rows k ≡ true → passed i d k ≡ true
passed_known (Enter j) rows d knows k e = gone k j rows d knows e
passed_known (Next l j t) rows d knows k e = come k j rows d knows e
passed_known (Leave j) rows d knows k e = gone k j rows d knows e
passed_known i rows d knows k e = knows k e

jumped_known : (i : Instr) (rows : List ℕ) (d : Delivered) → ((k : ℕ) → has_input rows k ≡ true → d k ≡ true) → (k : ℕ) → has_jumped i rows k ≡ true → jumped i d k ≡ true
jumped_known (Next l j t) rows d knows k e = gone k j rows d knows e
jumped_known i rows d knows k e = knows k e

-- ---- labels of places

record At (r : Routine) (labels : List Label) (p : ℕ) (i : Instr) : Type 0 where
  label : Label
  at : slice_get labels p ≡ Some label
  fits : place_fits r labels p i label ≡ true

label_at : (r : Routine) (labels : List Label) (p k q : ℕ) (is : List Instr) (ls : List Label) (i : Instr) → q ≡ p + k → all_fit r labels p is ls ≡ true → slice_get is k ≡ Some i
    → (l : Label) × (slice_get ls k ≡ Some l) × (place_fits r labels q i l ≡ true)
label_at r labels p k q [] ls i e all at = cc
label_at r labels p k q (j ∷ is) [] i e all at = absurd (let bad : false ≡ true = all in cc)
label_at r labels p zero q (j ∷ is) (l ∷ ls) i e all at =
    let same : j ≡ i = cc in let here : p ≡ q = omega arith in
    (l, refl, subst (λ n. place_fits r labels n i l ≡ true) here (subst (λ x. place_fits r labels p x l ≡ true) same (and_parts _ _ all).0))
label_at r labels p (suc k) q (j ∷ is) (l ∷ ls) i e all at =
    label_at r labels (p + 1) k q is ls i (omega arith) (and_parts _ _ all).1 at

same_length : (r : Routine) (labels : List Label) (p : ℕ) (is : List Instr) (ls : List Label) → all_fit r labels p is ls ≡ true → length ls ≡ length is
same_length r labels p [] [] all = refl
same_length r labels p [] (l ∷ ls) all = absurd (let bad : false ≡ true = all in cc)
same_length r labels p (i ∷ is) [] all = absurd (let bad : false ≡ true = all in cc)
same_length r labels p (i ∷ is) (l ∷ ls) all = ap suc (same_length r labels (p + 1) is ls (and_parts _ _ all).1)

empty_rows : (rows : List ℕ) (k : ℕ) → length rows ≡ 0 → has_input rows k ≡ true → ⊥
empty_rows [] k e h = let bad : false ≡ true = h in cc
empty_rows (x ∷ xs) k e h = omega arith

-- what a label that fits behind an instruction says
record Behind (w : Widths) (i : Instr) (here : Label) (known : ℕ → Bool) (o : Option Label) : Type 0 where
  label : Label
  at : o ≡ Some label
  level : label.height + takes w i ≡ here.height + leaves w i
  rows : (k : ℕ) → has_input label.rows k ≡ true → known k ≡ true

behind : (w : Widths) (i : Instr) (here : Label) (known : ℕ → Bool) (o : Option Label) → fits_at w i here known o ≡ true → Behind w i here known o
behind w i here known None e = absurd (let bad : false ≡ true = e in cc)
behind w i here known (Some l) e = record {
  label = l;
  at = refl;
  level = eqb-true _ _ (and_parts _ _ e).0;
  rows = λ k h. member known l.rows k (and_parts _ _ e).1 h;
}

start_of : (o : Option Label) → starts_fit o ≡ true → (l : Label) × (o ≡ Some l) × (l.height ≡ 0) × (length l.rows ≡ 0)
start_of None e = absurd (let bad : false ≡ true = e in cc)
start_of (Some l) e = (l, refl, eqb-true _ _ (and_parts _ _ e).0, eqb-true _ _ (and_parts _ _ e).1)

returns : (o : Option Instr) → option_map_or is_return o false ≡ true → o ≡ Some Return
returns None e = absurd (let bad : false ≡ true = e in cc)
returns (Some Return) e = refl
returns (Some i) e = absurd (let bad : false ≡ true = e in cc)

within_of : (w : Widths) (i : Instr) → is_within w i ≡ true → IsWithin w i
within_of w (Mem v) e = ltb-true _ _ e
within_of w (SetMem v) e = ltb-true _ _ e
within_of w (MemAt l c n) e = leb-true _ _ e
within_of w (SetMemAt l c n) e = leb-true _ _ e
within_of w (Const c) e = ltb-true _ _ e
within_of w (Field i v) e = (ltb-true _ _ (and_parts _ _ e).0, ltb-true _ _ (and_parts _ _ e).1)
within_of w (FieldAt l i c n) e = (ltb-true _ _ (and_parts _ _ e).0, leb-true _ _ (and_parts _ _ e).1)
within_of w (Enter i) e = ltb-true _ _ e
within_of w (Next l i t) e = ltb-true _ _ e
within_of w (Leave i) e = ltb-true _ _ e
within_of w (Send m) e = ltb-true _ _ e
within_of w (Bear a) e = ltb-true _ _ e
within_of w i e = tt

forward_of : (p : ℕ) (i : Instr) → forward_fit p i ≡ true → GoesForward p i
forward_of p (Next l i t) e = ltb-true _ _ e
forward_of p i e = tt

spends_of : (p : ℕ) (i : Instr) → spends p i ≡ true → SpendsFuel p i
spends_of p (Pay l) e = tt
spends_of p (Next l i t) e = ltb-true _ _ e
spends_of p i e = absurd (let bad : false ≡ true = e in cc)

module _ (r : Routine) (labels : List Label) (fit : labels_fit r labels ≡ true) where
  all_of : all_fit r labels 0 r.instrs labels ≡ true
  all_of = (and_parts _ _ (and_parts _ _ fit).1).1

  label_of : (p : ℕ) (i : Instr) → slice_get r.instrs p ≡ Some i → At r labels p i
  label_of p i at = let l = label_at r labels 0 p p r.instrs labels i (omega arith) all_of at in record { label = l.0; at = l.1; fits = l.2 }

  module _ (p : ℕ) (i : Instr) (at : slice_get r.instrs p ≡ Some i) where
    here : At r labels p i
    here = label_of p i at

    parts : (nat_le (takes r.widths i) here.label.height ≡ true)
        × (option_map_or (has_input here.label.rows) (reads i) true ≡ true)
        × (is_within r.widths i ≡ true)
        × (forward_fit p i ≡ true)
        × (goes_fit r.widths labels p i here.label ≡ true)
        × (target_fit r labels p i here.label (target i) ≡ true)
    parts = six (nat_le (takes r.widths i) here.label.height) (option_map_or (has_input here.label.rows) (reads i) true) (is_within r.widths i)
        (forward_fit p i) (goes_fit r.widths labels p i here.label) (target_fit r labels p i here.label (target i)) here.fits

    part_pops : takes r.widths i ≤ here.label.height
    part_pops = leb-true _ _ parts.0

    part_reads : option_map_or (has_input here.label.rows) (reads i) true ≡ true
    part_reads = parts.1

    part_within : is_within r.widths i ≡ true
    part_within = parts.2

    part_forward : forward_fit p i ≡ true
    part_forward = parts.3

    part_goes : goes_fit r.widths labels p i here.label ≡ true
    part_goes = parts.4

    part_target : target_fit r labels p i here.label (target i) ≡ true
    part_target = parts.5

    next_label : goes_on i ≡ true → Behind r.widths i here.label (has_passed i here.label.rows) (slice_get labels (p + 1))
    next_label g =
        ⊎_elim (λ n. absurd (let bad : false ≡ true = sym (not-true (goes_on i) n) ∙ g in cc))
        (λ e. behind r.widths i here.label (has_passed i here.label.rows) (slice_get labels (p + 1)) e)
        (or_cases (not (goes_on i)) _ part_goes)

    aimed : (t : ℕ) → target i ≡ Some t → target_fit r labels p i here.label (Some t) ≡ true
    aimed t e = subst (λ o. target_fit r labels p i here.label o ≡ true) e part_target

    aim_label : (t : ℕ) → target i ≡ Some t → Behind r.widths i here.label (has_jumped i here.label.rows) (slice_get labels t)
    aim_label t e = behind r.widths i here.label (has_jumped i here.label.rows) (slice_get labels t) (and_parts _ _ (aimed t e)).0

  -- what a label says of the paths to its place
  record Says (p h : ℕ) (d : Delivered) : Type 0 where
    label : Label
    at : slice_get labels p ≡ Some label
    height : label.height ≡ h
    knows : (k : ℕ) → has_input label.rows k ≡ true → d k ≡ true

  same_label : (p : ℕ) (l m : Label) → slice_get labels p ≡ Some l → slice_get labels p ≡ Some m → l ≡ m
  same_label p l m a b = cc

  says : (p h : ℕ) (d : Delivered) → Path r p h d → Says p h d
  says p h d starts =
      let s = start_of (slice_get labels 0) (and_parts _ _ fit).0 in
      record { label = s.0; at = s.1; height = s.2; knows = λ k e. absurd (empty_rows s.0.rows k s.3 e) }
  says p h d (goes {p = q} {h = g} {d = b} {i = i} path at on_ moves) =
      let old = says q g b path in
      let l = here q i at in
      let same : old.label ≡ l.label = same_label q old.label l.label old.at l.at in
      let new = next_label q i at on_ in
      record {
        label = new.label;
        at = new.at;
        height = let e = ap (λ (x : Label). x.height) same in omega (arith, new.level, old.height, moves);
        knows = λ k e. passed_known i l.label.rows b (subst (λ (x : Label). (k : ℕ) → has_input x.rows k ≡ true → b k ≡ true) same old.knows) k (new.rows k e);
      }
  says p h d (jumps {p = q} {h = g} {t = t} {d = b} {i = i} path at aims moves) =
      let old = says q g b path in
      let l = here q i at in
      let same : old.label ≡ l.label = same_label q old.label l.label old.at l.at in
      let new = aim_label q i at t aims in
      record {
        label = new.label;
        at = new.at;
        height = let e = ap (λ (x : Label). x.height) same in omega (arith, new.level, old.height, moves);
        knows = λ k e. jumped_known i l.label.rows b (subst (λ (x : Label). (k : ℕ) → has_input x.rows k ≡ true → b k ≡ true) same old.knows) k (new.rows k e);
      }

  spends_there : (p t : ℕ) (j : Instr) (o : Option Instr) → o ≡ Some j → option_map_or (spends p) o false ≡ true → SpendsFuel p j
  spends_there p t j None e s = cc
  spends_there p t j (Some x) e s = let same : x ≡ j = cc in spends_of p j (subst (λ y. spends p y ≡ true) same s)

  read_input : (rows : List ℕ) (o : Option ℕ) (k : ℕ) → o ≡ Some k → option_map_or (has_input rows) o true ≡ true → has_input rows k ≡ true
  read_input rows None k e s = cc
  read_input rows (Some j) k e s = let same : j ≡ k = cc in subst (λ n. has_input rows n ≡ true) same s

  pub labels_valid : IsValid r
  labels_valid = record {
    ends = λ p e.
        let last = returns (slice_get r.instrs (length r.instrs - 1)) (and_parts _ _ (and_parts _ _ fit).1).0 in
        let q : length r.instrs - 1 ≡ p = omega arith in
        subst (λ n. slice_get r.instrs n ≡ Some Return) q last;
    some =
        let s = start_of (slice_get labels 0) (and_parts _ _ fit).0 in
        let w = slice_get_within labels 0 s.0 s.1 in
        omega (arith, same_length r labels 0 r.instrs labels all_of);
    lands = λ p t i at aims.
        let l = aim_label p i at t aims in
        let w = slice_get_within labels t l.label l.at in
        omega (arith, same_length r labels 0 r.instrs labels all_of);
    forward = λ p i at. forward_of p i (part_forward p i at);
    spends = λ p t i j at aims le there.
        ⊎_elim (λ lt. let w : p < t = ltb-true _ _ lt in absurd (omega arith))
        (λ s. spends_there p t j (slice_get r.instrs t) there s)
        (or_cases _ _ (and_parts _ _ (aimed p i at t aims)).1);
    level = λ {p} {h} {k} {d} {e} a b.
        let x = says p h d a in let y = says p k e b in
        let same = ap (λ (l : Label). l.height) (same_label p x.label y.label x.at y.at) in
        omega (arith, x.height, y.height);
    pops = λ {p} {h} {d} {i} path at.
        let x = says p h d path in
        let l = here p i at in
        let same = ap (λ (l : Label). l.height) (same_label p x.label l.label x.at l.at) in
        omega (arith, part_pops p i at, x.height);
    reading = λ {p} {h} {d} {i} input path at reads_it.
        let x = says p h d path in
        let l = here p i at in
        let same = same_label p l.label x.label l.at x.at in
        x.knows input (subst (λ (y : Label). has_input y.rows input ≡ true) same (read_input l.label.rows (reads i) input reads_it (part_reads p i at)));
    within = λ p i at. within_of r.widths i (part_within p i at);
  }

-- ---- place by place

fit_more_by : (r : Routine) (labels : List Label) (p q : ℕ) (is : List Instr) (ls : List Label) (i : Instr) (l : Label) → slice_get is q ≡ Some i → slice_get ls q ≡ Some l
    → all_fit r labels p (drop q is) (drop q ls) ≡ (place_fits r labels p i l && all_fit r labels (p + 1) (drop (suc q) is) (drop (suc q) ls))
fit_more_by r labels p q [] ls i l a b = cc
fit_more_by r labels p q (j ∷ is) [] i l a b = cc
fit_more_by r labels p zero (j ∷ is) (m ∷ ls) i l a b =
    let s : j ≡ i = cc in let t : m ≡ l = cc in
    ap (λ x. place_fits r labels p x m && all_fit r labels (p + 1) is ls) s ∙ ap (λ x. place_fits r labels p i x && all_fit r labels (p + 1) is ls) t
fit_more_by r labels p (suc q) (j ∷ is) (m ∷ ls) i l a b = fit_more_by r labels p q is ls i l a b

pub fit_more : (r : Routine) (labels : List Label) (p : ℕ) (i : Instr) (l : Label) → slice_get r.instrs p ≡ Some i → slice_get labels p ≡ Some l
    → all_fit r labels p (drop p r.instrs) (drop p labels) ≡ (place_fits r labels p i l && all_fit r labels (p + 1) (drop (p + 1) r.instrs) (drop (p + 1) labels))
fit_more r labels p i l a b =
    let e : suc p ≡ p + 1 = omega arith in
    fit_more_by r labels p p r.instrs labels i l a b ∙ ap (λ n. place_fits r labels p i l && all_fit r labels (p + 1) (drop n r.instrs) (drop n labels)) e

pub lengths_differ : (r : Routine) (labels : List Label) → length labels ≢ length r.instrs → all_fit r labels 0 r.instrs labels ≡ false
lengths_differ r labels ne = false_from_ne_true _ (λ all. ne (same_length r labels 0 r.instrs labels all))
