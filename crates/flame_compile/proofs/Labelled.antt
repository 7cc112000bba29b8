-- Code that has labels which fit it, put together part by part.
use Rattle.std.proofs.Common.{◌≡◌, ℕ, zero, suc, ◌+◌, ◌<◌, ◌≤◌, ◌==◌, Bool, true, false, not, ◌&&◌, ◌||◌, List, [], ◌∷◌, ◌++◌, length, Some, None, refl, sym, ap, ◌∙◌, subst, arith, length-append, eq-eqb, lt-ltb}
use Rattle.std.specs.Prelude.{slice_get, nat_lt, nat_le}
use Rattle.std.specs.List.{list_all}
use Rattle.std.specs.Option.{option_map_or}
use Rattle.std.proofs.lemmas.Bool.{and_parts, and_from, or_left, or_right, le-leb}
use Rattle.flame_spec.specs.declared.outcomes.Widths.{Widths}
use Rattle.flame_code.specs.declared.instrs.Instr.{Instr}
use Rattle.flame_code.specs.declared.instrs.Instr.TheVariants.{Jump, JumpZero, JumpNotZero, Enter, Next, Leave, Return}
use Rattle.flame_code.specs.declared.labels.Label.{Label}
use Rattle.flame_code.specs.Labels.{has_input, has_passed, has_jumped, fits_at, goes_fit, spends, forward_fit, target_fit, is_within, place_fits, all_fit}
use Rattle.flame_code.specs.Routines.{Routine, takes, leaves, goes_on, target, reads}

-- a height of the stack, and inputs that have a row
abbrev pub label : ℕ → List ℕ → Label
label height rows = record { height = height; rows = rows }

-- the code of these instructions, with these widths
abbrev pub routine : Widths → List Instr → Routine
routine w instrs = record { instrs = instrs; widths = w }

-- ---- a list within another

-- the whole list has this part from place p on
pub record LiesAt {A : Type 0} (whole : List A) (p : ℕ) (part : List A) : Type 0 where
  pub at : (k : ℕ) (x : A) → slice_get part k ≡ Some x → slice_get whole (p + k) ≡ Some x

-- what stands in the first of two lists
pub found_left : {A : Type 0} (a b : List A) (k : ℕ) (x : A) → slice_get a k ≡ Some x → slice_get (a ++ b) k ≡ Some x
found_left [] b k x e = cc
found_left (y ∷ a) b zero x e = e
found_left (y ∷ a) b (suc k) x e = found_left a b k x e

-- what stands in the second, behind the first
pub found_right :
    {A : Type 0} (a b : List A) (k : ℕ) (x : A) → slice_get b k ≡ Some x → slice_get (a ++ b) (length a + k) ≡ Some x
found_right [] b k x e = let at : k ≡ 0 + k = omega arith in subst (λ n. slice_get b n ≡ Some x) at e
found_right (y ∷ a) b k x e =
    let at : suc (length a + k) ≡ suc (length a) + k = omega arith in
    subst (λ n. slice_get (y ∷ (a ++ b)) n ≡ Some x) at (found_right a b k x e)

-- the first part of a part stands where that does
lies_left : {A : Type 0} (whole : List A) (p : ℕ) (a b : List A) → LiesAt whole p (a ++ b) → LiesAt whole p a
lies_left whole p a b lies = record { at = λ k x e. lies.at k x (found_left a b k x e) }

-- the second part stands behind the first
lies_right :
    {A : Type 0} (whole : List A) (p n : ℕ) (a b : List A)
    → length a ≡ n → LiesAt whole p (a ++ b) → LiesAt whole (p + n) b
lies_right whole p n a b long lies = record {
  at = λ k x e.
      let place : p + (length a + k) ≡ p + n + k = omega arith in
      subst (λ q. slice_get whole q ≡ Some x) place (lies.at (length a + k) x (found_right a b k x e));
}

-- the first element of a part stands where that does
lies_first :
    {A : Type 0} (whole : List A) (p : ℕ) (x : A) (part : List A)
    → LiesAt whole p (x ∷ part) → slice_get whole p ≡ Some x
lies_first whole p x part lies =
    let place : p + 0 ≡ p = omega arith in subst (λ q. slice_get whole q ≡ Some x) place (lies.at 0 x refl)

-- the first of two lists stands at the begin of both
pub lies_begin : {A : Type 0} (part behind : List A) → LiesAt (part ++ behind) 0 part
lies_begin part behind = record {
  at = λ k x e.
      let place : k ≡ 0 + k = omega arith in
      subst (λ q. slice_get (part ++ behind) q ≡ Some x) place (found_left part behind k x e);
}

-- ---- labels that fit

-- labels of two parts fit together where those of each fit
pub fit_append :
    (r : Routine) (all : List Label) (p : ℕ) (a b : List Instr) (la lb : List Label)
    → length la ≡ length a
    → all_fit r all p a la ≡ true
    → all_fit r all (p + length a) b lb ≡ true
    → all_fit r all p (a ++ b) (la ++ lb) ≡ true
fit_append r all p [] b [] lb long first second =
    let place : p + 0 ≡ p = omega arith in subst (λ n. all_fit r all n b lb ≡ true) place second
fit_append r all p [] b (l ∷ la) lb long first second = absurd (omega arith)
fit_append r all p (i ∷ a) b [] lb long first second = absurd (omega arith)
fit_append r all p (i ∷ a) b (l ∷ la) lb long first second =
    let place : p + suc (length a) ≡ p + 1 + length a = omega arith in
    let parts = and_parts (place_fits r all p i l) (all_fit r all (p + 1) a la) first in
    and_from (place_fits r all p i l) (all_fit r all (p + 1) (a ++ b) (la ++ lb)) parts.0
    (fit_append r all (p + 1) a b la lb (omega arith) parts.1 (subst (λ n. all_fit r all n b lb ≡ true) place second))

-- what holds of each of the inputs
pub all_known :
    (known : ℕ → Bool) (rows : List ℕ)
    → ((k : ℕ) → has_input rows k ≡ true → known k ≡ true)
    → list_all known rows ≡ true
all_known known [] knows = refl
all_known known (x ∷ rows) knows =
    and_from (known x) (list_all known rows) (knows x (or_left (x == x) (has_input rows x) (eq-eqb x x refl)))
    (all_known known rows (λ k e. knows k (or_right (x == k) (has_input rows k) e)))

-- six tests hold together
six :
    (a b c d e f : Bool)
    → a ≡ true → b ≡ true → c ≡ true → d ≡ true → e ≡ true → f ≡ true
    → (a && (b && (c && (d && (e && f))))) ≡ true
six a b c d e f ha hb hc hd he hf =
    and_from a (b && (c && (d && (e && f)))) ha
    (and_from b (c && (d && (e && f))) hb
    (and_from c (d && (e && f)) hc (and_from d (e && f) hd (and_from e f he hf))))

-- ---- parts of a code

-- a place of the code, and the label there
pub record Mark : Type 0 where
  pub place : ℕ
  pub label_there : Label

-- this label at this place
abbrev pub mark : ℕ → Label → Mark
mark place there = record { place = place; label_there = there }

-- the labels stand at their places
abbrev pub Marked : List Label → List Mark → Type 0
Marked all [] = Unit {0}
Marked all (m ∷ marks) = (slice_get all m.place ≡ Some m.label_there) × Marked all marks

-- these instructions, from place p on, have labels that fit where the whole code and its labels meet the needs N: the
-- first of them is `from` where the label behind them is `to`, and the marks are labels that are known
pub record Labelled (N : List Instr → List Label → Type 0) (w : Widths) (p : ℕ) (is : List Instr) (from to : Label)
    (marks : List Mark) : Type 0 where
  pub labels : List Label
  pub long : length labels ≡ length is
  pub begins : (all : List Label) → LiesAt all p labels → slice_get all (p + length is) ≡ Some to
      → slice_get all p ≡ Some from
  pub marked : (all : List Label) → LiesAt all p labels → slice_get all (p + length is) ≡ Some to → Marked all marks
  pub fits : (instrs : List Instr) (all : List Label) → LiesAt instrs p is → LiesAt all p labels
      → slice_get all (p + length is) ≡ Some to → N instrs all → all_fit (routine w instrs) all p is labels ≡ true

-- nothing is needed
abbrev pub no_needs : List Instr → List Label → Type 0
no_needs instrs all = Unit {0}

-- ---- no instruction, and one

-- no instruction: the label is the one behind it
pub nothing : (N : List Instr → List Label → Type 0) (w : Widths) (p : ℕ) (l : Label) → Labelled N w p [] l l []
nothing N w p l = record {
  labels = [];
  long = refl;
  begins = λ all lies exit.
      let place : p + 0 ≡ p = omega arith in subst (λ q. slice_get all q ≡ Some l) place exit;
  marked = λ all lies exit. tt;
  fits = λ instrs all code lies exit needs. refl;
}

-- one instruction, with a label that fits it
pub single :
    (N : List Instr → List Label → Type 0) (w : Widths) (p : ℕ) (i : Instr) (from to : Label)
    → takes w i ≤ from.height
    → option_map_or (has_input from.rows) (reads i) true ≡ true
    → is_within w i ≡ true
    → forward_fit p i ≡ true
    → (not (goes_on i) || fits_at w i from (has_passed i from.rows) (Some to)) ≡ true
    → ((instrs : List Instr) (all : List Label) → N instrs all
    → target_fit (routine w instrs) all p i from (target i) ≡ true)
    → Labelled N w p (i ∷ []) from to []
single N w p i from to pops row within forward goes aims = record {
  labels = from ∷ [];
  long = refl;
  begins = λ all lies exit. lies_first all p from [] lies;
  marked = λ all lies exit. tt;
  fits = λ instrs all code lies exit needs.
      and_from (place_fits (routine w instrs) all p i from) true
      (six (nat_le (takes w i) from.height) (option_map_or (has_input from.rows) (reads i) true) (is_within w i)
      (forward_fit p i) (goes_fit w all p i from) (target_fit (routine w instrs) all p i from (target i))
      (le-leb (takes w i) from.height pops) row within forward
      (subst (λ o. (not (goes_on i) || fits_at w i from (has_passed i from.rows) o) ≡ true) (sym exit) goes)
      (aims instrs all needs))
      refl;
}

-- the label behind an instruction has the right height, and inputs that have a row there
pub level :
    (w : Widths) (i : Instr) (h out : ℕ) (rows there : List ℕ) (known : ℕ → Bool)
    → out + takes w i ≡ h + leaves w i
    → ((k : ℕ) → has_input there k ≡ true → known k ≡ true)
    → fits_at w i (label h rows) known (Some (label out there)) ≡ true
level w i h out rows there known levels knows =
    and_from (out + takes w i == h + leaves w i) (list_all known there)
    (eq-eqb (out + takes w i) (h + leaves w i) levels) (all_known known there knows)

-- ---- an instruction that goes on at the next place alone

-- it does, and leaves the inputs as they are
abbrev pub is_plain : Instr → Bool
is_plain (Jump t) = false
is_plain (JumpZero t) = false
is_plain (JumpNotZero t) = false
is_plain (Enter i) = false
is_plain (Next l i t) = false
is_plain (Leave i) = false
is_plain Return = false
is_plain i = true

-- what such an instruction does
record Plain (i : Instr) : Type 0 where
  aims : target i ≡ None
  forward : (p : ℕ) → forward_fit p i ≡ true
  passes : (rows : List ℕ) (k : ℕ) → has_passed i rows k ≡ has_input rows k

-- by its variant
plain_of : (i : Instr) → is_plain i ≡ true → Plain i
plain_of (Jump t) e = absurd (let bad : false ≡ true = e in cc)
plain_of (JumpZero t) e = absurd (let bad : false ≡ true = e in cc)
plain_of (JumpNotZero t) e = absurd (let bad : false ≡ true = e in cc)
plain_of (Enter i) e = absurd (let bad : false ≡ true = e in cc)
plain_of (Next l i t) e = absurd (let bad : false ≡ true = e in cc)
plain_of (Leave i) e = absurd (let bad : false ≡ true = e in cc)
plain_of Return e = absurd (let bad : false ≡ true = e in cc)
plain_of i e = record { aims = refl; forward = λ p. refl; passes = λ rows k. refl }

-- one such instruction
pub plain :
    (N : List Instr → List Label → Type 0) (w : Widths) (p : ℕ) (i : Instr) (h out : ℕ) (rows : List ℕ)
    → is_plain i ≡ true
    → takes w i ≤ h
    → out + takes w i ≡ h + leaves w i
    → option_map_or (has_input rows) (reads i) true ≡ true
    → is_within w i ≡ true
    → Labelled N w p (i ∷ []) (label h rows) (label out rows) []
plain N w p i h out rows is pops levels row within =
    let ways = plain_of i is in
    single N w p i (label h rows) (label out rows) pops row within (ways.forward p)
    (or_right (not (goes_on i)) (fits_at w i (label h rows) (has_passed i rows) (Some (label out rows)))
    (level w i h out rows rows (has_passed i rows) levels (λ k e. ways.passes rows k ∙ e)))
    (λ instrs all needs. ap (target_fit (routine w instrs) all p i (label h rows)) ways.aims)

-- ---- jumps

-- a jump from place p may go to place t: the stack there has height h, its inputs are among these, and a jump back
-- spends fuel
pub record Aim (instrs : List Instr) (all : List Label) (rows : List ℕ) (p t h : ℕ) : Type 0 where
  pub behind : List ℕ
  pub at : slice_get all t ≡ Some (label h behind)
  pub known : (k : ℕ) → has_input behind k ≡ true → has_input rows k ≡ true
  pub pays : (nat_lt p t || option_map_or (spends p) (slice_get instrs t) false) ≡ true

-- a jump forward to a place with the same inputs
pub aim_forward :
    (instrs : List Instr) (all : List Label) (rows : List ℕ) (p t h : ℕ)
    → slice_get all t ≡ Some (label h rows)
    → p < t
    → Aim instrs all rows p t h
aim_forward instrs all rows p t h at lt = record {
  behind = rows;
  at = at;
  known = λ k e. e;
  pays = or_left (nat_lt p t) (option_map_or (spends p) (slice_get instrs t) false) (lt-ltb p t lt);
}

-- where a jump may go its target fits
pub aimed :
    (w : Widths) (instrs : List Instr) (all : List Label) (i : Instr) (rows : List ℕ) (p t h out : ℕ)
    → out + takes w i ≡ h + leaves w i
    → ((k : ℕ) → has_input rows k ≡ true → has_jumped i rows k ≡ true)
    → Aim instrs all rows p t out
    → target_fit (routine w instrs) all p i (label h rows) (Some t) ≡ true
aimed w instrs all i rows p t h out levels jumps aim =
    and_from (fits_at w i (label h rows) (has_jumped i rows) (slice_get all t))
    (nat_lt p t || option_map_or (spends p) (slice_get instrs t) false)
    (subst (λ o. fits_at w i (label h rows) (has_jumped i rows) o ≡ true) (sym aim.at)
    (level w i h out rows aim.behind (has_jumped i rows) levels (λ k e. jumps k (aim.known k e))))
    aim.pays

-- a jump; what stands behind it may have any label
pub jump :
    (N : List Instr → List Label → Type 0) (w : Widths) (p t h : ℕ) (rows : List ℕ) (to : Label)
    → ((instrs : List Instr) (all : List Label) → N instrs all → Aim instrs all rows p t h)
    → Labelled N w p (Jump t ∷ []) (label h rows) to []
jump N w p t h rows to aim =
    single N w p (Jump t) (label h rows) to (omega arith) refl refl refl refl
    (λ instrs all needs. aimed w instrs all (Jump t) rows p t h h refl (λ k e. e) (aim instrs all needs))

-- a jump where the value on the stack is 0
pub jump_zero :
    (N : List Instr → List Label → Type 0) (w : Widths) (p t h : ℕ) (rows : List ℕ)
    → ((instrs : List Instr) (all : List Label) → N instrs all → Aim instrs all rows p t h)
    → Labelled N w p (JumpZero t ∷ []) (label (h + 1) rows) (label h rows) []
jump_zero N w p t h rows aim =
    single N w p (JumpZero t) (label (h + 1) rows) (label h rows) (omega arith) refl refl refl
    (level w (JumpZero t) (h + 1) h rows rows (has_passed (JumpZero t) rows) (omega arith) (λ k e. e))
    (λ instrs all needs.
    aimed w instrs all (JumpZero t) rows p t (h + 1) h (omega arith) (λ k e. e) (aim instrs all needs))

-- a jump where the value on the stack is not 0
pub jump_not_zero :
    (N : List Instr → List Label → Type 0) (w : Widths) (p t h : ℕ) (rows : List ℕ)
    → ((instrs : List Instr) (all : List Label) → N instrs all → Aim instrs all rows p t h)
    → Labelled N w p (JumpNotZero t ∷ []) (label (h + 1) rows) (label h rows) []
jump_not_zero N w p t h rows aim =
    single N w p (JumpNotZero t) (label (h + 1) rows) (label h rows) (omega arith) refl refl refl
    (level w (JumpNotZero t) (h + 1) h rows rows (has_passed (JumpNotZero t) rows) (omega arith) (λ k e. e))
    (λ instrs all needs.
    aimed w instrs all (JumpNotZero t) rows p t (h + 1) h (omega arith) (λ k e. e) (aim instrs all needs))

-- ---- parts put together

-- the place behind two parts is that behind the second
exit_behind :
    (all : List Label) (p : ℕ) (a b : List Instr) (to : Label)
    → slice_get all (p + length (a ++ b)) ≡ Some to
    → slice_get all (p + length a + length b) ≡ Some to
exit_behind all p a b to exit =
    let place : p + length (a ++ b) ≡ p + length a + length b = omega (arith, length-append a b) in
    subst (λ q. slice_get all q ≡ Some to) place exit

-- a part, and what stands behind it; the label where that begins is known
pub more :
    {N : List Instr → List Label → Type 0} {w : Widths} {p : ℕ} {a b : List Instr} {from mid to : Label}
    {before marks : List Mark}
    → Labelled N w p a from mid before
    → Labelled N w (p + length a) b mid to marks
    → Labelled N w p (a ++ b) from to (mark (p + length a) mid ∷ marks)
more {N} {w} {p} {a} {b} {from} {mid} {to} {before} {marks} x y = record {
  labels = x.labels ++ y.labels;
  long = omega (arith, length-append x.labels y.labels, length-append a b, x.long, y.long);
  begins = λ all lies exit.
      x.begins all (lies_left all p x.labels y.labels lies)
      (y.begins all (lies_right all p (length a) x.labels y.labels x.long lies) (exit_behind all p a b to exit));
  marked = λ all lies exit.
      let rest = lies_right all p (length a) x.labels y.labels x.long lies in
      let end = exit_behind all p a b to exit in
      (y.begins all rest end, y.marked all rest end);
  fits = λ instrs all code lies exit needs.
      let rest = lies_right all p (length a) x.labels y.labels x.long lies in
      let end = exit_behind all p a b to exit in
      fit_append (routine w instrs) all p a b x.labels y.labels x.long
      (x.fits instrs all (lies_left instrs p a b code) (lies_left all p x.labels y.labels lies) (y.begins all rest end)
      needs)
      (y.fits instrs all (lies_right instrs p (length a) a b refl code) rest end needs);
}

-- what is needed follows from other needs, and from the labels that are known
pub sealed :
    {N : List Instr → List Label → Type 0} {w : Widths} {p : ℕ} {is : List Instr} {from to : Label} {marks : List Mark}
    (M : List Instr → List Label → Type 0)
    → Labelled N w p is from to marks
    → ((instrs : List Instr) (all : List Label) → LiesAt instrs p is → Marked all (mark p from ∷ marks)
    → slice_get all (p + length is) ≡ Some to → M instrs all → N instrs all)
    → Labelled M w p is from to []
sealed {N} {w} {p} {is} {from} {to} {marks} M x met = record {
  labels = x.labels;
  long = x.long;
  begins = x.begins;
  marked = λ all lies exit. tt;
  fits = λ instrs all code lies exit needs.
      x.fits instrs all code lies exit
      (met instrs all code (x.begins all lies exit, x.marked all lies exit) exit needs);
}

-- what is needed follows from other needs
pub narrowed :
    {N : List Instr → List Label → Type 0} {w : Widths} {p : ℕ} {is : List Instr} {from to : Label} {marks : List Mark}
    (M : List Instr → List Label → Type 0)
    → Labelled N w p is from to marks
    → ((instrs : List Instr) (all : List Label) → M instrs all → N instrs all)
    → Labelled M w p is from to []
narrowed M x met = sealed M x (λ instrs all code marks exit needs. met instrs all needs)

-- what needs nothing may need anything
pub freed :
    {w : Widths} {p : ℕ} {is : List Instr} {from to : Label} {marks : List Mark}
    (M : List Instr → List Label → Type 0)
    → Labelled no_needs w p is from to marks
    → Labelled M w p is from to []
freed M x = narrowed M x (λ instrs all needs. tt)

-- a part, and what stands behind it
pub joined :
    {N : List Instr → List Label → Type 0} {w : Widths} {p : ℕ} {a b : List Instr} {from mid to : Label}
    {before marks : List Mark}
    → Labelled N w p a from mid before
    → Labelled N w (p + length a) b mid to marks
    → Labelled N w p (a ++ b) from to []
joined {N} x y = narrowed N (more x y) (λ instrs all needs. needs)

-- the same, where the height behind it is written in another way
pub raised :
    {N : List Instr → List Label → Type 0} {w : Widths} {p : ℕ} {is : List Instr} {from : Label} {marks : List Mark}
    (rows : List ℕ) (h k : ℕ)
    → h ≡ k
    → Labelled N w p is from (label h rows) marks
    → Labelled N w p is from (label k rows) marks
raised {N} {w} {p} {is} {from} {marks} rows h k e x = subst (λ n. Labelled N w p is from (label n rows) marks) e x
