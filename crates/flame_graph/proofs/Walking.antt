-- Steps of the way back.
use Rattle.std.proofs.Common.{◌≡◌, ℕ, suc, ◌+◌, ◌-◌, ◌<◌, ◌≤◌, List, [], ◌∷◌, ◌++◌, length, take, drop, get_or, set, sym, ap, ◌∙◌, subst, arith, true, false, Bool, not, Some, None, Option, cond, ⊎_elim}
use Rattle.std.specs.Prelude.{◌==◌, ◌&&◌, ◌||◌, slice_index_or}
use Rattle.std.specs.List.{position_or_len}
use Rattle.std.proofs.lemmas.Bool.{eq-eqb, ne_eqb, cases_eq, cases_lt, cases_Bool, le-ltb}
use Rattle.std.proofs.lemmas.List.{get_or-set_same, get_or-set_other, length-set, get_or_past}
use Rattle.flame_spec.specs.Below.{first_below, is_in}
use Rattle.flame_spec.specs.ModelOrder.{first_left, order, step_back, from_there, repeated_part, walk_back, least_of, begun_with_least}
use Rattle.flame_spec.proofs.FirstBelow.{first_is_first, none_is, first_agree, is_in_push, is_in_self, is_in-all_below}
use Rattle.flame_spec.proofs.Orders.{Relation, order_is_order, left_is_unready}
use Rattle.flame_graph.specs.Graph.{follows, AreAscending, AreWaiting, open_count, waits}
use Rattle.flame_graph.specs.Backs.{pointed, ArePointing, back_from, AreSeen}
use Rattle.flame_graph.proofs.Counting.{count_ready, taken_count}
use Rattle.std.proofs.Math.Bool.{or-false}
use Rattle.flame_rows.proofs.Truths.{option_or-None}

-- ---- where nodes point to

pub pointed_none : (f : ℕ) (o : Option ℕ) → pointed f false o ≡ o
pointed_none f o = option_or-None o

pub pointing_more : (k n : ℕ) (before : Relation) (waiting : List ℕ) (backs more : List (Option ℕ)) → ArePointing k n before waiting backs → length more ≡ length backs → ((g : ℕ) → g < n → back_from more g ≡ pointed k (before k g && waits waiting k) (back_from backs g)) → ArePointing (k + 1) n before waiting more
pointing_more k n before waiting backs more old len h = record {
  len = len ∙ old.len;
  at = λ g l.
      let next : suc k ≡ k + 1 = omega arith in
      h g l ∙ ap (pointed k (before k g && waits waiting k)) (old.at g l) ∙ ap (first_below (λ f. before f g && waits waiting f)) next;
}

pub back_within : (n : ℕ) (before : Relation) (waiting : List ℕ) (backs : List (Option ℕ)) → ArePointing n n before waiting backs → (g f : ℕ) → back_from backs g ≡ Some f → f < n
back_within n before waiting backs p g f e = ⊎_elim
    (λ l. (first_is_first (λ f. before f g && waits waiting f) n f (sym (p.at g l) ∙ e)).below)
    (λ l. let none : back_from backs g ≡ None = get_or_past backs g None (omega (arith, l, p.len)) in cc)
    (cases_lt g n)

follows_past : (lists : List (List ℕ)) (f g : ℕ) → AreAscending lists → length lists ≤ g → follows lists f g ≡ false
follows_past lists f g a h = ap (is_in g) (a.at f) ∙ is_in-all_below (follows lists f) (length lists) g ∙ ap (λ b. b && follows lists f g) (le-ltb g (length lists) h)

pub backs_are : (lists : List (List ℕ)) (waiting : List ℕ) (backs : List (Option ℕ)) → AreAscending lists → ArePointing (length lists) (length lists) (follows lists) waiting backs → (g : ℕ) → back_from backs g ≡ first_below (λ f. follows lists f g && waits waiting f) (length lists)
backs_are lists waiting backs a p g = ⊎_elim
    (p.at g)
    (λ h. get_or_past backs g None (omega (arith, h, p.len)) ∙ sym (none_is (λ f. follows lists f g && waits waiting f) (length lists) (λ f l. ap (λ b. b && waits waiting f) (follows_past lists f g a h))))
    (cases_lt g (length lists))

-- ---- the walk

pub walk_more : (m : ℕ) (back : ℕ → Option ℕ) (path : List ℕ) (g t : ℕ) → t < m → is_in g path ≡ false → walk_back (m - t) back path g ≡ from_there (back g) (walk_back (m - (t + 1)) back (path ++ g ∷ []))
walk_more m back path g t h e =
    let s : m - t ≡ suc (m - (t + 1)) = omega arith in
    ap (λ k. walk_back k back path g) s
    ∙ ap (λ b. cond b (repeated_part path g) (from_there (back g) (walk_back (m - (t + 1)) back (path ++ g ∷ [])))) e

pub walk_repeats : (m : ℕ) (back : ℕ → Option ℕ) (path : List ℕ) (g t : ℕ) → t < m → is_in g path ≡ true → walk_back (m - t) back path g ≡ repeated_part path g
walk_repeats m back path g t h e =
    let s : m - t ≡ suc (m - (t + 1)) = omega arith in
    ap (λ k. walk_back k back path g) s
    ∙ ap (λ b. cond b (repeated_part path g) (from_there (back g) (walk_back (m - (t + 1)) back (path ++ g ∷ [])))) e

pub seen_more : (n : ℕ) (path : List ℕ) (f : ℕ) (marks : List Bool) → f < n → AreSeen n path marks → AreSeen n (path ++ f ∷ []) (set marks f true)
seen_more n path f marks h t = record {
  len = length-set marks f true ∙ t.len;
  at = λ g l. ⊎_elim (same g) (other g l) (cases_eq f g);
}
  where
    same : (g : ℕ) → f ≡ g → slice_index_or (set marks f true) g false ≡ is_in g (path ++ f ∷ [])
    same g e = ap (λ k. slice_index_or (set marks f true) k false) (sym e) ∙ get_or-set_same marks f true false (omega (arith, t.len)) ∙ sym (is_in_self f path) ∙ ap (λ k. is_in k (path ++ f ∷ [])) e

    other : (g : ℕ) → g < n → (f ≡ g → ⊥) → slice_index_or (set marks f true) g false ≡ is_in g (path ++ f ∷ [])
    other g l e = get_or-set_other marks f g true false (λ q. e (sym q)) ∙ t.at g l ∙ sym (is_in_push g f path ∙ ap (λ b. is_in g path || b) (ne_eqb f g e) ∙ or-false (is_in g path))

-- a round that is turned to its least member
pub begun_is : (xs rest : List ℕ) (f m p : ℕ) → 0 < length xs → f ≡ get_or xs 0 f → rest ≡ drop 1 xs → m ≡ least_of f rest → p ≡ position_or_len (λ g. g == m) xs → drop p xs ++ take p xs ≡ begun_with_least xs
begun_is [] rest f m p h a b d e = absurd (omega arith)
begun_is (x ∷ xs) rest f m p h a b d e =
    let least : m ≡ least_of x xs = d ∙ ap (λ k. least_of k rest) a ∙ ap (least_of x) b in
    ap (λ k. drop k (x ∷ xs) ++ take k (x ∷ xs)) (e ∙ ap (λ k. position_or_len (λ g. g == k) (x ∷ xs)) least)

-- ---- who waits at the end is left over

count_left : (n : ℕ) (before : Relation) (f : ℕ) → f < n → (open_count n before (order n before) f == 0) ≡ is_in f (order n before)
count_left n before f l = ⊎_elim
    (λ h. eq-eqb (open_count n before (order n before) f) 0 (taken_count n before (order n before) f (order_is_order n before) h) ∙ sym h)
    (λ h. count_ready n before (order n before) f ∙ left_is_unready n before f l h ∙ sym h)
    (cases_Bool (is_in f (order n before)))

pub waits_left : (n : ℕ) (before : Relation) (waiting : List ℕ) → AreWaiting n n before (order n before) waiting → (f : ℕ) → f < n → waits waiting f ≡ not (is_in f (order n before))
waits_left n before waiting w f l = ap (λ k. not (k == 0)) (w.at f l) ∙ ap not (count_left n before f l)

pub steps_back : (n : ℕ) (before : Relation) (waiting : List ℕ) → AreWaiting n n before (order n before) waiting → (g : ℕ) → first_below (λ f. before f g && waits waiting f) n ≡ step_back n before g
steps_back n before waiting w g = first_agree (λ f. before f g && waits waiting f) (λ f. before f g && not (is_in f (order n before))) n (λ f l. ap (λ b. before f g && b) (waits_left n before waiting w f l))

pub whole_waiting : (n : ℕ) (before : Relation) (fs waiting : List ℕ) → fs ≡ order n before → AreWaiting n n before fs waiting → AreWaiting n n before (order n before) waiting
whole_waiting n before fs waiting e w = let P : List ℕ → Type 0 = λ xs. AreWaiting n n before xs waiting in subst P e w

-- the first one that waits is the first one left over
pub left_waits : (n : ℕ) (before : Relation) (fs waiting : List ℕ) → fs ≡ order n before → AreWaiting n n before fs waiting → first_below (waits waiting) (length waiting) ≡ first_left n before
left_waits n before fs waiting e w =
    ap (first_below (waits waiting)) w.len
    ∙ first_agree (waits waiting) (λ g. not (is_in g (order n before))) n (waits_left n before waiting (whole_waiting n before fs waiting e w))

-- the first one that waits, by counts that are read, is the first one left over
pub left_is : (n : ℕ) (before : Relation) (waiting read : List ℕ) (o : Option ℕ) → first_below (waits waiting) (length waiting) ≡ first_left n before → read ≡ waiting → o ≡ first_below (waits read) (length read) → first_left n before ≡ o
left_is n before waiting read o e r h = sym (h ∙ ap (λ xs. first_below (waits xs) (length xs)) r ∙ e)
