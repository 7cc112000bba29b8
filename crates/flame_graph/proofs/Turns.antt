-- The next node is taken.
use Rattle.std.proofs.Common.{◌≡◌, ℕ, suc, ◌+◌, ◌-◌, ◌<◌, ◌≤◌, List, [], ◌∷◌, ◌++◌, length, refl, sym, ap, ◌∙◌, arith, true, false, Bool, not, Some, None, ⊎_elim, slice_index}
use Rattle.std.specs.Prelude.{◌==◌, ◌&&◌, ◌||◌, nat_lt}
use Rattle.std.proofs.lemmas.Bool.{eq-eqb, ne_eqb, cases_lt, lt-ltb, le-ltb, ltb-true, and_parts, false≢true, cases_Bool}
use Rattle.flame_spec.specs.Below.{all_below, is_in, times}
use Rattle.flame_spec.specs.ModelOrder.{next, with_next, order_after, is_ready}
use Rattle.flame_spec.proofs.FirstBelow.{one, none_is, first_is, is_in_push, is_in-all_below}
use Rattle.flame_spec.proofs.Orders.{Relation, IsOrder, IsNext}
use Rattle.flame_graph.specs.Graph.{open_count, AreWaiting}
use Rattle.flame_graph.specs.Ready.{IsFirstOf}
use Rattle.flame_graph.proofs.Counting.{count_ready, count_push, taken_count, times_passing, in_passing}

-- r lists the nodes that are ready and not taken
abbrev pub AreReady : ℕ → Relation → List ℕ → List ℕ → Type 0
AreReady n before fs r = (g : ℕ) → is_in g r ≡ (nat_lt g n && (not (is_in g fs) && (open_count n before fs g == 0)))

test_is : (n : ℕ) (before : Relation) (fs : List ℕ) (g : ℕ) → (not (is_in g fs) && (open_count n before fs g == 0)) ≡ (not (is_in g fs) && is_ready n before fs g)
test_is n before fs g = ap (λ b. not (is_in g fs) && b) (count_ready n before fs g)

pub next_none : (n : ℕ) (before : Relation) (fs r : List ℕ) → AreReady n before fs r → r ≡ [] → next n before fs ≡ None
next_none n before fs r ready e = none_is (λ g. not (is_in g fs) && is_ready n before fs g) n (λ g l. sym (test_is n before fs g) ∙ ap (λ b. b && (not (is_in g fs) && (open_count n before fs g == 0))) (sym (lt-ltb g n l)) ∙ sym (ready g) ∙ ap (is_in g) e)

pub next_some : (n : ℕ) (before : Relation) (fs r : List ℕ) (f : ℕ) (rest : List ℕ) → AreReady n before fs r → IsFirstOf r f rest → next n before fs ≡ Some f
next_some n before fs r f rest ready first =
    let here = and_parts (nat_lt f n) (not (is_in f fs) && (open_count n before fs f == 0)) (sym (ready f) ∙ first.there) in
    let below = ltb-true f n here.0 in
    first_is (λ g. not (is_in g fs) && is_ready n before fs g) n f below (sym (test_is n before fs f) ∙ here.1) (λ j l. go j (omega (arith, l, below)) l (not (is_in j fs) && is_ready n before fs j) refl)
  where
    go : (j : ℕ) → j < n → j < f → (b : Bool) → (not (is_in j fs) && is_ready n before fs j) ≡ b → (not (is_in j fs) && is_ready n before fs j) ≡ false
    go j l k false e = e
    go j l k true e =
        let there : is_in j r ≡ true = ready j ∙ ap (λ b. b && (not (is_in j fs) && (open_count n before fs j == 0))) (lt-ltb j n l) ∙ test_is n before fs j ∙ e in
        absurd (omega (arith, first.least j there, k))

-- ---- what the step leaves

open_enough : (n : ℕ) (before : Relation) (fs : List ℕ) (f g : ℕ) → f < n → is_in f fs ≡ false → open_count n before (fs ++ f ∷ []) g + one (before f g) ≡ open_count n before fs g
open_enough n before fs f g l fresh =
    let here : one (nat_lt f n && before f g) ≡ one (before f g) = ap (λ b. one (b && before f g)) (lt-ltb f n l) in
    omega (arith, count_push n before fs f g fresh, here)

pub turn_enough : (n : ℕ) (before : Relation) (fs ws : List ℕ) (f g : ℕ) → IsNext n before fs f → AreWaiting n n before fs ws → g < n → times g (all_below (before f) n) ≤ slice_index ws g
turn_enough n before fs ws f g now old l = omega (arith, open_enough n before fs f g now.below now.fresh, old.at g l, times_passing (before f) n g l)

pub turn_counts : (n : ℕ) (before : Relation) (fs ws vs : List ℕ) (f : ℕ) → IsNext n before fs f → AreWaiting n n before fs ws → length vs ≡ length ws → ((g : ℕ) → g < length ws → slice_index vs g + times g (all_below (before f) n) ≡ slice_index ws g) → AreWaiting n n before (fs ++ f ∷ []) vs
turn_counts n before fs ws vs f now old len settled = record {
  len = len ∙ old.len;
  at = λ g l. omega (arith, settled g (omega (arith, l, old.len)), open_enough n before fs f g now.below now.fresh, old.at g l, times_passing (before f) n g l);
}

split : (t e o : Bool) → (((not t && o) && not e) || false) ≡ (not (t || e) && o)
split true e o = refl
split false true true = refl
split false true false = refl
split false false true = refl
split false false false = refl

pub turn_ready : (n : ℕ) (before : Relation) (fs vs r rest more : List ℕ) (f : ℕ) → IsNext n before fs f → IsOrder n before fs → AreReady n before fs r → IsFirstOf r f rest → AreWaiting n n before (fs ++ f ∷ []) vs → ((g : ℕ) → is_in g more ≡ (is_in g rest || (is_in g (all_below (before f) n) && (slice_index vs g == 0)))) → AreReady n before (fs ++ f ∷ []) more
turn_ready n before fs vs r rest more f now sound ready first counts added = λ g. added g ∙ ⊎_elim (inside g) (outside g) (cases_lt g n)
  where
    was : (g : ℕ) → is_in g rest ≡ ((nat_lt g n && (not (is_in g fs) && (open_count n before fs g == 0))) && not (f == g))
    was g = first.others g ∙ ap (λ b. b && not (f == g)) (ready g)

    outside : (g : ℕ) → n ≤ g → (is_in g rest || (is_in g (all_below (before f) n) && (slice_index vs g == 0))) ≡ (nat_lt g n && (not (is_in g (fs ++ f ∷ [])) && (open_count n before (fs ++ f ∷ []) g == 0)))
    outside g l =
        let past = le-ltb g n l in
        let none : is_in g rest ≡ false = was g ∙ ap (λ b. (b && (not (is_in g fs) && (open_count n before fs g == 0))) && not (f == g)) past in
        let out : is_in g (all_below (before f) n) ≡ false = is_in-all_below (before f) n g ∙ ap (λ b. b && before f g) past in
        ap (λ b. b || (is_in g (all_below (before f) n) && (slice_index vs g == 0))) none
        ∙ ap (λ b. b && (slice_index vs g == 0)) out
        ∙ sym (ap (λ b. b && (not (is_in g (fs ++ f ∷ [])) && (open_count n before (fs ++ f ∷ []) g == 0))) past)

    inside : (g : ℕ) → g < n → (is_in g rest || (is_in g (all_below (before f) n) && (slice_index vs g == 0))) ≡ (nat_lt g n && (not (is_in g (fs ++ f ∷ [])) && (open_count n before (fs ++ f ∷ []) g == 0)))
    inside g l =
        ap (λ b. b || (is_in g (all_below (before f) n) && (slice_index vs g == 0))) (was g ∙ ap (λ b. (b && (not (is_in g fs) && (open_count n before fs g == 0))) && not (f == g)) (lt-ltb g n l))
        ∙ ap (λ b. ((not (is_in g fs) && (open_count n before fs g == 0)) && not (f == g)) || (b && (slice_index vs g == 0))) (in_passing (before f) n g l)
        ∙ ap (λ k. ((not (is_in g fs) && (open_count n before fs g == 0)) && not (f == g)) || (before f g && (k == 0))) (counts.at g l)
        ∙ go (before f g) refl
        ∙ ap (λ b. not b && (open_count n before (fs ++ f ∷ []) g == 0)) (sym (is_in_push g f fs))
        ∙ sym (ap (λ b. b && (not (is_in g (fs ++ f ∷ [])) && (open_count n before (fs ++ f ∷ []) g == 0))) (lt-ltb g n l))
      where
        count : open_count n before (fs ++ f ∷ []) g + one (before f g) ≡ open_count n before fs g
        count = open_enough n before fs f g now.below now.fresh

        go : (b : Bool) → before f g ≡ b → (((not (is_in g fs) && (open_count n before fs g == 0)) && not (f == g)) || (b && (open_count n before (fs ++ f ∷ []) g == 0))) ≡ (not (is_in g fs || (f == g)) && (open_count n before (fs ++ f ∷ []) g == 0))
        go false q =
            let none : one (before f g) ≡ 0 = ap one q in
            let same : open_count n before fs g ≡ open_count n before (fs ++ f ∷ []) g = omega (arith, count, none) in
            ap (λ k. ((not (is_in g fs) && (k == 0)) && not (f == g)) || false) same ∙ split (is_in g fs) (f == g) (open_count n before (fs ++ f ∷ []) g == 0)
        go true q =
            let some : one (before f g) ≡ 1 = ap one q in
            let shut : (open_count n before fs g == 0) ≡ false = ne_eqb (open_count n before fs g) 0 (λ e. absurd (omega (arith, count, some, e))) in
            let untaken : is_in g fs ≡ false = ⊎_elim (λ h. absurd (false≢true (sym shut ∙ eq-eqb (open_count n before fs g) 0 (taken_count n before fs g sound h)))) (λ h. h) (cases_Bool (is_in g fs)) in
            let open_f : (open_count n before fs f == 0) ≡ true = count_ready n before fs f ∙ now.ready in
            let apart : (f == g) ≡ false = ne_eqb f g (λ e. false≢true (sym shut ∙ ap (λ k. open_count n before fs k == 0) (sym e) ∙ open_f)) in
            ap (λ b. ((not b && (open_count n before fs g == 0)) && not (f == g)) || (open_count n before (fs ++ f ∷ []) g == 0)) untaken
            ∙ ap (λ b. (b && not (f == g)) || (open_count n before (fs ++ f ∷ []) g == 0)) shut
            ∙ sym (ap (λ b. not (b || (f == g)) && (open_count n before (fs ++ f ∷ []) g == 0)) untaken ∙ ap (λ b. not b && (open_count n before (fs ++ f ∷ []) g == 0)) apart)

-- ---- turns

pub order_more : (n t : ℕ) (before : Relation) (fs : List ℕ) → t < n → order_after (n - t) n before fs ≡ with_next (next n before fs) fs (order_after (n - (t + 1)) n before)
order_more n t before fs h = let e : n - t ≡ suc (n - (t + 1)) = omega arith in ap (λ k. order_after k n before fs) e

pub order_end : (n t : ℕ) (before : Relation) (fs : List ℕ) → n ≤ t → order_after (n - t) n before fs ≡ fs
order_end n t before fs h = let e : n - t ≡ 0 = omega arith in ap (λ k. order_after k n before fs) e
