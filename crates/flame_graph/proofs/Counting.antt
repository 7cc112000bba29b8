-- Counts of open predecessors.
use mathlib.Core.Bool.{or-true}
use Rattle.std.proofs.Common.{◌≡◌, ℕ, zero, suc, ◌+◌, ◌<◌, ◌≤◌, List, [], ◌∷◌, ◌++◌, length, get_or, refl, sym, ap, ◌∙◌, arith, true, false, Bool, not, Some, None, Option, cond, ⊎_elim, slice_index}
use Rattle.std.specs.Prelude.{◌==◌, ◌&&◌, ◌||◌, is_none, nat_lt}
use Rattle.std.specs.Option.{option_or}
use Rattle.std.specs.List.{All}
use Rattle.std.proofs.Math.Bool.{and-true, and-false, or-false}
use Rattle.std.proofs.lemmas.Bool.{eq-eqb, ne_eqb, eqb-true, cases_eq, cases_lt, lt-ltb, le-ltb, ltb-true, and_parts}
use Rattle.std.proofs.lemmas.List.Folds.{list_any_at}
use Rattle.flame_spec.specs.Below.{all_below, first_below, is_in, times}
use Rattle.flame_spec.specs.ModelOrder.{is_ready}
use Rattle.flame_spec.proofs.FirstBelow.{one, is_in_push, is_in-all_below, times-all_below}
use Rattle.flame_spec.proofs.Orders.{Relation, IsOrder, taken_ready}
use Rattle.flame_graph.specs.Graph.{open_count, AreWaiting}

sum_zero : (a : ℕ) (b : Bool) → (a + cond b 1 0 == 0) ≡ ((a == 0) && not b)
sum_zero a true = ne_eqb (a + 1) 0 (λ e. absurd (omega (arith, e))) ∙ sym (and-false (a == 0))
sum_zero a false = let e : a + 0 ≡ a = omega arith in ap (λ k. k == 0) e ∙ sym (and-true (a == 0))

none_or : (o : Option ℕ) (b : Bool) (k : ℕ) → is_none (option_or o (cond b (Some k) None)) ≡ (is_none o && not b)
none_or None true k = refl
none_or None false k = refl
none_or (Some f) b k = refl

count_none : (k : ℕ) (before : Relation) (taken : List ℕ) (g : ℕ) → (open_count k before taken g == 0) ≡ is_none (first_below (λ f. before f g && not (is_in f taken)) k)
count_none zero before taken g = refl
count_none (suc k) before taken g =
    let b = before k g && not (is_in k taken) in
    sum_zero (open_count k before taken g) b
    ∙ ap (λ t. t && not b) (count_none k before taken g)
    ∙ sym (none_or (first_below (λ f. before f g && not (is_in f taken)) k) b k)

-- a node is ready where its count is 0
pub count_ready : (n : ℕ) (before : Relation) (taken : List ℕ) (g : ℕ) → (open_count n before taken g == 0) ≡ is_ready n before taken g
count_ready n before taken g = count_none n before taken g

pub count_small : (k : ℕ) (before : Relation) (taken : List ℕ) (g : ℕ) → open_count k before taken g ≤ k
count_small zero before taken g = omega arith
count_small (suc k) before taken g = go (before k g && not (is_in k taken)) (count_small k before taken g)
  where
    go : (b : Bool) → open_count k before taken g ≤ k → open_count k before taken g + cond b 1 0 ≤ suc k
    go true h = omega (arith, h)
    go false h = omega (arith, h)

-- one node more is taken
pub count_push : (k : ℕ) (before : Relation) (taken : List ℕ) (f g : ℕ) → is_in f taken ≡ false → open_count k before (taken ++ f ∷ []) g + one (nat_lt f k && before f g) ≡ open_count k before taken g
count_push zero before taken f g h = let none : one (nat_lt f 0 && before f g) ≡ 0 = ap (λ b. one (b && before f g)) (le-ltb f 0 (omega arith)) in omega (arith, none)
count_push (suc k) before taken f g h = ⊎_elim (same (count_push k before taken f g h)) (other (count_push k before taken f g h)) (cases_eq f k)
  where
    same : open_count k before (taken ++ f ∷ []) g + one (nat_lt f k && before f g) ≡ open_count k before taken g → f ≡ k → open_count (suc k) before (taken ++ f ∷ []) g + one (nat_lt f (suc k) && before f g) ≡ open_count (suc k) before taken g
    same rest e =
        let below : one (nat_lt f k && before f g) ≡ 0 = ap (λ b. one (b && before f g)) (le-ltb f k (omega arith)) in
        let now : one (nat_lt f (suc k) && before f g) ≡ one (before f g) = ap (λ b. one (b && before f g)) (lt-ltb f (suc k) (omega arith)) in
        let after : one (before k g && not (is_in k (taken ++ f ∷ []))) ≡ 0 = ap (λ t. one (before k g && not t)) (is_in_push k f taken ∙ ap (λ b. is_in k taken || b) (eq-eqb f k e) ∙ or-true (is_in k taken)) ∙ ap one (and-false (before k g)) in
        let earlier : one (before k g && not (is_in k taken)) ≡ one (before f g) = ap (λ j. one (before j g && not (is_in j taken))) (sym e) ∙ ap (λ t. one (before f g && not t)) h ∙ ap one (and-true (before f g)) in
        omega (arith, rest, below, now, after, earlier)

    other : open_count k before (taken ++ f ∷ []) g + one (nat_lt f k && before f g) ≡ open_count k before taken g → (f ≡ k → ⊥) → open_count (suc k) before (taken ++ f ∷ []) g + one (nat_lt f (suc k) && before f g) ≡ open_count (suc k) before taken g
    other rest e =
        let now : one (nat_lt f (suc k) && before f g) ≡ one (nat_lt f k && before f g) = ap (λ b. one (b && before f g)) (side e) in
        let after : one (before k g && not (is_in k (taken ++ f ∷ []))) ≡ one (before k g && not (is_in k taken)) = ap (λ t. one (before k g && not t)) (is_in_push k f taken ∙ ap (λ b. is_in k taken || b) (ne_eqb f k e) ∙ or-false (is_in k taken)) in
        omega (arith, rest, now, after)
      where
        side : (f ≡ k → ⊥) → nat_lt f (suc k) ≡ nat_lt f k
        side e = ⊎_elim
            (λ l. lt-ltb f (suc k) (omega arith) ∙ sym (lt-ltb f k l))
            (λ l. le-ltb f (suc k) (omega arith) ∙ sym (le-ltb f k l))
            (cases_lt f k)

-- what is taken has no open predecessors
pub taken_count : (n : ℕ) (before : Relation) (taken : List ℕ) (g : ℕ) → IsOrder n before taken → is_in g taken ≡ true → open_count n before taken g ≡ 0
taken_count n before taken g o h = eqb-true (open_count n before taken g) 0 (count_ready n before taken g ∙ taken_ready n before taken g (o.closed g h))

-- ---- lists of the numbers that pass

pub below_all : (test : ℕ → Bool) (n : ℕ) → All (λ g. g < n) (all_below test n)
below_all test n = λ i d h.
    let x = get_or (all_below test n) i d in
    let there : is_in x (all_below test n) ≡ true = list_any_at (λ o. o == x) (all_below test n) i d h (eq-eqb x x refl) in
    ltb-true x n (and_parts (nat_lt x n) (test x) (sym (is_in-all_below test n x) ∙ there)).0

-- how often a number below n stands there
pub times_passing : (test : ℕ → Bool) (n g : ℕ) → g < n → times g (all_below test n) ≡ one (test g)
times_passing test n g l = times-all_below test n g ∙ ap (λ b. one (b && test g)) (lt-ltb g n l)

pub in_passing : (test : ℕ → Bool) (n g : ℕ) → g < n → is_in g (all_below test n) ≡ test g
in_passing test n g l = is_in-all_below test n g ∙ ap (λ b. b && test g) (lt-ltb g n l)

-- one list more is counted
pub waiting_more : (i n : ℕ) (before : Relation) (counts raised : List ℕ) → i < n → AreWaiting i n before [] counts → length raised ≡ length counts → ((g : ℕ) → g < length counts → slice_index raised g ≡ slice_index counts g + times g (all_below (before i) n)) → AreWaiting (i + 1) n before [] raised
waiting_more i n before counts raised l old len more = record {
  len = len ∙ old.len;
  at = λ g q.
      let next : open_count (i + 1) before [] g ≡ open_count (suc i) before [] g = let e : i + 1 ≡ suc i = omega arith in ap (λ k. open_count k before [] g) e in
      let last : one (before i g && not (is_in i [])) ≡ one (before i g) = ap one (and-true (before i g)) in
      omega (arith, more g (omega (arith, q, old.len)), old.at g q, times_passing (before i) n g q, next, last);
}
