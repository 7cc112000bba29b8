-- Model order, step by step.
use mathlib.Core.Bool.{or-true}
use Rattle.std.proofs.Common.{◌≡◌, ℕ, zero, suc, ◌+◌, ◌<◌, ◌≤◌, List, [], ◌∷◌, ◌++◌, length, take, get_or, refl, sym, ap, ◌∙◌, subst, arith, true, false, Bool, not, Some, None, Option, cond, ⊎_elim}
use Rattle.std.specs.Prelude.{◌==◌, ◌&&◌, ◌||◌, is_none}
use Rattle.std.proofs.lemmas.Bool.{eqb-true, eq-eqb, ne_eqb, true≢false, false≢true, cases_eq, cases_lt, and_parts, not-true, not-false, or_cases}
use Rattle.std.proofs.lemmas.List.{length_push, take-append-le, get_or_append_left, take_at, get_or_at}
use Rattle.flame_spec.specs.Below.{is_in, times, HasNoTwice}
use Rattle.flame_spec.specs.ModelOrder.{open_before, is_ready, next, with_next, order_after, order, first_left, step_back}
use Rattle.flame_spec.proofs.FirstBelow.{none_fails, first_is_first, none_is, is_in_push, is_in_stays, once_push}

abbrev pub Relation : Type 0
Relation = ℕ → ℕ → Bool

-- ---- who is ready

none_since : (o : Option ℕ) → is_none o ≡ true → o ≡ None
none_since None h = refl
none_since (Some f) h = absurd (false≢true h)

taken_since : (b t : Bool) → b ≡ true → (b && not t) ≡ false → t ≡ true
taken_since true true e h = refl
taken_since true false e h = absurd (true≢false h)
taken_since false t e h = absurd (false≢true e)

-- what stands before a ready function is taken
pub ready_taken : (n : ℕ) (before : Relation) (taken : List ℕ) (g : ℕ) → is_ready n before taken g ≡ true → (f : ℕ) → f < n → before f g ≡ true → is_in f taken ≡ true
ready_taken n before taken g h f l b = taken_since (before f g) (is_in f taken) b (none_fails (λ f. before f g && not (is_in f taken)) n (none_since _ h) f l)

open_shut : (b t : Bool) → (b ≡ true → t ≡ true) → (b && not t) ≡ false
open_shut true true h = refl
open_shut true false h = absurd (false≢true (h refl))
open_shut false t h = refl

-- the other way round
pub taken_ready : (n : ℕ) (before : Relation) (taken : List ℕ) (g : ℕ) → ((f : ℕ) → f < n → before f g ≡ true → is_in f taken ≡ true) → is_ready n before taken g ≡ true
taken_ready n before taken g h = ap is_none (none_is (λ f. before f g && not (is_in f taken)) n (λ f l. open_shut (before f g) (is_in f taken) (h f l)))

-- a function that is not ready has a predecessor that is not taken
pub unready_open : (n : ℕ) (before : Relation) (taken : List ℕ) (g : ℕ) → is_ready n before taken g ≡ false → (f : ℕ) × ((open_before n before taken g ≡ Some f) × (f < n) × (is_in f taken ≡ false) × (before f g ≡ true))
unready_open n before taken g h = go (open_before n before taken g) refl h
  where
    go : (o : Option ℕ) → open_before n before taken g ≡ o → is_none o ≡ false → (f : ℕ) × ((open_before n before taken g ≡ Some f) × (f < n) × (is_in f taken ≡ false) × (before f g ≡ true))
    go None e h = absurd (true≢false h)
    go (Some f) e h =
        let found = first_is_first (λ f. before f g && not (is_in f taken)) n f e in
        let parts = and_parts (before f g) (not (is_in f taken)) found.passes in
        (f, (e, found.below, not-true (is_in f taken) parts.1, parts.0))

-- ---- the next one

pub record IsNext (n : ℕ) (before : Relation) (taken : List ℕ) (g : ℕ) : Type 0 where
  pub below : g < n
  pub fresh : is_in g taken ≡ false
  pub ready : is_ready n before taken g ≡ true

pub next_is_next : (n : ℕ) (before : Relation) (taken : List ℕ) (g : ℕ) → next n before taken ≡ Some g → IsNext n before taken g
next_is_next n before taken g e =
    let found = first_is_first (λ g. not (is_in g taken) && is_ready n before taken g) n g e in
    let parts = and_parts (not (is_in g taken)) (is_ready n before taken g) found.passes in
    record { below = found.below; fresh = not-true (is_in g taken) parts.0; ready = parts.1 }

-- what each step keeps holds of the order
pub order_keeps : (n : ℕ) (before : Relation) (P : List ℕ → Type 0) → ((taken : List ℕ) (g : ℕ) → IsNext n before taken g → P taken → P (taken ++ g ∷ [])) → (more : ℕ) (taken : List ℕ) → P taken → P (order_after more n before taken)
order_keeps n before P step zero taken p = p
order_keeps n before P step (suc more) taken p = go (next n before taken) refl (λ g. order_keeps n before P step more (taken ++ g ∷ []))
  where
    go : (o : Option ℕ) → next n before taken ≡ o → ((g : ℕ) → P (taken ++ g ∷ []) → P (order_after more n before (taken ++ g ∷ []))) → P (with_next o taken (order_after more n before))
    go None e rest = p
    go (Some g) e rest = rest g (step taken g (next_is_next n before taken g e) p)

-- ---- what holds of an order

pub record IsOrder (n : ℕ) (before : Relation) (fs : List ℕ) : Type 0 where
  pub below : (i : ℕ) → i < length fs → get_or fs i 0 < n
  pub ready : (i : ℕ) → i < length fs → is_ready n before (take i fs) (get_or fs i 0) ≡ true
  pub once : HasNoTwice fs
  pub closed : (g : ℕ) → is_in g fs ≡ true → (f : ℕ) → f < n → before f g ≡ true → is_in f fs ≡ true

nothing_is_order : (n : ℕ) (before : Relation) → IsOrder n before []
nothing_is_order n before = record {
  below = λ i h. absurd (omega arith);
  ready = λ i h. absurd (omega arith);
  once = λ g. let none : times g [] ≡ 0 = refl in omega (arith, none);
  closed = λ g h f l b. absurd (false≢true h);
}

pub order_push : (n : ℕ) (before : Relation) (fs : List ℕ) (g : ℕ) → IsNext n before fs g → IsOrder n before fs → IsOrder n before (fs ++ g ∷ [])
order_push n before fs g now old = record {
  below = λ i h. ⊎_elim
      (λ q. let P : ℕ → Type 0 = λ k. k < n in subst P (sym (get_or_append_left fs (g ∷ []) 0 i q)) (old.below i q))
      (λ q. let P : ℕ → Type 0 = λ k. k < n in subst P (sym (get_or_at fs g [] 0 i (omega (arith, length_push fs g)))) now.below)
      (cases_lt i (length fs));
  ready = λ i h. ⊎_elim
      (λ q. ap (λ xs. is_ready n before xs (get_or (fs ++ g ∷ []) i 0)) (take-append-le i fs (g ∷ []) (omega arith)) ∙ ap (is_ready n before (take i fs)) (get_or_append_left fs (g ∷ []) 0 i q) ∙ old.ready i q)
      (λ q. let e : length fs ≡ i = omega (arith, length_push fs g) in ap (λ xs. is_ready n before xs (get_or (fs ++ g ∷ []) i 0)) (take_at fs (g ∷ []) i e) ∙ ap (is_ready n before fs) (get_or_at fs g [] 0 i e) ∙ now.ready)
      (cases_lt i (length fs));
  once = once_push g fs now.fresh old.once;
  closed = λ h t f l b. is_in_stays f g fs (⊎_elim
      (λ q. old.closed h q f l b)
      (λ q. let same : g ≡ h = eqb-true g h q in ready_taken n before fs g now.ready f l (ap (before f) same ∙ b))
      (or_cases (is_in h fs) (g == h) (sym (is_in_push h g fs) ∙ t)));
}

pub order_is_order : (n : ℕ) (before : Relation) → IsOrder n before (order n before)
order_is_order n before = order_keeps n before (IsOrder n before) (order_push n before) n [] (nothing_is_order n before)

-- each is the next one behind those before it
abbrev TakesNext : ℕ → Relation → List ℕ → Type 0
TakesNext n before fs = (i : ℕ) → i < length fs → next n before (take i fs) ≡ Some (get_or fs i 0)

takes_push : (n : ℕ) (before : Relation) (fs : List ℕ) (g : ℕ) → next n before fs ≡ Some g → TakesNext n before fs → TakesNext n before (fs ++ g ∷ [])
takes_push n before fs g e old i h = ⊎_elim
    (λ q. ap (next n before) (take-append-le i fs (g ∷ []) (omega arith)) ∙ old i q ∙ ap Some (sym (get_or_append_left fs (g ∷ []) 0 i q)))
    (λ q. let at : length fs ≡ i = omega (arith, length_push fs g) in ap (next n before) (take_at fs (g ∷ []) i at) ∙ e ∙ ap Some (sym (get_or_at fs g [] 0 i at)))
    (cases_lt i (length fs))

takes_all : (more n : ℕ) (before : Relation) (taken : List ℕ) → TakesNext n before taken → TakesNext n before (order_after more n before taken)
takes_all zero n before taken p = p
takes_all (suc more) n before taken p = go (next n before taken) refl (λ g. takes_all more n before (taken ++ g ∷ []))
  where
    go : (o : Option ℕ) → next n before taken ≡ o → ((g : ℕ) → TakesNext n before (taken ++ g ∷ []) → TakesNext n before (order_after more n before (taken ++ g ∷ []))) → TakesNext n before (with_next o taken (order_after more n before))
    go None e rest = p
    go (Some g) e rest = rest g (takes_push n before taken g e p)

pub order_takes : (n : ℕ) (before : Relation) → TakesNext n before (order n before)
order_takes n before = takes_all n n before [] (λ i h. absurd (omega arith))

pub order_length : (more n : ℕ) (before : Relation) (taken : List ℕ) → length (order_after more n before taken) ≤ length taken + more
order_length zero n before taken = omega arith
order_length (suc more) n before taken = go (next n before taken) (λ g. order_length more n before (taken ++ g ∷ []))
  where
    go : (o : Option ℕ) → ((g : ℕ) → length (order_after more n before (taken ++ g ∷ [])) ≤ length (taken ++ g ∷ []) + more) → length (with_next o taken (order_after more n before)) ≤ length taken + suc more
    go None rest = omega arith
    go (Some g) rest = omega (arith, rest g, length_push taken g)

-- ---- how many numbers below n are not in a list

abbrev absent : Bool → ℕ
absent b = cond b 0 1

abbrev pub remaining : ℕ → List ℕ → ℕ
remaining zero fs = 0
remaining (suc n) fs = absent (is_in n fs) + remaining n fs

fewer_at : (b e : Bool) → absent (b || e) ≤ absent b
fewer_at true true = omega arith
fewer_at true false = omega arith
fewer_at false true = omega arith
fewer_at false false = omega arith

remaining_less : (n : ℕ) (fs : List ℕ) (g : ℕ) → remaining n (fs ++ g ∷ []) ≤ remaining n fs
remaining_less zero fs g = omega arith
remaining_less (suc n) fs g =
    let here : absent (is_in n (fs ++ g ∷ [])) ≤ absent (is_in n fs) = let P : ℕ → Type 0 = λ k. k ≤ absent (is_in n fs) in subst P (ap absent (sym (is_in_push n g fs))) (fewer_at (is_in n fs) (g == n)) in
    omega (arith, here, remaining_less n fs g)

pub remaining_push : (n : ℕ) (fs : List ℕ) (g : ℕ) → g < n → is_in g fs ≡ false → remaining n (fs ++ g ∷ []) + 1 ≤ remaining n fs
remaining_push zero fs g h e = absurd (omega arith)
remaining_push (suc n) fs g h e = ⊎_elim
    (λ q. let now : absent (is_in n (fs ++ g ∷ [])) ≡ 0 = ap absent (is_in_push n g fs ∙ ap (λ b. is_in n fs || b) (eq-eqb g n q) ∙ or-true (is_in n fs)) in
    let was : absent (is_in n fs) ≡ 1 = ap absent (ap (λ k. is_in k fs) (sym q) ∙ e) in
    omega (arith, now, was, remaining_less n fs g))
    (λ q. let same : absent (is_in n (fs ++ g ∷ [])) ≡ absent (is_in n fs) = ap absent (is_in_push n g fs ∙ ap (λ b. is_in n fs || b) (ne_eqb g n q) ∙ or_no (is_in n fs)) in
    omega (arith, same, remaining_push n fs g (below q h) e))
    (cases_eq g n)
  where
    or_no : (b : Bool) → (b || false) ≡ b
    or_no true = refl
    or_no false = refl

    below : (g ≡ n → ⊥) → g < suc n → g < n
    below q h = omega arith

none_left : (n : ℕ) (fs : List ℕ) → remaining n fs ≡ 0 → (g : ℕ) → g < n → is_in g fs ≡ true
none_left zero fs e g h = absurd (omega arith)
none_left (suc n) fs e g h = go (is_in n fs) refl e (none_left n fs)
  where
    go : (b : Bool) → is_in n fs ≡ b → absent b + remaining n fs ≡ 0 → (remaining n fs ≡ 0 → (g : ℕ) → g < n → is_in g fs ≡ true) → is_in g fs ≡ true
    go true t e rest = ⊎_elim (λ q. ap (λ k. is_in k fs) q ∙ t) (λ q. rest (omega (arith, e)) g (below q h)) (cases_eq g n)
      where
        below : (g ≡ n → ⊥) → g < suc n → g < n
        below q h = omega arith
    go false t e rest = absurd (omega (arith, e))

pub remaining_all : (n : ℕ) → remaining n [] ≤ n
remaining_all zero = omega arith
remaining_all (suc n) = omega (arith, remaining_all n)

-- ---- the order goes as far as it can

not_both : (b : Bool) → b ≡ true → (c : Bool) → (not b && c) ≡ false
not_both true h c = refl
not_both false h c = absurd (false≢true h)

order_final : (k n : ℕ) (before : Relation) (fs : List ℕ) → remaining n fs ≤ k → next n before (order_after k n before fs) ≡ None
order_final zero n before fs h = none_is _ n (λ g l. not_both (is_in g fs) (none_left n fs (omega arith) g l) (is_ready n before fs g))
order_final (suc k) n before fs h = go (next n before fs) refl (λ g l. order_final k n before (fs ++ g ∷ []) l)
  where
    go : (o : Option ℕ) → next n before fs ≡ o → ((g : ℕ) → remaining n (fs ++ g ∷ []) ≤ k → next n before (order_after k n before (fs ++ g ∷ [])) ≡ None) → next n before (with_next o fs (order_after k n before)) ≡ None
    go None e rest = e
    go (Some g) e rest = let now = next_is_next n before fs g e in rest g (omega (arith, remaining_push n fs g now.below now.fresh))

pub order_stops : (n : ℕ) (before : Relation) → next n before (order n before) ≡ None
order_stops n before = order_final n n before [] (remaining_all n)

-- ---- who is left over

left_unready : (a b : Bool) → a ≡ false → (not a && b) ≡ false → b ≡ false
left_unready true b p h = absurd (true≢false p)
left_unready false b p h = h

pub left_is_unready : (n : ℕ) (before : Relation) (g : ℕ) → g < n → is_in g (order n before) ≡ false → is_ready n before (order n before) g ≡ false
left_is_unready n before g l h =
    left_unready (is_in g (order n before)) (is_ready n before (order n before) g) h (none_fails (λ g. not (is_in g (order n before)) && is_ready n before (order n before) g) n (order_stops n before) g l)

pub left_steps_back : (n : ℕ) (before : Relation) (g : ℕ) → g < n → is_in g (order n before) ≡ false → (f : ℕ) × ((step_back n before g ≡ Some f) × (f < n) × (is_in f (order n before) ≡ false) × (before f g ≡ true))
left_steps_back n before g l h = unready_open n before (order n before) g (left_is_unready n before g l h)

-- no function is left over where each is in the order, and only there
pub none_left_over : (n : ℕ) (before : Relation) → first_left n before ≡ None → (g : ℕ) → g < n → is_in g (order n before) ≡ true
none_left_over n before e g l = not-false (is_in g (order n before)) (none_fails (λ g. not (is_in g (order n before))) n e g l)

pub all_ordered : (n : ℕ) (before : Relation) → ((g : ℕ) → g < n → is_in g (order n before) ≡ true) → first_left n before ≡ None
all_ordered n before h = none_is (λ g. not (is_in g (order n before))) n (λ g l. ap not (h g l))
