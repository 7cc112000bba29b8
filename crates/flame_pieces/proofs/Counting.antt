-- Counts of those that wait.
use Rattle.std.proofs.Common.{◌≡◌, ℕ, zero, suc, ◌+◌, ◌-◌, ◌<◌, List, [], ◌∷◌, length, get_or, set, refl, sym, ap, ◌∙◌, subst, arith, ⊎_elim, Bool, true, false, cond, get_or-set_same, get_or-set_other, length-set, zero-add}
use Rattle.std.specs.Prelude.{◌==◌, ◌||◌, not, slice_index, slice_set}
use Rattle.std.specs.List.{All, list_all}
use Rattle.std.proofs.lemmas.Bool.{eq-eqb, ne_eqb, cases_eq}
use Rattle.std.proofs.lemmas.List.Elements.{All-set, All-push, All-get_or}
use Rattle.std.proofs.lemmas.List.Folds.{sum_by-zero}
use Rattle.std.proofs.lemmas.List.Sums.{sum_by-cons, sum_by_push, sum_by-set}
use Rattle.flame_spec.specs.Below.{is_in, times}
use Rattle.flame_pieces.specs.Waiting.{Awaited, thing_at, is_free, waited_by, finished, open_times, AreCounts}

abbrev pub one : Bool → ℕ
one here = cond here 1 0

-- ---- a thing changes

-- what is not done is there
pub is_there : (things : List Awaited) (thing : ℕ) → (thing_at things thing).done ≡ false → thing < length things
is_there [] thing waits = absurd cc
is_there (first ∷ things) zero waits = omega arith
is_there (first ∷ things) (suc thing) waits = omega (arith, is_there things thing waits)

-- how often one waits for a thing that is not done
pub open_is : (number : ℕ) (thing : Awaited) → thing.done ≡ false → open_times number thing ≡ times number thing.waiters
open_is number thing waits = ap (λ d. cond d 0 (times number thing.waiters)) waits

pub within_at : (things : List Awaited) (counts : List ℕ) (thing : ℕ) → AreCounts things counts → (thing_at things thing).done ≡ false
    → All (λ waiter. waiter < length counts) (thing_at things thing).waiters
within_at things counts thing are waits =
    All-get_or (λ (t : Awaited). All (λ waiter. waiter < length counts) t.waiters) things thing (record { waiters = []; done = true }) (is_there things thing waits) are.within

pub counts_finished : (things : List Awaited) (counts after : List ℕ) (thing : ℕ) → AreCounts things counts → (thing_at things thing).done ≡ false
    → length after ≡ length counts
    → ((number : ℕ) → slice_index after number + times number (thing_at things thing).waiters ≡ slice_index counts number)
    → AreCounts (slice_set things thing (finished (thing_at things thing))) after
counts_finished things counts after thing are waits long less = record {
  within =
      subst (λ n. All (λ (t : Awaited). All (λ waiter. waiter < n) t.waiters) (slice_set things thing (finished (thing_at things thing)))) (sym long)
      (All-set (λ (t : Awaited). All (λ waiter. waiter < length counts) t.waiters) things thing (finished (thing_at things thing)) (within_at things counts thing are waits) are.within);
  counted = λ number.
      let changed = sum_by-set (open_times number) things thing (finished (thing_at things thing)) (record { waiters = []; done = true }) (is_there things thing waits) in
      omega (arith, changed, open_is number (thing_at things thing) waits, are.counted number, less number);
}

pub counts_added : (things : List Awaited) (counts : List ℕ) (thing waiter : ℕ) → AreCounts things counts → (thing_at things thing).done ≡ false
    → waiter < length counts
    → AreCounts (slice_set things thing (waited_by waiter (thing_at things thing))) (slice_set counts waiter (slice_index counts waiter + 1))
counts_added things counts thing waiter are waits within =
    let now = thing_at things thing in
    let more = waited_by waiter now in
    let after = set counts waiter (get_or counts waiter 0 + 1) in
    record {
      within =
          subst (λ n. All (λ (t : Awaited). All (λ w. w < n) t.waiters) (slice_set things thing more)) (sym (length-set counts waiter (get_or counts waiter 0 + 1)))
          (All-set (λ (t : Awaited). All (λ w. w < length counts) t.waiters) things thing more
          (All-push (λ w. w < length counts) now.waiters waiter (within_at things counts thing are waits) within) are.within);
      counted = λ number.
          let changed = sum_by-set (open_times number) things thing more (record { waiters = []; done = true }) (is_there things thing waits) in
          let pushed : times number more.waiters ≡ times number now.waiters + one (waiter == number) = sum_by_push (λ x. cond (x == number) 1 0) now.waiters waiter in
          let was = open_is number now waits in
          let is = open_is number more waits in
          ⊎_elim
          (λ (same : waiter ≡ number).
          let counted = ap one (eq-eqb waiter number same) in
          let here : get_or after number 0 ≡ get_or counts waiter 0 + 1 = ap (λ k. get_or after k 0) (sym same) ∙ get_or-set_same counts waiter (get_or counts waiter 0 + 1) 0 within in
          let there : get_or counts waiter 0 ≡ get_or counts number 0 = ap (λ k. get_or counts k 0) same in
          omega (arith, here, there, counted, changed, pushed, was, is, are.counted number))
          (λ (apart : waiter ≡ number → ⊥).
          let none = ap one (ne_eqb waiter number apart) in
          let here : get_or after number 0 ≡ get_or counts number 0 = get_or-set_other counts waiter number (get_or counts waiter 0 + 1) 0 (λ same. apart (sym same)) in
          omega (arith, here, none, changed, pushed, was, is, are.counted number))
          (cases_eq waiter number);
    }

-- ---- nothing is left

times_none : (number : ℕ) (waiters : List ℕ) → (times number waiters == 0) ≡ not (is_in number waiters)
times_none number [] = refl
times_none number (waiter ∷ waiters) =
    ap (λ n. n == 0) (sum_by-cons (λ x. cond (x == number) 1 0) waiter waiters)
    ∙ elim (waiter == number) as (λ t. (cond t 1 0 + times number waiters == 0) ≡ not (t || is_in number waiters)) [
      | true ↦ ne_eqb (1 + times number waiters) 0 (λ e. absurd (omega (arith, e)))
      | false ↦ ap (λ n. n == 0) (zero-add (times number waiters)) ∙ times_none number waiters
    ]

open_none : (number : ℕ) (thing : Awaited) → (open_times number thing == 0) ≡ (thing.done || not (is_in number thing.waiters))
open_none number thing =
    elim thing.done as (λ d. (cond d 0 (times number thing.waiters) == 0) ≡ (d || not (is_in number thing.waiters))) [
      | true ↦ refl
      | false ↦ times_none number thing.waiters
    ]

-- who has no count left is free
pub count_none : (things : List Awaited) (counts : List ℕ) (number count : ℕ) → AreCounts things counts
    → (slice_index counts number == 0) ≡ is_free (record { things = things; count = count }) number
count_none things counts number count are =
    ap (λ n. n == 0) (are.counted number)
    ∙ sum_by-zero (open_times number) things
    ∙ (λ i. list_all (λ thing. open_none number thing i) things)
