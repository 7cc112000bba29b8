-- Who is free, and what is done.
use Rattle.std.proofs.Common.{◌≡◌, ℕ, zero, suc, ◌<◌, ◌≤◌, Bool, true, false, cond, List, [], ◌∷◌, ◌++◌, length, take, replicate, refl, sym, ap, ◌∙◌, arith, ⊎_elim, add-one, take_all, length-set, get_or-set_same, get_or-set_other}
use Rattle.std.specs.Prelude.{◌==◌, ◌||◌, ◌&&◌, not, slice_index_or, slice_set}
use Rattle.std.specs.List.{All, list_all}
use Rattle.std.proofs.lemmas.Bool.{eq-eqb, ne_eqb, cases_eq, and_parts, and_from, or_right}
use Rattle.std.proofs.lemmas.List.{length-replicate}
use Rattle.std.proofs.lemmas.List.Elements.{All-head, All-tail}
use Rattle.std.proofs.lemmas.List.Folds.{list_all_more, list_all-append, list_any-append}
use Rattle.std.proofs.Math.Bool.{or-false}
use Rattle.flame_spec.specs.Below.{all_below, is_in}
use Rattle.flame_pieces.specs.Waiting.{Awaited, Waiting, thing_at, is_free, waited_by, finished}
use Rattle.flame_pieces.specs.FreeThings.{FreeWhereAllAreDone, FreeWhereTheseAreDone, NothingIsTold, WaitersAreTold, WhatIsDoneIsTold}
use Rattle.flame_events.proofs.Works.{all_of_list}

abbrev lets_go : ℕ → Awaited → Bool
lets_go number thing = thing.done || not (is_in number thing.waiters)

last_one : (done : ℕ → Bool) (test : Bool) (k : ℕ) → (done k || not test) ≡ list_all done (cond test (k ∷ []) [])
last_one done test k =
    elim test as (λ t. (done k || not t) ≡ list_all done (cond t (k ∷ []) [])) [
      | true ↦ elim (done k) as (λ d. (d || false) ≡ (d && true)) [ true ↦ refl | false ↦ refl ]
      | false ↦ elim (done k) as (λ d. (d || true) ≡ true) [ true ↦ refl | false ↦ refl ]
    ]

free_below : (things : List Awaited) (number : ℕ) (test done : ℕ → Bool)
    → ((thing : ℕ) → thing < length things → is_in number (thing_at things thing).waiters ≡ test thing)
    → ((thing : ℕ) → thing < length things → (thing_at things thing).done ≡ done thing)
    → (k : ℕ) → k ≤ length things → list_all (lets_go number) (take k things) ≡ list_all done (all_below test k)
free_below things number test done waits is zero within = refl
free_below things number test done waits is (suc k) within =
    let here : k < length things = omega (arith, within) in
    let earlier = free_below things number test done waits is k (omega (arith, within)) in
    let thing : lets_go number (thing_at things k) ≡ (done k || not (test k)) =
    λ i. is k here i || not (waits k here i) in
    ap (λ n. list_all (lets_go number) (take n things)) (sym (add-one k))
    ∙ list_all_more (lets_go number) things k (record { waiters = []; done = true }) here
    ∙ (λ i. earlier i && thing i)
    ∙ ap (λ b. list_all done (all_below test k) && b) (last_one done (test k) k)
    ∙ sym (list_all-append done (all_below test k) (cond (test k) (k ∷ []) []))

all_of : (waiting : Waiting) (number : ℕ) (test done : ℕ → Bool)
    → ((thing : ℕ) → thing < length waiting.things → is_in number (thing_at waiting.things thing).waiters ≡ test thing)
    → ((thing : ℕ) → thing < length waiting.things → (thing_at waiting.things thing).done ≡ done thing)
    → is_free waiting number ≡ list_all done (all_below test (length waiting.things))
all_of waiting number test done waits is =
    ap (λ l. list_all (lets_go number) l) (sym (take_all (length waiting.things) waiting.things (omega arith)))
    ∙ free_below waiting.things number test done waits is (length waiting.things) (omega arith)

pub free_where_all : FreeWhereAllAreDone
free_where_all things count waits is_done waiting number tells =
    all_of waiting number (λ thing. waits thing number) is_done
    (λ thing within. tells.who thing number (omega (arith, within, tells.long)))
    (λ thing within. tells.which thing (omega (arith, within, tells.long)))
    ∙ ap (λ n. list_all is_done (all_below (λ thing. waits thing number) n)) tells.long

-- ---- of a list

-- all of these are done where all below that stand among these are
member : (done : ℕ → Bool) (these : List ℕ) (n : ℕ) → list_all done (all_below (λ k. is_in k these) n) ≡ true → (k : ℕ) → k < n → is_in k these ≡ true → done k ≡ true
member done these zero all k within among = absurd (omega (arith, within))
member done these (suc n) all k within among =
    let parts = and_parts (list_all done (all_below (λ j. is_in j these) n)) (list_all done (cond (is_in n these) (n ∷ []) []))
    (sym (list_all-append done (all_below (λ j. is_in j these) n) (cond (is_in n these) (n ∷ []) [])) ∙ all) in
    ⊎_elim
    (λ (same : k ≡ n).
    let last : list_all done (n ∷ []) ≡ true = ap (λ t. list_all done (cond t (n ∷ []) [])) (sym (ap (λ j. is_in j these) (sym same) ∙ among)) ∙ parts.1 in
    ap done same ∙ (and_parts (done n) true last).0)
    (λ (apart : k ≡ n → ⊥). member done these n parts.0 k (below_last k n within apart) among)
    (cases_eq k n)
  where
    below_last : (k n : ℕ) → k < suc n → (k ≡ n → ⊥) → k < n
    below_last k n within apart = omega (arith, within, apart)

all_these : (done : ℕ → Bool) (these : List ℕ) (n : ℕ) → All (λ k. k < n) these → ((k : ℕ) → k < n → is_in k these ≡ true → done k ≡ true) → list_all done these ≡ true
all_these done [] n within all = refl
all_these done (first ∷ these) n within all =
    and_from (done first) (list_all done these)
    (all first (All-head (λ k. k < n) first these within) (ap (λ t. t || is_in first these) (eq-eqb first first refl)))
    (all_these done these n (All-tail (λ k. k < n) first these within) (λ k less among. all k less (or_right (first == k) (is_in k these) among)))

all_below_these : (done : ℕ → Bool) (these : List ℕ) → list_all done these ≡ true → (n : ℕ) → list_all done (all_below (λ k. is_in k these) n) ≡ true
all_below_these done these all zero = refl
all_below_these done these all (suc n) =
    list_all-append done (all_below (λ k. is_in k these) n) (cond (is_in n these) (n ∷ []) [])
    ∙ and_from (list_all done (all_below (λ k. is_in k these) n)) (list_all done (cond (is_in n these) (n ∷ []) []))
    (all_below_these done these all n)
    ((elim (is_in n these) as (λ t. is_in n these ≡ t → list_all done (cond t (n ∷ []) []) ≡ true) [
      | true ↦ λ among. and_from (done n) true (all_of_list done these n all among) refl
      | false ↦ λ _. refl
    ])
    refl)

-- two tests that hold of the same are one
both_ways : (a b : Bool) → (a ≡ true → b ≡ true) → (b ≡ true → a ≡ true) → a ≡ b
both_ways true b there back = sym (there refl)
both_ways false true there back = back refl
both_ways false false there back = refl

below_same : (test other : ℕ → Bool) (n : ℕ) → ((k : ℕ) → k < n → test k ≡ other k) → all_below test n ≡ all_below other n
below_same test other zero same = refl
below_same test other (suc n) same =
    let earlier = below_same test other n (λ k less. same k (omega (arith, less))) in
    let here = same n (omega arith) in
    λ i. earlier i ++ cond (here i) (n ∷ []) []

pub free_where_these : FreeWhereTheseAreDone
free_where_these things count waits is_done waiting number these tells within same =
    free_where_all things count waits is_done waiting number tells
    ∙ ap (list_all is_done) (below_same (λ thing. waits thing number) (λ thing. is_in thing these) things same)
    ∙ both_ways (list_all is_done (all_below (λ thing. is_in thing these) things)) (list_all is_done these)
    (λ all. all_these is_done these things within (member is_done these things all))
    (λ all. all_below_these is_done these all things)

-- ---- what is told

there : {X : Type 0} (xs : List X) (k : ℕ) (x d : X) → k < length xs → slice_index_or (slice_set xs k x) k d ≡ x
there xs k x d within = get_or-set_same xs k x d within

nobody : (n k : ℕ) → k < n → thing_at (replicate n (record { waiters = []; done = false })) k ≡ record { waiters = []; done = false }
nobody zero k within = absurd (omega (arith, within))
nobody (suc n) zero within = refl
nobody (suc n) (suc k) within = nobody n k (omega (arith, within))

pub nothing_is_told : NothingIsTold
nothing_is_told things count = record {
  long = length-replicate things (record { waiters = []; done = false });
  many = refl;
  who = λ thing number within. ap (λ (t : Awaited). is_in number t.waiters) (nobody things thing within);
  which = λ thing within. ap (λ (t : Awaited). t.done) (nobody things thing within);
}

pub waiters_are_told : WaitersAreTold
waiters_are_told things count waits is_done waiting thing number within tells =
    let list = waiting.things in
    let none : Awaited = record { waiters = []; done = true } in
    let more = waited_by number (thing_at list thing) in
    let inside : thing < length list = omega (arith, within, tells.long) in
    record {
      long = length-set list thing more ∙ tells.long;
      many = tells.many;
      who = λ other waiter less.
          ⊎_elim
          (λ (same : other ≡ thing).
          let here : thing_at (slice_set list thing more) other ≡ more = ap (λ k. thing_at (slice_set list thing more) k) same ∙ there list thing more none inside in
          let was : is_in waiter (thing_at list thing).waiters ≡ waits other waiter = ap (λ k. is_in waiter (thing_at list k).waiters) (sym same) ∙ tells.who other waiter less in
          ap (λ (t : Awaited). is_in waiter t.waiters) here
          ∙ list_any-append (λ o. o == waiter) (thing_at list thing).waiters (number ∷ [])
          ∙ (λ i. was i || ((number == waiter) || false))
          ∙ ap (λ b. waits other waiter || b) (or-false (number == waiter) ∙ eqb_turned number waiter)
          ∙ ap (λ b. waits other waiter || (b && (waiter == number))) (sym (eq-eqb other thing same)))
          (λ (apart : other ≡ thing → ⊥).
          let here : thing_at (slice_set list thing more) other ≡ thing_at list other = get_or-set_other list thing other more none apart in
          ap (λ (t : Awaited). is_in waiter t.waiters) here
          ∙ tells.who other waiter less
          ∙ sym (ap (λ b. waits other waiter || (b && (waiter == number))) (ne_eqb other thing apart) ∙ or-false (waits other waiter)))
          (cases_eq other thing);
      which = λ other less.
          ⊎_elim
          (λ (same : other ≡ thing).
          ap (λ k. (thing_at (slice_set list thing more) k).done) same
          ∙ ap (λ (t : Awaited). t.done) (there list thing more none inside)
          ∙ ap (λ k. (thing_at list k).done) (sym same)
          ∙ tells.which other less)
          (λ (apart : other ≡ thing → ⊥).
          ap (λ (t : Awaited). t.done) (get_or-set_other list thing other more none apart) ∙ tells.which other less)
          (cases_eq other thing);
    }
  where
    eqb_turned : (a b : ℕ) → (a == b) ≡ (b == a)
    eqb_turned a b =
        ⊎_elim
        (λ (same : a ≡ b). eq-eqb a b same ∙ sym (eq-eqb b a (sym same)))
        (λ (apart : a ≡ b → ⊥). ne_eqb a b apart ∙ sym (ne_eqb b a (λ same. apart (sym same))))
        (cases_eq a b)

pub what_is_done_is_told : WhatIsDoneIsTold
what_is_done_is_told things count waits is_done waiting thing within tells =
    let list = waiting.things in
    let none : Awaited = record { waiters = []; done = true } in
    let after = finished (thing_at list thing) in
    let inside : thing < length list = omega (arith, within, tells.long) in
    record {
      long = length-set list thing after ∙ tells.long;
      many = tells.many;
      who = λ other waiter less.
          ⊎_elim
          (λ (same : other ≡ thing).
          ap (λ k. is_in waiter (thing_at (slice_set list thing after) k).waiters) same
          ∙ ap (λ (t : Awaited). is_in waiter t.waiters) (there list thing after none inside)
          ∙ ap (λ k. is_in waiter (thing_at list k).waiters) (sym same)
          ∙ tells.who other waiter less)
          (λ (apart : other ≡ thing → ⊥).
          ap (λ (t : Awaited). is_in waiter t.waiters) (get_or-set_other list thing other after none apart) ∙ tells.who other waiter less)
          (cases_eq other thing);
      which = λ other less.
          ⊎_elim
          (λ (same : other ≡ thing).
          ap (λ k. (thing_at (slice_set list thing after) k).done) same
          ∙ ap (λ (t : Awaited). t.done) (there list thing after none inside)
          ∙ sym (ap (λ b. b || is_done other) (eq-eqb other thing same)))
          (λ (apart : other ≡ thing → ⊥).
          ap (λ (t : Awaited). t.done) (get_or-set_other list thing other after none apart)
          ∙ tells.which other less
          ∙ sym (ap (λ b. b || is_done other) (ne_eqb other thing apart)))
          (cases_eq other thing);
    }
