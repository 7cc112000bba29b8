-- What statements come to, step by step, and locals that are set.
use Rattle.std.proofs.Common.{◌≡◌, ℕ, suc, ◌<◌, ◌≤◌, ◌==◌, Bool, true, false, cond, List, [], ◌∷◌, ◌++◌, length, reverse, take, drop, refl, sym, ap, ◌∙◌, arith, length-append, lt-ltb, append_assoc}
use Rattle.std.specs.Prelude.{ℤ, Result, Ok, Err, nat_lt, option_and_then}
use Rattle.std.proofs.lemmas.Bool.{eqb-true, eqb-false, ltb-true, le-leb}
use Rattle.std.proofs.lemmas.List.{length-reverse, reverse-append, reverse-reverse}
use Rattle.std.proofs.Math.Seq.{take-append_seam, drop-append_seam}
use Rattle.flame_spec.specs.declared.faults.Fault.{Fault}
use Rattle.flame_spec.proofs.FirstBelow.{below_last}
use Rattle.flame_code.specs.Feeds.{last_come}
use Rattle.flame_code.specs.Machine.{Config, StepEnd, with_row, stuck, returned as given_back, faulted as fell}
use Rattle.flame_meaning.specs.Scenes.{Local, Progress}
use Rattle.flame_meaning.specs.Ends.{End, went_on, broke, continued, returned, faulted, with_value, with_values}
use Rattle.flame_number_laws.specs.NumberedScenes.{local_at, set_local_at}
use Rattle.flame_code_laws.specs.CodeRuns.{Running, pushed, Leads, Gives}
use Rattle.flame_code_laws.specs.Likeness.{Alike}
use Rattle.flame_code_laws.specs.Standings.{Frame, IsSound, Follows, Reached, Comes}

-- ---- rows on the stack

-- numbers on the stack, the last first
pushed_reverse : (vs stack : List ℤ) → pushed vs stack ≡ reverse vs ++ stack
pushed_reverse [] stack = refl
pushed_reverse (v ∷ vs) stack =
    pushed_reverse vs (v ∷ stack) ∙ sym (append_assoc (reverse vs) (v ∷ []) stack)
    ∙ ap (λ xs. xs ++ stack) (sym (reverse-append (v ∷ []) vs))

-- they are taken from the stack as they are
pub row_taken :
    (n : ℕ) (vs stack : List ℤ) (go : List ℤ → List ℤ → StepEnd)
    → length vs ≡ n → with_row n (pushed vs stack) go ≡ go vs stack
row_taken n vs stack go long =
    ap (λ k. with_row k (pushed vs stack) go) (sym long ∙ sym (length-reverse vs))
    ∙ ap (λ xs. with_row (length (reverse vs)) xs go) (pushed_reverse vs stack)
    ∙ ap (λ b. cond b (go (reverse (take (length (reverse vs)) (reverse vs ++ stack)))
    (drop (length (reverse vs)) (reverse vs ++ stack))) stuck)
    (le-leb (length (reverse vs)) (length (reverse vs ++ stack))
    (omega (arith, length-append (reverse vs) stack)))
    ∙ ap (λ xs. go (reverse xs) (drop (length (reverse vs)) (reverse vs ++ stack)))
    (take-append_seam (reverse vs) stack)
    ∙ ap (go (reverse (reverse vs))) (drop-append_seam (reverse vs) stack)
    ∙ ap (λ xs. go xs stack) (reverse-reverse vs)

-- ---- locals

-- a local that is set keeps how many there are
pub set_long : (number : ℕ) (v : ℤ) (xs : List Local) → length (set_local_at number v xs) ≡ length xs
set_long number v [] = refl
set_long number v (x ∷ xs) =
    let go :
    (b : Bool)
    → length (cond b (record x { value = v } ∷ xs) (x ∷ set_local_at number v xs)) ≡ suc (length xs) =
    λ b. elim b as (λ b.
    length (cond b (record x { value = v } ∷ xs) (x ∷ set_local_at number v xs)) ≡ suc (length xs)) [
      | true ↦ refl
      | false ↦ ap suc (set_long number v xs)
    ] in
    go (length xs == number)

-- two tests of three numbers, of which two are the same
not_same : (a k n : ℕ) → (a == k) ≡ true → (a == n) ≡ false → (k == n) ≡ false
not_same a k n e d = ap (λ x. x == n) (sym (eqb-true a k e)) ∙ d

-- the same with the second number for the first
other_same : (a k n : ℕ) → (a == n) ≡ true → (a == k) ≡ false → (k == n) ≡ false
other_same a k n e d =
    let go : (b : Bool) → (k == n) ≡ b → b ≡ false =
    λ b. elim b as (λ b. (k == n) ≡ b → b ≡ false) [
      | true ↦ λ is.
          let same : a ≡ n = eqb-true a n e in
          let also : k ≡ n = eqb-true k n is in
          absurd (eqb-false a k d (same ∙ sym also))
      | false ↦ λ is. refl
    ] in
    go (k == n) refl

-- the newest local is set, or an older one; it is read, or an older one
read_by :
    (k number : ℕ) (v : ℤ) (x : Local) (xs : List Local) (b d : Bool)
    → (length xs == number) ≡ b
    → (length xs == k) ≡ d
    → (nat_lt k (length xs) ≡ true
    → local_at k (set_local_at number v xs) ≡ cond (k == number) v (local_at k xs))
    → nat_lt k (suc (length xs)) ≡ true
    → local_at k (cond b (record x { value = v } ∷ xs) (x ∷ set_local_at number v xs))
    ≡ cond (k == number) v (cond d x.value (local_at k xs))
read_by k number v x xs true true sets reads older within =
    ap (λ t. cond t v (local_at k xs)) reads
    ∙ sym (ap (λ t. cond t v x.value) (ap (λ n. n == number) (sym (eqb-true (length xs) k reads)) ∙ sets))
read_by k number v x xs true false sets reads older within =
    ap (λ t. cond t v (local_at k xs)) reads
    ∙ sym (ap (λ t. cond t v (local_at k xs)) (other_same (length xs) k number sets reads))
read_by k number v x xs false true sets reads older within =
    ap (λ n. cond (n == k) x.value (local_at k (set_local_at number v xs))) (set_long number v xs)
    ∙ ap (λ t. cond t x.value (local_at k (set_local_at number v xs))) reads
    ∙ sym (ap (λ t. cond t v x.value) (not_same (length xs) k number reads sets))
read_by k number v x xs false false sets reads older within =
    ap (λ n. cond (n == k) x.value (local_at k (set_local_at number v xs))) (set_long number v xs)
    ∙ ap (λ t. cond t x.value (local_at k (set_local_at number v xs))) reads
    ∙ older (lt-ltb k (length xs) (below_last k (length xs) (eqb-false (length xs) k reads) (ltb-true k (suc (length xs)) within)))

-- it is read there, and the others are as they were
pub set_read :
    (k number : ℕ) (v : ℤ) (xs : List Local)
    → nat_lt k (length xs) ≡ true
    → local_at k (set_local_at number v xs) ≡ cond (k == number) v (local_at k xs)
set_read k number v [] within =
    absurd (let bad : k < 0 = ltb-true k 0 within in omega (arith, bad))
set_read k number v (x ∷ xs) within =
    read_by k number v x xs (length xs == number) (length xs == k) refl refl
    (λ less. set_read k number v xs less) within

-- ---- what the run comes to

-- with this fuel
abbrev pub refuel : ℕ → Config → Config
refuel fuel c = record c { fuel = fuel }

-- what expressions read
pub alike_of : (run : Running) (f : Frame) (s : Progress) (c : Config)
    → IsSound run f → Follows f s c → Alike run f.around f.before s c
alike_of run f s c sound follows = record {
  constants = sound.constants;
  iteration = sound.iteration;
  memory = follows.memory;
  locals = follows.locals;
  rows = λ input inside.
      let current = sound.current input inside in
      record { last = ap (option_and_then last_come) (follows.kept input inside) ∙ current.last; wide = current.wide };
}

-- no more fuel on both sides
pub refueled : (f : Frame) (s : Progress) (c : Config) (fuel : ℕ)
    → fuel ≤ s.fuel → Follows f s c → Follows f (record s { fuel = fuel }) (refuel fuel c)
refueled f s c fuel less follows = record {
  memory = follows.memory;
  locals = follows.locals;
  sent = follows.sent;
  born = follows.born;
  fuel = refl;
  readings = follows.readings;
  kept = follows.kept;
  least = follows.least;
  most = omega (arith, less, follows.most);
}

-- the run comes from an earlier configuration to what a later one comes to
pub reached_led : (run : Running) (f : Frame) (c d : Config) (s : Progress) (q : ℕ)
    → Leads run c d → Reached run f d s q → Reached run f c s q
reached_led run f c d s q leads reached = record {
  there = reached.there;
  follows = reached.follows;
  leads = λ e h. leads e (reached.leads e h);
}

-- so for each end
pub comes_led : (run : Running) (f : Frame) (c d : Config) (n q : ℕ) (e : End)
    → Leads run c d → Comes run f d n q e → Comes run f c n q e
comes_led run f c d n q (went_on s) leads comes = (reached_led run f c d s q leads comes.0, comes.1)
comes_led run f c d n q (broke s) leads comes = reached_led run f c d s f.leave leads comes
comes_led run f c d n q (continued s) leads comes = reached_led run f c d s f.again leads comes
comes_led run f c d n q (returned v s) leads comes = record {
  there = comes.there;
  memory = comes.memory;
  sent = comes.sent;
  born = comes.born;
  fuel = comes.fuel;
  ends = leads (given_back v comes.there) comes.ends;
}
comes_led run f c d n q (faulted fault) leads comes = leads (fell fault) comes

-- a value, and what it comes to behind it
pub value_comes : (run : Running) (f : Frame) (c : Config) (next : ℤ → Config) (n q : ℕ) (x : Result ℤ Fault)
    (go : ℤ → End)
    → Gives run c next x → ((v : ℤ) → Comes run f (next v) n q (go v)) → Comes run f c n q (with_value x go)
value_comes run f c next n q (Ok v) go gives comes = comes_led run f c (next v) n q (go v) gives (comes v)
value_comes run f c next n q (Err fault) go gives comes = gives

-- numbers, and what they come to behind them
pub values_come : (run : Running) (f : Frame) (c : Config) (next : List ℤ → Config) (n q : ℕ)
    (x : Result (List ℤ) Fault) (go : List ℤ → End)
    → Gives run c next x
    → ((vs : List ℤ) → x ≡ Ok vs → Comes run f (next vs) n q (go vs))
    → Comes run f c n q (with_values x go)
values_come run f c next n q (Ok vs) go gives comes = comes_led run f c (next vs) n q (go vs) gives (comes vs refl)
values_come run f c next n q (Err fault) go gives comes = gives
