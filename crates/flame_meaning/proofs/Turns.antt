-- Fuel never rises, so a loop may be begun anew with what is left.
use Rattle.std.proofs.Common.{◌≡◌, ◌≢◌, ℕ, zero, suc, ◌-◌, ◌<◌, ◌≤◌, List, refl, sym, ap, ◌∙◌, Bool, true, false, cond, Option, arith}
use Rattle.std.specs.Prelude.{ℤ, Result, Ok, Err}
use Rattle.flame_spec.specs.declared.faults.Fault.{Fault}
use Rattle.flame_spec.specs.declared.models.Model.{Model}
use Rattle.flame_spec.specs.Definitions.{Definition}
use Rattle.flame_spec.specs.Trees.{Statements, Assigned}
use Rattle.flame_meaning.specs.Scenes.{Scene, Progress, gave, Calls}
use Rattle.flame_meaning.specs.Expressions.{holds}
use Rattle.flame_meaning.specs.Ends.{End, went_on, broke, continued, returned, faulted, with_value, on_to, as_scope}
use Rattle.flame_meaning.specs.Loops.{pay_from, after_turn, turn, turns, loop}
use Rattle.flame_meaning.specs.Statements.{meanings, step_of}
use Rattle.flame_meaning.specs.HelperCalls.{gives, entered, helper_scene, calls_within}
use Rattle.flame_meaning.specs.Kept.{IsKept, IsKeptByPaying, Leaves}
use Rattle.flame_meaning.proofs.Keeps.{scoped, statements_keep, step_keeps}

-- no more fuel than before
abbrev pub Falls : Progress → Progress → Type 0
Falls s t = t.fuel ≤ s.fuel

pub fuel_kept : (model : Model) → IsKept model Falls
fuel_kept model = record {
  same = λ s. omega arith;
  joined = λ s t u h g. omega arith;
  locals = λ s locals. omega arith;
  memory = λ s column v. omega arith;
  message = λ s word found values e. omega arith;
  birth = λ s word found values e. omega arith;
}

-- calls leave no more than there was
abbrev pub Fall : Calls → Type 0
Fall calls = IsKeptByPaying calls Falls

given_falls :
    (s : Progress) (e : End) (v : ℤ) (fuel : ℕ)
    → Leaves Falls s e
    → gives e ≡ gave v fuel
    → fuel ≤ s.fuel
given_falls s (went_on t) v fuel h e = let same : t.fuel ≡ fuel = cc in omega (arith, h, same)
given_falls s (broke t) v fuel h e = let same : t.fuel ≡ fuel = cc in omega (arith, h, same)
given_falls s (continued t) v fuel h e = let same : t.fuel ≡ fuel = cc in omega (arith, h, same)
given_falls s (returned w t) v fuel h e = let same : t.fuel ≡ fuel = cc in omega (arith, h, same)
given_falls s (faulted fault) v fuel h e = cc

call_falls :
    (levels : ℕ) (model : Model) (helpers : List Definition) (constants : List ℤ) (iteration : ℤ)
    (line : ℕ) (helper : Definition) (values : List ℤ) (before : ℕ) (v : ℤ) (fuel : ℕ)
    → calls_within levels model helpers constants iteration line helper values before ≡ gave v fuel
    → fuel ≤ before
call_falls levels model helpers constants iteration line helper values zero v fuel e = cc
call_falls zero model helpers constants iteration line helper values (suc before) v fuel e = cc
call_falls (suc levels) model helpers constants iteration line helper values (suc before) v fuel e =
    let calls : Calls = calls_within levels model helpers constants iteration in
    let scene : Scene = helper_scene model helpers constants iteration calls in
    let s : Progress = entered helper.parameters values before in
    let fall : Fall calls = record {
      paid = λ t left e. omega arith;
      called = λ t at other given w left e. call_falls levels model helpers constants iteration at other given t.fuel w left e;
    } in
    let less = given_falls s (meanings helper.body scene s) v fuel
    (statements_keep model calls Falls (fuel_kept model) fall helper.body scene s
    (record { same_model = refl; same_calls = refl })) e in
    omega (arith, less)

pub calls_fall :
    (levels : ℕ) (model : Model) (helpers : List Definition) (constants : List ℤ) (iteration : ℤ)
    → Fall (calls_within levels model helpers constants iteration)
calls_fall levels model helpers constants iteration = record {
  paid = λ s fuel e. omega arith;
  called = λ s line helper values v fuel e.
      call_falls levels model helpers constants iteration line helper values s.fuel v fuel e;
}

pub body_falls : (body : Statements) (scene : Scene) (s : Progress) → Fall scene.answers → Leaves Falls s (as_scope (meanings body scene) s)
body_falls body scene s fall =
    scoped scene.context.model scene.answers Falls (fuel_kept scene.context.model) fall (meanings body scene)
    (λ t. statements_keep scene.context.model scene.answers Falls (fuel_kept scene.context.model) fall body scene t
    (record { same_model = refl; same_calls = refl })) s

pub step_falls : (step : Option Assigned) (scene : Scene) (s : Progress) → Fall scene.answers → Leaves Falls s (step_of step scene s)
step_falls step scene s fall =
    step_keeps scene.context.model scene.answers Falls (fuel_kept scene.context.model) fall step scene s
    (record { same_model = refl; same_calls = refl })

same_value :
    (r : Result ℤ Fault) (go other : ℤ → End)
    → ((v : ℤ) → go v ≡ other v)
    → with_value r go ≡ with_value r other
same_value (Ok v) go other k = k v
same_value (Err fault) go other k = refl

same_bool : (b : Bool) (e f g : End) → e ≡ f → cond b e g ≡ cond b f g
same_bool b e f g h = ap (λ x. cond b x g) h

-- what follows matters only with the fuel that is left
same_onward :
    (s : Progress) (e : End) (go other : Progress → End)
    → Leaves Falls s e
    → ((t : Progress) → t.fuel ≤ s.fuel → go t ≡ other t)
    → on_to e go ≡ on_to e other
same_onward s (went_on t) go other h k = k t h
same_onward s (broke t) go other h k = refl
same_onward s (continued t) go other h k = refl
same_onward s (returned v t) go other h k = refl
same_onward s (faulted fault) go other h k = refl

same_turn_end :
    (s : Progress) (e : End) (next other : Progress → End)
    → Leaves Falls s e
    → ((t : Progress) → t.fuel ≤ s.fuel → next t ≡ other t)
    → after_turn e next ≡ after_turn e other
same_turn_end s (went_on t) next other h k = k t h
same_turn_end s (broke t) next other h k = refl
same_turn_end s (continued t) next other h k = k t h
same_turn_end s (returned v t) next other h k = refl
same_turn_end s (faulted fault) next other h k = refl

same_paid :
    (fuel line : ℕ) (s : Progress) (go other : Progress → End)
    → s.fuel ≡ fuel
    → ((t : Progress) → t.fuel < s.fuel → go t ≡ other t)
    → pay_from fuel line s go ≡ pay_from fuel line s other
same_paid zero line s go other e k = refl
same_paid (suc fuel) line s go other e k = k (record s { fuel = fuel }) (omega arith)

module _
    (line : ℕ) (test : Progress → Result ℤ Fault) (body step : Progress → End)
    (body_keeps : (s : Progress) → Leaves Falls s (body s))
    (step_falls_too : (s : Progress) → Leaves Falls s (step s)) where
  -- a turn, and then what matters only with less fuel
  same_turn :
      (s : Progress) (next other : Progress → End)
      → ((t : Progress) → t.fuel < s.fuel → next t ≡ other t)
      → turn line body next s ≡ turn line body other s
  same_turn s next other k =
      same_paid s.fuel line s (λ t. after_turn (body t) next) (λ t. after_turn (body t) other) refl
      (λ t lt. same_turn_end t (body t) next other (body_keeps t) (λ u le. k u (omega arith)))

  -- more units than there are make no difference
  enough :
      (n m : ℕ) (s : Progress)
      → s.fuel ≤ n
      → s.fuel ≤ m
      → turns n line test body step s ≡ turns m line test body step s
  enough zero zero s h g = refl
  enough zero (suc m) s h g =
      let none : s.fuel ≡ 0 = omega arith in
      same_value (test s) _ _ (λ v. same_bool (holds v) _ _ (went_on s)
      (sym (ap (λ f. pay_from f line s (λ t. after_turn (body t) (λ u. on_to (step u) (turns m line test body step)))) none)))
  enough (suc n) zero s h g =
      let none : s.fuel ≡ 0 = omega arith in
      same_value (test s) _ _ (λ v. same_bool (holds v) _ _ (went_on s)
      (ap (λ f. pay_from f line s (λ t. after_turn (body t) (λ u. on_to (step u) (turns n line test body step)))) none))
  enough (suc n) (suc m) s h g =
      same_value (test s) _ _ (λ v. same_bool (holds v) _ _ (went_on s)
      (same_turn s (λ t. on_to (step t) (turns n line test body step)) (λ t. on_to (step t) (turns m line test body step))
      (λ t lt. same_onward t (step t) (turns n line test body step) (turns m line test body step) (step_falls_too t)
      (λ u le. enough n m u (omega arith) (omega arith)))))

  -- a loop is its test, and where that holds a turn, the step and the loop again
  pub again :
      (s : Progress)
      → loop line test body step s
      ≡ with_value (test s) (λ v. cond (holds v) (turn line body (λ t. on_to (step t) (loop line test body step)) s) (went_on s))
  again s =
      enough s.fuel (suc s.fuel) s (omega arith) (omega arith)
      ∙ same_value (test s) _ _ (λ v. same_bool (holds v) _ _ (went_on s)
      (same_turn s (λ t. on_to (step t) (turns s.fuel line test body step)) (λ t. on_to (step t) (loop line test body step))
      (λ t lt. same_onward t (step t) (turns s.fuel line test body step) (loop line test body step) (step_falls_too t)
      (λ u le. enough s.fuel u.fuel u (omega arith) (omega arith)))))

-- the loop of a test, a body and a step, as a function has them
abbrev pub whole : ℕ → (Progress → Result ℤ Fault) → Statements → Option Assigned → Scene → Progress → End
whole line test body step scene = loop line test (as_scope (meanings body scene)) (step_of step scene)

-- what follows a turn
abbrev pub stepped : ℕ → (Progress → Result ℤ Fault) → Statements → Option Assigned → Scene → Progress → End
stepped line test body step scene t = on_to (step_of step scene t) (whole line test body step scene)

-- a test, and where it holds a turn
abbrev pub rolled : ℕ → (Progress → Result ℤ Fault) → Statements → Option Assigned → Scene → Progress → ℤ → End
rolled line test body step scene s v =
    cond (holds v) (turn line (as_scope (meanings body scene)) (stepped line test body step scene) s) (went_on s)

pub unrolled :
    (line : ℕ) (test : Progress → Result ℤ Fault) (body : Statements) (step : Option Assigned) (scene : Scene) (s : Progress)
    → Fall scene.answers
    → whole line test body step scene s ≡ with_value (test s) (rolled line test body step scene s)
unrolled line test body step scene s fall =
    again line test (as_scope (meanings body scene)) (step_of step scene)
    (λ t. body_falls body scene t fall) (λ t. step_falls step scene t fall) s

-- a test that faults ends the loop
pub test_faults :
    (line : ℕ) (test : Progress → Result ℤ Fault) (body : Statements) (step : Option Assigned) (scene : Scene) (s : Progress)
    (fault : Fault)
    → Fall scene.answers
    → test s ≡ Err fault
    → whole line test body step scene s ≡ faulted fault
test_faults line test body step scene s fault fall e =
    unrolled line test body step scene s fall
    ∙ ap (λ r. with_value r (rolled line test body step scene s)) e

-- a test that is 0 ends it
pub test_ends :
    (line : ℕ) (test : Progress → Result ℤ Fault) (body : Statements) (step : Option Assigned) (scene : Scene) (s : Progress)
    (v : ℤ)
    → Fall scene.answers
    → test s ≡ Ok v
    → holds v ≡ false
    → whole line test body step scene s ≡ went_on s
test_ends line test body step scene s v fall e h =
    unrolled line test body step scene s fall
    ∙ ap (λ r. with_value r (rolled line test body step scene s)) e
    ∙ ap (λ b. cond b (turn line (as_scope (meanings body scene)) (stepped line test body step scene) s) (went_on s)) h

-- and one that holds asks for a turn
pub test_holds :
    (line : ℕ) (test : Progress → Result ℤ Fault) (body : Statements) (step : Option Assigned) (scene : Scene) (s : Progress)
    (v : ℤ)
    → Fall scene.answers
    → test s ≡ Ok v
    → holds v ≡ true
    → whole line test body step scene s
    ≡ turn line (as_scope (meanings body scene)) (stepped line test body step scene) s
test_holds line test body step scene s v fall e h =
    unrolled line test body step scene s fall
    ∙ ap (λ r. with_value r (rolled line test body step scene s)) e
    ∙ ap (λ b. cond b (turn line (as_scope (meanings body scene)) (stepped line test body step scene) s) (went_on s)) h

-- a turn that is paid for
pub paid :
    (line fuel : ℕ) (body next : Progress → End) (s : Progress)
    → s.fuel ≢ 0
    → fuel ≡ s.fuel - 1
    → turn line body next s ≡ after_turn (body (record s { fuel = fuel })) next
paid line fuel body next s h e =
    let f : s.fuel ≡ suc fuel = omega arith in
    ap (λ k. pay_from k line s (λ t. after_turn (body t) next)) f
