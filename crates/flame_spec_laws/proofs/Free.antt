-- Bodies without loops and without calls of helpers leave the fuel as it was.
use Rattle.std.proofs.Common.{◌≡◌, ◌≢◌, ℕ, Bool, true, false, cond, List, [], ◌∷◌, length, Option, Some, None}
use Rattle.std.proofs.Common.{refl, sym, ap, ◌∙◌, subst}
use Rattle.std.specs.Prelude.{ℤ, pos, Result, Ok, Err, is_some}
use Rattle.flame_ops.specs.declared.integers.Cause.TheVariants.{Fuel}
use Rattle.flame_ops.specs.declared.integers.Op.{Op}
use Rattle.flame_ops.specs.Integers.{applied}
use Rattle.flame_spec.specs.declared.faults.Fault.{Fault}
use Rattle.flame_spec.specs.declared.models.Variable.{Variable}
use Rattle.flame_spec.specs.declared.outcomes.Effect.{Effect}
use Rattle.flame_spec.specs.declared.outcomes.Outcome.TheVariants.{Ended, Faulted}
use Rattle.flame_spec.specs.CallFaults.{Deed, sets, sends, bears, calls, deed_of}
use Rattle.flame_spec.specs.Conditions.{number_at}
use Rattle.flame_spec.specs.Definitions.{body_of}
use Rattle.flame_spec.specs.LookUps.{memory_named}
use Rattle.flame_spec.specs.Scopes.{memory_at}
use Rattle.flame_spec.specs.Trees.{Stored, plain, called, Indexed, Declared, Assigned}
use Rattle.flame_spec.specs.Trees.{Statement, empty, declare, assign, call, block, branch, while, for, do_while}
use Rattle.flame_spec.specs.Trees.{loop_over, return, break, continue}
use Rattle.flame_spec.specs.Trees.{Statements, no_more, also, Arms, no_arms, arm}
use Rattle.flame_meaning.specs.RangeLaws.{Each, IfAny}
use Rattle.flame_meaning.specs.Scenes.{Scene, Progress, local_value, named, array_named, element_column}
use Rattle.flame_meaning.specs.Expressions.{at_line, holds, value_of, values_of}
use Rattle.flame_meaning.specs.Ends.{End, went_on, broke, continued, returned, faulted}
use Rattle.flame_meaning.specs.Ends.{with_value, with_values, on_to, leave, as_scope}
use Rattle.flame_meaning.specs.Statements.{by_value, by_initial, declarations, set_local, set_found, set_name}
use Rattle.flame_meaning.specs.Statements.{with_local, with_column, assigned_by, done, meaning, meanings, first_arm}
use Rattle.flame_meaning.specs.Outcomes.{start, ended, finished, scene_of, outcome_at}
use Rattle.flame_spec_laws.specs.FreeBodies.{IsPlain, CallsNone, IsFree, AreFree, ArmsAreFree, FreeFunctionsSpendNothing}
use Rattle.flame_spec_laws.specs.FreeBodies.{FreeFunctionsNeverLackFuel}
use Rattle.flame_spec_laws.proofs.Causes.{IsPaid, other_index, applied_paid, value_paid, values_paid}

-- it has this much fuel, however it ended; where it faulted, it was not for want of fuel
abbrev Still : ℕ → End → Type 0
Still n (went_on t) = t.fuel ≡ n
Still n (broke t) = t.fuel ≡ n
Still n (continued t) = t.fuel ≡ n
Still n (returned v t) = t.fuel ≡ n
Still n (faulted fault) = fault.cause ≢ Fuel

module _ (n : ℕ) where
  valued : (r : Result ℤ Fault) (go : ℤ → End) → IsPaid r → ((v : ℤ) → Still n (go v)) → Still n (with_value r go)
  valued (Ok v) go h k = k v
  valued (Err fault) go h k = h

  all_valued :
      (r : Result (List ℤ) Fault) (go : List ℤ → End)
      → IsPaid r
      → ((vs : List ℤ) → Still n (go vs))
      → Still n (with_values r go)
  all_valued (Ok vs) go h k = k vs
  all_valued (Err fault) go h k = h

  by_bool : (b : Bool) (e f : End) → Still n e → Still n f → Still n (cond b e f)
  by_bool true e f h g = h
  by_bool false e f h g = g

  by_column : (line : ℕ) (o : Option ℕ) (go : ℕ → End) → ((k : ℕ) → Still n (go k)) → Still n (with_column line o go)
  by_column line None go k = other_index
  by_column line (Some column) go k = k column

  onward :
      (e : End) (go : Progress → End)
      → Still n e
      → ((t : Progress) → t.fuel ≡ n → Still n (go t))
      → Still n (on_to e go)
  onward (went_on t) go h k = k t h
  onward (broke t) go h k = h
  onward (continued t) go h k = h
  onward (returned v t) go h k = h
  onward (faulted fault) go h k = h

  left : (k : ℕ) (e : End) → Still n e → Still n (leave k e)
  left k (went_on t) h = h
  left k (broke t) h = h
  left k (continued t) h = h
  left k (returned v t) h = h
  left k (faulted fault) h = h

  scoped : (run : Progress → End) (s : Progress) → Still n (run s) → Still n (as_scope run s)
  scoped run s h = left (length s.locals) (run s) h

  -- ---- values

  value_still :
      (value : Stored) (scene : Scene) (s : Progress) (go : ℤ → Progress → End)
      → IsPlain value
      → ((v : ℤ) → Still n (go v s))
      → Still n (by_value value scene s go)
  value_still (plain e) scene s go is k = valued (value_of e scene s) _ (value_paid e scene s) k
  value_still (called line word arguments) scene s go is k = absurd is

  initial_still :
      (value : Option Stored) (scene : Scene) (s : Progress) (go : ℤ → Progress → End)
      → IfAny IsPlain value
      → ((v : ℤ) → Still n (go v s))
      → Still n (by_initial value scene s go)
  initial_still None scene s go is k = k (pos 0)
  initial_still (Some value) scene s go is k = value_still value scene s go is k

  declared_still :
      (items : List Declared) (scene : Scene) (s : Progress)
      → Each (λ item. IfAny IsPlain item.value) items
      → s.fuel ≡ n
      → Still n (declarations items scene s)
  declared_still [] scene s are same = same
  declared_still (item ∷ items) scene s are same =
      initial_still item.value scene s _ are.0
      (λ v. declared_still items scene (with_local item.name v s) are.1 same)

-- ---- assignments

found_still : (found : Option (ℕ × Variable)) (v : ℤ) (s : Progress) → (set_found found v s).fuel ≡ s.fuel
found_still None v s = refl
found_still (Some found) v s = refl

name_still : (word : List ℕ) (v : ℤ) (scene : Scene) (s : Progress) → (set_name word v scene s).fuel ≡ s.fuel
name_still word v scene s =
    by_place (is_some (local_value word s.locals))
  where
    by_place :
        (b : Bool)
        → (cond b (record s { locals = set_local word v s.locals })
        (set_found (memory_named (memory_at scene.context) word) v s)).fuel ≡ s.fuel
    by_place true = refl
    by_place false = found_still (memory_named (memory_at scene.context) word) v s

form_still :
    (place : Option Indexed) (op : Option Op) (a : Assigned) (scene : Scene) (s : Progress)
    → IsPlain a.value
    → Still s.fuel (assigned_by place op a scene s)
form_still None None a scene s is =
    value_still s.fuel a.value scene s _ is (λ v. name_still a.name v scene s)
form_still None (Some op) a scene s is =
    value_still s.fuel a.value scene s _ is
    (λ v.
    valued s.fuel (at_line a.op_line (applied op (named a.name scene s) v)) _
    (applied_paid a.op_line op (named a.name scene s) v) (λ w. name_still a.name w scene s))
form_still (Some place) None a scene s is =
    valued s.fuel (value_of place.index scene s) _ (value_paid place.index scene s)
    (λ i. value_still s.fuel a.value scene s _ is
    (λ v. by_column s.fuel place.line (element_column (array_named a.name scene s) i) _ (λ column. refl)))
form_still (Some place) (Some op) a scene s is =
    valued s.fuel (value_of place.index scene s) _ (value_paid place.index scene s)
    (λ i. by_column s.fuel place.line (element_column (array_named a.name scene s) i) _
    (λ column. value_still s.fuel a.value scene s _ is
    (λ v.
    valued s.fuel (at_line a.op_line (applied op (number_at s.memory column) v)) _
    (applied_paid a.op_line op (number_at s.memory column) v) (λ w. refl))))

done_still :
    (deed : Option Deed) (line : ℕ) (values : List ℤ) (scene : Scene) (s : Progress)
    → CallsNone deed
    → Still s.fuel (done deed line values scene s)
done_still None line values scene s none = refl
done_still (Some (sets column variable)) line values scene s none = refl
done_still (Some (sends number message)) line values scene s none = refl
done_still (Some (bears number type)) line values scene s none = refl
done_still (Some (calls number helper)) line values scene s none = absurd none

-- ---- statements

mutual
  statement_still :
      (x : Statement) (scene : Scene) (s : Progress)
      → IsFree scene.context x
      → Still s.fuel (meaning x scene s)
  statement_still empty scene s is = refl
  statement_still (declare items) scene s is = declared_still s.fuel items scene s is refl
  statement_still (assign a) scene s is = form_still a.subscript a.op a scene s is
  statement_still (call line word arguments) scene s is =
      all_valued s.fuel (values_of arguments scene s) _ (values_paid arguments scene s)
      (λ values. done_still (deed_of scene.context word) line values scene s is)
  statement_still (block body) scene s is =
      scoped s.fuel (meanings body scene) s (statements_still body scene s is)
  statement_still (branch tests otherwise) scene s is =
      arms_still tests (as_scope (meanings otherwise scene)) scene s is.0
      (scoped s.fuel (meanings otherwise scene) s (statements_still otherwise scene s is.1))
  statement_still (while line test body) scene s is = absurd is
  statement_still (for line first test step body) scene s is = absurd is
  statement_still (do_while line body test) scene s is = absurd is
  statement_still (loop_over line word body end_line end_word) scene s is = absurd is
  statement_still (return e) scene s is = valued s.fuel (value_of e scene s) _ (value_paid e scene s) (λ v. refl)
  statement_still (break line) scene s is = refl
  statement_still (continue line) scene s is = refl

  statements_still :
      (xs : Statements) (scene : Scene) (s : Progress)
      → AreFree scene.context xs
      → Still s.fuel (meanings xs scene s)
  statements_still no_more scene s are = refl
  statements_still (also x xs) scene s are =
      onward s.fuel (meaning x scene s) (meanings xs scene) (statement_still x scene s are.0)
      (λ t same. subst (λ n. Still n (meanings xs scene t)) same (statements_still xs scene t are.1))

  arms_still :
      (tests : Arms) (otherwise : Progress → End) (scene : Scene) (s : Progress)
      → ArmsAreFree scene.context tests
      → Still s.fuel (otherwise s)
      → Still s.fuel (first_arm tests otherwise scene s)
  arms_still no_arms otherwise scene s are k = k
  arms_still (arm test body more) otherwise scene s are k =
      valued s.fuel (value_of test scene s) _ (value_paid test scene s)
      (λ v. by_bool s.fuel (holds v) (as_scope (meanings body scene) s) (first_arm more otherwise scene s)
      (scoped s.fuel (meanings body scene) s (statements_still body scene s are.0))
      (arms_still more otherwise scene s are.1 k))

-- ---- functions

ended_still :
    (memory : Option (List ℤ)) (s : Progress) (n : ℕ) (effect : Effect)
    → s.fuel ≡ n
    → ended memory s ≡ Ended effect
    → effect.fuel ≡ n
ended_still memory s n effect same is = let left : s.fuel ≡ effect.fuel = cc in sym left ∙ same

finished_still :
    (e : End) (n : ℕ) (effect : Effect)
    → Still n e
    → finished e ≡ Ended effect
    → effect.fuel ≡ n
finished_still (went_on s) n effect same is = ended_still (Some s.memory) s n effect same is
finished_still (broke s) n effect same is = ended_still (Some s.memory) s n effect same is
finished_still (continued s) n effect same is = ended_still (Some s.memory) s n effect same is
finished_still (returned v s) n effect same is =
    by_test (holds v) is
  where
    by_test : (b : Bool) → cond b (ended None s) (ended (Some s.memory) s) ≡ Ended effect → effect.fuel ≡ n
    by_test true is' = ended_still None s n effect same is'
    by_test false is' = ended_still (Some s.memory) s n effect same is'
finished_still (faulted fault) n effect same is = cc

pub free_functions_spend_nothing : FreeFunctionsSpendNothing
free_functions_spend_nothing source function place memory readings constants iteration fuel effect at are is =
    let scene : Scene = scene_of source place readings constants iteration in
    finished_still (meanings (body_of source.units place.function) scene (start memory fuel)) fuel effect
    (statements_still (body_of source.units place.function) scene (start memory fuel) are)
    (sym (ap (λ o. outcome_at o source memory readings constants iteration fuel) at) ∙ is)

never_lacking :
    (e : End) (n : ℕ) (fault : Fault)
    → Still n e
    → finished e ≡ Faulted fault
    → fault.cause ≢ Fuel
never_lacking (went_on s) n fault same is = cc
never_lacking (broke s) n fault same is = cc
never_lacking (continued s) n fault same is = cc
never_lacking (returned v s) n fault same is =
    by_test (holds v) is
  where
    by_test : (b : Bool) → cond b (ended None s) (ended (Some s.memory) s) ≡ Faulted fault → fault.cause ≢ Fuel
    by_test true is' = absurd (cc)
    by_test false is' = absurd (cc)
never_lacking (faulted other) n fault paid is =
    let same : other ≡ fault = cc in
    subst (λ f. f.cause ≢ Fuel) same paid

pub free_functions_never_lack_fuel : FreeFunctionsNeverLackFuel
free_functions_never_lack_fuel source function place memory readings constants iteration fuel fault at are is =
    let scene : Scene = scene_of source place readings constants iteration in
    never_lacking (meanings (body_of source.units place.function) scene (start memory fuel)) fuel fault
    (statements_still (body_of source.units place.function) scene (start memory fuel) are)
    (sym (ap (λ o. outcome_at o source memory readings constants iteration fuel) at) ∙ is)
