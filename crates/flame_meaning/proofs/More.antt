-- With more fuel everything goes alike, and so much more is left.
use Rattle.std.proofs.Common.{◌≡◌, ◌≢◌, ℕ, zero, suc, ◌+◌, ◌≤◌, List, [], ◌∷◌, refl, sym, ap, ◌∙◌, subst, Bool, true, false, cond, Option, Some, None, arith}
use Rattle.std.specs.Prelude.{ℤ, pos, Result, Ok, Err, is_some, slice_get, length, unwrap_or}
use Rattle.flame_rows.proofs.Truths.{cond-same}
use Rattle.flame_ops.specs.declared.integers.Op.{Op}
use Rattle.flame_ops.specs.declared.integers.Cause.TheVariants.{Fuel}
use Rattle.flame_ops.specs.Integers.{applied}
use Rattle.flame_spec.specs.declared.faults.Fault.{Fault}
use Rattle.flame_spec.specs.declared.models.Model.{Model}
use Rattle.flame_spec.specs.declared.models.Variable.{Variable}
use Rattle.flame_spec.specs.declared.outcomes.Source.{Source}
use Rattle.flame_spec.specs.declared.outcomes.Effect.{Effect}
use Rattle.flame_spec.specs.declared.outcomes.Outcome.{Outcome}
use Rattle.flame_spec.specs.declared.outcomes.Outcome.TheVariants.{Ended, Faulted}
use Rattle.flame_spec.specs.CallFaults.{Deed, sets, sends, bears, calls, deed_of}
use Rattle.flame_spec.specs.Conditions.{number_at}
use Rattle.flame_spec.specs.Definitions.{Definition, helpers, helper_named, body_of}
use Rattle.flame_spec.specs.ExpressionFaults.{member_read}
use Rattle.flame_spec.specs.Functions.{functions, Place}
use Rattle.flame_spec.specs.HelperFaults.{deepest_calls}
use Rattle.flame_spec.specs.LookUps.{Given, in_memory, constant, iteration as this_iteration, memory_named}
use Rattle.flame_spec.specs.Scopes.{memory_at, given_at}
use Rattle.flame_spec.specs.Trees.{Expression, number, name, field, get, at, field_at, signed, chain, all_of, any_of}
use Rattle.flame_spec.specs.Trees.{Expressions, no_parts, part, Links, no_links, link, Stored, plain, called, Indexed, Declared, Assigned}
use Rattle.flame_spec.specs.Trees.{Statement, empty, declare, assign, call, block, branch, while, for, do_while, loop_over, return, break, continue}
use Rattle.flame_spec.specs.Trees.{Statements, no_more, also, Arms, no_arms, arm}
use Rattle.flame_meaning.specs.Scenes.{Scene, Progress, Current, Gave, gave, failed, Calls, local_value, value_given, named, array_named, row_read, element_column, numbers_of}
use Rattle.flame_meaning.specs.Expressions.{on_value, at_line, holds, signs_value, element_value, value_of, chain_value, all_value, any_value, one_of, argument_values, values_and, values_of}
use Rattle.flame_meaning.specs.Ends.{End, went_on, broke, continued, returned, faulted, no_fuel, with_value, with_values, after_call, on_to, leave, as_scope}
use Rattle.flame_meaning.specs.Loops.{pay_from, after_turn, turn, turns, each_row}
use Rattle.flame_meaning.specs.Statements.{helped, by_value, by_initial, with_local, declarations, set_local, set_column, set_found, set_name, with_column, assigned_by, assignment, done, test_value, step_of, loop_currents, inside, meaning, meanings, first_arm}
use Rattle.flame_meaning.specs.HelperCalls.{gives, entered, helper_scene, calls_within}
use Rattle.flame_meaning.specs.Outcomes.{scene_of, start, ended, finished, outcome_at}
use Rattle.flame_meaning.specs.OutcomeLaws.{MoreFuelLeavesMore, MoreFuelFaultsAlike}

module _ (k : ℕ) where
  -- the progress with so much more fuel
  abbrev pub richer : Progress → Progress
  richer s = record s { fuel = s.fuel + k }

  -- the ending with so much more fuel left
  abbrev pub richer_end : End → End
  richer_end (went_on s) = went_on (richer s)
  richer_end (broke s) = broke (richer s)
  richer_end (continued s) = continued (richer s)
  richer_end (returned v s) = returned v (richer s)
  richer_end (faulted fault) = faulted fault

  -- fuel was not lacking
  abbrev pub IsPaidFor : End → Type 0
  IsPaidFor (faulted fault) = fault.cause ≢ Fuel
  IsPaidFor (went_on s) = Unit {0}
  IsPaidFor (broke s) = Unit {0}
  IsPaidFor (continued s) = Unit {0}
  IsPaidFor (returned v s) = Unit {0}

  abbrev pub Alike : End → End → Type 0
  Alike e f = IsPaidFor e → f ≡ richer_end e

  -- ---- expressions do not see the fuel

  same_on :
      (r q : Result ℤ Fault) (go other : ℤ → Result ℤ Fault)
      → q ≡ r
      → ((v : ℤ) → other v ≡ go v)
      → on_value q other ≡ on_value r go
  same_on (Ok v) q go other e h = ap (λ x. on_value x other) e ∙ h v
  same_on (Err fault) q go other e h = ap (λ x. on_value x other) e

  given_same : (given : Option Given) (scene : Scene) (s : Progress) → value_given given scene (richer s) ≡ value_given given scene s
  given_same None scene s = refl
  given_same (Some (in_memory column variable)) scene s = refl
  given_same (Some (constant n)) scene s = refl
  given_same (Some this_iteration) scene s = refl

  named_same : (word : List ℕ) (scene : Scene) (s : Progress) → named word scene (richer s) ≡ named word scene s
  named_same word scene s = ap (unwrap_or (local_value word s.locals)) (given_same (given_at scene.context word) scene s)

  mutual
    pub value_same : (e : Expression) (scene : Scene) (s : Progress) → value_of e scene (richer s) ≡ value_of e scene s
    value_same (number n) scene s = refl
    value_same (name line word) scene s = ap Ok (named_same word scene s)
    value_same (field line word variable) scene s = refl
    value_same (get line word) scene s = refl
    value_same (at line word index_line index) scene s =
        ap (λ r. on_value r (λ i. element_value index_line (element_column (array_named word scene s) i) s.memory)) (value_same index scene s)
    value_same (field_at line word variable index_line index) scene s =
        ap (λ r. on_value r (λ i. element_value index_line (element_column (member_read scene.context word variable) i) (row_read word scene))) (value_same index scene s)
    value_same (signed signs e) scene s = ap (λ r. on_value r (signs_value signs)) (value_same e scene s)
    value_same (chain e links) scene s =
        same_on (value_of e scene s) _ (chain_value links scene s) _ (value_same e scene s) (chain_same links scene s)
    value_same (all_of parts) scene s = all_same parts scene s
    value_same (any_of parts) scene s = any_same parts scene s

    chain_same : (links : Links) (scene : Scene) (s : Progress) (v : ℤ) → chain_value links scene (richer s) v ≡ chain_value links scene s v
    chain_same no_links scene s v = refl
    chain_same (link op line e links) scene s v =
        same_on (value_of e scene s) _ (λ w. on_value (at_line line (applied op v w)) (chain_value links scene s)) _
        (value_same e scene s)
        (λ w. same_on (at_line line (applied op v w)) _ (chain_value links scene s) _ refl (chain_same links scene s))

    all_same : (parts : Expressions) (scene : Scene) (s : Progress) → all_value parts scene (richer s) ≡ all_value parts scene s
    all_same no_parts scene s = refl
    all_same (part e parts) scene s =
        same_on (value_of e scene s) _ (λ v. cond (holds v) (all_value parts scene s) (Ok (pos 0))) _ (value_same e scene s)
        (λ v. cond-same (holds v) _ _ (all_value parts scene s) (Ok (pos 0)) (all_same parts scene s) refl)

    any_same : (parts : Expressions) (scene : Scene) (s : Progress) → any_value parts scene (richer s) ≡ any_value parts scene s
    any_same no_parts scene s = refl
    any_same (part e parts) scene s =
        same_on (value_of e scene s) _ (λ v. cond (holds v) (Ok (pos 1)) (any_value parts scene s)) _ (value_same e scene s)
        (λ v. cond-same (holds v) _ _ (Ok (pos 1)) (any_value parts scene s) refl (any_same parts scene s))

  argument_same : (e : Expression) (scene : Scene) (s : Progress) → argument_values e scene (richer s) ≡ argument_values e scene s
  argument_same (number n) scene s = refl
  argument_same (name line word) scene s =
      ap (λ v. Ok (numbers_of (array_named word scene s) s.memory v)) (named_same word scene s)
  argument_same (field line word variable) scene s = refl
  argument_same (get line word) scene s = refl
  argument_same (at line word index_line index) scene s = ap one_of (value_same (at line word index_line index) scene s)
  argument_same (field_at line word variable index_line index) scene s =
      ap one_of (value_same (field_at line word variable index_line index) scene s)
  argument_same (signed signs e) scene s = ap one_of (value_same (signed signs e) scene s)
  argument_same (chain e links) scene s = ap one_of (value_same (chain e links) scene s)
  argument_same (all_of parts) scene s = ap one_of (value_same (all_of parts) scene s)
  argument_same (any_of parts) scene s = ap one_of (value_same (any_of parts) scene s)

  values_same : (parts : Expressions) (scene : Scene) (s : Progress) → values_of parts scene (richer s) ≡ values_of parts scene s
  values_same no_parts scene s = refl
  values_same (part e parts) scene s =
      ap (λ r. values_and r (values_of parts scene (richer s))) (argument_same e scene s)
      ∙ ap (values_and (argument_values e scene s)) (values_same parts scene s)

  -- ---- endings

  alike_value :
      (r q : Result ℤ Fault) (go other : ℤ → End)
      → q ≡ r
      → ((v : ℤ) → Alike (go v) (other v))
      → Alike (with_value r go) (with_value q other)
  alike_value (Ok v) q go other e h paid = ap (λ x. with_value x other) e ∙ h v paid
  alike_value (Err fault) q go other e h paid = ap (λ x. with_value x other) e

  alike_values :
      (r q : Result (List ℤ) Fault) (go other : List ℤ → End)
      → q ≡ r
      → ((vs : List ℤ) → Alike (go vs) (other vs))
      → Alike (with_values r go) (with_values q other)
  alike_values (Ok vs) q go other e h paid = ap (λ x. with_values x other) e ∙ h vs paid
  alike_values (Err fault) q go other e h paid = ap (λ x. with_values x other) e

  alike_cond : (b : Bool) (e f p q : End) → Alike e p → Alike f q → Alike (cond b e f) (cond b p q)
  alike_cond true e f p q h g = h
  alike_cond false e f p q h g = g

  alike_on :
      (e f : End) (go other : Progress → End)
      → Alike e f
      → ((t : Progress) → Alike (go t) (other (richer t)))
      → Alike (on_to e go) (on_to f other)
  alike_on (went_on t) f go other h k paid = ap (λ x. on_to x other) (h tt) ∙ k t paid
  alike_on (broke t) f go other h k paid = ap (λ x. on_to x other) (h tt)
  alike_on (continued t) f go other h k paid = ap (λ x. on_to x other) (h tt)
  alike_on (returned v t) f go other h k paid = ap (λ x. on_to x other) (h tt)
  alike_on (faulted fault) f go other h k paid = ap (λ x. on_to x other) (h paid)

  alike_turn :
      (e f : End) (go other : Progress → End)
      → Alike e f
      → ((t : Progress) → Alike (go t) (other (richer t)))
      → Alike (after_turn e go) (after_turn f other)
  alike_turn (went_on t) f go other h k paid = ap (λ x. after_turn x other) (h tt) ∙ k t paid
  alike_turn (broke t) f go other h k paid = ap (λ x. after_turn x other) (h tt)
  alike_turn (continued t) f go other h k paid = ap (λ x. after_turn x other) (h tt) ∙ k t paid
  alike_turn (returned v t) f go other h k paid = ap (λ x. after_turn x other) (h tt)
  alike_turn (faulted fault) f go other h k paid = ap (λ x. after_turn x other) (h paid)

  alike_leave : (n : ℕ) (e f : End) → Alike e f → Alike (leave n e) (leave n f)
  alike_leave n (went_on t) f h paid = ap (leave n) (h tt)
  alike_leave n (broke t) f h paid = ap (leave n) (h tt)
  alike_leave n (continued t) f h paid = ap (leave n) (h tt)
  alike_leave n (returned v t) f h paid = ap (leave n) (h tt)
  alike_leave n (faulted fault) f h paid = ap (leave n) (h paid)

  alike_scope :
      (run other : Progress → End)
      → ((s : Progress) → Alike (run s) (other (richer s)))
      → (s : Progress) → Alike (as_scope run s) (as_scope other (richer s))
  alike_scope run other h s = alike_leave (length s.locals) (run s) (other (richer s)) (h s)

  alike_pay :
      (fuel line : ℕ) (s : Progress) (go other : Progress → End)
      → s.fuel ≡ fuel
      → ((t : Progress) → Alike (go t) (other (richer t)))
      → Alike (pay_from fuel line s go) (pay_from (s.fuel + k) line (richer s) other)
  alike_pay zero line s go other e h paid = absurd (paid refl)
  alike_pay (suc fuel) line s go other e h paid =
      let more : s.fuel + k ≡ suc (fuel + k) = omega arith in
      ap (λ n. pay_from n line (richer s) other) more ∙ h (record s { fuel = fuel }) paid

  alike_one :
      (line : ℕ) (body next other : Progress → End)
      → ((s : Progress) → Alike (body s) (body (richer s)))
      → ((s : Progress) → Alike (next s) (other (richer s)))
      → (s : Progress) → Alike (turn line body next s) (turn line body other (richer s))
  alike_one line body next other b h s =
      alike_pay s.fuel line s (λ t. after_turn (body t) next) (λ t. after_turn (body t) other) refl
      (λ t. alike_turn (body t) (body (richer t)) next other (b t) h)

  alike_turns :
      (n m line : ℕ) (test : Progress → Result ℤ Fault) (body step : Progress → End)
      → n ≤ m
      → ((s : Progress) → test (richer s) ≡ test s)
      → ((s : Progress) → Alike (body s) (body (richer s)))
      → ((s : Progress) → Alike (step s) (step (richer s)))
      → (s : Progress) → Alike (turns n line test body step s) (turns m line test body step (richer s))
  alike_turns zero zero line test body step le t b h s =
      alike_value (test s) _ (λ v. cond (holds v) (faulted (no_fuel line)) (went_on s)) _ (t s)
      (λ v. alike_cond (holds v) (faulted (no_fuel line)) (went_on s) _ _ (λ paid. absurd (paid refl)) (λ paid. refl))
  alike_turns zero (suc m) line test body step le t b h s =
      alike_value (test s) _ (λ v. cond (holds v) (faulted (no_fuel line)) (went_on s)) _ (t s)
      (λ v. alike_cond (holds v) (faulted (no_fuel line)) (went_on s) _ _ (λ paid. absurd (paid refl)) (λ paid. refl))
  alike_turns (suc n) zero line test body step le t b h s = absurd (omega arith)
  alike_turns (suc n) (suc m) line test body step le t b h s =
      let next : Progress → End = λ u. on_to (step u) (turns n line test body step) in
      let other : Progress → End = λ u. on_to (step u) (turns m line test body step) in
      alike_value (test s) _ (λ v. cond (holds v) (turn line body next s) (went_on s)) _ (t s)
      (λ v. alike_cond (holds v) (turn line body next s) (went_on s) _ _
      (alike_one line body next other b
      (λ u. alike_on (step u) (step (richer u)) (turns n line test body step) (turns m line test body step) (h u)
      (alike_turns n m line test body step (omega arith) t b h)) s)
      (λ paid. refl))

  alike_rows :
      (line : ℕ) (body : Current → Progress → End) (rows : List Current)
      → ((current : Current) (s : Progress) → Alike (body current s) (body current (richer s)))
      → (s : Progress) → Alike (each_row line body rows s) (each_row line body rows (richer s))
  alike_rows line body [] b s = λ paid. refl
  alike_rows line body (current ∷ more) b s =
      alike_one line (body current) (each_row line body more) (each_row line body more) (b current) (alike_rows line body more b) s

  -- ---- calls of helpers

  -- how a call ended with so much more fuel left
  abbrev pub richer_gave : Gave → Gave
  richer_gave (gave v fuel) = gave v (fuel + k)
  richer_gave (failed fault) = failed fault

  abbrev pub IsPaidGave : Gave → Type 0
  IsPaidGave (gave v fuel) = Unit {0}
  IsPaidGave (failed fault) = fault.cause ≢ Fuel

  -- calls go alike with so much more fuel
  abbrev pub CallsAlike : Calls → Type 0
  CallsAlike there =
      (line : ℕ) (helper : Definition) (values : List ℤ) (fuel : ℕ)
      → IsPaidGave (there line helper values fuel)
      → there line helper values (fuel + k) ≡ richer_gave (there line helper values fuel)

  alike_after :
      (g h : Gave) (s : Progress) (go other : ℤ → Progress → End)
      → (IsPaidGave g → h ≡ richer_gave g)
      → ((v : ℤ) (t : Progress) → Alike (go v t) (other v (richer t)))
      → Alike (after_call g s go) (after_call h (richer s) other)
  alike_after (gave v fuel) h s go other e next paid =
      ap (λ x. after_call x (richer s) other) (e tt) ∙ next v (record s { fuel = fuel }) paid
  alike_after (failed fault) h s go other e next paid = ap (λ x. after_call x (richer s) other) (e paid)

  alike_helped :
      (found : Option (ℕ × Definition)) (line : ℕ) (values : List ℤ) (scene : Scene) (s : Progress) (go other : ℤ → Progress → End)
      → CallsAlike scene.answers
      → ((v : ℤ) (t : Progress) → Alike (go v t) (other v (richer t)))
      → Alike (helped found line values scene s go) (helped found line values scene (richer s) other)
  alike_helped None line values scene s go other c next = next (pos 0) s
  alike_helped (Some found) line values scene s go other c next =
      alike_after (scene.answers line found.1 values s.fuel) (scene.answers line found.1 values (s.fuel + k)) s go other
      (c line found.1 values s.fuel) next

  alike_stored :
      (value : Stored) (scene : Scene) (s : Progress) (go other : ℤ → Progress → End)
      → CallsAlike scene.answers
      → ((v : ℤ) (t : Progress) → Alike (go v t) (other v (richer t)))
      → Alike (by_value value scene s go) (by_value value scene (richer s) other)
  alike_stored (plain e) scene s go other c next =
      alike_value (value_of e scene s) _ (λ v. go v s) (λ v. other v (richer s)) (value_same e scene s) (λ v. next v s)
  alike_stored (called line word arguments) scene s go other c next =
      alike_values (values_of arguments scene s) _
      (λ values. helped (helper_named scene.context.helpers word) line values scene s go)
      (λ values. helped (helper_named scene.context.helpers word) line values scene (richer s) other)
      (values_same arguments scene s)
      (λ values. alike_helped (helper_named scene.context.helpers word) line values scene s go other c next)

  -- ---- changes

  alike_initial :
      (value : Option Stored) (scene : Scene) (s : Progress) (go other : ℤ → Progress → End)
      → CallsAlike scene.answers
      → ((v : ℤ) (t : Progress) → Alike (go v t) (other v (richer t)))
      → Alike (by_initial value scene s go) (by_initial value scene (richer s) other)
  alike_initial None scene s go other c next = next (pos 0) s
  alike_initial (Some value) scene s go other c next = alike_stored value scene s go other c next

  alike_declared :
      (items : List Declared) (scene : Scene) (s : Progress)
      → CallsAlike scene.answers
      → Alike (declarations items scene s) (declarations items scene (richer s))
  alike_declared [] scene s c = λ paid. refl
  alike_declared (item ∷ items) scene s c =
      alike_initial item.value scene s (λ v t. declarations items scene (with_local item.name v t))
      (λ v t. declarations items scene (with_local item.name v t)) c
      (λ v t. alike_declared items scene (with_local item.name v t) c)

  found_same : (found : Option (ℕ × Variable)) (v : ℤ) (s : Progress) → set_found found v (richer s) ≡ richer (set_found found v s)
  found_same None v s = refl
  found_same (Some found) v s = refl

  name_same : (word : List ℕ) (v : ℤ) (scene : Scene) (s : Progress) → set_name word v scene (richer s) ≡ richer (set_name word v scene s)
  name_same word v scene s = by_place (is_some (local_value word s.locals))
    where
      by_place :
          (b : Bool)
          → cond b (record (richer s) { locals = set_local word v s.locals })
          (set_found (memory_named (memory_at scene.context) word) v (richer s))
          ≡ richer (cond b (record s { locals = set_local word v s.locals })
          (set_found (memory_named (memory_at scene.context) word) v s))
      by_place true = refl
      by_place false = found_same (memory_named (memory_at scene.context) word) v s

  alike_column :
      (line : ℕ) (o : Option ℕ) (go other : ℕ → End)
      → ((column : ℕ) → Alike (go column) (other column))
      → Alike (with_column line o go) (with_column line o other)
  alike_column line None go other h = λ paid. refl
  alike_column line (Some column) go other h = h column

  alike_form :
      (place : Option Indexed) (op : Option Op) (a : Assigned) (scene : Scene) (s : Progress)
      → CallsAlike scene.answers
      → Alike (assigned_by place op a scene s) (assigned_by place op a scene (richer s))
  alike_form None None a scene s c =
      alike_stored a.value scene s (λ v t. went_on (set_name a.name v scene t)) (λ v t. went_on (set_name a.name v scene t)) c
      (λ v t paid. ap went_on (name_same a.name v scene t))
  alike_form None (Some op) a scene s c =
      let go : ℤ → ℤ → Progress → End = λ left v t.
      with_value (at_line a.op_line (applied op left v)) (λ w. went_on (set_name a.name w scene t)) in
      alike_stored a.value scene s (go (named a.name scene s)) (go (named a.name scene (richer s))) c
      (λ v t. alike_value (at_line a.op_line (applied op (named a.name scene s) v)) (at_line a.op_line (applied op (named a.name scene (richer s)) v))
      (λ w. went_on (set_name a.name w scene t)) (λ w. went_on (set_name a.name w scene (richer t)))
      (ap (λ left. at_line a.op_line (applied op left v)) (named_same a.name scene s))
      (λ w paid. ap went_on (name_same a.name w scene t)))
  alike_form (Some place) None a scene s c =
      let go : ℤ → ℤ → Progress → End = λ i v t. with_column place.line (element_column (array_named a.name scene s) i) (λ column. went_on (set_column column v t)) in
      alike_value (value_of place.index scene s) _ (λ i. by_value a.value scene s (go i)) (λ i. by_value a.value scene (richer s) (go i))
      (value_same place.index scene s)
      (λ i. alike_stored a.value scene s (go i) (go i) c
      (λ v t. alike_column place.line (element_column (array_named a.name scene s) i) (λ column. went_on (set_column column v t))
      (λ column. went_on (set_column column v (richer t))) (λ column paid. refl)))
  alike_form (Some place) (Some op) a scene s c =
      let go : ℕ → ℤ → Progress → End = λ column v t.
      with_value (at_line a.op_line (applied op (number_at s.memory column) v)) (λ w. went_on (set_column column w t)) in
      alike_value (value_of place.index scene s) _
      (λ i. with_column place.line (element_column (array_named a.name scene s) i) (λ column. by_value a.value scene s (go column)))
      (λ i. with_column place.line (element_column (array_named a.name scene s) i) (λ column. by_value a.value scene (richer s) (go column)))
      (value_same place.index scene s)
      (λ i. alike_column place.line (element_column (array_named a.name scene s) i) (λ column. by_value a.value scene s (go column))
      (λ column. by_value a.value scene (richer s) (go column))
      (λ column. alike_stored a.value scene s (go column) (go column) c
      (λ v t. alike_value (at_line a.op_line (applied op (number_at s.memory column) v)) _ (λ w. went_on (set_column column w t)) _ refl
      (λ w paid. refl))))

  alike_assigned : (a : Assigned) (scene : Scene) (s : Progress) → CallsAlike scene.answers → Alike (assignment a scene s) (assignment a scene (richer s))
  alike_assigned a scene s c = alike_form a.subscript a.op a scene s c

  alike_step : (step : Option Assigned) (scene : Scene) (s : Progress) → CallsAlike scene.answers → Alike (step_of step scene s) (step_of step scene (richer s))
  alike_step None scene s c = λ paid. refl
  alike_step (Some a) scene s c = alike_assigned a scene s c

  alike_done :
      (deed : Option Deed) (line : ℕ) (values : List ℤ) (scene : Scene) (s : Progress)
      → CallsAlike scene.answers
      → Alike (done deed line values scene s) (done deed line values scene (richer s))
  alike_done None line values scene s c = λ paid. refl
  alike_done (Some (sets column variable)) line values scene s c = λ paid. refl
  alike_done (Some (sends n message)) line values scene s c = λ paid. refl
  alike_done (Some (bears n type)) line values scene s c = λ paid. refl
  alike_done (Some (calls n helper)) line values scene s c =
      alike_after (scene.answers line helper values s.fuel) (scene.answers line helper values (s.fuel + k)) s
      (λ v t. went_on t) (λ v t. went_on t) (c line helper values s.fuel) (λ v t paid. refl)

  test_same : (test : Option Expression) (scene : Scene) (s : Progress) → test_value test scene (richer s) ≡ test_value test scene s
  test_same None scene s = refl
  test_same (Some e) scene s = value_same e scene s

  alike_loop :
      (line : ℕ) (test : Option Expression) (step : Option Assigned) (scene : Scene) (body : Progress → End)
      → CallsAlike scene.answers
      → ((s : Progress) → Alike (body s) (body (richer s)))
      → (s : Progress)
      → Alike (turns s.fuel line (test_value test scene) body (step_of step scene) s)
      (turns (s.fuel + k) line (test_value test scene) body (step_of step scene) (richer s))
  alike_loop line test step scene body c b s =
      alike_turns s.fuel (s.fuel + k) line (test_value test scene) body (step_of step scene) (omega arith)
      (test_same test scene) b (λ t. alike_step step scene t c) s

  mutual
    pub alike : (x : Statement) (scene : Scene) → CallsAlike scene.answers → (s : Progress) → Alike (meaning x scene s) (meaning x scene (richer s))
    alike empty scene c s = λ paid. refl
    alike (declare items) scene c s = alike_declared items scene s c
    alike (assign a) scene c s = alike_assigned a scene s c
    alike (call line word arguments) scene c s =
        alike_values (values_of arguments scene s) _ (λ values. done (deed_of scene.context word) line values scene s)
        (λ values. done (deed_of scene.context word) line values scene (richer s))
        (values_same arguments scene s) (λ values. alike_done (deed_of scene.context word) line values scene s c)
    alike (block body) scene c s = alike_scope (meanings body scene) (meanings body scene) (all_alike body scene c) s
    alike (branch tests otherwise) scene c s =
        arms_alike tests (as_scope (meanings otherwise scene)) scene c s
        (alike_scope (meanings otherwise scene) (meanings otherwise scene) (all_alike otherwise scene c))
    alike (while line test body) scene c s =
        alike_loop line (Some test) None scene (as_scope (meanings body scene)) c
        (alike_scope (meanings body scene) (meanings body scene) (all_alike body scene c)) s
    alike (for line first test step body) scene c s =
        let run : Progress → End = λ t. on_to (meanings first scene t)
        (λ u. turns u.fuel line (test_value test scene) (as_scope (meanings body scene)) (step_of step scene) u) in
        alike_scope run run (λ t. alike_on (meanings first scene t) (meanings first scene (richer t)) _ _ (all_alike first scene c t)
        (alike_loop line test step scene (as_scope (meanings body scene)) c
        (alike_scope (meanings body scene) (meanings body scene) (all_alike body scene c)))) s
    alike (do_while line body test) scene c s =
        alike_one line (as_scope (meanings body scene)) _ _
        (alike_scope (meanings body scene) (meanings body scene) (all_alike body scene c))
        (alike_loop line (Some test) None scene (as_scope (meanings body scene)) c
        (alike_scope (meanings body scene) (meanings body scene) (all_alike body scene c))) s
    alike (loop_over line word body end_line end_word) scene c s =
        alike_rows line (λ current. as_scope (meanings body (inside current scene))) (loop_currents word scene)
        (λ current. alike_scope (meanings body (inside current scene)) (meanings body (inside current scene)) (all_alike body (inside current scene) c)) s
    alike (return v) scene c s =
        alike_value (value_of v scene s) _ (λ w. returned w s) _ (value_same v scene s) (λ w paid. refl)
    alike (break line) scene c s = λ paid. refl
    alike (continue line) scene c s = λ paid. refl

    pub all_alike : (xs : Statements) (scene : Scene) → CallsAlike scene.answers → (s : Progress) → Alike (meanings xs scene s) (meanings xs scene (richer s))
    all_alike no_more scene c s = λ paid. refl
    all_alike (also x xs) scene c s =
        alike_on (meaning x scene s) (meaning x scene (richer s)) (meanings xs scene) (meanings xs scene)
        (alike x scene c s) (all_alike xs scene c)

    arms_alike :
        (tests : Arms) (otherwise : Progress → End) (scene : Scene) → CallsAlike scene.answers → (s : Progress)
        → ((t : Progress) → Alike (otherwise t) (otherwise (richer t)))
        → Alike (first_arm tests otherwise scene s) (first_arm tests otherwise scene (richer s))
    arms_alike no_arms otherwise scene c s h = h s
    arms_alike (arm test body more) otherwise scene c s h =
        alike_value (value_of test scene s) _
        (λ v. cond (holds v) (as_scope (meanings body scene) s) (first_arm more otherwise scene s)) _ (value_same test scene s)
        (λ v. alike_cond (holds v) _ _ _ _ (alike_scope (meanings body scene) (meanings body scene) (all_alike body scene c) s)
        (arms_alike more otherwise scene c s h))

  -- ---- helpers

  alike_gives : (e f : End) → Alike e f → IsPaidGave (gives e) → gives f ≡ richer_gave (gives e)
  alike_gives (went_on t) f h paid = ap gives (h tt)
  alike_gives (broke t) f h paid = ap gives (h tt)
  alike_gives (continued t) f h paid = ap gives (h tt)
  alike_gives (returned v t) f h paid = ap gives (h tt)
  alike_gives (faulted fault) f h paid = ap gives (h paid)

  pub calls_alike :
      (levels : ℕ) (model : Model) (defs : List Definition) (constants : List ℤ) (iteration : ℤ)
      → CallsAlike (calls_within levels model defs constants iteration)
  calls_alike levels model defs constants iteration line helper values zero paid = absurd (paid refl)
  calls_alike zero model defs constants iteration line helper values (suc fuel) paid = absurd (paid refl)
  calls_alike (suc levels) model defs constants iteration line helper values (suc fuel) paid =
      let there : Calls = calls_within levels model defs constants iteration in
      let scene : Scene = helper_scene model defs constants iteration there in
      let s : Progress = entered helper.parameters values fuel in
      let more : suc fuel + k ≡ suc (fuel + k) = omega arith in
      ap (calls_within (suc levels) model defs constants iteration line helper values) more
      ∙ alike_gives (meanings helper.body scene s) (meanings helper.body scene (richer s))
      (all_alike helper.body scene (calls_alike levels model defs constants iteration) s) paid

  -- ---- outcomes

  -- the outcome with so much more fuel left
  abbrev richer_outcome : Outcome → Outcome
  richer_outcome (Ended effect) = Ended (record effect { fuel = effect.fuel + k })
  richer_outcome (Faulted fault) = Faulted fault

  abbrev HasFuel : Outcome → Type 0
  HasFuel (Ended effect) = Unit {0}
  HasFuel (Faulted fault) = fault.cause ≢ Fuel

  richer_finished : (e f : End) → Alike e f → HasFuel (finished e) → finished f ≡ richer_outcome (finished e)
  richer_finished (went_on t) f h paid = ap finished (h tt)
  richer_finished (broke t) f h paid = ap finished (h tt)
  richer_finished (continued t) f h paid = ap finished (h tt)
  richer_finished (returned v t) f h paid = ap finished (h tt) ∙ by_test (holds v)
    where
      by_test :
          (b : Bool)
          → cond b (ended None (richer t)) (ended (Some t.memory) (richer t)) ≡ richer_outcome (cond b (ended None t) (ended (Some t.memory) t))
      by_test true = refl
      by_test false = refl
  richer_finished (faulted fault) f h paid = ap finished (h paid)

  pub richer_at :
      (source : Source) (place : Option Place) (memory : List ℤ) (readings : List (List (List ℤ))) (constants : List ℤ)
      (iteration : ℤ) (fuel : ℕ)
      → HasFuel (outcome_at place source memory readings constants iteration fuel)
      → outcome_at place source memory readings constants iteration (fuel + k)
      ≡ richer_outcome (outcome_at place source memory readings constants iteration fuel)
  richer_at source None memory readings constants iteration fuel paid = refl
  richer_at source (Some place) memory readings constants iteration fuel paid =
      let scene = scene_of source place readings constants iteration in
      let body = body_of source.units place.function in
      richer_finished (meanings body scene (start memory fuel)) (meanings body scene (richer (start memory fuel)))
      (all_alike body scene (calls_alike deepest_calls source.model (helpers source.model source.units) constants iteration) (start memory fuel)) paid

  pub ended_alike :
      (source : Source) (place : Option Place) (memory : List ℤ) (readings : List (List (List ℤ))) (constants : List ℤ)
      (iteration : ℤ) (fuel : ℕ) (effect : Effect)
      → outcome_at place source memory readings constants iteration fuel ≡ Ended effect
      → outcome_at place source memory readings constants iteration (fuel + k) ≡ Ended (record effect { fuel = effect.fuel + k })
  ended_alike source place memory readings constants iteration fuel effect e =
      let paid : HasFuel (outcome_at place source memory readings constants iteration fuel) = subst HasFuel (sym e) tt in
      richer_at source place memory readings constants iteration fuel paid ∙ ap richer_outcome e

  pub faulted_alike :
      (source : Source) (place : Option Place) (memory : List ℤ) (readings : List (List (List ℤ))) (constants : List ℤ)
      (iteration : ℤ) (fuel : ℕ) (fault : Fault)
      → outcome_at place source memory readings constants iteration fuel ≡ Faulted fault
      → fault.cause ≢ Fuel
      → outcome_at place source memory readings constants iteration (fuel + k) ≡ Faulted fault
  faulted_alike source place memory readings constants iteration fuel fault e h =
      let paid : HasFuel (outcome_at place source memory readings constants iteration fuel) = subst HasFuel (sym e) h in
      richer_at source place memory readings constants iteration fuel paid ∙ ap richer_outcome e

pub more_fuel_leaves_more : MoreFuelLeavesMore
more_fuel_leaves_more source function memory readings constants iteration fuel more effect e =
    ended_alike more source (slice_get (functions source.model) function) memory readings constants iteration fuel effect e

pub more_fuel_faults_alike : MoreFuelFaultsAlike
more_fuel_faults_alike source function memory readings constants iteration fuel more fault e h =
    faulted_alike more source (slice_get (functions source.model) function) memory readings constants iteration fuel fault e h
