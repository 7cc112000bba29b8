-- What each call statement without check faults keeps, every statement without them keeps.
use Rattle.std.proofs.Common.{◌≡◌, ℕ, zero, suc, List, [], ◌∷◌, length, Bool, true, false, cond, Option}
use Rattle.std.proofs.Common.{Some, None}
use Rattle.std.specs.Prelude.{ℤ, pos, Result, Ok, Err, is_some}
use Rattle.flame_rows.proofs.Lists.{append-is_nil_left, append-is_nil_right}
use Rattle.flame_ops.specs.declared.integers.Op.{Op}
use Rattle.flame_ops.specs.Integers.{applied}
use Rattle.flame_spec.specs.declared.faults.Fault.{Fault}
use Rattle.flame_spec.specs.declared.models.Variable.{Variable}
use Rattle.flame_spec.specs.CallFaults.{deed_of, call_faults}
use Rattle.flame_spec.specs.Conditions.{number_at}
use Rattle.flame_spec.specs.Definitions.{Definition, helper_named}
use Rattle.flame_spec.specs.ExpressionFaults.{expression_faults}
use Rattle.flame_spec.specs.LookUps.{memory_named, message_looped}
use Rattle.flame_spec.specs.Scopes.{Context, Sight, over_none, after, after_all, in_loop, memory_at, messages_at, context_for}
use Rattle.flame_spec.specs.Scopes.{in_scope as scoped}
use Rattle.flame_spec.specs.StatementFaults.{start_faults, statement_faults, statements_faults, arms_faults, opened}
use Rattle.flame_spec.specs.Trees.{Expressions, Stored, plain, called, Indexed, Declared, Assigned}
use Rattle.flame_spec.specs.Trees.{Statement, empty, declare, assign, call, block, branch, while, for, do_while}
use Rattle.flame_spec.specs.Trees.{loop_over, return, break, continue}
use Rattle.flame_spec.specs.Trees.{Statements, no_more, also, Arms, no_arms, arm}
use Rattle.flame_meaning.specs.Scenes.{Scene, Progress, Local, Current, Gave, gave, failed, local_value, named}
use Rattle.flame_meaning.specs.Scenes.{array_named, element_column}
use Rattle.flame_meaning.specs.Expressions.{at_line, holds, value_of, values_of}
use Rattle.flame_meaning.specs.Ends.{End, went_on, broke, continued, returned, faulted, no_fuel, with_value}
use Rattle.flame_meaning.specs.Ends.{with_values, after_call, on_to, leave, as_scope}
use Rattle.flame_meaning.specs.Loops.{pay_from, after_turn, turn, turns, each_row}
use Rattle.flame_meaning.specs.Statements.{helped, by_value, by_initial, declarations, set_local, set_found, set_name}
use Rattle.flame_meaning.specs.Statements.{set_column, with_column, assigned_by, done}
use Rattle.flame_meaning.specs.Statements.{test_value, step_of, loop_currents, inside, meaning, meanings, first_arm}
use Rattle.flame_meaning.specs.Kept.{Leaves}

-- the fact holds of nothing done, of one after another, and of each single change but those of call statements
pub record IsCarried (R : Progress → Progress → Type 0) : Type 0 where
  pub same : (s : Progress) → R s s
  pub joined : (s t u : Progress) → R s t → R t u → R s u
  pub locals : (s : Progress) (locals : List Local) → R s (record s { locals = locals })
  pub memory : (s : Progress) (column : ℕ) (v : ℤ) → R s (set_column column v s)
  pub fuel : (s : Progress) (left : ℕ) → R s (record s { fuel = left })

-- the scene is one of this place
abbrev pub IsThere : Context → Scene → Type 0
IsThere place scene = scene.context ≡ context_for place.model place.helpers place.runs

-- it holds of each call statement that has no check faults at this place
abbrev pub CallsCarry : Context → (Progress → Progress → Type 0) → Type 0
CallsCarry place R =
    (sight : Sight) (line : ℕ) (word : List ℕ) (arguments : Expressions) (scene : Scene) (s : Progress) (values : List ℤ)
    → IsThere place scene
    → call_faults place sight line word arguments ≡ []
    → Leaves R s (done (deed_of scene.context word) line values scene s)

module _ (R : Progress → Progress → Type 0) (kept : IsCarried R) where
  from : (s t : Progress) (e : End) → R s t → Leaves R t e → Leaves R s e
  from s t (went_on u) h g = kept.joined s t u h g
  from s t (broke u) h g = kept.joined s t u h g
  from s t (continued u) h g = kept.joined s t u h g
  from s t (returned v u) h g = kept.joined s t u h g
  from s t (faulted fault) h g = tt

  valued : (s : Progress) (r : Result ℤ Fault) (go : ℤ → End) → ((v : ℤ) → Leaves R s (go v)) → Leaves R s (with_value r go)
  valued s (Ok v) go k = k v
  valued s (Err fault) go k = tt

  all_valued :
      (s : Progress) (r : Result (List ℤ) Fault) (go : List ℤ → End)
      → ((vs : List ℤ) → Leaves R s (go vs))
      → Leaves R s (with_values r go)
  all_valued s (Ok vs) go k = k vs
  all_valued s (Err fault) go k = tt

  by_bool : (s : Progress) (b : Bool) (e f : End) → Leaves R s e → Leaves R s f → Leaves R s (cond b e f)
  by_bool s true e f h g = h
  by_bool s false e f h g = g

  by_column : (s : Progress) (line : ℕ) (o : Option ℕ) (go : ℕ → End) → ((k : ℕ) → Leaves R s (go k)) → Leaves R s (with_column line o go)
  by_column s line None go k = tt
  by_column s line (Some column) go k = k column

  onward :
      (s : Progress) (e : End) (go : Progress → End)
      → Leaves R s e
      → ((t : Progress) → Leaves R t (go t))
      → Leaves R s (on_to e go)
  onward s (went_on t) go h k = from s t (go t) h (k t)
  onward s (broke t) go h k = h
  onward s (continued t) go h k = h
  onward s (returned v t) go h k = h
  onward s (faulted fault) go h k = tt

  left : (n : ℕ) (s : Progress) (e : End) → Leaves R s e → Leaves R s (leave n e)
  left n s (went_on t) h = kept.joined s t _ h (kept.locals t _)
  left n s (broke t) h = kept.joined s t _ h (kept.locals t _)
  left n s (continued t) h = kept.joined s t _ h (kept.locals t _)
  left n s (returned v t) h = kept.joined s t _ h (kept.locals t _)
  left n s (faulted fault) h = tt

  scope : (run : Progress → End) → ((s : Progress) → Leaves R s (run s)) → (s : Progress) → Leaves R s (as_scope run s)
  scope run k s = left (length s.locals) s (run s) (k s)

  turn_end :
      (s : Progress) (e : End) (next : Progress → End)
      → Leaves R s e
      → ((t : Progress) → Leaves R t (next t))
      → Leaves R s (after_turn e next)
  turn_end s (went_on t) next h k = from s t (next t) h (k t)
  turn_end s (broke t) next h k = h
  turn_end s (continued t) next h k = from s t (next t) h (k t)
  turn_end s (returned v t) next h k = h
  turn_end s (faulted fault) next h k = h

  -- ---- values

  pub given_carries :
      (s : Progress) (g : Gave) (go : ℤ → Progress → End)
      → ((v : ℤ) (t : Progress) → R s t → Leaves R s (go v t))
      → Leaves R s (after_call g s go)
  given_carries s (gave v fuel) go k = k v _ (kept.fuel s fuel)
  given_carries s (failed fault) go k = tt

  helped_carries :
      (found : Option (ℕ × Definition)) (line : ℕ) (values : List ℤ) (scene : Scene) (s : Progress) (go : ℤ → Progress → End)
      → ((v : ℤ) (t : Progress) → R s t → Leaves R s (go v t))
      → Leaves R s (helped found line values scene s go)
  helped_carries None line values scene s go k = k (pos 0) s (kept.same s)
  helped_carries (Some found) line values scene s go k = given_carries s (scene.answers line found.1 values s.fuel) go k

  value_carries :
      (value : Stored) (scene : Scene) (s : Progress) (go : ℤ → Progress → End)
      → ((v : ℤ) (t : Progress) → R s t → Leaves R s (go v t))
      → Leaves R s (by_value value scene s go)
  value_carries (plain e) scene s go k = valued s (value_of e scene s) _ (λ v. k v s (kept.same s))
  value_carries (called line word arguments) scene s go k =
      all_valued s (values_of arguments scene s) _
      (λ values. helped_carries (helper_named scene.context.helpers word) line values scene s go k)

  initial_carries :
      (value : Option Stored) (scene : Scene) (s : Progress) (go : ℤ → Progress → End)
      → ((v : ℤ) (t : Progress) → R s t → Leaves R s (go v t))
      → Leaves R s (by_initial value scene s go)
  initial_carries None scene s go k = k (pos 0) s (kept.same s)
  initial_carries (Some value) scene s go k = value_carries value scene s go k

  -- ---- declarations and assignments

  items_carry : (items : List Declared) (scene : Scene) (s : Progress) → Leaves R s (declarations items scene s)
  items_carry [] scene s = kept.same s
  items_carry (item ∷ items) scene s =
      initial_carries item.value scene s _
      (λ v t h. from s t _ h (from t _ _ (kept.locals t _) (items_carry items scene _)))

  found_carries : (found : Option (ℕ × Variable)) (v : ℤ) (s : Progress) → R s (set_found found v s)
  found_carries None v s = kept.same s
  found_carries (Some found) v s = kept.memory s found.0 v

  name_carries : (word : List ℕ) (v : ℤ) (scene : Scene) (s : Progress) → R s (set_name word v scene s)
  name_carries word v scene s = by_place (is_some (local_value word s.locals))
    where
      by_place :
          (b : Bool)
          → R s (cond b (record s { locals = set_local word v s.locals })
          (set_found (memory_named (memory_at scene.context) word) v s))
      by_place true = kept.locals s _
      by_place false = found_carries (memory_named (memory_at scene.context) word) v s

  form_carries : (target : Option Indexed) (op : Option Op) (a : Assigned) (scene : Scene) (s : Progress) → Leaves R s (assigned_by target op a scene s)
  form_carries None None a scene s =
      value_carries a.value scene s _ (λ v t h. kept.joined s t _ h (name_carries a.name v scene t))
  form_carries None (Some op) a scene s =
      value_carries a.value scene s _
      (λ v t h. valued s (at_line a.op_line (applied op (named a.name scene s) v)) _
      (λ w. kept.joined s t _ h (name_carries a.name w scene t)))
  form_carries (Some target) None a scene s =
      valued s (value_of target.index scene s) _
      (λ i. value_carries a.value scene s _
      (λ v t h. by_column s target.line (element_column (array_named a.name scene s) i) _
      (λ column. kept.joined s t _ h (kept.memory t column v))))
  form_carries (Some target) (Some op) a scene s =
      valued s (value_of target.index scene s) _
      (λ i. by_column s target.line (element_column (array_named a.name scene s) i) _
      (λ column. value_carries a.value scene s _
      (λ v t h. valued s (at_line a.op_line (applied op (number_at s.memory column) v)) _
      (λ w. kept.joined s t _ h (kept.memory t column w)))))

  step_carries : (step : Option Assigned) (scene : Scene) (s : Progress) → Leaves R s (step_of step scene s)
  step_carries None scene s = kept.same s
  step_carries (Some a) scene s = form_carries a.subscript a.op a scene s

  -- ---- loops

  pay_carries :
      (fuel line : ℕ) (s : Progress) (go : Progress → End)
      → ((t : Progress) → Leaves R t (go t))
      → Leaves R s (pay_from fuel line s go)
  pay_carries zero line s go k = tt
  pay_carries (suc fuel) line s go k =
      let t : Progress = record s { fuel = fuel } in from s t (go t) (kept.fuel s fuel) (k t)

  turn_carries :
      (line : ℕ) (body next : Progress → End)
      → ((s : Progress) → Leaves R s (body s))
      → ((s : Progress) → Leaves R s (next s))
      → (s : Progress) → Leaves R s (turn line body next s)
  turn_carries line body next b k s =
      pay_carries s.fuel line s (λ t. after_turn (body t) next) (λ t. turn_end t (body t) next (b t) k)

  turns_carry :
      (n line : ℕ) (test : Progress → Result ℤ Fault) (body step : Progress → End)
      → ((s : Progress) → Leaves R s (body s))
      → ((s : Progress) → Leaves R s (step s))
      → (s : Progress) → Leaves R s (turns n line test body step s)
  turns_carry zero line test body step b k s =
      valued s (test s) (λ v. cond (holds v) (faulted (no_fuel line)) (went_on s))
      (λ v. by_bool s (holds v) (faulted (no_fuel line)) (went_on s) tt (kept.same s))
  turns_carry (suc n) line test body step b k s =
      let next : Progress → End = λ t. on_to (step t) (turns n line test body step) in
      valued s (test s) (λ v. cond (holds v) (turn line body next s) (went_on s))
      (λ v. by_bool s (holds v) (turn line body next s) (went_on s)
      (turn_carries line body next b (λ t. onward t (step t) (turns n line test body step) (k t) (turns_carry n line test body step b k)) s)
      (kept.same s))

  rows_carry :
      (line : ℕ) (body : Current → Progress → End) (rows : List Current)
      → ((current : Current) (s : Progress) → Leaves R s (body current s))
      → (s : Progress) → Leaves R s (each_row line body rows s)
  rows_carry line body [] b s = kept.same s
  rows_carry line body (current ∷ more) b s =
      turn_carries line (body current) (each_row line body more) (b current) (rows_carry line body more b) s

-- ---- statements

module _ (place : Context) (R : Progress → Progress → Type 0) (kept : IsCarried R) (calls_too : CallsCarry place R) where
  mutual
    pub statement_carries :
        (x : Statement) (sight : Sight) (scene : Scene) (s : Progress)
        → IsThere place scene
        → statement_faults place sight x ≡ []
        → Leaves R s (meaning x scene s)
    statement_carries empty sight scene s there none = kept.same s
    statement_carries (declare items) sight scene s there none = items_carry R kept items scene s
    statement_carries (assign a) sight scene s there none = form_carries R kept a.subscript a.op a scene s
    statement_carries (call line word arguments) sight scene s there none =
        all_valued R kept s (values_of arguments scene s) _ (λ values. calls_too sight line word arguments scene s values there none)
    statement_carries (block body) sight scene s there none =
        scope R kept (meanings body scene) (λ t. statements_carry body (scoped sight) scene t there none) s
    statement_carries (branch tests otherwise) sight scene s there none =
        arms_carry tests sight (as_scope (meanings otherwise scene)) scene s there (append-is_nil_left _ _ none)
        (scope R kept (meanings otherwise scene)
        (λ t. statements_carry otherwise (scoped sight) scene t there (append-is_nil_right (arms_faults place sight tests) _ none)))
    statement_carries (while line test body) sight scene s there none =
        turns_carry R kept s.fuel line (test_value (Some test) scene) (as_scope (meanings body scene)) (step_of None scene)
        (scope R kept (meanings body scene)
        (λ t. statements_carry body (in_loop over_none sight) scene t there (append-is_nil_right (expression_faults place sight test) _ none)))
        (step_carries R kept None scene) s
    statement_carries (for line first test step body) sight scene s there none =
        scope R kept _ (λ t. onward R kept t (meanings first scene t) _
        (statements_carry first (scoped sight) scene t there (append-is_nil_left _ _ (append-is_nil_left _ _ (append-is_nil_left _ _ none))))
        (λ u. turns_carry R kept u.fuel line (test_value test scene) (as_scope (meanings body scene)) (step_of step scene)
        (scope R kept (meanings body scene)
        (λ w. statements_carry body (in_loop over_none (after_all (scoped sight) first)) scene w there (append-is_nil_right _ _ none)))
        (step_carries R kept step scene) u)) s
    statement_carries (do_while line body test) sight scene s there none =
        let once : (t : Progress) → Leaves R t (as_scope (meanings body scene) t) =
        scope R kept (meanings body scene)
        (λ t. statements_carry body (in_loop over_none sight) scene t there (append-is_nil_left _ _ none)) in
        turn_carries R kept line (as_scope (meanings body scene)) _ once
        (λ t. turns_carry R kept t.fuel line (test_value (Some test) scene) (as_scope (meanings body scene)) (step_of None scene)
        once (step_carries R kept None scene) t) s
    statement_carries (loop_over line word body end_line end_word) sight scene s there none =
        rows_carry R kept line _ (loop_currents word scene)
        (λ current. scope R kept (meanings body (inside current scene))
        (λ t. statements_carry body (in_loop (opened (message_looped (messages_at place) word)) sight) (inside current scene) t there
        (append-is_nil_right (start_faults place sight (message_looped (messages_at place) word) line word) _ (append-is_nil_left _ _ none)))) s
    statement_carries (return v) sight scene s there none = valued R kept s (value_of v scene s) _ (λ w. kept.same s)
    statement_carries (break line) sight scene s there none = kept.same s
    statement_carries (continue line) sight scene s there none = kept.same s

    pub statements_carry :
        (xs : Statements) (sight : Sight) (scene : Scene) (s : Progress)
        → IsThere place scene
        → statements_faults place sight xs ≡ []
        → Leaves R s (meanings xs scene s)
    statements_carry no_more sight scene s there none = kept.same s
    statements_carry (also x xs) sight scene s there none =
        onward R kept s (meaning x scene s) (meanings xs scene)
        (statement_carries x sight scene s there (append-is_nil_left _ _ none))
        (λ t. statements_carry xs (after sight x) scene t there (append-is_nil_right (statement_faults place sight x) _ none))

    arms_carry :
        (tests : Arms) (sight : Sight) (otherwise : Progress → End) (scene : Scene) (s : Progress)
        → IsThere place scene
        → arms_faults place sight tests ≡ []
        → ((t : Progress) → Leaves R t (otherwise t))
        → Leaves R s (first_arm tests otherwise scene s)
    arms_carry no_arms sight otherwise scene s there none k = k s
    arms_carry (arm test body more) sight otherwise scene s there none k =
        valued R kept s (value_of test scene s) _
        (λ v. by_bool R kept s (holds v) (as_scope (meanings body scene) s) (first_arm more otherwise scene s)
        (scope R kept (meanings body scene)
        (λ t. statements_carry body (scoped sight) scene t there
        (append-is_nil_right (expression_faults place sight test) _ (append-is_nil_left _ _ none))) s)
        (arms_carry more sight otherwise scene s there (append-is_nil_right _ _ none) k))
