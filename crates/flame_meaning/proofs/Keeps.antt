-- What single changes keep, every statement keeps.
use Rattle.std.proofs.Common.{◌≡◌, ℕ, zero, suc, List, [], ◌∷◌, refl, sym, ap, ◌∙◌, Bool, true, false, cond, Option, Some, None}
use Rattle.std.specs.Prelude.{ℤ, pos, Result, Ok, Err, is_some, length}
use Rattle.flame_ops.specs.declared.integers.Op.{Op}
use Rattle.flame_ops.specs.Integers.{applied}
use Rattle.flame_spec.specs.declared.faults.Fault.{Fault}
use Rattle.flame_spec.specs.declared.models.Model.{Model}
use Rattle.flame_spec.specs.declared.models.MessageType.{MessageType}
use Rattle.flame_spec.specs.declared.models.AgentType.{AgentType}
use Rattle.flame_spec.specs.declared.models.Variable.{Variable}
use Rattle.flame_spec.specs.CallFaults.{sends, bears, called_by, added_in, born_or_called, sent_or_else, set_or_else, deed_of}
use Rattle.flame_spec.specs.Conditions.{number_at}
use Rattle.flame_spec.specs.Definitions.{Definition, helper_named}
use Rattle.flame_spec.specs.Functions.{Place}
use Rattle.flame_spec.specs.LookUps.{memory_named, memory_set, message_sent, agent_born}
use Rattle.flame_spec.specs.Scopes.{Context, memory_at}
use Rattle.flame_spec.specs.Trees.{Stored, plain, called, Indexed, Declared, Assigned}
use Rattle.flame_spec.specs.Trees.{Statement, empty, declare, assign, call, block, branch, while, for, do_while, loop_over, return, break, continue}
use Rattle.flame_spec.specs.Trees.{Statements, no_more, also, Arms, no_arms, arm}
use Rattle.flame_meaning.specs.Scenes.{Scene, Progress, Current, Gave, gave, failed, Calls, local_value, named, array_named, element_column}
use Rattle.flame_meaning.specs.Expressions.{at_line, holds, value_of, values_of}
use Rattle.flame_meaning.specs.Ends.{End, went_on, broke, continued, returned, faulted, no_fuel, with_value, with_values, after_call, on_to, leave, as_scope}
use Rattle.flame_meaning.specs.Loops.{pay_from, after_turn, turn, turns, each_row}
use Rattle.flame_meaning.specs.Statements.{helped, by_value, by_initial, declarations, set_local, set_found, set_name, with_column, assigned_by, assignment, done, test_value, step_of, loop_currents, inside, meaning, meanings, first_arm}
use Rattle.flame_meaning.specs.Kept.{IsKept, IsKeptByPaying, IsAmong, Leaves}

module _
    (model : Model) (there : Calls) (R : Progress → Progress → Type 0) (kept : IsKept model R)
    (paying : IsKeptByPaying there R) where
  -- begun from an earlier progress
  pub from : (s t : Progress) (e : End) → R s t → Leaves R t e → Leaves R s e
  from s t (went_on u) h g = kept.joined s t u h g
  from s t (broke u) h g = kept.joined s t u h g
  from s t (continued u) h g = kept.joined s t u h g
  from s t (returned v u) h g = kept.joined s t u h g
  from s t (faulted fault) h g = tt

  valued : (s : Progress) (r : Result ℤ Fault) (go : ℤ → End) → ((v : ℤ) → Leaves R s (go v)) → Leaves R s (with_value r go)
  valued s (Ok v) go k = k v
  valued s (Err fault) go k = tt

  all_valued :
      (s : Progress) (r : Result (List ℤ) Fault) (go : List ℤ → End)
      → ((vs : List ℤ) → Leaves R s (go vs))
      → Leaves R s (with_values r go)
  all_valued s (Ok vs) go k = k vs
  all_valued s (Err fault) go k = tt

  by_bool : (s : Progress) (b : Bool) (e f : End) → Leaves R s e → Leaves R s f → Leaves R s (cond b e f)
  by_bool s true e f h g = h
  by_bool s false e f h g = g

  by_column : (s : Progress) (line : ℕ) (o : Option ℕ) (go : ℕ → End) → ((k : ℕ) → Leaves R s (go k)) → Leaves R s (with_column line o go)
  by_column s line None go k = tt
  by_column s line (Some column) go k = k column

  pub onward :
      (s : Progress) (e : End) (go : Progress → End)
      → Leaves R s e
      → ((t : Progress) → Leaves R t (go t))
      → Leaves R s (on_to e go)
  onward s (went_on t) go h k = from s t (go t) h (k t)
  onward s (broke t) go h k = h
  onward s (continued t) go h k = h
  onward s (returned v t) go h k = h
  onward s (faulted fault) go h k = h

  left : (n : ℕ) (s : Progress) (e : End) → Leaves R s e → Leaves R s (leave n e)
  left n s (went_on t) h = kept.joined s t _ h (kept.locals t _)
  left n s (broke t) h = kept.joined s t _ h (kept.locals t _)
  left n s (continued t) h = kept.joined s t _ h (kept.locals t _)
  left n s (returned v t) h = kept.joined s t _ h (kept.locals t _)
  left n s (faulted fault) h = tt

  pub scoped : (run : Progress → End) → ((s : Progress) → Leaves R s (run s)) → (s : Progress) → Leaves R s (as_scope run s)
  scoped run k s = left (length s.locals) s (run s) (k s)

  pub turn_end :
      (s : Progress) (e : End) (next : Progress → End)
      → Leaves R s e
      → ((t : Progress) → Leaves R t (next t))
      → Leaves R s (after_turn e next)
  turn_end s (went_on t) next h k = from s t (next t) h (k t)
  turn_end s (broke t) next h k = h
  turn_end s (continued t) next h k = from s t (next t) h (k t)
  turn_end s (returned v t) next h k = h
  turn_end s (faulted fault) next h k = h

  -- ---- calls of helpers

  given_keeps :
      (s : Progress) (line : ℕ) (helper : Definition) (values : List ℤ) (g : Gave) (go : ℤ → Progress → End)
      → there line helper values s.fuel ≡ g
      → ((v : ℤ) (t : Progress) → R s t → Leaves R s (go v t))
      → Leaves R s (after_call g s go)
  given_keeps s line helper values (gave v fuel) go e k = k v _ (paying.called s line helper values v fuel e)
  given_keeps s line helper values (failed fault) go e k = tt

  call_keeps :
      (s : Progress) (line : ℕ) (helper : Definition) (values : List ℤ) (scene : Scene) (go : ℤ → Progress → End)
      → IsAmong model there scene
      → ((v : ℤ) (t : Progress) → R s t → Leaves R s (go v t))
      → Leaves R s (after_call (scene.answers line helper values s.fuel) s go)
  call_keeps s line helper values scene go among k =
      given_keeps s line helper values (scene.answers line helper values s.fuel) go
      (sym (ap (λ c. c line helper values s.fuel) among.same_calls)) k

  helped_keeps :
      (found : Option (ℕ × Definition)) (line : ℕ) (values : List ℤ) (scene : Scene) (s : Progress) (go : ℤ → Progress → End)
      → IsAmong model there scene
      → ((v : ℤ) (t : Progress) → R s t → Leaves R s (go v t))
      → Leaves R s (helped found line values scene s go)
  helped_keeps None line values scene s go among k = k (pos 0) s (kept.same s)
  helped_keeps (Some found) line values scene s go among k = call_keeps s line found.1 values scene go among k

  value_keeps :
      (value : Stored) (scene : Scene) (s : Progress) (go : ℤ → Progress → End)
      → IsAmong model there scene
      → ((v : ℤ) (t : Progress) → R s t → Leaves R s (go v t))
      → Leaves R s (by_value value scene s go)
  value_keeps (plain e) scene s go among k = valued s (value_of e scene s) _ (λ v. k v s (kept.same s))
  value_keeps (called line word arguments) scene s go among k =
      all_valued s (values_of arguments scene s) _
      (λ values. helped_keeps (helper_named scene.context.helpers word) line values scene s go among k)

  -- ---- declarations and assignments

  initial_keeps :
      (value : Option Stored) (scene : Scene) (s : Progress) (go : ℤ → Progress → End)
      → IsAmong model there scene
      → ((v : ℤ) (t : Progress) → R s t → Leaves R s (go v t))
      → Leaves R s (by_initial value scene s go)
  initial_keeps None scene s go among k = k (pos 0) s (kept.same s)
  initial_keeps (Some value) scene s go among k = value_keeps value scene s go among k

  declared_keeps : (items : List Declared) (scene : Scene) (s : Progress) → IsAmong model there scene → Leaves R s (declarations items scene s)
  declared_keeps [] scene s among = kept.same s
  declared_keeps (item ∷ items) scene s among =
      initial_keeps item.value scene s _ among
      (λ v t h. from s t _ h (from t _ _ (kept.locals t _) (declared_keeps items scene _ among)))

  found_keeps : (found : Option (ℕ × Variable)) (v : ℤ) (s : Progress) → R s (set_found found v s)
  found_keeps None v s = kept.same s
  found_keeps (Some found) v s = kept.memory s found.0 v

  name_keeps : (word : List ℕ) (v : ℤ) (scene : Scene) (s : Progress) → R s (set_name word v scene s)
  name_keeps word v scene s =
      by_place (is_some (local_value word s.locals))
    where
      by_place :
          (b : Bool)
          → R s (cond b (record s { locals = set_local word v s.locals })
          (set_found (memory_named (memory_at scene.context) word) v s))
      by_place true = kept.locals s _
      by_place false = found_keeps (memory_named (memory_at scene.context) word) v s

  form_keeps :
      (place : Option Indexed) (op : Option Op) (a : Assigned) (scene : Scene) (s : Progress)
      → IsAmong model there scene
      → Leaves R s (assigned_by place op a scene s)
  form_keeps None None a scene s among =
      value_keeps a.value scene s _ among (λ v t h. kept.joined s t _ h (name_keeps a.name v scene t))
  form_keeps None (Some op) a scene s among =
      value_keeps a.value scene s _ among
      (λ v t h. valued s (at_line a.op_line (applied op (named a.name scene s) v)) _
      (λ w. kept.joined s t _ h (name_keeps a.name w scene t)))
  form_keeps (Some place) None a scene s among =
      valued s (value_of place.index scene s) _
      (λ i. value_keeps a.value scene s _ among
      (λ v t h. by_column s place.line (element_column (array_named a.name scene s) i) _
      (λ column. kept.joined s t _ h (kept.memory t column v))))
  form_keeps (Some place) (Some op) a scene s among =
      valued s (value_of place.index scene s) _
      (λ i. by_column s place.line (element_column (array_named a.name scene s) i) _
      (λ column. value_keeps a.value scene s _ among
      (λ v t h. valued s (at_line a.op_line (applied op (number_at s.memory column) v)) _
      (λ w. kept.joined s t _ h (kept.memory t column w)))))

  pub assigned_keeps : (a : Assigned) (scene : Scene) (s : Progress) → IsAmong model there scene → Leaves R s (assignment a scene s)
  assigned_keeps a scene s among = form_keeps a.subscript a.op a scene s among

  pub step_keeps : (step : Option Assigned) (scene : Scene) (s : Progress) → IsAmong model there scene → Leaves R s (step_of step scene s)
  step_keeps None scene s among = kept.same s
  step_keeps (Some a) scene s among = assigned_keeps a scene s among

  -- ---- call statements

  helper_done :
      (found : Option (ℕ × Definition)) (line : ℕ) (values : List ℤ) (scene : Scene) (s : Progress)
      → IsAmong model there scene
      → Leaves R s (done (called_by found) line values scene s)
  helper_done None line values scene s among = kept.same s
  helper_done (Some found) line values scene s among = call_keeps s line found.1 values scene _ among (λ v t h. h)

  birth_done :
      (context : Context) (runs : Option Place) (found : ℕ × AgentType) (word : List ℕ) (line : ℕ) (values : List ℤ) (scene : Scene) (s : Progress)
      → context.model ≡ model
      → agent_born context.model.agents word ≡ Some found
      → Leaves R s (done (added_in runs (bears found.0 found.1)) line values scene s)
  birth_done context None found word line values scene s e is = kept.same s
  birth_done context (Some place) found word line values scene s e is =
      kept.birth s word found values (ap (λ (m : Model). agent_born m.agents word) (sym e) ∙ is)

  message_done :
      (context : Context) (runs : Option Place) (found : ℕ × MessageType) (word : List ℕ) (line : ℕ) (values : List ℤ) (scene : Scene) (s : Progress)
      → context.model ≡ model
      → message_sent context.model.messages word ≡ Some found
      → Leaves R s (done (added_in runs (sends found.0 found.1)) line values scene s)
  message_done context None found word line values scene s e is = kept.same s
  message_done context (Some place) found word line values scene s e is =
      kept.message s word found values (ap (λ (m : Model). message_sent m.messages word) (sym e) ∙ is)

  born_done :
      (context : Context) (found : Option (ℕ × AgentType)) (word : List ℕ) (line : ℕ) (values : List ℤ) (scene : Scene) (s : Progress)
      → context.model ≡ model
      → IsAmong model there scene
      → agent_born context.model.agents word ≡ found
      → Leaves R s (done (born_or_called context found word) line values scene s)
  born_done context None word line values scene s e among is =
      helper_done (helper_named context.helpers word) line values scene s among
  born_done context (Some found) word line values scene s e among is =
      birth_done context context.runs found word line values scene s e is

  sent_done :
      (context : Context) (found : Option (ℕ × MessageType)) (word : List ℕ) (line : ℕ) (values : List ℤ) (scene : Scene) (s : Progress)
      → context.model ≡ model
      → IsAmong model there scene
      → message_sent context.model.messages word ≡ found
      → Leaves R s (done (sent_or_else context found word) line values scene s)
  sent_done context None word line values scene s e among is =
      born_done context (agent_born context.model.agents word) word line values scene s e among refl
  sent_done context (Some found) word line values scene s e among is =
      message_done context context.runs found word line values scene s e is

  set_done :
      (context : Context) (found : Option (ℕ × Variable)) (word : List ℕ) (line : ℕ) (values : List ℤ) (scene : Scene) (s : Progress)
      → context.model ≡ model
      → IsAmong model there scene
      → Leaves R s (done (set_or_else context found word) line values scene s)
  set_done context None word line values scene s e among =
      sent_done context (message_sent context.model.messages word) word line values scene s e among refl
  set_done context (Some found) word line values scene s e among = kept.memory s found.0 _

  done_keeps :
      (word : List ℕ) (line : ℕ) (values : List ℤ) (scene : Scene) (s : Progress)
      → IsAmong model there scene
      → Leaves R s (done (deed_of scene.context word) line values scene s)
  done_keeps word line values scene s among =
      set_done scene.context (memory_set (memory_at scene.context) word) word line values scene s among.same_model among

  -- ---- loops

  pay_keeps :
      (fuel line : ℕ) (s : Progress) (go : Progress → End)
      → s.fuel ≡ fuel
      → ((t : Progress) → Leaves R t (go t))
      → Leaves R s (pay_from fuel line s go)
  pay_keeps zero line s go e k = tt
  pay_keeps (suc fuel) line s go e k =
      let t : Progress = record s { fuel = fuel } in from s t (go t) (paying.paid s fuel e) (k t)

  pub turn_keeps :
      (line : ℕ) (body next : Progress → End)
      → ((s : Progress) → Leaves R s (body s))
      → ((s : Progress) → Leaves R s (next s))
      → (s : Progress) → Leaves R s (turn line body next s)
  turn_keeps line body next b k s =
      pay_keeps s.fuel line s (λ t. after_turn (body t) next) refl (λ t. turn_end t (body t) next (b t) k)

  pub turns_keep :
      (n line : ℕ) (test : Progress → Result ℤ Fault) (body step : Progress → End)
      → ((s : Progress) → Leaves R s (body s))
      → ((s : Progress) → Leaves R s (step s))
      → (s : Progress) → Leaves R s (turns n line test body step s)
  turns_keep zero line test body step b k s =
      valued s (test s) (λ v. cond (holds v) (faulted (no_fuel line)) (went_on s))
      (λ v. by_bool s (holds v) (faulted (no_fuel line)) (went_on s) tt (kept.same s))
  turns_keep (suc n) line test body step b k s =
      let next : Progress → End = λ t. on_to (step t) (turns n line test body step) in
      valued s (test s) (λ v. cond (holds v) (turn line body next s) (went_on s))
      (λ v. by_bool s (holds v) (turn line body next s) (went_on s)
      (turn_keeps line body next b (λ t. onward t (step t) (turns n line test body step) (k t) (turns_keep n line test body step b k)) s)
      (kept.same s))

  pub rows_keep :
      (line : ℕ) (body : Current → Progress → End) (rows : List Current)
      → ((current : Current) (s : Progress) → Leaves R s (body current s))
      → (s : Progress) → Leaves R s (each_row line body rows s)
  rows_keep line body [] b s = kept.same s
  rows_keep line body (current ∷ more) b s =
      turn_keeps line (body current) (each_row line body more) (b current) (rows_keep line body more b) s

  -- ---- statements

  mutual
    pub statement_keeps : (x : Statement) (scene : Scene) (s : Progress) → IsAmong model there scene → Leaves R s (meaning x scene s)
    statement_keeps empty scene s among = kept.same s
    statement_keeps (declare items) scene s among = declared_keeps items scene s among
    statement_keeps (assign a) scene s among = assigned_keeps a scene s among
    statement_keeps (call line word arguments) scene s among =
        all_valued s (values_of arguments scene s) _ (λ values. done_keeps word line values scene s among)
    statement_keeps (block body) scene s among = scoped (meanings body scene) (λ t. statements_keep body scene t among) s
    statement_keeps (branch tests otherwise) scene s among =
        arms_keep tests (as_scope (meanings otherwise scene)) scene s among
        (scoped (meanings otherwise scene) (λ t. statements_keep otherwise scene t among))
    statement_keeps (while line test body) scene s among =
        turns_keep s.fuel line (test_value (Some test) scene) (as_scope (meanings body scene)) (step_of None scene)
        (scoped (meanings body scene) (λ t. statements_keep body scene t among)) (λ t. step_keeps None scene t among) s
    statement_keeps (for line first test step body) scene s among =
        scoped _ (λ t. onward t (meanings first scene t) _ (statements_keep first scene t among)
        (λ u. turns_keep u.fuel line (test_value test scene) (as_scope (meanings body scene)) (step_of step scene)
        (scoped (meanings body scene) (λ w. statements_keep body scene w among)) (λ w. step_keeps step scene w among) u)) s
    statement_keeps (do_while line body test) scene s among =
        let once : (t : Progress) → Leaves R t (as_scope (meanings body scene) t) =
        scoped (meanings body scene) (λ t. statements_keep body scene t among) in
        turn_keeps line (as_scope (meanings body scene)) _ once
        (λ t. turns_keep t.fuel line (test_value (Some test) scene) (as_scope (meanings body scene)) (step_of None scene)
        once (λ w. step_keeps None scene w among) t) s
    statement_keeps (loop_over line word body end_line end_word) scene s among =
        rows_keep line _ (loop_currents word scene)
        (λ current. scoped (meanings body (inside current scene))
        (λ t. statements_keep body (inside current scene) t (record { same_model = among.same_model; same_calls = among.same_calls }))) s
    statement_keeps (return v) scene s among = valued s (value_of v scene s) _ (λ w. kept.same s)
    statement_keeps (break line) scene s among = kept.same s
    statement_keeps (continue line) scene s among = kept.same s

    pub statements_keep : (xs : Statements) (scene : Scene) (s : Progress) → IsAmong model there scene → Leaves R s (meanings xs scene s)
    statements_keep no_more scene s among = kept.same s
    statements_keep (also x xs) scene s among =
        onward s (meaning x scene s) (meanings xs scene) (statement_keeps x scene s among) (λ t. statements_keep xs scene t among)

    arms_keep :
        (tests : Arms) (otherwise : Progress → End) (scene : Scene) (s : Progress)
        → IsAmong model there scene
        → ((t : Progress) → Leaves R t (otherwise t))
        → Leaves R s (first_arm tests otherwise scene s)
    arms_keep no_arms otherwise scene s among k = k s
    arms_keep (arm test body more) otherwise scene s among k =
        valued s (value_of test scene s) _
        (λ v. by_bool s (holds v) (as_scope (meanings body scene) s) (first_arm more otherwise scene s)
        (scoped (meanings body scene) (λ t. statements_keep body scene t among) s)
        (arms_keep more otherwise scene s among k))
