-- Where calls end alike, bodies mean the same.
use Rattle.std.proofs.Common.{◌≡◌, ℕ, Bool, true, ◌||◌, cond, List, [], ◌∷◌}
use Rattle.std.proofs.Common.{Option, Some, None, refl, sym, ap, ◌∙◌, subst}
use Rattle.std.specs.Prelude.{ℤ, pos, slice_get, Ok, unwrap_or}
use Rattle.std.specs.Str.{bytes_eq}
use Rattle.std.proofs.lemmas.Bool.{or_left, or_right, eq-eqb}
use Rattle.flame_ops.specs.declared.integers.Op.{Op}
use Rattle.flame_ops.specs.Integers.{applied}
use Rattle.flame_spec.specs.declared.models.AgentType.{AgentType}
use Rattle.flame_spec.specs.declared.models.MessageType.{MessageType}
use Rattle.flame_spec.specs.declared.models.Input.{Input}
use Rattle.flame_spec.specs.declared.models.Variable.{Variable}
use Rattle.flame_spec.specs.CallFaults.{Deed, sets, sends, bears, calls, called_by, added_in, born_or_called}
use Rattle.flame_spec.specs.CallFaults.{sent_or_else, set_or_else, deed_of}
use Rattle.flame_spec.specs.Conditions.{number_at}
use Rattle.flame_spec.specs.Definitions.{Definition, helper_named}
use Rattle.flame_spec.specs.ExpressionFaults.{member_read}
use Rattle.flame_spec.specs.Functions.{Place}
use Rattle.flame_spec.specs.HelperFaults.{is_call_of, stored_calls, optional_calls, items_call, step_calls}
use Rattle.flame_spec.specs.HelperFaults.{statement_calls, statements_call, arms_call}
use Rattle.flame_spec.specs.LookUps.{Given, in_memory, constant, iteration, memory_set, message_sent, agent_born}
use Rattle.flame_spec.specs.LookUps.{message_looped}
use Rattle.flame_spec.specs.Scopes.{Context, memory_at, messages_at, given_at, input_found}
use Rattle.flame_spec.specs.Trees.{Expression, number, name, field, get, at, field_at, signed, chain, all_of, any_of}
use Rattle.flame_spec.specs.Trees.{Expressions, no_parts, part, Links, no_links, link}
use Rattle.flame_spec.specs.Trees.{Stored, plain, called, Indexed, Declared, Assigned}
use Rattle.flame_spec.specs.Trees.{Statement, empty, declare, assign, call, block, branch, while, for, do_while}
use Rattle.flame_spec.specs.Trees.{loop_over, return, break, continue}
use Rattle.flame_spec.specs.Trees.{Statements, no_more, also, Arms, no_arms, arm}
use Rattle.flame_meaning.specs.Scenes.{Scene, Progress, Calls, local_value, value_given, named, array_named}
use Rattle.flame_meaning.specs.Scenes.{element_column, numbers_of, row_read}
use Rattle.flame_meaning.specs.Expressions.{on_value, at_line, holds, signs_value, element_value, value_of}
use Rattle.flame_meaning.specs.Expressions.{chain_value, all_value, any_value, one_of, argument_values, values_and}
use Rattle.flame_meaning.specs.Expressions.{values_of}
use Rattle.flame_meaning.specs.Ends.{End, went_on, returned, with_value, with_values, after_call, on_to, as_scope}
use Rattle.flame_meaning.specs.Loops.{turn, loop, each_row}
use Rattle.flame_meaning.specs.Statements.{helped, by_value, by_initial, declarations, set_name, set_column}
use Rattle.flame_meaning.specs.Statements.{with_local, with_column, assigned_by, done, test_value}
use Rattle.flame_meaning.specs.Statements.{step_of, rows_of, currents_of, loop_currents, inside, meaning}
use Rattle.flame_meaning.specs.Statements.{meanings, first_arm}
use Rattle.flame_meaning.proofs.Running.{IsThere}
use Rattle.flame_meaning.proofs.Sending.{found_get}

-- the scene, where calls end in this way
abbrev pub calling : Calls → Scene → Scene
calling other scene = record scene { answers = other }

-- ---- expressions call nothing

given_alike : (o : Option Given) (other : Calls) (scene : Scene) (s : Progress) → value_given o scene s ≡ value_given o (calling other scene) s
given_alike None other scene s = refl
given_alike (Some (in_memory column variable)) other scene s = refl
given_alike (Some (constant k)) other scene s = refl
given_alike (Some iteration) other scene s = refl

named_alike : (word : List ℕ) (other : Calls) (scene : Scene) (s : Progress) → named word scene s ≡ named word (calling other scene) s
named_alike word other scene s = λ i.
    unwrap_or (local_value word s.locals) (given_alike (given_at scene.context word) other scene s i)

rows_alike : (o : Option (ℕ × Input)) (other : Calls) (scene : Scene) → rows_of o scene ≡ rows_of o (calling other scene)
rows_alike None other scene = refl
rows_alike (Some input) other scene = refl

currents_alike : (word : List ℕ) (other : Calls) (scene : Scene) → loop_currents word scene ≡ loop_currents word (calling other scene)
currents_alike word other scene = λ i.
    currents_of (message_looped (messages_at scene.context) word)
    (rows_alike (input_found scene.context.runs (message_looped (messages_at scene.context) word)) other scene i)

mutual
  pub value_alike : (e : Expression) (other : Calls) (scene : Scene) (s : Progress) → value_of e scene s ≡ value_of e (calling other scene) s
  value_alike (number n) other scene s = refl
  value_alike (name line word) other scene s = λ i. Ok (named_alike word other scene s i)
  value_alike (field line word variable) other scene s = refl
  value_alike (get line word) other scene s = refl
  value_alike (at line word index_line index) other scene s = λ i.
      on_value (value_alike index other scene s i) (λ v.
      element_value index_line (element_column (array_named word scene s) v) s.memory)
  value_alike (field_at line word variable index_line index) other scene s = λ i.
      on_value (value_alike index other scene s i) (λ v.
      element_value index_line (element_column (member_read scene.context word variable) v) (row_read word scene))
  value_alike (signed signs e) other scene s = λ i. on_value (value_alike e other scene s i) (signs_value signs)
  value_alike (chain e links) other scene s = λ i.
      on_value (value_alike e other scene s i) (λ v. chain_alike links other scene s v i)
  value_alike (all_of parts) other scene s = all_alike parts other scene s
  value_alike (any_of parts) other scene s = any_alike parts other scene s

  chain_alike : (links : Links) (other : Calls) (scene : Scene) (s : Progress) (v : ℤ) → chain_value links scene s v ≡ chain_value links (calling other scene) s v
  chain_alike no_links other scene s v = refl
  chain_alike (link op line e links) other scene s v = λ i.
      on_value (value_alike e other scene s i) (λ w.
      on_value (at_line line (applied op v w)) (λ u. chain_alike links other scene s u i))

  all_alike : (parts : Expressions) (other : Calls) (scene : Scene) (s : Progress) → all_value parts scene s ≡ all_value parts (calling other scene) s
  all_alike no_parts other scene s = refl
  all_alike (part e parts) other scene s = λ i.
      on_value (value_alike e other scene s i) (λ v. cond (holds v) (all_alike parts other scene s i) (Ok (pos 0)))

  any_alike : (parts : Expressions) (other : Calls) (scene : Scene) (s : Progress) → any_value parts scene s ≡ any_value parts (calling other scene) s
  any_alike no_parts other scene s = refl
  any_alike (part e parts) other scene s = λ i.
      on_value (value_alike e other scene s i) (λ v. cond (holds v) (Ok (pos 1)) (any_alike parts other scene s i))

argument_alike : (e : Expression) (other : Calls) (scene : Scene) (s : Progress) → argument_values e scene s ≡ argument_values e (calling other scene) s
argument_alike (name line word) other scene s = λ i.
    Ok (numbers_of (array_named word scene s) s.memory (named_alike word other scene s i))
argument_alike (field line word variable) other scene s = refl
argument_alike (number n) other scene s = refl
argument_alike (get line word) other scene s = refl
argument_alike (at line word index_line index) other scene s = ap one_of (value_alike (at line word index_line index) other scene s)
argument_alike (field_at line word variable index_line index) other scene s =
    ap one_of (value_alike (field_at line word variable index_line index) other scene s)
argument_alike (signed signs e) other scene s = ap one_of (value_alike (signed signs e) other scene s)
argument_alike (chain e links) other scene s = ap one_of (value_alike (chain e links) other scene s)
argument_alike (all_of parts) other scene s = ap one_of (value_alike (all_of parts) other scene s)
argument_alike (any_of parts) other scene s = ap one_of (value_alike (any_of parts) other scene s)

values_alike : (parts : Expressions) (other : Calls) (scene : Scene) (s : Progress) → values_of parts scene s ≡ values_of parts (calling other scene) s
values_alike no_parts other scene s = refl
values_alike (part e parts) other scene s = λ i.
    values_and (argument_alike e other scene s i) (values_alike parts other scene s i)

-- ---- what calls helpers

-- the calls of these helpers end alike
pub record AreAlike (place : Context) (these other : Calls) (does : ℕ → Bool) : Type 0 where
  pub alike :
      (k : ℕ) (helper : Definition) (line : ℕ) (values : List ℤ) (fuel : ℕ)
      → slice_get place.helpers k ≡ Some helper
      → does k ≡ true
      → these line helper values fuel ≡ other line helper values fuel

fewer :
    (place : Context) (these other : Calls) (does fewer_do : ℕ → Bool)
    → ((k : ℕ) → fewer_do k ≡ true → does k ≡ true)
    → AreAlike place these other does
    → AreAlike place these other fewer_do
fewer place these other does fewer_do less are = record {
  alike = λ k helper line values fuel at e. are.alike k helper line values fuel at (less k e);
}

named_get : (place : Context) (word : List ℕ) (found : ℕ × Definition) → helper_named place.helpers word ≡ Some found → slice_get place.helpers found.0 ≡ Some found.1
named_get place word found e = found_get (λ (d : Definition). bytes_eq d.name word) place.helpers found e

-- this helper, of this number, was found
abbrev pub IsHelper : ℕ → Definition → Option (ℕ × Definition) → Type 0
IsHelper n helper o = o ≡ Some (n, helper)

-- a word that calls a helper names it
pub calls_found :
    (context : Context) (word : List ℕ) (n : ℕ) (helper : Definition)
    → deed_of context word ≡ Some (calls n helper)
    → IsHelper n helper (helper_named context.helpers word)
calls_found context word n helper e = by_set (memory_set (memory_at context) word) e
  where
    helps : (o : Option (ℕ × Definition)) → called_by o ≡ Some (calls n helper) → IsHelper n helper o
    helps None f = cc
    helps (Some found) f =
        let first : found.0 ≡ n = cc in
        let second : found.1 ≡ helper = cc in
        λ i. Some (first i, second i)

    bearing : (runs : Option Place) (k : ℕ) (type : AgentType) → added_in runs (bears k type) ≡ Some (calls n helper) → ⊥
    bearing None k type f = cc
    bearing (Some p) k type f = cc

    sending : (runs : Option Place) (k : ℕ) (message : MessageType) → added_in runs (sends k message) ≡ Some (calls n helper) → ⊥
    sending None k message f = cc
    sending (Some p) k message f = cc

    by_born :
        (o : Option (ℕ × AgentType))
        → born_or_called context o word ≡ Some (calls n helper)
        → IsHelper n helper (helper_named context.helpers word)
    by_born (Some found) f = absurd (bearing context.runs found.0 found.1 f)
    by_born None f = helps (helper_named context.helpers word) f

    by_sent :
        (o : Option (ℕ × MessageType))
        → sent_or_else context o word ≡ Some (calls n helper)
        → IsHelper n helper (helper_named context.helpers word)
    by_sent (Some found) f = absurd (sending context.runs found.0 found.1 f)
    by_sent None f = by_born (agent_born context.model.agents word) f

    by_set :
        (o : Option (ℕ × Variable))
        → set_or_else context o word ≡ Some (calls n helper)
        → IsHelper n helper (helper_named context.helpers word)
    by_set (Some found) f = cc
    by_set None f = by_sent (message_sent context.model.messages word) f

module _ (place : Context) (these other : Calls) where
  stored_alike :
      (value : Stored) (scene : Scene) (s : Progress) (go to : ℤ → Progress → End)
      → IsThere place scene
      → scene.answers ≡ these
      → AreAlike place these other (λ k. stored_calls place k value)
      → ((v : ℤ) (t : Progress) → go v t ≡ to v t)
      → by_value value scene s go ≡ by_value value (calling other scene) s to
  stored_alike (plain e) scene s go to there is are k = λ i. with_value (value_alike e other scene s i) (λ v. k v s i)
  stored_alike (called line word arguments) scene s go to there is are k = λ i.
      with_values (values_alike arguments other scene s i) (λ values. helped_alike values i)
    where
      by_found :
          (o : Option (ℕ × Definition)) (values : List ℤ)
          → helper_named place.helpers word ≡ o
          → helped o line values scene s go ≡ helped o line values (calling other scene) s to
      by_found None values e = k (pos 0) s
      by_found (Some found) values e =
          let does : stored_calls place found.0 (called line word arguments) ≡ true
          = ap (λ o. is_call_of found.0 (called_by o)) e ∙ eq-eqb found.0 found.0 refl in
          let same : scene.answers line found.1 values s.fuel ≡ other line found.1 values s.fuel
          = ap (λ (c : Calls). c line found.1 values s.fuel) is
          ∙ are.alike found.0 found.1 line values s.fuel (named_get place word found e) does in
          λ i. after_call (same i) s (λ v t. k v t i)

      helped_alike :
          (values : List ℤ)
          → helped (helper_named scene.context.helpers word) line values scene s go
          ≡ helped (helper_named scene.context.helpers word) line values (calling other scene) s to
      helped_alike values =
          subst (λ o. helped o line values scene s go ≡ helped o line values (calling other scene) s to)
          (sym (ap (λ (c : Context). helper_named c.helpers word) there))
          (by_found (helper_named place.helpers word) values refl)

  items_alike :
      (items : List Declared) (scene : Scene) (s : Progress)
      → IsThere place scene
      → scene.answers ≡ these
      → AreAlike place these other (λ k. items_call place k items)
      → declarations items scene s ≡ declarations items (calling other scene) s
  items_alike [] scene s there is are = refl
  items_alike (item ∷ items) scene s there is are =
      by_item item.value
      (fewer place these other _ _ (λ k e. or_left (optional_calls place k item.value) (items_call place k items) e) are)
      (λ v t. items_alike items scene (with_local item.name v t) there is
      (fewer place these other _ _ (λ k e. or_right (optional_calls place k item.value) (items_call place k items) e) are))
    where
      by_item :
          (value : Option Stored)
          → AreAlike place these other (λ k. optional_calls place k value)
          → ((v : ℤ) (t : Progress) → declarations items scene (with_local item.name v t) ≡ declarations items (calling other scene) (with_local item.name v t))
          → by_initial value scene s (λ v t. declarations items scene (with_local item.name v t))
          ≡ by_initial value (calling other scene) s (λ v t. declarations items (calling other scene) (with_local item.name v t))
      by_item None given k = k (pos 0) s
      by_item (Some value) given k = stored_alike value scene s _ _ there is given k

  form_alike :
      (target : Option Indexed) (op : Option Op) (a : Assigned) (scene : Scene) (s : Progress)
      → IsThere place scene
      → scene.answers ≡ these
      → AreAlike place these other (λ k. stored_calls place k a.value)
      → assigned_by target op a scene s ≡ assigned_by target op a (calling other scene) s
  form_alike None None a scene s there is are = stored_alike a.value scene s _ _ there is are (λ v t. refl)
  form_alike None (Some op) a scene s there is are =
      stored_alike a.value scene s
      (λ v t. with_value (at_line a.op_line (applied op (named a.name scene s) v)) (λ w. went_on (set_name a.name w scene t)))
      (λ v t. with_value (at_line a.op_line (applied op (named a.name (calling other scene) s) v)) (λ w.
      went_on (set_name a.name w (calling other scene) t)))
      there is are
      (λ v t i. with_value (at_line a.op_line (applied op (named_alike a.name other scene s i) v)) (λ w.
      went_on (set_name a.name w scene t)))
  form_alike (Some target) None a scene s there is are = λ i.
      with_value (value_alike target.index other scene s i) (λ n.
      stored_alike a.value scene s
      (λ v t. with_column target.line (element_column (array_named a.name scene s) n) (λ column. went_on (set_column column v t)))
      (λ v t. with_column target.line (element_column (array_named a.name scene s) n) (λ column. went_on (set_column column v t)))
      there is are (λ v t. refl) i)
  form_alike (Some target) (Some op) a scene s there is are = λ i.
      with_value (value_alike target.index other scene s i) (λ n.
      with_column target.line (element_column (array_named a.name scene s) n) (λ column.
      stored_alike a.value scene s
      (λ v t. with_value (at_line a.op_line (applied op (number_at s.memory column) v)) (λ w. went_on (set_column column w t)))
      (λ v t. with_value (at_line a.op_line (applied op (number_at s.memory column) v)) (λ w. went_on (set_column column w t)))
      there is are (λ v t. refl) i))

  step_alike :
      (step : Option Assigned) (scene : Scene) (s : Progress)
      → IsThere place scene
      → scene.answers ≡ these
      → AreAlike place these other (λ k. step_calls place k step)
      → step_of step scene s ≡ step_of step (calling other scene) s
  step_alike None scene s there is are = refl
  step_alike (Some a) scene s there is are = form_alike a.subscript a.op a scene s there is are

  test_alike : (test : Option Expression) (scene : Scene) (s : Progress) → test_value test scene s ≡ test_value test (calling other scene) s
  test_alike None scene s = refl
  test_alike (Some e) scene s = value_alike e other scene s

  done_alike :
      (line : ℕ) (word : List ℕ) (values : List ℤ) (scene : Scene) (s : Progress)
      → IsThere place scene
      → scene.answers ≡ these
      → AreAlike place these other (λ k. is_call_of k (deed_of place word))
      → done (deed_of scene.context word) line values scene s ≡ done (deed_of scene.context word) line values (calling other scene) s
  done_alike line word values scene s there is are =
      subst (λ o. done o line values scene s ≡ done o line values (calling other scene) s)
      (sym (ap (λ (c : Context). deed_of c word) there))
      (by_deed (deed_of place word) refl)
    where
      by_deed : (o : Option Deed) → deed_of place word ≡ o → done o line values scene s ≡ done o line values (calling other scene) s
      by_deed None e = refl
      by_deed (Some (sets column variable)) e = refl
      by_deed (Some (sends k message)) e = refl
      by_deed (Some (bears k type)) e = refl
      by_deed (Some (calls k helper)) e =
          let does : is_call_of k (deed_of place word) ≡ true = ap (is_call_of k) e ∙ eq-eqb k k refl in
          let same : scene.answers line helper values s.fuel ≡ other line helper values s.fuel
          = ap (λ (c : Calls). c line helper values s.fuel) is
          ∙ are.alike k helper line values s.fuel (named_get place word (k, helper) (calls_found place word k helper e)) does in
          λ i. after_call (same i) s (λ v t. went_on t)

  mutual
    pub statement_alike :
        (x : Statement) (scene : Scene) (s : Progress)
        → IsThere place scene
        → scene.answers ≡ these
        → AreAlike place these other (λ k. statement_calls place k x)
        → meaning x scene s ≡ meaning x (calling other scene) s
    statement_alike empty scene s there is are = refl
    statement_alike (declare items) scene s there is are = items_alike items scene s there is are
    statement_alike (assign a) scene s there is are = form_alike a.subscript a.op a scene s there is are
    statement_alike (call line word arguments) scene s there is are = λ i.
        with_values (values_alike arguments other scene s i) (λ values. done_alike line word values scene s there is are i)
    statement_alike (block body) scene s there is are = λ i. as_scope (λ t. statements_alike body scene t there is are i) s
    statement_alike (branch tests otherwise) scene s there is are =
        let last : AreAlike place these other (λ k. statements_call place k otherwise) =
        fewer place these other _ _ (λ k e. or_right (arms_call place k tests) (statements_call place k otherwise) e) are in
        arms_alike tests (as_scope (meanings otherwise scene)) (as_scope (meanings otherwise (calling other scene))) scene s there is
        (fewer place these other _ _ (λ k e. or_left (arms_call place k tests) (statements_call place k otherwise) e) are)
        (λ t i. as_scope (λ u. statements_alike otherwise scene u there is last i) t)
    statement_alike (while line test body) scene s there is are = λ i.
        loop line (λ t. value_alike test other scene t i) (as_scope (λ t. statements_alike body scene t there is are i)) (λ t. went_on t) s
    statement_alike (for line first test step body) scene s there is are =
        let first_are : AreAlike place these other (λ k. statements_call place k first) =
        fewer place these other _ _ (λ k e. or_left (statements_call place k first || step_calls place k step) (statements_call place k body)
        (or_left (statements_call place k first) (step_calls place k step) e)) are in
        let step_are : AreAlike place these other (λ k. step_calls place k step) =
        fewer place these other _ _ (λ k e. or_left (statements_call place k first || step_calls place k step) (statements_call place k body)
        (or_right (statements_call place k first) (step_calls place k step) e)) are in
        let body_are : AreAlike place these other (λ k. statements_call place k body) =
        fewer place these other _ _ (λ k e. or_right (statements_call place k first || step_calls place k step) (statements_call place k body) e) are in
        λ i. as_scope (λ t. on_to (statements_alike first scene t there is first_are i)
        (loop line (λ u. test_alike test scene u i) (as_scope (λ u. statements_alike body scene u there is body_are i))
        (λ u. step_alike step scene u there is step_are i))) s
    statement_alike (do_while line body test) scene s there is are = λ i.
        turn line (as_scope (λ t. statements_alike body scene t there is are i))
        (loop line (λ t. value_alike test other scene t i) (as_scope (λ t. statements_alike body scene t there is are i)) (λ t. went_on t)) s
    statement_alike (loop_over line word body end_line end_word) scene s there is are = λ i.
        each_row line (λ current. as_scope (λ t. statements_alike body (inside current scene) t there is are i)) (currents_alike word other scene i) s
    statement_alike (return e) scene s there is are = λ i. with_value (value_alike e other scene s i) (λ v. returned v s)
    statement_alike (break line) scene s there is are = refl
    statement_alike (continue line) scene s there is are = refl

    pub statements_alike :
        (xs : Statements) (scene : Scene) (s : Progress)
        → IsThere place scene
        → scene.answers ≡ these
        → AreAlike place these other (λ k. statements_call place k xs)
        → meanings xs scene s ≡ meanings xs (calling other scene) s
    statements_alike no_more scene s there is are = refl
    statements_alike (also x xs) scene s there is are =
        let first : AreAlike place these other (λ k. statement_calls place k x) =
        fewer place these other _ _ (λ k e. or_left (statement_calls place k x) (statements_call place k xs) e) are in
        let more : AreAlike place these other (λ k. statements_call place k xs) =
        fewer place these other _ _ (λ k e. or_right (statement_calls place k x) (statements_call place k xs) e) are in
        λ i. on_to (statement_alike x scene s there is first i) (λ t. statements_alike xs scene t there is more i)

    arms_alike :
        (tests : Arms) (go to : Progress → End) (scene : Scene) (s : Progress)
        → IsThere place scene
        → scene.answers ≡ these
        → AreAlike place these other (λ k. arms_call place k tests)
        → ((t : Progress) → go t ≡ to t)
        → first_arm tests go scene s ≡ first_arm tests to (calling other scene) s
    arms_alike no_arms go to scene s there is are k = k s
    arms_alike (arm test body more) go to scene s there is are k =
        let first : AreAlike place these other (λ n. statements_call place n body) =
        fewer place these other _ _ (λ n e. or_left (statements_call place n body) (arms_call place n more) e) are in
        let rest : AreAlike place these other (λ n. arms_call place n more) =
        fewer place these other _ _ (λ n e. or_right (statements_call place n body) (arms_call place n more) e) are in
        λ i. with_value (value_alike test other scene s i) (λ v.
        cond (holds v) (as_scope (λ t. statements_alike body scene t there is first i) s)
        (arms_alike more go to scene s there is rest k i))
