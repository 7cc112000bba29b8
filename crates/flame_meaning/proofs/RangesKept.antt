-- Statements keep numbers within int.
use Rattle.std.proofs.Common.{◌≡◌, ℕ, zero, suc, ◌-◌, Bool, true, false, cond, List, [], ◌∷◌, map}
use Rattle.std.proofs.Common.{length, Option, Some, None, refl, subst}
use Rattle.std.specs.Prelude.{ℤ, pos, slice_index_or, is_some, Result, Ok, Err}
use Rattle.std.specs.Str.{bytes_eq}
use Rattle.std.specs.List.{filter, find}
use Rattle.flame_ops.specs.declared.integers.Op.{Op}
use Rattle.flame_ops.specs.Integers.{applied}
use Rattle.flame_spec.specs.declared.faults.Fault.{Fault}
use Rattle.flame_spec.specs.declared.models.Model.{Model}
use Rattle.flame_spec.specs.declared.models.Function.{Function}
use Rattle.flame_spec.specs.declared.models.Input.{Input}
use Rattle.flame_spec.specs.declared.models.MessageType.{MessageType}
use Rattle.flame_spec.specs.declared.models.Variable.{Variable}
use Rattle.flame_spec.specs.declared.outcomes.Source.{Source}
use Rattle.flame_spec.specs.declared.outcomes.Sent.{Sent}
use Rattle.flame_spec.specs.declared.outcomes.Born.{Born}
use Rattle.flame_spec.specs.declared.trees.Parameter.{Parameter}
use Rattle.flame_spec.specs.CallFaults.{Deed, sets, sends, bears, calls, deed_of}
use Rattle.flame_spec.specs.Columns.{width}
use Rattle.flame_spec.specs.Conditions.{number_at}
use Rattle.flame_spec.specs.Definitions.{Definition, definitions, is_idle, is_for, is_helper, helpers, helper_named}
use Rattle.flame_spec.specs.Definitions.{body_in, body_of}
use Rattle.flame_spec.specs.Functions.{Place}
use Rattle.flame_spec.specs.HelperFaults.{deepest_calls}
use Rattle.flame_spec.specs.LookUps.{memory_named, message_looped}
use Rattle.flame_spec.specs.Scopes.{memory_at, messages_at, input_found}
use Rattle.flame_spec.specs.Trees.{Expression, Stored, plain, called, Indexed, Declared, Assigned}
use Rattle.flame_spec.specs.Trees.{Statement, empty, declare, assign, call, block, branch, while, for, do_while}
use Rattle.flame_spec.specs.Trees.{loop_over, return, break, continue}
use Rattle.flame_spec.specs.Trees.{Statements, no_more, also, Arms, no_arms, arm}
use Rattle.flame_meaning.specs.Scenes.{Scene, Progress, Local, Current, Gave, gave, failed, local_value, named}
use Rattle.flame_meaning.specs.Scenes.{array_named, element_column}
use Rattle.flame_meaning.specs.Expressions.{at_line, holds, value_of, values_of}
use Rattle.flame_meaning.specs.Ends.{End, went_on, broke, continued, returned, faulted, no_fuel, with_value}
use Rattle.flame_meaning.specs.Ends.{with_values, after_call, on_to, outside, leave, as_scope}
use Rattle.flame_meaning.specs.Loops.{pay_from, after_turn, turn, turns, each_row}
use Rattle.flame_meaning.specs.Statements.{helped, by_value, by_initial, declarations, set_local, set_found, set_name}
use Rattle.flame_meaning.specs.Statements.{set_column, with_local, with_column, assigned_by, done, test_value}
use Rattle.flame_meaning.specs.Statements.{step_of, rows_of, currents_of, loop_currents, inside, meaning}
use Rattle.flame_meaning.specs.Statements.{meanings, first_arm}
use Rattle.flame_meaning.specs.HelperCalls.{gives, parameter_locals, entered, helper_scene, calls_within}
use Rattle.flame_meaning.specs.Outcomes.{start, ended, finished, scene_of, outcome_at, place_of, outcome_over}
use Rattle.flame_meaning.specs.RangeLaws.{IsInt, Each, AreInts, WritesInts, IfAny, StoredWritesInts}
use Rattle.flame_meaning.specs.RangeLaws.{AssignedWritesInts, StatementWritesInts, BodyWritesInts, ArmsWriteInts}
use Rattle.flame_meaning.specs.RangeLaws.{AllWriteInts, OutcomeIsInts}
use Rattle.flame_meaning.proofs.Alike.{calls_found}
use Rattle.flame_meaning.proofs.Ranges.{number_int, set_ints, fitted_ints, each_joined, OkInt, OkInts}
use Rattle.flame_meaning.proofs.Ranges.{GiveInts, SceneInts, applied_int, ProgressInts, named_int, value_int}
use Rattle.flame_meaning.proofs.Ranges.{values_ints}
use Rattle.flame_meaning.proofs.Sending.{found_get}
use Rattle.flame_meaning.proofs.Eachs.{each_at, each_drop}

-- what was left is within int
abbrev pub EndInts : End → Type 0
EndInts (went_on t) = ProgressInts t
EndInts (broke t) = ProgressInts t
EndInts (continued t) = ProgressInts t
EndInts (returned v t) = IsInt v × ProgressInts t
EndInts (faulted fault) = Unit {0}

with_int : (r : Result ℤ Fault) (go : ℤ → End) → OkInt r → ((v : ℤ) → IsInt v → EndInts (go v)) → EndInts (with_value r go)
with_int (Ok v) go is k = k v is
with_int (Err fault) go is k = tt

with_ints : (r : Result (List ℤ) Fault) (go : List ℤ → End) → OkInts r → ((vs : List ℤ) → AreInts vs → EndInts (go vs)) → EndInts (with_values r go)
with_ints (Ok vs) go is k = k vs is
with_ints (Err fault) go is k = tt

column_ints : (line : ℕ) (o : Option ℕ) (go : ℕ → End) → ((k : ℕ) → EndInts (go k)) → EndInts (with_column line o go)
column_ints line None go k = tt
column_ints line (Some column) go k = k column

bool_ints : (b : Bool) (e f : End) → EndInts e → EndInts f → EndInts (cond b e f)
bool_ints true e f h g = h
bool_ints false e f h g = g

on_ints : (e : End) (go : Progress → End) → EndInts e → ((t : Progress) → ProgressInts t → EndInts (go t)) → EndInts (on_to e go)
on_ints (went_on t) go h k = k t h
on_ints (broke t) go h k = h
on_ints (continued t) go h k = h
on_ints (returned v t) go h k = h
on_ints (faulted fault) go h k = tt

turn_ints : (e : End) (next : Progress → End) → EndInts e → ((t : Progress) → ProgressInts t → EndInts (next t)) → EndInts (after_turn e next)
turn_ints (went_on t) next h k = k t h
turn_ints (broke t) next h k = h
turn_ints (continued t) next h k = k t h
turn_ints (returned v t) next h k = h
turn_ints (faulted fault) next h k = tt

-- ---- changes

fuel_ints : (s : Progress) (fuel : ℕ) → ProgressInts s → ProgressInts (record s { fuel = fuel })
fuel_ints s fuel has = record { memory = has.memory; locals = has.locals; sent = has.sent; born = has.born }

outside_ints : (n : ℕ) (s : Progress) → ProgressInts s → ProgressInts (outside n s)
outside_ints n s has = record {
  memory = has.memory;
  locals = each_drop (λ (x : Local). IsInt x.value) (length s.locals - n) s.locals has.locals;
  sent = has.sent;
  born = has.born;
}

leave_ints : (n : ℕ) (e : End) → EndInts e → EndInts (leave n e)
leave_ints n (went_on t) h = outside_ints n t h
leave_ints n (broke t) h = outside_ints n t h
leave_ints n (continued t) h = outside_ints n t h
leave_ints n (returned v t) h = (h.0, outside_ints n t h.1)
leave_ints n (faulted fault) h = tt

column_set : (column : ℕ) (v : ℤ) (s : Progress) → ProgressInts s → IsInt v → ProgressInts (set_column column v s)
column_set column v s has is = record {
  memory = set_ints s.memory column v has.memory is;
  locals = has.locals;
  sent = has.sent;
  born = has.born;
}

local_set : (word : List ℕ) (v : ℤ) (locals : List Local) → Each (λ (x : Local). IsInt x.value) locals → IsInt v → Each (λ (x : Local). IsInt x.value) (set_local word v locals)
local_set word v [] are is = tt
local_set word v (x ∷ locals) are is = by_test (bytes_eq x.name word) (local_set word v locals are.1 is)
  where
    by_test :
        (b : Bool)
        → Each (λ (y : Local). IsInt y.value) (set_local word v locals)
        → Each (λ (y : Local). IsInt y.value) (cond b (record { name = x.name; value = v } ∷ locals) (x ∷ set_local word v locals))
    by_test true more = (is, are.1)
    by_test false more = (are.0, more)

found_set : (o : Option (ℕ × Variable)) (v : ℤ) (s : Progress) → ProgressInts s → IsInt v → ProgressInts (set_found o v s)
found_set None v s has is = has
found_set (Some found) v s has is = column_set found.0 v s has is

name_set_ints : (word : List ℕ) (v : ℤ) (scene : Scene) (s : Progress) → ProgressInts s → IsInt v → ProgressInts (set_name word v scene s)
name_set_ints word v scene s has is = by_place (is_some (local_value word s.locals))
  where
    by_place :
        (b : Bool)
        → ProgressInts (cond b (record s { locals = set_local word v s.locals })
        (set_found (memory_named (memory_at scene.context) word) v s))
    by_place true = record {
      memory = has.memory;
      locals = local_set word v s.locals has.locals is;
      sent = has.sent;
      born = has.born;
    }
    by_place false = found_set (memory_named (memory_at scene.context) word) v s has is

local_added : (name : List ℕ) (v : ℤ) (s : Progress) → ProgressInts s → IsInt v → ProgressInts (with_local name v s)
local_added name v s has is = record { memory = has.memory; locals = (is, has.locals); sent = has.sent; born = has.born }

-- ---- values

call_ints :
    (g : Gave) (s : Progress) (go : ℤ → Progress → End)
    → ProgressInts s
    → ((v : ℤ) (left : ℕ) → g ≡ gave v left → IsInt v)
    → ((v : ℤ) (t : Progress) → IsInt v → ProgressInts t → EndInts (go v t))
    → EndInts (after_call g s go)
call_ints (gave v left) s go has is k = k v (record s { fuel = left }) (is v left refl) (fuel_ints s left has)
call_ints (failed fault) s go has is k = tt

helped_ints :
    (o : Option (ℕ × Definition)) (line : ℕ) (values : List ℤ) (scene : Scene) (s : Progress) (go : ℤ → Progress → End) (word : List ℕ)
    → SceneInts scene
    → ProgressInts s
    → AreInts values
    → helper_named scene.context.helpers word ≡ o
    → ((v : ℤ) (t : Progress) → IsInt v → ProgressInts t → EndInts (go v t))
    → EndInts (helped o line values scene s go)
helped_ints None line values scene s go word known has are e k = k (pos 0) s refl has
helped_ints (Some found) line values scene s go word known has are e k =
    call_ints (scene.answers line found.1 values s.fuel) s go has
    (λ v left is. known.calls.give line found.1 values s.fuel v left
    (each_at (λ (d : Definition). BodyWritesInts d.body) scene.context.helpers found.0 found.1 known.helpers
    (found_get (λ (d : Definition). bytes_eq d.name word) scene.context.helpers found e)) are is) k

stored_ints :
    (value : Stored) (scene : Scene) (s : Progress) (go : ℤ → Progress → End)
    → SceneInts scene
    → ProgressInts s
    → StoredWritesInts value
    → ((v : ℤ) (t : Progress) → IsInt v → ProgressInts t → EndInts (go v t))
    → EndInts (by_value value scene s go)
stored_ints (plain e) scene s go known has writes k =
    with_int (value_of e scene s) _ (value_int scene s known has e writes) (λ v is. k v s is has)
stored_ints (called line word arguments) scene s go known has writes k =
    with_ints (values_of arguments scene s) _ (values_ints scene s known has arguments writes)
    (λ values are. helped_ints (helper_named scene.context.helpers word) line values scene s go word known has are refl k)

initial_ints :
    (value : Option Stored) (scene : Scene) (s : Progress) (go : ℤ → Progress → End)
    → SceneInts scene
    → ProgressInts s
    → IfAny StoredWritesInts value
    → ((v : ℤ) (t : Progress) → IsInt v → ProgressInts t → EndInts (go v t))
    → EndInts (by_initial value scene s go)
initial_ints None scene s go known has writes k = k (pos 0) s refl has
initial_ints (Some value) scene s go known has writes k = stored_ints value scene s go known has writes k

items_ints :
    (items : List Declared) (scene : Scene) (s : Progress)
    → SceneInts scene
    → ProgressInts s
    → Each (λ (item : Declared). IfAny StoredWritesInts item.value) items
    → EndInts (declarations items scene s)
items_ints [] scene s known has writes = has
items_ints (item ∷ items) scene s known has writes =
    initial_ints item.value scene s _ known has writes.0
    (λ v t is left. items_ints items scene (with_local item.name v t) known (local_added item.name v t left is) writes.1)

form_ints :
    (target : Option Indexed) (op : Option Op) (a : Assigned) (scene : Scene) (s : Progress)
    → SceneInts scene
    → ProgressInts s
    → IfAny (λ (subscript : Indexed). WritesInts subscript.index) target
    → StoredWritesInts a.value
    → EndInts (assigned_by target op a scene s)
form_ints None None a scene s known has index writes =
    stored_ints a.value scene s _ known has writes (λ v t is left. name_set_ints a.name v scene t left is)
form_ints None (Some op) a scene s known has index writes =
    stored_ints a.value scene s _ known has writes
    (λ v t is left. with_int (at_line a.op_line (applied op (named a.name scene s) v)) _
    (applied_int a.op_line op (named a.name scene s) v (named_int scene s known has a.name) is)
    (λ w both. name_set_ints a.name w scene t left both))
form_ints (Some target) None a scene s known has index writes =
    with_int (value_of target.index scene s) _ (value_int scene s known has target.index index)
    (λ i is_index. stored_ints a.value scene s _ known has writes
    (λ v t is left. column_ints target.line (element_column (array_named a.name scene s) i) _
    (λ column. column_set column v t left is)))
form_ints (Some target) (Some op) a scene s known has index writes =
    with_int (value_of target.index scene s) _ (value_int scene s known has target.index index)
    (λ i is_index. column_ints target.line (element_column (array_named a.name scene s) i) _
    (λ column. stored_ints a.value scene s _ known has writes
    (λ v t is left. with_int (at_line a.op_line (applied op (number_at s.memory column) v)) _
    (applied_int a.op_line op (number_at s.memory column) v (number_int s.memory column has.memory) is)
    (λ w both. column_set column w t left both))))

step_ints :
    (step : Option Assigned) (scene : Scene) (s : Progress)
    → SceneInts scene
    → ProgressInts s
    → IfAny AssignedWritesInts step
    → EndInts (step_of step scene s)
step_ints None scene s known has writes = has
step_ints (Some a) scene s known has writes = form_ints a.subscript a.op a scene s known has writes.0 writes.1

test_int :
    (test : Option Expression) (scene : Scene) (s : Progress)
    → SceneInts scene
    → ProgressInts s
    → IfAny WritesInts test
    → OkInt (test_value test scene s)
test_int None scene s known has writes = refl
test_int (Some e) scene s known has writes = value_int scene s known has e writes

done_ints :
    (o : Option Deed) (line : ℕ) (values : List ℤ) (scene : Scene) (s : Progress) (word : List ℕ)
    → SceneInts scene
    → ProgressInts s
    → AreInts values
    → deed_of scene.context word ≡ o
    → EndInts (done o line values scene s)
done_ints None line values scene s word known has are e = has
done_ints (Some (sets column variable)) line values scene s word known has are e =
    column_set column (number_at values 0) s has (number_int values 0 are)
done_ints (Some (sends n message)) line values scene s word known has are e = record {
  memory = has.memory;
  locals = has.locals;
  sent = each_joined (λ (x : Sent). AreInts x.row) s.sent _ has.sent (fitted_ints (width message.variables) values are);
  born = has.born;
}
done_ints (Some (bears n type)) line values scene s word known has are e = record {
  memory = has.memory;
  locals = has.locals;
  sent = has.sent;
  born = each_joined (λ (x : Born). AreInts x.row) s.born _ has.born (fitted_ints (width type.memory) values are);
}
done_ints (Some (calls n helper)) line values scene s word known has are e =
    call_ints (scene.answers line helper values s.fuel) s _ has
    (λ v left is. known.calls.give line helper values s.fuel v left
    (each_at (λ (d : Definition). BodyWritesInts d.body) scene.context.helpers n helper known.helpers
    (found_get (λ (d : Definition). bytes_eq d.name word) scene.context.helpers (n, helper)
    (calls_found scene.context word n helper e))) are is)
    (λ v t is left. left)

-- ---- loops

pay_ints :
    (fuel line : ℕ) (s : Progress) (go : Progress → End)
    → ProgressInts s
    → ((t : Progress) → ProgressInts t → EndInts (go t))
    → EndInts (pay_from fuel line s go)
pay_ints zero line s go has k = tt
pay_ints (suc fuel) line s go has k = k (record s { fuel = fuel }) (fuel_ints s fuel has)

-- what keeps numbers within int
abbrev Keeps : (Progress → End) → Type 0
Keeps run = (t : Progress) → ProgressInts t → EndInts (run t)

one_turn : (line : ℕ) (body next : Progress → End) → Keeps body → Keeps next → Keeps (turn line body next)
one_turn line body next b k s has =
    pay_ints s.fuel line s (λ t. after_turn (body t) next) has (λ t left. turn_ints (body t) next (b t left) k)

all_turns :
    (n line : ℕ) (test : Progress → Result ℤ Fault) (body step : Progress → End)
    → ((t : Progress) → ProgressInts t → OkInt (test t))
    → Keeps body
    → Keeps step
    → Keeps (turns n line test body step)
all_turns zero line test body step is b k s has =
    with_int (test s) (λ v. cond (holds v) (faulted (no_fuel line)) (went_on s)) (is s has)
    (λ v int. bool_ints (holds v) (faulted (no_fuel line)) (went_on s) tt has)
all_turns (suc n) line test body step is b k s has =
    let next : Progress → End = λ t. on_to (step t) (turns n line test body step) in
    with_int (test s) (λ v. cond (holds v) (turn line body next s) (went_on s)) (is s has)
    (λ v int. bool_ints (holds v) (turn line body next s) (went_on s)
    (one_turn line body next b (λ t left. on_ints (step t) (turns n line test body step) (k t left) (all_turns n line test body step is b k)) s has)
    has)

row_turns :
    (line : ℕ) (body : Current → Progress → End) (rows : List Current)
    → Each (λ (current : Current). AreInts current.row) rows
    → ((current : Current) → AreInts current.row → Keeps (body current))
    → Keeps (each_row line body rows)
row_turns line body [] are b s has = has
row_turns line body (current ∷ more) are b s has =
    one_turn line (body current) (each_row line body more) (b current are.0) (row_turns line body more are.1 b) s has

read_rows : (readings : List (List (List ℤ))) (k : ℕ) → Each (λ rows. Each AreInts rows) readings → Each AreInts (slice_index_or readings k [])
read_rows [] k are = tt
read_rows (rows ∷ readings) zero are = are.0
read_rows (rows ∷ readings) (suc k) are = read_rows readings k are.1

input_rows : (o : Option (ℕ × Input)) (scene : Scene) → SceneInts scene → Each AreInts (rows_of o scene)
input_rows None scene known = tt
input_rows (Some input) scene known = read_rows scene.readings input.0 known.readings

current_rows : (n : ℕ) (rows : List (List ℤ)) → Each AreInts rows → Each (λ (current : Current). AreInts current.row) (map (λ row. record { message = n; row = row }) rows)
current_rows n [] are = tt
current_rows n (row ∷ rows) are = (are.0, current_rows n rows are.1)

found_rows : (o : Option (ℕ × MessageType)) (rows : List (List ℤ)) → Each AreInts rows → Each (λ (current : Current). AreInts current.row) (currents_of o rows)
found_rows None rows are = tt
found_rows (Some message) rows are = current_rows message.0 rows are

looped_rows : (word : List ℕ) (scene : Scene) → SceneInts scene → Each (λ (current : Current). AreInts current.row) (loop_currents word scene)
looped_rows word scene known =
    found_rows (message_looped (messages_at scene.context) word) _
    (input_rows (input_found scene.context.runs (message_looped (messages_at scene.context) word)) scene known)

inside_ints : (current : Current) (scene : Scene) → SceneInts scene → AreInts current.row → SceneInts (inside current scene)
inside_ints current scene known are = record {
  constants = known.constants;
  iteration = known.iteration;
  readings = known.readings;
  open_loops = (are, known.open_loops);
  helpers = known.helpers;
  calls = known.calls;
}

scope_ints : (run : Progress → End) → Keeps run → Keeps (as_scope run)
scope_ints run k s has = leave_ints (length s.locals) (run s) (k s has)

-- ---- statements

mutual
  pub statement_ints : (x : Statement) (scene : Scene) → SceneInts scene → StatementWritesInts x → Keeps (meaning x scene)
  statement_ints empty scene known writes s has = has
  statement_ints (declare items) scene known writes s has = items_ints items scene s known has writes
  statement_ints (assign a) scene known writes s has = form_ints a.subscript a.op a scene s known has writes.0 writes.1
  statement_ints (call line word arguments) scene known writes s has =
      with_ints (values_of arguments scene s) _ (values_ints scene s known has arguments writes)
      (λ values are. done_ints (deed_of scene.context word) line values scene s word known has are refl)
  statement_ints (block body) scene known writes s has =
      scope_ints (meanings body scene) (λ t left. body_ints body scene known writes t left) s has
  statement_ints (branch tests otherwise) scene known writes s has =
      arms_ints tests (as_scope (meanings otherwise scene)) scene known writes.0
      (scope_ints (meanings otherwise scene) (λ t left. body_ints otherwise scene known writes.1 t left)) s has
  statement_ints (while line test body) scene known writes s has =
      all_turns s.fuel line (test_value (Some test) scene) (as_scope (meanings body scene)) (step_of None scene)
      (λ t left. value_int scene t known left test writes.0)
      (scope_ints (meanings body scene) (λ t left. body_ints body scene known writes.1 t left))
      (λ t left. left) s has
  statement_ints (for line first test step body) scene known writes s has =
      scope_ints _ (λ t left. on_ints (meanings first scene t) _ (body_ints first scene known writes.0 t left)
      (λ u more. all_turns u.fuel line (test_value test scene) (as_scope (meanings body scene)) (step_of step scene)
      (λ w has_w. test_int test scene w known has_w writes.1)
      (scope_ints (meanings body scene) (λ w has_w. body_ints body scene known writes.3 w has_w))
      (λ w has_w. step_ints step scene w known has_w writes.2) u more)) s has
  statement_ints (do_while line body test) scene known writes s has =
      one_turn line (as_scope (meanings body scene)) _
      (scope_ints (meanings body scene) (λ t left. body_ints body scene known writes.0 t left))
      (λ t left. all_turns t.fuel line (test_value (Some test) scene) (as_scope (meanings body scene)) (step_of None scene)
      (λ u more. value_int scene u known more test writes.1)
      (scope_ints (meanings body scene) (λ u more. body_ints body scene known writes.0 u more))
      (λ u more. more) t left) s has
  statement_ints (loop_over line word body end_line end_word) scene known writes s has =
      row_turns line _ (loop_currents word scene) (looped_rows word scene known)
      (λ current are. scope_ints (meanings body (inside current scene))
      (λ t left. body_ints body (inside current scene) (inside_ints current scene known are) writes t left)) s has
  statement_ints (return e) scene known writes s has =
      with_int (value_of e scene s) _ (value_int scene s known has e writes) (λ v is. (is, has))
  statement_ints (break line) scene known writes s has = has
  statement_ints (continue line) scene known writes s has = has

  pub body_ints : (xs : Statements) (scene : Scene) → SceneInts scene → BodyWritesInts xs → Keeps (meanings xs scene)
  body_ints no_more scene known writes s has = has
  body_ints (also x xs) scene known writes s has =
      on_ints (meaning x scene s) (meanings xs scene) (statement_ints x scene known writes.0 s has)
      (λ t left. body_ints xs scene known writes.1 t left)

  arms_ints :
      (tests : Arms) (otherwise : Progress → End) (scene : Scene)
      → SceneInts scene
      → ArmsWriteInts tests
      → Keeps otherwise
      → Keeps (first_arm tests otherwise scene)
  arms_ints no_arms otherwise scene known writes k s has = k s has
  arms_ints (arm test body more) otherwise scene known writes k s has =
      with_int (value_of test scene s) _ (value_int scene s known has test writes.0)
      (λ v is. bool_ints (holds v) (as_scope (meanings body scene) s) (first_arm more otherwise scene s)
      (scope_ints (meanings body scene) (λ t left. body_ints body scene known writes.1 t left) s has)
      (arms_ints more otherwise scene known writes.2 k s has))

-- ---- helpers

given_int : (e : End) (v : ℤ) (left : ℕ) → EndInts e → gives e ≡ gave v left → IsInt v
given_int (went_on t) v left h e = let same : pos 0 ≡ v = cc in subst IsInt same refl
given_int (broke t) v left h e = let same : pos 0 ≡ v = cc in subst IsInt same refl
given_int (continued t) v left h e = let same : pos 0 ≡ v = cc in subst IsInt same refl
given_int (returned w t) v left h e = let same : w ≡ v = cc in subst IsInt same h.0
given_int (faulted fault) v left h e = cc

parameter_ints :
    (parameters : List Parameter) (values : List ℤ) (locals : List Local)
    → AreInts values
    → Each (λ (x : Local). IsInt x.value) locals
    → Each (λ (x : Local). IsInt x.value) (parameter_locals parameters values locals)
parameter_ints [] values locals are has = has
parameter_ints (parameter ∷ more) [] locals are has =
    parameter_ints more [] (record { name = parameter.name; value = pos 0 } ∷ locals) tt (refl, has)
parameter_ints (parameter ∷ more) (v ∷ values) locals are has =
    parameter_ints more values (record { name = parameter.name; value = v } ∷ locals) are.1 (are.0, has)

module _
    (model : Model) (hs : List Definition) (constants : List ℤ) (iteration : ℤ)
    (write : AllWriteInts hs) (are_constants : AreInts constants) (is_iteration : IsInt iteration) where
  within_ints :
      (levels line : ℕ) (helper : Definition) (values : List ℤ) (fuel : ℕ) (v : ℤ) (left : ℕ)
      → BodyWritesInts helper.body
      → AreInts values
      → calls_within levels model hs constants iteration line helper values fuel ≡ gave v left
      → IsInt v
  within_ints zero line helper values zero v left writes are e = cc
  within_ints (suc levels) line helper values zero v left writes are e = cc
  within_ints zero line helper values (suc fuel) v left writes are e = cc
  within_ints (suc levels) line helper values (suc fuel) v left writes are e =
      given_int
      (meanings helper.body (helper_scene model hs constants iteration (calls_within levels model hs constants iteration))
      (entered helper.parameters values fuel)) v left
      (body_ints helper.body (helper_scene model hs constants iteration (calls_within levels model hs constants iteration))
      (record {
        constants = are_constants;
        iteration = is_iteration;
        readings = tt;
        open_loops = tt;
        helpers = write;
        calls = record { give = λ at_line other given before w after writes_too too is. within_ints levels at_line other given before w after writes_too too is };
      })
      writes
      (entered helper.parameters values fuel)
      (record { memory = tt; locals = parameter_ints helper.parameters values [] are tt; sent = tt; born = tt }))
      e

  pub helpers_give_ints : (levels : ℕ) → GiveInts (calls_within levels model hs constants iteration)
  helpers_give_ints levels = record {
    give = λ line helper values fuel v left writes are is. within_ints levels line helper values fuel v left writes are is;
  }

-- ---- outcomes

finished_ints : (e : End) → EndInts e → OutcomeIsInts (finished e)
finished_ints (went_on s) h = (h.memory, h.sent, h.born)
finished_ints (broke s) h = (h.memory, h.sent, h.born)
finished_ints (continued s) h = (h.memory, h.sent, h.born)
finished_ints (returned v s) h = by_value (holds v)
  where
    by_value : (b : Bool) → OutcomeIsInts (cond b (ended None s) (ended (Some s.memory) s))
    by_value true = (tt, h.1.sent, h.1.born)
    by_value false = (h.1.memory, h.1.sent, h.1.born)
finished_ints (faulted fault) h = tt

helpers_write : (model : Model) (ds : List Definition) → AllWriteInts ds → AllWriteInts (filter (is_helper model) ds)
helpers_write model [] write = tt
helpers_write model (d ∷ ds) write = by_test (is_helper model d) (helpers_write model ds write.1)
  where
    by_test : (b : Bool) → AllWriteInts (filter (is_helper model) ds) → AllWriteInts (cond b (d ∷ filter (is_helper model) ds) (filter (is_helper model) ds))
    by_test true more = (write.0, more)
    by_test false more = more

found_writes : (function : Function) (ds : List Definition) → AllWriteInts ds → BodyWritesInts (body_in (find (is_for function) ds))
found_writes function [] write = tt
found_writes function (d ∷ ds) write = by_test (is_for function d) (found_writes function ds write.1)
  where
    by_test : (b : Bool) → BodyWritesInts (body_in (find (is_for function) ds)) → BodyWritesInts (body_in (cond b (Some d) (find (is_for function) ds)))
    by_test true more = write.0
    by_test false more = more

pub outcomes_are_ints :
    (source : Source) (function : ℕ) (memory : List ℤ) (readings : List (List (List ℤ))) (constants : List ℤ)
    (iteration : ℤ) (fuel : ℕ)
    → AllWriteInts (definitions source.units)
    → AreInts memory
    → Each (λ rows. Each AreInts rows) readings
    → AreInts constants
    → IsInt iteration
    → OutcomeIsInts (outcome_over source function memory readings constants iteration fuel)
outcomes_are_ints source function memory readings constants iteration fuel write are_memory are_readings are_constants is_iteration =
    by_place (place_of source function)
  where
    body_writes : (f : Function) → BodyWritesInts (body_of source.units f)
    body_writes f = by_test (is_idle f)
      where
        by_test : (b : Bool) → BodyWritesInts (cond b no_more (body_in (find (is_for f) (definitions source.units))))
        by_test true = tt
        by_test false = found_writes f (definitions source.units) write

    by_place : (o : Option Place) → OutcomeIsInts (outcome_at o source memory readings constants iteration fuel)
    by_place None = (are_memory, tt, tt)
    by_place (Some place) =
        let helpers_too : AllWriteInts (helpers source.model source.units)
        = helpers_write source.model (definitions source.units) write in
        finished_ints (meanings (body_of source.units place.function) (scene_of source place readings constants iteration) (start memory fuel))
        (body_ints (body_of source.units place.function) (scene_of source place readings constants iteration)
        (record {
          constants = are_constants;
          iteration = is_iteration;
          readings = are_readings;
          open_loops = tt;
          helpers = helpers_too;
          calls = helpers_give_ints source.model (helpers source.model source.units) constants iteration helpers_too are_constants is_iteration deepest_calls;
        })
        (body_writes place.function)
        (start memory fuel)
        (record { memory = are_memory; locals = tt; sent = tt; born = tt }))
