-- Statements without check faults do the same with numbers in place of names.
use Rattle.std.proofs.Common.{◌≡◌, ℕ, Bool, true, false, cond, List, [], ◌∷◌, ◌++◌, map, Option, Some, None, refl, sym, ap, ◌∙◌, subst}
use Rattle.std.specs.Prelude.{ℤ, is_some, not, slice_index_or, option_map}
use Rattle.std.specs.Str.{bytes_eq}
use Rattle.std.proofs.lemmas.Bool.{not-false}
use Rattle.flame_rows.proofs.Lists.{append-is_nil_left, append-is_nil_right}
use Rattle.flame_rows.proofs.Truths.{is_some-true}
use Rattle.flame_ops.specs.Ascii.{capitals}
use Rattle.flame_spec.specs.declared.faults.CheckKind.TheVariants.{NotInput}
use Rattle.flame_spec.specs.declared.models.Input.{Input}
use Rattle.flame_spec.specs.declared.models.MessageType.{MessageType}
use Rattle.flame_spec.specs.ExpressionFaults.{expression_faults, optional_faults}
use Rattle.flame_spec.specs.Functions.{Place}
use Rattle.flame_spec.specs.LookUps.{message_looped}
use Rattle.flame_spec.specs.Scopes.{Context, Loop, over_message, over_none, Sight, in_scope, in_loop, after, after_all, messages_at, input_found, input_in}
use Rattle.flame_spec.specs.StatementFaults.{is_input, start_faults, opened, optional_assignment_faults, statement_faults, statements_faults, arms_faults}
use Rattle.flame_spec.specs.Trees.{Expression, Assigned}
use Rattle.flame_spec.specs.Trees.{Statement, empty, declare, assign, call, block, branch, while, for, do_while, loop_over, return, break, continue}
use Rattle.flame_spec.specs.Trees.{Statements, no_more, also, Arms, no_arms, arm}
use Rattle.flame_spec.proofs.FaultTests.{fault_where-none}
use Rattle.flame_spec.proofs.OpenLoops.{loops-after, loops-after_all}
use Rattle.flame_body.specs.WordSlots.{deed_at, input_looped, number_found}
use Rattle.flame_body.specs.NumberedTrees.{numbered, numbered_parts, numbered_assignment, numbered_items, numbered_statement, numbered_statements, numbered_arms}
use Rattle.flame_body.specs.FitLaws.{unfiled}
use Rattle.flame_meaning.specs.Scenes.{Scene, Progress}
use Rattle.flame_meaning.specs.Expressions.{holds, value_of as value_named}
use Rattle.flame_meaning.specs.Ends.{End, returned, with_value, on_to, as_scope}
use Rattle.flame_meaning.specs.Loops.{loop, each_row as each_current}
use Rattle.flame_meaning.specs.Statements.{meaning, meanings, first_arm as first_named, test_value as test_named, step_of as step_named}
use Rattle.flame_meaning.specs.Statements.{rows_of, currents_of, loop_currents, inside}
use Rattle.flame_meaning.specs.Outcomes.{message_named}
use Rattle.flame_meaning.specs.Agreement.{message_loop, Agrees}
use Rattle.flame_meaning.specs.AcceptedMeaning.{WentOnAgrees}
use Rattle.flame_meaning.proofs.Agreeing.{named_first, statement_agrees, statements_agree, end_agrees, scope_agrees, inside_agree}
use Rattle.flame_meaning.proofs.Naming.{body_names}
use Rattle.flame_number_laws.specs.NumberedScenes.{NumberedScene, standing_at}
use Rattle.flame_number_laws.specs.NumberedMeaning.{value_of, scope, first_arm, test_value, step_of, nothing, Run, in_turn, each_row, run_of, arm_of, runs_of}
use Rattle.flame_number_laws.proofs.NumberedForms.{run-Empty, run-Declare, run-Assign, run-Call, run-Block, run-If, run-While, run-For, run-Do, run-Loop, run-Return}
use Rattle.flame_number_laws.proofs.NumberedForms.{run-Break, run-Continue}
use Rattle.flame_number_laws.proofs.BaredEnds.{bared, bared_end, value-bared, scope-bared, on-bared, turn-bared, loop-bared, rows-bared, Alike}
use Rattle.flame_number_laws.proofs.SameWords.{Matches}
use Rattle.flame_number_laws.proofs.SameExpressions.{value-same}
use Rattle.flame_number_laws.proofs.SameStores.{assignment-same, step-same, call-same, items-same}
use Rattle.flame_number_laws.proofs.Standings.{matches-inside}

-- ---- loops that are open afterwards

-- a loop over no message changes nothing of what stands before a body
matches-plain :
    (place : Context) (loops : List Loop) (scene : Scene) (before : NumberedScene)
    → Matches place loops scene before
    → Matches place (over_none ∷ loops) scene before
matches-plain place loops scene before k = record {
  widths = k.widths;
  constants = k.constants;
  same_iteration = k.same_iteration;
  readings = k.readings;
  inputs = k.inputs;
  current_rows = k.current_rows;
  answers = k.answers;
}

-- ---- loops over messages

-- the turns of a loop over this message are the rows of its input
turns-there :
    (place : Context) (scene : Scene) (word : List ℕ) (found : ℕ × MessageType) (input : ℕ × Input)
    → scene.context ≡ unfiled place
    → message_looped (messages_at place) word ≡ Some found
    → input_in place.runs found.1 ≡ Some input
    → loop_currents word scene ≡ map (λ row. record { message = found.0; row = row }) (slice_index_or scene.readings input.0 [])
turns-there place scene word found input there looped is =
    ap (λ (c : Context). currents_of (message_looped (messages_at c) word) (rows_of (input_found c.runs (message_looped (messages_at c) word)) scene)) there
    ∙ ap (λ m. currents_of m (rows_of (input_found place.runs m) scene)) looped
    ∙ ap (λ o. map (λ row. record { message = found.0; row = row }) (rows_of o scene)) is

input-there :
    (runs : Option Place) (message : MessageType)
    → is_input runs message ≡ true
    → is_some (input_in runs message) ≡ true
input-there None message h = h
input-there (Some p) message h = h

-- ---- bodies

-- these statements do the same at each progress that agrees with the place
abbrev pub BodySame : Context → Sight → Scene → NumberedScene → Statements → Type 0
BodySame place sight scene before body =
    (t : Progress)
    → Agrees place sight scene t
    → bared_end (meanings body scene t) ≡ runs_of (numbered_statements (unfiled place) sight body) before (bared t)

-- a body that is a scope
body-same :
    (place : Context) (sight : Sight) (scene : Scene) (before : NumberedScene) (s : Progress) (body : Statements)
    → Agrees place (in_scope sight) scene s
    → BodySame place (in_scope sight) scene before body
    → bared_end (as_scope (meanings body scene) s)
    ≡ scope (map run_of (numbered_statements (unfiled place) (in_scope sight) body)) before (bared s)
body-same place sight scene before s body a same =
    scope-bared (meanings body scene) (runs_of (numbered_statements (unfiled place) (in_scope sight) body) before) s (same s a)

-- the body of a loop over no message
plain-body :
    (place : Context) (sight : Sight) (scene : Scene) (before : NumberedScene) (body : Statements)
    → BodySame place (in_loop over_none sight) scene before body
    → Alike place sight scene (as_scope (meanings body scene))
    (scope (map run_of (numbered_statements (unfiled place) (in_loop over_none sight) body)) before)
plain-body place sight scene before body same t agrees =
    scope-bared (meanings body scene) (runs_of (numbered_statements (unfiled place) (in_loop over_none sight) body) before) t
    (same t (inside_agree place sight scene t [] agrees).1)

test-same :
    (place : Context) (sight : Sight) (scene : Scene) (before : NumberedScene) (t : Progress) (test : Option Expression)
    → Agrees place sight scene t
    → Matches place sight.loops scene before
    → optional_faults place sight test ≡ []
    → test_value (option_map (numbered (unfiled place) sight) test) before (bared t) ≡ test_named test scene t
test-same place sight scene before t None agrees k none = refl
test-same place sight scene before t (Some e) agrees k none = value-same place sight scene before t agrees k e none

step-goes :
    (place : Context) (sight : Sight) (scene : Scene) (t : Progress) (step : Option Assigned)
    → Agrees place sight scene t
    → optional_assignment_faults place sight step ≡ []
    → WentOnAgrees place sight scene (step_named step scene t)
step-goes place sight scene t None agrees none = agrees
step-goes place sight scene t (Some b) agrees none = statement_agrees place sight scene t (assign b) agrees none

-- a loop without a step
plain-loop :
    (place : Context) (sight : Sight) (scene : Scene) (before : NumberedScene) (line : ℕ) (test : Expression) (body : Statements)
    → Matches place sight.loops scene before
    → expression_faults place sight test ≡ []
    → BodySame place (in_loop over_none sight) scene before body
    → Alike place sight scene
    (loop line (test_named (Some test) scene) (as_scope (meanings body scene)) (step_named None scene))
    (loop line (value_of (numbered (unfiled place) sight test) before)
    (scope (map run_of (numbered_statements (unfiled place) (in_loop over_none sight) body)) before) (nothing before))
plain-loop place sight scene before line test body k none same =
    loop-bared place sight scene line (test_named (Some test) scene) (value_of (numbered (unfiled place) sight test) before)
    (as_scope (meanings body scene))
    (scope (map run_of (numbered_statements (unfiled place) (in_loop over_none sight) body)) before)
    (step_named None scene) (nothing before)
    (λ t agrees. value-same place sight scene before t agrees k test none)
    (plain-body place sight scene before body same)
    (λ t agrees. scope_agrees place sight scene t body agrees)
    (λ t agrees. refl)
    (λ t agrees. agrees)

for-same :
    (place : Context) (sight : Sight) (scene : Scene) (before : NumberedScene) (s : Progress) (line : ℕ) (first : Statements)
    (test : Option Expression) (step : Option Assigned) (body : Statements)
    → Agrees place sight scene s
    → Matches place sight.loops scene before
    → statements_faults place (in_scope sight) first ≡ []
    → optional_faults place (after_all (in_scope sight) first) test ≡ []
    → optional_assignment_faults place (after_all (in_scope sight) first) step ≡ []
    → BodySame place (in_scope sight) scene before first
    → BodySame place (in_loop over_none (after_all (in_scope sight) first)) scene before body
    → bared_end (meaning (for line first test step body) scene s)
    ≡ run_of (numbered_statement (unfiled place) sight (for line first test step body)) before (bared s)
for-same place sight scene before s line first test step body a k opening tested stepped first_same body_same =
    scope-bared (λ t. on_to (meanings first scene t) named)
    (λ t. on_to (runs_of (numbered_statements (unfiled place) (in_scope sight) first) before t) repeated) s
    (on-bared place here scene (meanings first scene s) named repeated
    (statements_agree place (in_scope sight) scene s first entered opening)
    (loop-bared place here scene line (test_named test scene)
    (test_value (option_map (numbered (unfiled place) here) test) before)
    (as_scope (meanings body scene))
    (scope (map run_of (numbered_statements (unfiled place) (in_loop over_none here) body)) before)
    (step_named step scene)
    (step_of (option_map (numbered_assignment (unfiled place) here) step) before)
    (λ t agrees. test-same place here scene before t test agrees there tested)
    (plain-body place here scene before body body_same)
    (λ t agrees. scope_agrees place here scene t body agrees)
    (λ t agrees. step-same place here scene before t agrees there step stepped)
    (λ t agrees. step-goes place here scene t step agrees stepped))
    ∙ ap (λ e. on_to e repeated) (first_same s entered))
    ∙ sym (run-For line
    (record {
      first = numbered_statements (unfiled place) (in_scope sight) first;
      test = option_map (numbered (unfiled place) here) test;
      step = option_map (numbered_assignment (unfiled place) here) step;
    })
    (numbered_statements (unfiled place) (in_loop over_none here) body) before (bared s))
  where
    here : Sight
    here = after_all (in_scope sight) first

    entered : Agrees place (in_scope sight) scene s
    entered = (inside_agree place sight scene s [] a).0

    there : Matches place here.loops scene before
    there = subst (λ loops. Matches place loops scene before) (sym (loops-after_all (in_scope sight) first)) k

    named : Progress → End
    named = loop line (test_named test scene) (as_scope (meanings body scene)) (step_named step scene)

    repeated : Progress → End
    repeated =
        loop line (test_value (option_map (numbered (unfiled place) here) test) before)
        (scope (map run_of (numbered_statements (unfiled place) (in_loop over_none here) body)) before)
        (step_of (option_map (numbered_assignment (unfiled place) here) step) before)

-- inside a loop over the message, at a row
abbrev pub at_row : ℕ × MessageType → List ℤ → Scene → Scene
at_row found row scene = inside (record { message = found.0; row = row }) scene

-- these statements do the same in a loop over a message, at each row
abbrev pub MessageBody : Context → Sight → Scene → NumberedScene → Statements → Type 0
MessageBody place sight scene before body =
    (found : ℕ × MessageType) (input : ℕ) (row : List ℤ) (t : Progress)
    → Agrees place (in_loop (over_message found.1.name) sight) (at_row found row scene) t
    → Matches place (over_message found.1.name ∷ sight.loops) (at_row found row scene) (standing_at input row before)
    → statements_faults place (in_loop (over_message found.1.name) sight) body ≡ []
    → bared_end (meanings body (at_row found row scene) t)
    ≡ runs_of (numbered_statements (unfiled place) (in_loop (over_message found.1.name) sight) body) (standing_at input row before) (bared t)

message-same :
    (place : Context) (sight : Sight) (scene : Scene) (before : NumberedScene) (s : Progress) (line : ℕ) (word : List ℕ)
    (body : Statements)
    → Agrees place sight scene s
    → Matches place sight.loops scene before
    → (o : Option (ℕ × MessageType))
    → message_looped (messages_at place) word ≡ o
    → start_faults place sight o line word ≡ []
    → statements_faults place (in_loop (opened o) sight) body ≡ []
    → MessageBody place sight scene before body
    → bared_end (each_current line (λ current. as_scope (meanings body (inside current scene))) (loop_currents word scene) s)
    ≡ each_row line
    (λ row. scope (map run_of (numbered_statements (unfiled place) (in_loop (opened o) sight) body))
    (standing_at (input_looped (unfiled place) word) row before))
    (slice_index_or before.readings (input_looped (unfiled place) word) []) (bared s)
message-same place sight scene before s line word body a k None looped start inner same = absurd (cc)
message-same place sight scene before s line word body a k (Some found) looped start inner same =
    ap (λ rows. bared_end (each_current line (λ current. as_scope (meanings body (inside current scene))) rows s))
    (turns-there place scene word found input a.there looped is)
    ∙ rows-bared place sight scene line found.0 (λ current. as_scope (meanings body (inside current scene)))
    (λ row. scope statements (standing_at input.0 row before))
    (slice_index_or scene.readings input.0 [])
    (λ row t agrees.
    scope-bared (meanings body (at_row found row scene)) (in_turn statements (standing_at input.0 row before)) t
    (same found input.0 row t
    (record {
      there = agrees.there;
      names = agrees.names;
      fresh = λ other local. agrees.fresh other local;
      loops = message_loop found.1.name found.0 found.1 row sight.loops scene.open_loops first agrees.loops;
    })
    (matches-inside place sight.loops scene before found.0 found.1 input row k first is)
    inner))
    (λ row t agrees.
    end_agrees place sight scene t (as_scope (meanings body (at_row found row scene)) t) agrees
    (body_names body (at_row found row scene) t))
    s a
    ∙ ap (λ rows. each_row line (λ row. scope statements (standing_at input.0 row before)) rows (bared s))
    (ap (λ r. slice_index_or r input.0 []) (sym k.readings))
    ∙ ap (λ n. each_row line (λ row. scope statements (standing_at n row before)) (slice_index_or before.readings n []) (bared s))
    (sym number)
  where
    there : (input : ℕ × Input) × (input_in place.runs found.1 ≡ Some input)
    there =
        is_some-true (input_in place.runs found.1)
        (input-there place.runs found.1
        (not-false _ (fault_where-none (not (is_input place.runs found.1)) place NotInput line word (append-is_nil_left _ _ start))))

    input : ℕ × Input
    input = there.0

    is : input_in place.runs found.1 ≡ Some input
    is = there.1

    first : message_named (messages_at place) found.1.name ≡ Some found
    first = named_first (λ n. bytes_eq (capitals n) word) (messages_at place) found looped

    statements : List Run
    statements = map run_of (numbered_statements (unfiled place) (in_loop (over_message found.1.name) sight) body)

    number : input_looped (unfiled place) word ≡ input.0
    number = ap (λ m. number_found (input_found place.runs m)) looped ∙ ap number_found is

-- one of two ends
either-end :
    (b : Bool) (x y : End) (v w : End) → bared_end x ≡ v → bared_end y ≡ w → bared_end (cond b x y) ≡ cond b v w
either-end true x y v w first second = first
either-end false x y v w first second = second

-- ---- statements

mutual
  pub statement-same :
      (place : Context) (sight : Sight) (scene : Scene) (before : NumberedScene) (s : Progress) (x : Statement)
      → Agrees place sight scene s
      → Matches place sight.loops scene before
      → statement_faults place sight x ≡ []
      → bared_end (meaning x scene s) ≡ run_of (numbered_statement (unfiled place) sight x) before (bared s)
  statement-same place sight scene before s empty a k none = sym (run-Empty before (bared s))
  statement-same place sight scene before s (declare items) a k none =
      items-same place sight scene before s items a k none ∙ sym (run-Declare (numbered_items (unfiled place) sight items) before (bared s))
  statement-same place sight scene before s (assign b) a k none =
      assignment-same place sight scene before s a k b none ∙ sym (run-Assign (numbered_assignment (unfiled place) sight b) before (bared s))
  statement-same place sight scene before s (call line word arguments) a k none =
      call-same place sight scene before s a k line word arguments none
      ∙ sym (run-Call (deed_at (unfiled place) line word) (numbered_parts (unfiled place) sight arguments) before (bared s))
  statement-same place sight scene before s (block body) a k none =
      body-same place sight scene before s body (inside_agree place sight scene s [] a).0
      (λ t agrees. statements-same place (in_scope sight) scene before t body agrees k none)
      ∙ sym (run-Block (numbered_statements (unfiled place) (in_scope sight) body) before (bared s))
  statement-same place sight scene before s (branch arms otherwise) a k none =
      arms-same place sight scene before s arms (as_scope (meanings otherwise scene))
      (scope (map run_of (numbered_statements (unfiled place) (in_scope sight) otherwise)))
      a k (append-is_nil_left _ _ none)
      (body-same place sight scene before s otherwise (inside_agree place sight scene s [] a).0
      (λ t agrees. statements-same place (in_scope sight) scene before t otherwise agrees k
      (append-is_nil_right (arms_faults place sight arms) _ none)))
      ∙ sym (run-If (numbered_arms (unfiled place) sight arms) (numbered_statements (unfiled place) (in_scope sight) otherwise) before (bared s))
  statement-same place sight scene before s (while line test body) a k none =
      plain-loop place sight scene before line test body k (append-is_nil_left _ _ none)
      (λ t agrees. statements-same place (in_loop over_none sight) scene before t body agrees
      (matches-plain place sight.loops scene before k) (append-is_nil_right (expression_faults place sight test) _ none))
      s a
      ∙ sym (run-While line (numbered (unfiled place) sight test) (numbered_statements (unfiled place) (in_loop over_none sight) body) before (bared s))
  statement-same place sight scene before s (for line first test step body) a k none =
      let opening = statements_faults place (in_scope sight) first in
      let tested = optional_faults place (after_all (in_scope sight) first) test in
      let stepped = optional_assignment_faults place (after_all (in_scope sight) first) step in
      let three : opening ++ tested ++ stepped ≡ [] = append-is_nil_left (opening ++ tested ++ stepped) _ none in
      let two : opening ++ tested ≡ [] = append-is_nil_left (opening ++ tested) _ three in
      for-same place sight scene before s line first test step body a k
      (append-is_nil_left opening _ two)
      (append-is_nil_right opening _ two)
      (append-is_nil_right (opening ++ tested) _ three)
      (λ t agrees. statements-same place (in_scope sight) scene before t first agrees k (append-is_nil_left opening _ two))
      (λ t agrees. statements-same place (in_loop over_none (after_all (in_scope sight) first)) scene before t body agrees
      (matches-plain place (after_all (in_scope sight) first).loops scene before
      (subst (λ loops. Matches place loops scene before) (sym (loops-after_all (in_scope sight) first)) k))
      (append-is_nil_right (opening ++ tested ++ stepped) _ none))
  statement-same place sight scene before s (do_while line body test) a k none =
      turn-bared place sight scene line (as_scope (meanings body scene))
      (scope (map run_of (numbered_statements (unfiled place) (in_loop over_none sight) body)) before) _ _
      (plain-body place sight scene before body
      (λ t agrees. statements-same place (in_loop over_none sight) scene before t body agrees
      (matches-plain place sight.loops scene before k) (append-is_nil_left _ _ none)))
      (λ t agrees. scope_agrees place sight scene t body agrees)
      (plain-loop place sight scene before line test body k
      (append-is_nil_right (statements_faults place (in_loop over_none sight) body) _ none)
      (λ t agrees. statements-same place (in_loop over_none sight) scene before t body agrees
      (matches-plain place sight.loops scene before k) (append-is_nil_left _ _ none)))
      s a
      ∙ sym (run-Do line (numbered_statements (unfiled place) (in_loop over_none sight) body) (numbered (unfiled place) sight test) before (bared s))
  statement-same place sight scene before s (loop_over line word body end_line end_word) a k none =
      let start = start_faults place sight (message_looped (messages_at place) word) line word in
      let inner = statements_faults place (in_loop (opened (message_looped (messages_at place) word)) sight) body in
      let two : start ++ inner ≡ [] = append-is_nil_left (start ++ inner) _ none in
      message-same place sight scene before s line word body a k (message_looped (messages_at place) word) refl
      (append-is_nil_left start _ two) (append-is_nil_right start _ two)
      (λ found input row t agrees matches clean.
      statements-same place (in_loop (over_message found.1.name) sight) (at_row found row scene) (standing_at input row before) t body
      agrees matches clean)
      ∙ sym (run-Loop line (input_looped (unfiled place) word)
      (numbered_statements (unfiled place) (in_loop (opened (message_looped (messages_at place) word)) sight) body) before (bared s))
  statement-same place sight scene before s (return e) a k none =
      value-bared (value_named e scene s) _ (λ v. returned v (bared s)) (λ v. refl)
      ∙ ap (λ r. with_value r (λ v. returned v (bared s))) (sym (value-same place sight scene before s a k e none))
      ∙ sym (run-Return (numbered (unfiled place) sight e) before (bared s))
  statement-same place sight scene before s (break line) a k none = sym (run-Break before (bared s))
  statement-same place sight scene before s (continue line) a k none = sym (run-Continue before (bared s))

  pub statements-same :
      (place : Context) (sight : Sight) (scene : Scene) (before : NumberedScene) (s : Progress) (xs : Statements)
      → Agrees place sight scene s
      → Matches place sight.loops scene before
      → statements_faults place sight xs ≡ []
      → bared_end (meanings xs scene s) ≡ runs_of (numbered_statements (unfiled place) sight xs) before (bared s)
  statements-same place sight scene before s no_more a k none = refl
  statements-same place sight scene before s (also x xs) a k none =
      on-bared place (after sight x) scene (meaning x scene s) (meanings xs scene)
      (runs_of (numbered_statements (unfiled place) (after sight x) xs) before)
      (statement_agrees place sight scene s x a (append-is_nil_left _ _ none))
      (λ t agrees. statements-same place (after sight x) scene before t xs agrees
      (subst (λ loops. Matches place loops scene before) (sym (loops-after sight x)) k)
      (append-is_nil_right (statement_faults place sight x) _ none))
      ∙ ap (λ e. on_to e (runs_of (numbered_statements (unfiled place) (after sight x) xs) before))
      (statement-same place sight scene before s x a k (append-is_nil_left _ _ none))

  pub arms-same :
      (place : Context) (sight : Sight) (scene : Scene) (before : NumberedScene) (s : Progress) (arms : Arms)
      (otherwise : Progress → End) (other : NumberedScene → Progress → End)
      → Agrees place sight scene s
      → Matches place sight.loops scene before
      → arms_faults place sight arms ≡ []
      → bared_end (otherwise s) ≡ other before (bared s)
      → bared_end (first_named arms otherwise scene s)
      ≡ first_arm (map arm_of (numbered_arms (unfiled place) sight arms)) other before (bared s)
  arms-same place sight scene before s no_arms otherwise other a k none same = same
  arms-same place sight scene before s (arm test body more) otherwise other a k none same =
      let tested = expression_faults place sight test in
      let inner = statements_faults place (in_scope sight) body in
      let two : tested ++ inner ≡ [] = append-is_nil_left (tested ++ inner) _ none in
      value-bared (value_named test scene s) _
      (λ v. cond (holds v)
      (scope (map run_of (numbered_statements (unfiled place) (in_scope sight) body)) before (bared s))
      (first_arm (map arm_of (numbered_arms (unfiled place) sight more)) other before (bared s)))
      (λ v. either-end (holds v) (as_scope (meanings body scene) s) (first_named more otherwise scene s) _ _
      (body-same place sight scene before s body (inside_agree place sight scene s [] a).0
      (λ t agrees. statements-same place (in_scope sight) scene before t body agrees k (append-is_nil_right tested _ two)))
      (arms-same place sight scene before s more otherwise other a k (append-is_nil_right (tested ++ inner) _ none) same))
      ∙ ap
      (λ r. with_value r (λ v. cond (holds v)
      (scope (map run_of (numbered_statements (unfiled place) (in_scope sight) body)) before (bared s))
      (first_arm (map arm_of (numbered_arms (unfiled place) sight more)) other before (bared s))))
      (sym (value-same place sight scene before s a k test (append-is_nil_left tested _ two)))
