-- Wherever a run comes, the progress agrees with the place, and the part has no check faults.
use Rattle.std.proofs.Common.{◌≡◌, ℕ, List, [], ◌∷◌, Contains, Option, Some, None, refl, sym, ap, ◌∙◌}
use Rattle.std.proofs.Common.{subst, arith, suc}
use Rattle.std.specs.Prelude.{ℤ, pos, slice_get}
use Rattle.flame_rows.proofs.Lists.{append-is_nil_left, append-is_nil_right}
use Rattle.flame_spec.specs.declared.models.MessageType.{MessageType}
use Rattle.flame_spec.specs.declared.outcomes.Source.{Source}
use Rattle.flame_spec.specs.CheckFaults.{check_faults}
use Rattle.flame_spec.specs.Definitions.{Definition, helpers, body_of}
use Rattle.flame_spec.specs.ExpressionFaults.{expression_faults, optional_faults}
use Rattle.flame_spec.specs.Functions.{Place}
use Rattle.flame_spec.specs.HelperFaults.{helper_context}
use Rattle.flame_spec.specs.LookUps.{message_looped}
use Rattle.flame_spec.specs.Scopes.{Context, Sight, over_none, at_entry, after_parameters, after_name, after}
use Rattle.flame_spec.specs.Scopes.{after_all, in_loop, in_value_of, messages_at}
use Rattle.flame_spec.specs.Scopes.{in_scope as scoped}
use Rattle.flame_spec.specs.StatementFaults.{declared_faults, optional_stored_faults, item_faults, items_faults}
use Rattle.flame_spec.specs.StatementFaults.{optional_assignment_faults, start_faults, opened, statement_faults}
use Rattle.flame_spec.specs.StatementFaults.{statements_faults, arms_faults}
use Rattle.flame_spec.specs.Trees.{Expression, Stored, Declared, Assigned}
use Rattle.flame_spec.specs.Trees.{Statement, empty, declare, assign, call, block, branch, while, for, do_while}
use Rattle.flame_spec.specs.Trees.{loop_over, return, break, continue}
use Rattle.flame_spec.specs.Trees.{Statements, no_arms, arm}
use Rattle.flame_meaning.specs.Scenes.{Scene, Progress, Current, Calls}
use Rattle.flame_meaning.specs.Ends.{End, went_on, as_scope}
use Rattle.flame_meaning.specs.Statements.{by_initial, with_local, step_of, currents_over}
use Rattle.flame_meaning.specs.Statements.{loop_currents, inside, meanings}
use Rattle.flame_meaning.specs.HelperCalls.{helper_scene, entered}
use Rattle.flame_meaning.specs.Kept.{Leaves}
use Rattle.flame_meaning.specs.Outcomes.{start, scene_of, place_of}
use Rattle.flame_meaning.specs.Agreement.{names_of, Agrees}
use Rattle.flame_meaning.specs.AcceptedMeaning.{place_in, WentOnAgrees, StoredFinds, Finds}
use Rattle.flame_meaning.specs.RunLaws.{Stage, doing, running, testing, declaring, looping, stepping, turning}
use Rattle.flame_meaning.specs.RunLaws.{TurnEnds, by_its_end, by_continue}
use Rattle.flame_meaning.specs.RunLaws.{Comes, arrived, to_first, to_later, to_items, to_next_item, to_block}
use Rattle.flame_meaning.specs.RunLaws.{to_tests, to_arm, to_next_test, to_otherwise, to_while, to_for_first, to_for}
use Rattle.flame_meaning.specs.RunLaws.{to_do, to_do_test, to_turn, to_step, to_next_turn, to_rows, to_row}
use Rattle.flame_meaning.specs.RunLaws.{to_next_row}
use Rattle.flame_meaning.specs.RangeLaws.{IfAny}
use Rattle.flame_meaning.specs.RunLaws.{AssignedFinds, StatementFinds, StageFinds}
use Rattle.flame_meaning.proofs.Naming.{Same, initial_names, step_names, body_names}
use Rattle.flame_meaning.proofs.Agreeing.{statement_agrees, statements_agree, item_agrees}
use Rattle.flame_meaning.proofs.Agreeing.{inside_agree, turn_agrees, function_begins, helper_begins}
use Rattle.flame_meaning.proofs.Finding.{expression_finds, input_there}
use Rattle.flame_meaning.proofs.Fitting.{call_does, stored_finds, assignment_finds}
use Rattle.flame_meaning.proofs.Checked.{function_checked, helper_checked}

-- ---- parts without check faults

-- a loop without check faults
record IsClear (place : Context) (sight : Sight) (t : Option Expression) (a : Option Assigned) (xs : Statements) : Type 0 where
  test : optional_faults place sight t ≡ []
  step : optional_assignment_faults place sight a ≡ []
  body : statements_faults place (in_loop over_none sight) xs ≡ []

-- each of these turns is one of the loop of this name
abbrev AreTurns : List ℕ → Scene → List Current → Type 0
AreTurns word scene [] = Unit {0}
AreTurns word scene (current ∷ more) = Contains (loop_currents word scene) current × AreTurns word scene more

-- the part has no check faults there
abbrev IsClean : Context → Sight → Scene → Stage → Type 0
IsClean place sight scene (doing x) = statement_faults place sight x ≡ []
IsClean place sight scene (running xs) = statements_faults place sight xs ≡ []
IsClean place sight scene (testing tests otherwise) =
    (arms_faults place sight tests ≡ []) × (statements_faults place (scoped sight) otherwise ≡ [])
IsClean place sight scene (declaring items) = items_faults place sight items ≡ []
IsClean place sight scene (looping test step body) = IsClear place sight test step body
IsClean place sight scene (stepping test step body) = IsClear place sight test step body
IsClean place sight scene (turning word body rows) =
    (statements_faults place (in_loop (opened (message_looped (messages_at place) word)) sight) body ≡ [])
    × AreTurns word scene rows

-- the progress agrees with the place, and the part has no check faults
record Arrives (place : Context) (goal : Stage) (there : Scene) (last : Progress) : Type 0 where
  seen : Sight
  agrees : Agrees place seen there last
  clean : IsClean place seen there goal

-- ---- single steps

paid : (place : Context) (sight : Sight) (scene : Scene) (s : Progress) (left : ℕ) → Agrees place sight scene s → Agrees place sight scene (record s { fuel = left })
paid place sight scene s left a = record { there = a.there; names = a.names; fresh = a.fresh; loops = a.loops }

turn_same : (s t : Progress) (e : End) → TurnEnds t e → Leaves Same s e → Same s t
turn_same s t e by_its_end h = h
turn_same s t e by_continue h = h

-- the progress after the body of a turn, which may be in the body of another loop
turn_ended :
    (place : Context) (sight : Sight) (scene inner : Scene) (body : Statements) (s t : Progress) (left : ℕ)
    → Agrees place sight scene s
    → TurnEnds t (as_scope (meanings body inner) (record s { fuel = left }))
    → Agrees place sight scene t
turn_ended place sight scene inner body s t left a e =
    let same : Same (record s { fuel = left }) t
    = turn_same (record s { fuel = left }) t (as_scope (meanings body inner) (record s { fuel = left })) e
    (body_names body inner (record s { fuel = left })) in
    record { there = a.there; names = same.same ∙ a.names; fresh = a.fresh; loops = a.loops }

stepped :
    (place : Context) (sight : Sight) (scene : Scene) (step : Option Assigned) (s t : Progress)
    → Agrees place sight scene s
    → step_of step scene s ≡ went_on t
    → Agrees place sight scene t
stepped place sight scene step s t a e =
    let same : Same s t = subst (Leaves Same s) e (step_names step scene s) in
    record { there = a.there; names = same.same ∙ a.names; fresh = a.fresh; loops = a.loops }

declared :
    (place : Context) (sight : Sight) (scene : Scene) (item : Declared) (s t : Progress)
    → Agrees place sight scene s
    → item_faults place sight item ≡ []
    → by_initial item.value scene s (λ v u. went_on (with_local item.name v u)) ≡ went_on t
    → Agrees place (after_name sight item.name) scene t
declared place sight scene item s t a none e =
    let after = item_agrees place sight scene s item (pos 0) a none in
    record { there = a.there; names = names e ∙ after.names; fresh = after.fresh; loops = after.loops }
  where
    went : (u : Progress) (v : ℤ) → Same s u → went_on (with_local item.name v u) ≡ went_on t → names_of t.locals ≡ item.name ∷ names_of s.locals
    went u v h f =
        let same : with_local item.name v u ≡ t = cc in
        sym (ap (λ (w : Progress). names_of w.locals) same) ∙ ap (λ l. item.name ∷ l) h.same

    names :
        by_initial item.value scene s (λ v u. went_on (with_local item.name v u)) ≡ went_on t
        → names_of t.locals ≡ item.name ∷ names_of s.locals
    names =
        initial_names (λ end. end ≡ went_on t → names_of t.locals ≡ item.name ∷ names_of s.locals) (λ fault f. cc)
        item.value scene s (λ v u. went_on (with_local item.name v u)) (λ v u h. went u v h)

all_turns : (word : List ℕ) (scene : Scene) (rows : List Current) → ((current : Current) → Contains rows current → Contains (loop_currents word scene) current) → AreTurns word scene rows
all_turns word scene [] k = tt
all_turns word scene (current ∷ more) k =
    (k current (0, omega arith, refl), all_turns word scene more (λ other c. k other (suc c.0, omega (arith, c.1), c.2)))

row_agrees :
    (place : Context) (sight : Sight) (scene : Scene) (s : Progress) (word : List ℕ) (current : Current)
    → Agrees place sight scene s
    → Contains (loop_currents word scene) current
    → Agrees place (in_loop (opened (message_looped (messages_at place) word)) sight) (inside current scene) s
row_agrees place sight scene s word current a c = by_message (message_looped (messages_at place) word) refl
  where
    nothing : (other : Current) → Contains [] other → ⊥
    nothing other (k, below, at) = omega arith

    by_message :
        (o : Option (ℕ × MessageType))
        → message_looped (messages_at place) word ≡ o
        → Agrees place (in_loop (opened o) sight) (inside current scene) s
    by_message (Some found) e = turn_agrees place sight scene s word found current a e c
    by_message None e =
        absurd (nothing current
        (subst (λ o. Contains (currents_over o scene) current)
        (ap (λ (at : Context). message_looped (messages_at at) word) a.there ∙ e) c))

-- ---- the whole way

module _ (place : Context) (goal : Stage) (there : Scene) (last : Progress) where
  comes :
      (stage : Stage) (scene : Scene) (s : Progress) (sight : Sight)
      → Comes goal there last stage scene s
      → Agrees place sight scene s
      → IsClean place sight scene stage
      → Arrives place goal there last
  comes _ _ _ sight arrived a clean = record { seen = sight; agrees = a; clean = clean }
  comes _ _ _ sight (to_first x xs scene s c) a clean = comes (doing x) scene s sight c a (append-is_nil_left _ _ clean)
  comes _ _ _ sight (to_later x xs scene s t e c) a clean =
      comes (running xs) scene t (after sight x) c
      (subst (WentOnAgrees place (after sight x) scene) e (statement_agrees place sight scene s x a (append-is_nil_left _ _ clean)))
      (append-is_nil_right (statement_faults place sight x) _ clean)
  comes _ _ _ sight (to_items items scene s c) a clean = comes (declaring items) scene s sight c a clean
  comes _ _ _ sight (to_next_item item items scene s t e c) a clean =
      comes (declaring items) scene t (after_name sight item.name) c
      (declared place sight scene item s t a (append-is_nil_left _ _ clean) e)
      (append-is_nil_right (item_faults place sight item) _ clean)
  comes _ _ _ sight (to_block body scene s c) a clean =
      comes (running body) scene s (scoped sight) c (inside_agree place sight scene s [] a).0 clean
  comes _ _ _ sight (to_tests tests otherwise scene s c) a clean =
      comes (testing tests otherwise) scene s sight c a
      (append-is_nil_left _ _ clean, append-is_nil_right (arms_faults place sight tests) _ clean)
  comes _ _ _ sight (to_arm test body more otherwise scene s c) a clean =
      comes (running body) scene s (scoped sight) c (inside_agree place sight scene s [] a).0
      (append-is_nil_right (expression_faults place sight test) _ (append-is_nil_left _ _ clean.0))
  comes _ _ _ sight (to_next_test test body more otherwise scene s c) a clean =
      comes (testing more otherwise) scene s sight c a (append-is_nil_right _ _ clean.0, clean.1)
  comes _ _ _ sight (to_otherwise otherwise scene s c) a clean =
      comes (running otherwise) scene s (scoped sight) c (inside_agree place sight scene s [] a).0 clean.1
  comes _ _ _ sight (to_while line test body scene s c) a clean =
      comes (looping (Some test) None body) scene s sight c a
      (record { test = append-is_nil_left _ _ clean; step = refl; body = append-is_nil_right (expression_faults place sight test) _ clean })
  comes _ _ _ sight (to_for_first line first test step body scene s c) a clean =
      comes (running first) scene s (scoped sight) c (inside_agree place sight scene s [] a).0
      (append-is_nil_left _ _ (append-is_nil_left _ _ (append-is_nil_left _ _ clean)))
  comes _ _ _ sight (to_for line first test step body scene s t e c) a clean =
      comes (looping test step body) scene t (after_all (scoped sight) first) c
      (subst (WentOnAgrees place (after_all (scoped sight) first) scene) e
      (statements_agree place (scoped sight) scene s first (inside_agree place sight scene s [] a).0
      (append-is_nil_left _ _ (append-is_nil_left _ _ (append-is_nil_left _ _ clean)))))
      (record {
        test = append-is_nil_right (statements_faults place (scoped sight) first) _ (append-is_nil_left _ _ (append-is_nil_left _ _ clean));
        step = append-is_nil_right _ _ (append-is_nil_left _ _ clean);
        body = append-is_nil_right _ _ clean;
      })
  comes _ _ _ sight (to_do line body test scene s left c) a clean =
      comes (running body) scene (record s { fuel = left }) (in_loop over_none sight) c
      (inside_agree place sight scene (record s { fuel = left }) [] (paid place sight scene s left a)).1
      (append-is_nil_left _ _ clean)
  comes _ _ _ sight (to_do_test line body test scene s t left e c) a clean =
      comes (looping (Some test) None body) scene t sight c
      (turn_ended place sight scene scene body s t left a e)
      (record {
        test = append-is_nil_right (statements_faults place (in_loop over_none sight) body) _ clean;
        step = refl;
        body = append-is_nil_left _ _ clean;
      })
  comes _ _ _ sight (to_turn test step body scene s left c) a clean =
      comes (running body) scene (record s { fuel = left }) (in_loop over_none sight) c
      (inside_agree place sight scene (record s { fuel = left }) [] (paid place sight scene s left a)).1 clean.body
  comes _ _ _ sight (to_step test step body scene s t left e c) a clean =
      comes (stepping test step body) scene t sight c
      (turn_ended place sight scene scene body s t left a e)
      clean
  comes _ _ _ sight (to_next_turn test step body scene s t e c) a clean =
      comes (looping test step body) scene t sight c (stepped place sight scene step s t a e) clean
  comes _ _ _ sight (to_rows line word body end_line end_word scene s c) a clean =
      comes (turning word body (loop_currents word scene)) scene s sight c a (
        append-is_nil_right (start_faults place sight (message_looped (messages_at place) word) line word) _ (append-is_nil_left _ _ clean),
        all_turns word scene (loop_currents word scene) (λ current inner. inner),
      )
  comes _ _ _ sight (to_row word body current more scene s left c) a clean =
      comes (running body) (inside current scene) (record s { fuel = left })
      (in_loop (opened (message_looped (messages_at place) word)) sight) c
      (row_agrees place sight scene (record s { fuel = left }) word current (paid place sight scene s left a) clean.1.0)
      clean.0
  comes _ _ _ sight (to_next_row word body current more scene s t left e c) a clean =
      comes (turning word body more) scene t sight c
      (turn_ended place sight scene (inside current scene) body s t left a e)
      (clean.0, clean.1.1)

  -- ---- what is found there

  stored_found :
      (seen : Sight) (value : Option Stored) (name : List ℕ)
      → Agrees place seen there last
      → optional_stored_faults place (in_value_of name seen) value ≡ []
      → IfAny (λ stored. StoredFinds stored there last) value
  stored_found seen None name a none = tt
  stored_found seen (Some stored) name a none =
      stored_finds place (in_value_of name seen) there last (inside_agree place seen there last name a).2 stored none

  test_found :
      (seen : Sight) (test : Option Expression)
      → Agrees place seen there last
      → optional_faults place seen test ≡ []
      → IfAny (λ e. Finds e there last) test
  test_found seen None a none = tt
  test_found seen (Some e) a none = expression_finds place seen there last a e none

  step_found :
      (seen : Sight) (step : Option Assigned)
      → Agrees place seen there last
      → optional_assignment_faults place seen step ≡ []
      → IfAny (λ b. AssignedFinds b there last) step
  step_found seen None a none = tt
  step_found seen (Some b) a none = assignment_finds place seen there last a b none

  statement_found :
      (seen : Sight) (x : Statement)
      → Agrees place seen there last
      → statement_faults place seen x ≡ []
      → StatementFinds x there last
  statement_found seen (assign b) a none = assignment_finds place seen there last a b none
  statement_found seen (call line word arguments) a none = call_does place seen there last a line word arguments none
  statement_found seen (loop_over line word body end_line end_word) a none =
      input_there place seen there last a line word (append-is_nil_left _ _ (append-is_nil_left _ _ none))
  statement_found seen (return e) a none = expression_finds place seen there last a e none
  statement_found seen empty a none = tt
  statement_found seen (declare items) a none = tt
  statement_found seen (block body) a none = tt
  statement_found seen (branch tests otherwise) a none = tt
  statement_found seen (while line test body) a none = tt
  statement_found seen (for line first test step body) a none = tt
  statement_found seen (do_while line body test) a none = tt
  statement_found seen (break line) a none = tt
  statement_found seen (continue line) a none = tt

  stage_found : (stage : Stage) (seen : Sight) → Agrees place seen there last → IsClean place seen there stage → StageFinds stage there last
  stage_found (doing x) seen a clean = statement_found seen x a clean
  stage_found (running xs) seen a clean = tt
  stage_found (testing no_arms otherwise) seen a clean = tt
  stage_found (testing (arm test body more) otherwise) seen a clean =
      expression_finds place seen there last a test (append-is_nil_left _ _ (append-is_nil_left _ _ clean.0))
  stage_found (declaring []) seen a clean = tt
  stage_found (declaring (item ∷ items)) seen a clean =
      stored_found seen item.value item.name a
      (append-is_nil_right (declared_faults place seen item.line item.name) _ (append-is_nil_left _ _ clean))
  stage_found (looping test step body) seen a clean = test_found seen test a clean.test
  stage_found (stepping test step body) seen a clean = step_found seen step a clean.step
  stage_found (turning word body rows) seen a clean = tt

  goal_found : Arrives place goal there last → StageFinds goal there last
  goal_found arrives = stage_found goal arrives.seen arrives.agrees arrives.clean

-- ---- functions and helpers

pub functions_meet_no_default :
    (source : Source) (function : ℕ) (place : Place) (memory : List ℤ) (readings : List (List (List ℤ)))
    (constants : List ℤ) (iteration : ℤ) (fuel : ℕ) (goal : Stage) (there : Scene) (last : Progress)
    → check_faults source.model source.units ≡ []
    → place_of source function ≡ Some place
    → Comes goal there last
    (running (body_of source.units place.function))
    (scene_of source place readings constants iteration)
    (start memory fuel)
    → StageFinds goal there last
functions_meet_no_default source function place memory readings constants iteration fuel goal there last none listed c =
    let (in_file, checked) = function_checked source.model source.units none place function listed in
    goal_found (place_in source.model source.units place in_file) goal there last
    (comes (place_in source.model source.units place in_file) goal there last
    (running (body_of source.units place.function)) (scene_of source place readings constants iteration) (start memory fuel) at_entry c
    (function_begins source place in_file memory readings constants iteration fuel) checked)

pub helpers_meet_no_default :
    (source : Source) (helper : ℕ) (d : Definition) (values constants : List ℤ) (iteration : ℤ) (calls : Calls)
    (fuel : ℕ) (goal : Stage) (there : Scene) (last : Progress)
    → check_faults source.model source.units ≡ []
    → slice_get (helpers source.model source.units) helper ≡ Some d
    → Comes goal there last
    (running d.body)
    (helper_scene source.model (helpers source.model source.units) constants iteration calls)
    (entered d.parameters values fuel)
    → StageFinds goal there last
helpers_meet_no_default source helper d values constants iteration calls fuel goal there last none listed c =
    let (parameters, checked) = helper_checked source.model source.units none d helper listed in
    goal_found (helper_context source.model (helpers source.model source.units) d) goal there last
    (comes (helper_context source.model (helpers source.model source.units) d) goal there last
    (running d.body) (helper_scene source.model (helpers source.model source.units) constants iteration calls)
    (entered d.parameters values fuel) (after_parameters at_entry d.parameters) c
    (helper_begins source.model (helpers source.model source.units) d values constants iteration calls fuel parameters) checked)
