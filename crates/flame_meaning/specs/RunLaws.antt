-- Where the run of a body comes, and that all that is named there is found. [own]
use Rattle.std.specs.Prelude.{◌≡◌, ℕ, ℤ, List, [], ◌∷◌, Option, Some, None, slice_get, is_some, IsTrue}
use Rattle.flame_spec.specs.declared.outcomes.Source.{Source}
use Rattle.flame_spec.specs.CallFaults.{Deed, deed_of}
use Rattle.flame_spec.specs.CheckFaults.{check_faults}
use Rattle.flame_spec.specs.Definitions.{Definition, helpers, body_of}
use Rattle.flame_spec.specs.Functions.{Place}
use Rattle.flame_spec.specs.LookUps.{message_looped}
use Rattle.flame_spec.specs.Scopes.{messages_at, input_found}
use Rattle.flame_spec.specs.Trees.{Expression, Expressions, Declared, Assigned}
use Rattle.flame_spec.specs.Trees.{Statement, declare, assign, call, block, branch, while, for, do_while, loop_over}
use Rattle.flame_spec.specs.Trees.{return}
use Rattle.flame_spec.specs.Trees.{Statements, also, Arms, no_arms, arm}
use Rattle.flame_meaning.specs.Scenes.{Scene, Progress, Current, Calls}
use Rattle.flame_meaning.specs.Ends.{End, went_on, continued, as_scope}
use Rattle.flame_meaning.specs.Statements.{by_initial, with_local, step_of, loop_currents, inside}
use Rattle.flame_meaning.specs.Statements.{meaning, meanings}
use Rattle.flame_meaning.specs.HelperCalls.{helper_scene, entered}
use Rattle.flame_meaning.specs.Outcomes.{start, scene_of, place_of}
use Rattle.flame_meaning.specs.AcceptedMeaning.{IsNamed, Finds, Fits, StoredFinds, PlaceFinds}
use Rattle.flame_meaning.specs.RangeLaws.{IfAny}

-- ---- where a run comes

-- a part of a body that a run comes to: a statement; statements; tests with their bodies and what stands behind `else`;
-- items of a declaration; a loop before its test, and before its step; and the turns of a loop over a message
pub data Stage : Type 0 where
  doing : Statement → Stage
  running : Statements → Stage
  testing : Arms → Statements → Stage
  declaring : List Declared → Stage
  looping : Option Expression → Option Assigned → Statements → Stage
  stepping : Option Expression → Option Assigned → Statements → Stage
  turning : List ℕ → Statements → List Current → Stage

-- the turn ended in this progress, and its loop goes on
pub data TurnEnds (t : Progress) : End → Type 0 where
  by_its_end : TurnEnds t (went_on t)
  by_continue : TurnEnds t (continued t)

-- the run of a part, in this scene and from this progress, comes to the goal there, whatever its tests give and
-- however many units are left
pub data Comes (goal : Stage) (there : Scene) (last : Progress) : Stage → Scene → Progress → Type 0 where
  arrived : Comes goal there last goal there last
  to_first :
      (x : Statement) (xs : Statements) (scene : Scene) (s : Progress)
      → Comes goal there last (doing x) scene s
      → Comes goal there last (running (also x xs)) scene s
  to_later :
      (x : Statement) (xs : Statements) (scene : Scene) (s t : Progress)
      → meaning x scene s ≡ went_on t
      → Comes goal there last (running xs) scene t
      → Comes goal there last (running (also x xs)) scene s
  to_items :
      (items : List Declared) (scene : Scene) (s : Progress)
      → Comes goal there last (declaring items) scene s
      → Comes goal there last (doing (declare items)) scene s
  to_next_item :
      (item : Declared) (items : List Declared) (scene : Scene) (s t : Progress)
      → by_initial item.value scene s (λ v u. went_on (with_local item.name v u)) ≡ went_on t
      → Comes goal there last (declaring items) scene t
      → Comes goal there last (declaring (item ∷ items)) scene s
  to_block :
      (body : Statements) (scene : Scene) (s : Progress)
      → Comes goal there last (running body) scene s
      → Comes goal there last (doing (block body)) scene s
  to_tests :
      (tests : Arms) (otherwise : Statements) (scene : Scene) (s : Progress)
      → Comes goal there last (testing tests otherwise) scene s
      → Comes goal there last (doing (branch tests otherwise)) scene s
  to_arm :
      (test : Expression) (body : Statements) (more : Arms) (otherwise : Statements) (scene : Scene) (s : Progress)
      → Comes goal there last (running body) scene s
      → Comes goal there last (testing (arm test body more) otherwise) scene s
  to_next_test :
      (test : Expression) (body : Statements) (more : Arms) (otherwise : Statements) (scene : Scene) (s : Progress)
      → Comes goal there last (testing more otherwise) scene s
      → Comes goal there last (testing (arm test body more) otherwise) scene s
  to_otherwise :
      (otherwise : Statements) (scene : Scene) (s : Progress)
      → Comes goal there last (running otherwise) scene s
      → Comes goal there last (testing no_arms otherwise) scene s
  to_while :
      (line : ℕ) (test : Expression) (body : Statements) (scene : Scene) (s : Progress)
      → Comes goal there last (looping (Some test) None body) scene s
      → Comes goal there last (doing (while line test body)) scene s
  to_for_first :
      (line : ℕ) (first : Statements) (test : Option Expression) (step : Option Assigned) (body : Statements)
      (scene : Scene) (s : Progress)
      → Comes goal there last (running first) scene s
      → Comes goal there last (doing (for line first test step body)) scene s
  to_for :
      (line : ℕ) (first : Statements) (test : Option Expression) (step : Option Assigned) (body : Statements)
      (scene : Scene) (s t : Progress)
      → meanings first scene s ≡ went_on t
      → Comes goal there last (looping test step body) scene t
      → Comes goal there last (doing (for line first test step body)) scene s
  to_do :
      (line : ℕ) (body : Statements) (test : Expression) (scene : Scene) (s : Progress) (left : ℕ)
      → Comes goal there last (running body) scene (record s { fuel = left })
      → Comes goal there last (doing (do_while line body test)) scene s
  to_do_test :
      (line : ℕ) (body : Statements) (test : Expression) (scene : Scene) (s t : Progress) (left : ℕ)
      → TurnEnds t (as_scope (meanings body scene) (record s { fuel = left }))
      → Comes goal there last (looping (Some test) None body) scene t
      → Comes goal there last (doing (do_while line body test)) scene s
  to_turn :
      (test : Option Expression) (step : Option Assigned) (body : Statements) (scene : Scene) (s : Progress) (left : ℕ)
      → Comes goal there last (running body) scene (record s { fuel = left })
      → Comes goal there last (looping test step body) scene s
  to_step :
      (test : Option Expression) (step : Option Assigned) (body : Statements) (scene : Scene) (s t : Progress)
      (left : ℕ)
      → TurnEnds t (as_scope (meanings body scene) (record s { fuel = left }))
      → Comes goal there last (stepping test step body) scene t
      → Comes goal there last (looping test step body) scene s
  to_next_turn :
      (test : Option Expression) (step : Option Assigned) (body : Statements) (scene : Scene) (s t : Progress)
      → step_of step scene s ≡ went_on t
      → Comes goal there last (looping test step body) scene t
      → Comes goal there last (stepping test step body) scene s
  to_rows :
      (line : ℕ) (word : List ℕ) (body : Statements) (end_line : ℕ) (end_word : List ℕ) (scene : Scene) (s : Progress)
      → Comes goal there last (turning word body (loop_currents word scene)) scene s
      → Comes goal there last (doing (loop_over line word body end_line end_word)) scene s
  to_row :
      (word : List ℕ) (body : Statements) (current : Current) (more : List Current) (scene : Scene) (s : Progress)
      (left : ℕ)
      → Comes goal there last (running body) (inside current scene) (record s { fuel = left })
      → Comes goal there last (turning word body (current ∷ more)) scene s
  to_next_row :
      (word : List ℕ) (body : Statements) (current : Current) (more : List Current) (scene : Scene) (s t : Progress)
      (left : ℕ)
      → TurnEnds t (as_scope (meanings body (inside current scene)) (record s { fuel = left }))
      → Comes goal there last (turning word body more) scene t
      → Comes goal there last (turning word body (current ∷ more)) scene s

-- ---- what is found there

-- the assignment finds what it assigns to and what it stores
abbrev pub AssignedFinds : Assigned → Scene → Progress → Type 0
AssignedFinds a scene s = IsNamed a.name scene s × PlaceFinds a.name a.subscript scene s × StoredFinds a.value scene s

-- a call does something, and its arguments fit
abbrev pub DeedFound : List ℕ → Expressions → Scene → Progress → Type 0
DeedFound word arguments scene s =
    (deed : Deed) × (deed_of scene.context word ≡ Some deed) × Fits deed arguments scene s

-- a statement finds what it names itself
abbrev pub StatementFinds : Statement → Scene → Progress → Type 0
StatementFinds (assign a) scene s = AssignedFinds a scene s
StatementFinds (call line word arguments) scene s = DeedFound word arguments scene s
StatementFinds (loop_over line word body end_line end_word) scene s =
    IsTrue (is_some (input_found scene.context.runs (message_looped (messages_at scene.context) word)))
StatementFinds (return e) scene s = Finds e scene s
StatementFinds _ scene s = Unit {0}

-- what stands first in a part finds what it names
abbrev pub StageFinds : Stage → Scene → Progress → Type 0
StageFinds (doing x) scene s = StatementFinds x scene s
StageFinds (testing (arm test body more) otherwise) scene s = Finds test scene s
StageFinds (declaring (item ∷ items)) scene s = IfAny (λ stored. StoredFinds stored scene s) item.value
StageFinds (looping test step body) scene s = IfAny (λ e. Finds e scene s) test
StageFinds (stepping test step body) scene s = IfAny (λ a. AssignedFinds a scene s) step
StageFinds _ scene s = Unit {0}

-- where function files have no check faults, all is found wherever the run of a function comes
abbrev pub FunctionsMeetNoDefault : Type 0
FunctionsMeetNoDefault =
    (source : Source) (function : ℕ) (place : Place) (memory : List ℤ) (readings : List (List (List ℤ)))
    (constants : List ℤ) (iteration : ℤ) (fuel : ℕ) (goal : Stage) (there : Scene) (last : Progress)
    → check_faults source.model source.units ≡ []
    → place_of source function ≡ Some place
    → Comes goal there last
    (running (body_of source.units place.function))
    (scene_of source place readings constants iteration)
    (start memory fuel)
    → StageFinds goal there last

-- and wherever the run of a helper comes
abbrev pub HelpersMeetNoDefault : Type 0
HelpersMeetNoDefault =
    (source : Source) (helper : ℕ) (d : Definition) (values constants : List ℤ) (iteration : ℤ) (calls : Calls)
    (fuel : ℕ) (goal : Stage) (there : Scene) (last : Progress)
    → check_faults source.model source.units ≡ []
    → slice_get (helpers source.model source.units) helper ≡ Some d
    → Comes goal there last
    (running d.body)
    (helper_scene source.model (helpers source.model source.units) constants iteration calls)
    (entered d.parameters values fuel)
    → StageFinds goal there last
