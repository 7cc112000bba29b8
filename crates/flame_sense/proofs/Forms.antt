-- What each form of a statement comes to, once its parts have run as the program runs them.
use mir.Syntax.{w32}
use mir.Val.{SFits, of_z}
use Rattle.std.proofs.Common.{◌≡◌, ◌≢◌, ℕ, ◌+◌, ◌-◌, ◌<◌, ◌≤◌, List, length, map, drop, get_or, sym, ap, ◌∙◌, Option, Some, None, option_map, Bor, arith}
use Rattle.std.specs.Prelude.{ℤ, Result, Ok, Err, IfOk}
use Rattle.std.specs.Option.{option_copied}
use Rattle.flame_spec.specs.declared.faults.Fault.{Fault}
use Rattle.flame_spec.specs.declared.trees.Arm.{Arm}
use Rattle.flame_spec.specs.declared.trees.Expr.{Expr}
use Rattle.flame_spec.specs.declared.trees.Head.{Head}
use Rattle.flame_spec.specs.declared.trees.Stmt.{Stmt, If, While, For, Do, Loop}
use Rattle.flame_spec.specs.Trees.{Expression, Statements, Assigned, do_while}
use Rattle.flame_spec.specs.Seen.{expression, assigned, statement, statements, arms}
use Rattle.flame_spec.proofs.SeenForms.{statement-While, statement-Do, statement-Loop, statement-If, statement-For}
use Rattle.flame_sense.specs.declared.ending.Ending.{Ending}
use Rattle.flame_sense.specs.declared.ending.Ending.TheVariants.{WentOn}
use Rattle.flame_meaning.specs.Scenes.{Scene, Progress, Current}
use Rattle.flame_meaning.specs.Ends.{End, went_on, faulted, on_to, outside, as_scope}
use Rattle.flame_meaning.specs.Loops.{turn, each_row, after_turn}
use Rattle.flame_meaning.specs.Statements.{test_value, step_of, loop_currents, meaning, meanings, first_arm}
use Rattle.flame_meaning.proofs.Turns.{Fall, whole, stepped, paid, test_faults, test_ends, test_holds}
use Rattle.flame_sense.specs.declared.scene.Scene as code
use Rattle.flame_sense.specs.declared.scene.Open.{Open}
use Rattle.flame_sense.specs.declared.scene.Open.TheVariants.{Over}
use Rattle.flame_sense.specs.StandsFor.{scene_seen, end_of, after}
use Rattle.flame_sense.proofs.Turning.{stands_at}
use Rattle.flame_sense.proofs.Runs.{begun, copied_test, nonzero_holds, over_row, row_turn, scope_end, stopped, zero_fails}

-- an end that another one is
pub begins :
    {E : Type 0} (r : Result Ending E) (a b : End) (t : Progress)
    → a ≡ b
    → IfOk r (λ ending. b ≡ end_of ending t)
    → IfOk r (λ ending. a ≡ end_of ending t)
begins (Ok ending) a b t same h = same ∙ h
begins (Err e) a b t same h = h

-- ---- statements, by what their bodies come to

pub while_comes :
    {E : Type 0} (r : Result Ending E) (x : Stmt) (line : ℕ) (test : Expr) (body items : List Stmt) (scene : Scene)
    (s t : Progress)
    → x ≡ While line test body
    → items ≡ body
    → IfOk r (λ ending.
    whole line (test_value (Some (expression test)) scene) (statements items) None scene s ≡ end_of ending t)
    → IfOk r (λ ending. meaning (statement x) scene s ≡ end_of ending t)
while_comes r x line test body items scene s t is same h =
    begins r (meaning (statement x) scene s)
    (whole line (test_value (Some (expression test)) scene) (statements items) None scene s) t
    (ap (λ y. meaning (statement y) scene s) is
    ∙ ap (λ y. meaning y scene s) (statement-While line test body)
    ∙ ap (λ b. whole line (test_value (Some (expression test)) scene) (statements b) None scene s) (sym same)) h

pub do_comes :
    {E : Type 0} (r : Result Ending E) (x : Stmt) (line : ℕ) (body items : List Stmt) (test : Expr) (scene : Scene)
    (s t : Progress)
    → x ≡ Do line body test
    → items ≡ body
    → IfOk r (λ ending. meaning (do_while line (statements items) (expression test)) scene s ≡ end_of ending t)
    → IfOk r (λ ending. meaning (statement x) scene s ≡ end_of ending t)
do_comes r x line body items test scene s t is same h =
    begins r (meaning (statement x) scene s)
    (meaning (do_while line (statements items) (expression test)) scene s) t
    (ap (λ y. meaning (statement y) scene s) is
    ∙ ap (λ y. meaning y scene s) (statement-Do line body test)
    ∙ ap (λ b. meaning (do_while line (statements b) (expression test)) scene s) (sym same)) h

pub loop_comes :
    {E : Type 0} (r : Result Ending E) (x : Stmt) (line : ℕ) (word shown : List ℕ) (body items : List Stmt)
    (end_line : ℕ) (end_word : List ℕ) (scene : Scene) (s t : Progress)
    → x ≡ Loop line word body end_line end_word
    → items ≡ body
    → shown ≡ word
    → IfOk r (λ ending. each_row line (over_row items scene) (loop_currents shown scene) s ≡ end_of ending t)
    → IfOk r (λ ending. meaning (statement x) scene s ≡ end_of ending t)
loop_comes r x line word shown body items end_line end_word scene s t is same text h =
    begins r (meaning (statement x) scene s)
    (each_row line (over_row items scene) (loop_currents shown scene) s) t
    (ap (λ y. meaning (statement y) scene s) is
    ∙ ap (λ y. meaning y scene s) (statement-Loop line word body end_line end_word)
    ∙ ap (λ b. each_row line (over_row b scene) (loop_currents word scene) s) (sym same)
    ∙ ap (λ w. each_row line (over_row items scene) (loop_currents w scene) s) (sym text)) h

branch_there :
    (x : Stmt) (tests items : List Arm) (otherwise : List Stmt) (scene : Scene) (s t : Progress) (o : Option Ending)
    → x ≡ If tests otherwise
    → items ≡ tests
    → ((next : Progress → End) → first_arm (arms items) next scene s ≡ after o next t)
    → meaning (statement x) scene s ≡ after o (as_scope (meanings (statements otherwise) scene)) t
branch_there x tests items otherwise scene s t o is same means =
    let next : Progress → End = as_scope (meanings (statements otherwise) scene) in
    ap (λ y. meaning (statement y) scene s) is
    ∙ ap (λ y. meaning y scene s) (statement-If tests otherwise)
    ∙ ap (λ l. first_arm (arms l) next scene s) (sym same)
    ∙ means next

-- an arm was taken
pub arm_comes :
    (x : Stmt) (tests items : List Arm) (otherwise : List Stmt) (scene : Scene) (s t : Progress) (o : Option Ending)
    (ending : Ending)
    → x ≡ If tests otherwise
    → items ≡ tests
    → ((next : Progress → End) → first_arm (arms items) next scene s ≡ after o next t)
    → o ≡ Some ending
    → meaning (statement x) scene s ≡ end_of ending t
arm_comes x tests items otherwise scene s t o ending is same means taken =
    branch_there x tests items otherwise scene s t o is same means
    ∙ ap (λ p. after p (as_scope (meanings (statements otherwise) scene)) t) taken

-- none was taken
pub else_comes :
    {E : Type 0} (r : Result Ending E) (x : Stmt) (tests items : List Arm) (otherwise others : List Stmt) (scene : Scene)
    (s t u : Progress) (o : Option Ending)
    → x ≡ If tests otherwise
    → items ≡ tests
    → ((next : Progress → End) → first_arm (arms items) next scene s ≡ after o next t)
    → o ≡ None
    → others ≡ otherwise
    → IfOk r (λ ending. as_scope (meanings (statements others) scene) t ≡ end_of ending u)
    → IfOk r (λ ending. meaning (statement x) scene s ≡ end_of ending u)
else_comes r x tests items otherwise others scene s t u o is same means none rest h =
    begins r (meaning (statement x) scene s) (as_scope (meanings (statements others) scene) t) u
    (branch_there x tests items otherwise scene s t o is same means
    ∙ ap (λ p. after p (as_scope (meanings (statements otherwise) scene)) t) none
    ∙ ap (λ b. as_scope (meanings (statements b) scene) t) (sym rest)) h

pub for_comes :
    {E : Type 0} (r : Result Ending E) (x : Stmt) (line : ℕ) (head near : Head) (body items : List Stmt) (scene : Scene)
    (s t : Progress)
    → x ≡ For line head body
    → near ≡ head
    → items ≡ body
    → IfOk r (λ ending.
    as_scope (begun line near.first (option_map expression near.test) (option_map assigned near.step) items scene) s
    ≡ end_of ending t)
    → IfOk r (λ ending. meaning (statement x) scene s ≡ end_of ending t)
for_comes r x line head near body items scene s t is same inner h =
    begins r (meaning (statement x) scene s)
    (as_scope (begun line near.first (option_map expression near.test) (option_map assigned near.step) items scene) s) t
    (ap (λ y. meaning (statement y) scene s) is
    ∙ ap (λ y. meaning y scene s) (statement-For line head body)
    ∙ ap (λ (g : Head). as_scope (begun line g.first (option_map expression g.test) (option_map assigned g.step) body scene) s)
    (sym same)
    ∙ ap (λ b. as_scope (begun line near.first (option_map expression near.test) (option_map assigned near.step) b scene) s)
    (sym inner)) h

-- ---- `for`

-- the first statement went on, and the loop ended so
pub for_looped :
    (line : ℕ) (head : Head) (first : List Stmt) (test : Option (Bor Expr)) (body : List Stmt) (scene : Scene)
    (s t u v : Progress) (e ending : Ending) (depth : ℕ)
    → first ≡ head.first
    → option_copied test ≡ head.test
    → depth ≡ length s.locals
    → meanings (statements first) scene s ≡ end_of e t
    → e ≡ WentOn
    → whole line (test_value (option_map (λ x. expression x.now) test) scene) (statements body)
    (option_map assigned head.step) scene t
    ≡ end_of ending u
    → v ≡ outside depth u
    → as_scope (begun line head.first (option_map expression head.test) (option_map assigned head.step) body scene) s
    ≡ end_of ending v
for_looped line head first test body scene s t u v e ending depth same copied deep begins_so goes ends leaves =
    let step = option_map assigned head.step in
    let seen = option_map (λ x. expression x.now) test in
    let test_is = copied_test test ∙ ap (option_map expression) copied in
    ap (λ f. as_scope (begun line f (option_map expression head.test) step body scene) s) (sym same)
    ∙ ap (λ x. as_scope (begun line first x step body scene) s) (sym test_is)
    ∙ scope_end (begun line first seen step body scene) s u v ending depth deep
    (ap (λ x. on_to x (whole line (test_value seen scene) (statements body) step scene))
    (begins_so ∙ ap (λ x. end_of x t) goes)
    ∙ ends)
    leaves

-- the first statement did not go on
pub for_stopped :
    (line : ℕ) (head : Head) (first body : List Stmt) (scene : Scene) (s t u : Progress) (ending : Ending) (depth : ℕ)
    → first ≡ head.first
    → depth ≡ length s.locals
    → meanings (statements first) scene s ≡ end_of ending t
    → ending ≢ WentOn
    → u ≡ outside depth t
    → as_scope (begun line head.first (option_map expression head.test) (option_map assigned head.step) body scene) s
    ≡ end_of ending u
for_stopped line head first body scene s t u ending depth same deep begins_so stops leaves =
    let test = option_map expression head.test in
    let step = option_map assigned head.step in
    let next : Progress → End = whole line (test_value test scene) (statements body) step scene in
    ap (λ f. as_scope (begun line f test step body scene) s) (sym same)
    ∙ scope_end (begun line first test step body scene) s t u ending depth deep
    (ap (λ x. on_to x next) begins_so ∙ stopped ending t next stops)
    leaves

-- ---- `do`

-- the first turn went on
pub do_loops :
    {E : Type 0} (r : Result Ending E) (line : ℕ) (body : Statements) (test : Expression) (scene : Scene) (s t u : Progress)
    (o : Option Ending)
    → ((next : Progress → End) → turn line (as_scope (meanings body scene)) next s ≡ after o next t)
    → o ≡ None
    → IfOk r (λ ending. whole line (test_value (Some test) scene) body None scene t ≡ end_of ending u)
    → IfOk r (λ ending. meaning (do_while line body test) scene s ≡ end_of ending u)
do_loops r line body test scene s t u o means none h =
    let next : Progress → End = whole line (test_value (Some test) scene) body None scene in
    begins r (meaning (do_while line body test) scene s) (next t) u (means next ∙ ap (λ p. after p next t) none) h

-- the first turn ended it
pub do_ends :
    (line : ℕ) (body : Statements) (test : Expression) (scene : Scene) (s t : Progress) (o : Option Ending) (ending : Ending)
    → ((next : Progress → End) → turn line (as_scope (meanings body scene)) next s ≡ after o next t)
    → o ≡ Some ending
    → meaning (do_while line body test) scene s ≡ end_of ending t
do_ends line body test scene s t o ending means some =
    let next : Progress → End = whole line (test_value (Some test) scene) body None scene in
    means next ∙ ap (λ p. after p next t) some

-- ---- turns of loops

-- the body ran for a unit
pub turn_means :
    (line fuel : ℕ) (body next : Progress → End) (s t : Progress) (ending : Ending) (o : Option Ending)
    → s.fuel ≢ 0
    → fuel ≡ s.fuel - 1
    → body (record s { fuel = fuel }) ≡ end_of ending t
    → ((next : Progress → End) (s : Progress) → after_turn (end_of ending s) next ≡ after o next s)
    → turn line body next s ≡ after o next t
turn_means line fuel body next s t ending o some is ran turned =
    paid line fuel body next s some is ∙ ap (λ e. after_turn e next) ran ∙ turned next t

pub unit_less : (before now : ℕ) → before ≢ 0 → now ≤ before - 1 → now < before
unit_less before now some le = omega (arith, some, le)

pub still_less : (a b c : ℕ) → b < c → a ≤ b → a < c
still_less a b c lt le = omega (arith, lt, le)

module _
    (line : ℕ) (test : Progress → Result ℤ Fault) (body : Statements) (step : Option Assigned) (scene : Scene)
    (fall : Fall scene.answers) (s t : Progress)
    (so_far : whole line test body step scene s ≡ whole line test body step scene t) where
  pub loop_faults : (fault : Fault) → Err fault ≡ test t → whole line test body step scene s ≡ faulted fault
  loop_faults fault is = so_far ∙ test_faults line test body step scene t fault fall (sym is)

  pub loop_ends :
      (v : ℤ) → SFits w32 v → Ok v ≡ test t → of_z w32 v ≡ 0 → whole line test body step scene s ≡ went_on t
  loop_ends v fits is zero =
      so_far ∙ test_ends line test body step scene t v fall (sym is) (zero_fails v fits zero)

  turned :
      (v : ℤ) (u : Progress) (o : Option Ending)
      → SFits w32 v
      → Ok v ≡ test t
      → of_z w32 v ≢ 0
      → ((next : Progress → End) → turn line (as_scope (meanings body scene)) next t ≡ after o next u)
      → whole line test body step scene s ≡ after o (stepped line test body step scene) u
  turned v u o fits is nonzero means =
      so_far
      ∙ test_holds line test body step scene t v fall (sym is) (nonzero_holds v fits nonzero)
      ∙ means (stepped line test body step scene)

  pub turn_ends :
      (v : ℤ) (u : Progress) (o : Option Ending) (ending : Ending)
      → SFits w32 v
      → Ok v ≡ test t
      → of_z w32 v ≢ 0
      → ((next : Progress → End) → turn line (as_scope (meanings body scene)) next t ≡ after o next u)
      → o ≡ Some ending
      → whole line test body step scene s ≡ end_of ending u
  turn_ends v u o ending fits is nonzero means some =
      turned v u o fits is nonzero means ∙ ap (λ p. after p (stepped line test body step scene) u) some

  turn_steps :
      (v : ℤ) (u w : Progress) (o : Option Ending) (e : Ending)
      → SFits w32 v
      → Ok v ≡ test t
      → of_z w32 v ≢ 0
      → ((next : Progress → End) → turn line (as_scope (meanings body scene)) next t ≡ after o next u)
      → o ≡ None
      → step_of step scene u ≡ end_of e w
      → whole line test body step scene s ≡ on_to (end_of e w) (whole line test body step scene)
  turn_steps v u w o e fits is nonzero means none steps =
      turned v u o fits is nonzero means
      ∙ ap (λ p. after p (stepped line test body step scene) u) none
      ∙ ap (λ x. on_to x (whole line test body step scene)) steps

  pub step_ends :
      (v : ℤ) (u w : Progress) (o : Option Ending) (e : Ending)
      → SFits w32 v
      → Ok v ≡ test t
      → of_z w32 v ≢ 0
      → ((next : Progress → End) → turn line (as_scope (meanings body scene)) next t ≡ after o next u)
      → o ≡ None
      → step_of step scene u ≡ end_of e w
      → e ≢ WentOn
      → whole line test body step scene s ≡ end_of e w
  step_ends v u w o e fits is nonzero means none steps stops =
      turn_steps v u w o e fits is nonzero means none steps ∙ stopped e w (whole line test body step scene) stops

  pub loop_goes_on :
      (v : ℤ) (u w : Progress) (o : Option Ending) (e : Ending)
      → SFits w32 v
      → Ok v ≡ test t
      → of_z w32 v ≢ 0
      → ((next : Progress → End) → turn line (as_scope (meanings body scene)) next t ≡ after o next u)
      → o ≡ None
      → step_of step scene u ≡ end_of e w
      → e ≡ WentOn
      → whole line test body step scene s ≡ whole line test body step scene w
  loop_goes_on v u w o e fits is nonzero means none steps goes =
      turn_steps v u w o e fits is nonzero means none steps
      ∙ ap (λ x. on_to (end_of x w) (whole line test body step scene)) goes

-- ---- message loops

module _
    (line : ℕ) (body : List Stmt) (scene : code.Scene) (message : ℕ) (rows : List (Bor (List ℤ))) (i : ℕ)
    (row : Bor (List ℤ)) (outer : Bor Open) (all : List Current) (s t u : Progress) (o : Option Ending)
    (so_far :
    each_row line (over_row body (scene_seen scene outer.now)) all s
    ≡ each_row line (over_row body (scene_seen scene outer.now)) (map (stands_at message) (drop i rows)) t)
    (within : i < length rows) (there : row ≡ get_or rows i row)
    (means :
    (next : Progress → End)
    → turn line (as_scope (meanings (statements body) (scene_seen scene (Over message row outer)))) next t
    ≡ after o next u) where
  row_run :
      each_row line (over_row body (scene_seen scene outer.now)) all s
      ≡ after o (each_row line (over_row body (scene_seen scene outer.now)) (map (stands_at message) (drop (i + 1) rows))) u
  row_run = so_far ∙ row_turn line body scene message rows i row outer t o u within there means

  pub rows_go_on :
      o ≡ None
      → each_row line (over_row body (scene_seen scene outer.now)) all s
      ≡ each_row line (over_row body (scene_seen scene outer.now)) (map (stands_at message) (drop (i + 1) rows)) u
  rows_go_on none =
      row_run
      ∙ ap (λ p. after p (each_row line (over_row body (scene_seen scene outer.now)) (map (stands_at message) (drop (i + 1) rows))) u) none

  pub row_ends :
      (ending : Ending)
      → o ≡ Some ending
      → each_row line (over_row body (scene_seen scene outer.now)) all s ≡ end_of ending u
  row_ends ending some =
      row_run
      ∙ ap (λ p. after p (each_row line (over_row body (scene_seen scene outer.now)) (map (stands_at message) (drop (i + 1) rows))) u) some
