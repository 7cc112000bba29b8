-- What a body does where numbers stand in place of names, form by form, with numbers where the named one has look-ups.
use Rattle.std.specs.Prelude.{ℕ, ℤ, pos, List, [], ◌∷◌, ◌++◌, map, Option, Some, None, Result, Ok}
use Rattle.std.specs.Prelude.{slice_index_or, if◌then◌else◌}
use Rattle.flame_ops.specs.declared.integers.Op.{Op}
use Rattle.flame_ops.specs.Integers.{applied}
use Rattle.flame_spec.specs.declared.faults.Fault.{Fault}
use Rattle.flame_spec.specs.Conditions.{number_at}
use Rattle.flame_body.specs.declared.slots.Cells.{Cells}
use Rattle.flame_body.specs.declared.slots.SlotDeed.{SlotDeed}
use Rattle.flame_body.specs.declared.slots.SlotDeed.TheVariants.{Sets, Sends, Bears, Calls}
use Rattle.flame_body.specs.declared.slots.SlotExpr.{SlotExpr, fold-SlotExpr}
use Rattle.flame_body.specs.declared.slots.SlotExpr.TheOpen.{SlotExpr-F, SlotLink-F, SlotSubscript-F}
use Rattle.flame_body.specs.declared.slots.SlotLink.{SlotLink}
use Rattle.flame_body.specs.declared.slots.SlotSubscript.{SlotSubscript}
use Rattle.flame_body.specs.declared.slots.SlotValue.{SlotValue}
use Rattle.flame_body.specs.declared.slots.SlotValue.TheVariants as stored
use Rattle.flame_body.specs.declared.slots.SlotItem.{SlotItem}
use Rattle.flame_body.specs.declared.slots.SlotTarget.{SlotTarget}
use Rattle.flame_body.specs.declared.slots.SlotTarget.TheVariants as target
use Rattle.flame_body.specs.declared.slots.SlotAssign.{SlotAssign}
use Rattle.flame_body.specs.declared.slots.SlotArm.{SlotArm}
use Rattle.flame_body.specs.declared.slots.SlotStmt.{SlotStmt, fold-SlotStmt}
use Rattle.flame_body.specs.declared.slots.SlotStmt.TheOpen.{SlotStmt-F, SlotArm-F, SlotHead-F}
use Rattle.flame_meaning.specs.Scenes.{Progress}
use Rattle.flame_meaning.specs.Expressions.{on_value, at_line, holds, signs_value, element_value, one_of, values_and}
use Rattle.flame_meaning.specs.Ends.{End, went_on, broke, continued, returned}
use Rattle.flame_meaning.specs.Ends.{with_value, with_values, after_call, on_to, as_scope}
use Rattle.flame_meaning.specs.Loops.{turn, loop}
use Rattle.flame_meaning.specs.Statements.{set_column, with_column, fitted}
use Rattle.flame_number_laws.specs.NumberedScenes.{NumberedScene, standing_at, nameless, local_at, set_local_at}
use Rattle.flame_number_laws.specs.NumberedScenes.{slot_value, slot_numbers, span_numbers, cell_column}

-- ---- expressions

-- a value, or a fault with its line, with this before it in this progress [own]
abbrev pub Valued : Type 0
Valued = NumberedScene → Progress → Result ℤ Fault

-- what an expression means: its value, and the numbers that it stands for as an argument [C, 6.5.2.2; arrays: own]
pub record ExpressionMeaning : Type 0 where
  pub value : Valued
  pub numbers : NumberedScene → Progress → Result (List ℤ) Fault

-- an expression that stands for its value alone [own]
abbrev pub one_value : Valued → ExpressionMeaning
one_value value = record { value = value; numbers = λ scene s. one_of (value scene s) }

-- which element of an array: the line of the `[`, and the index [own]
pub record Indexing : Type 0 where
  pub line : ℕ
  pub index : Valued

-- an operator with its operand, behind a value [own]
abbrev pub Linked : Type 0
Linked = NumberedScene → Progress → ℤ → Result ℤ Fault

-- operators of one level group from the left [C, 6.5]
abbrev pub chain_value : List Linked → Linked
chain_value [] scene s v = Ok v
chain_value (link ∷ links) scene s v = on_value (link scene s v) (chain_value links scene s)

-- a value and the operators behind it [C, 6.5]
abbrev pub chained : Valued → List Linked → Valued
chained value links scene s = on_value (value scene s) (chain_value links scene s)

-- `&&` gives 1 where each part holds, and stops with 0 at the first part that does not [C, 6.5.13]
abbrev pub all_value : List ExpressionMeaning → Valued
all_value [] scene s = Ok (pos 1)
all_value (part ∷ parts) scene s =
    on_value (part.value scene s) (λ v. if holds v then all_value parts scene s else Ok (pos 0))

-- `||` gives 0 where no part holds, and stops with 1 at the first part that does [C, 6.5.14]
abbrev pub any_value : List ExpressionMeaning → Valued
any_value [] scene s = Ok (pos 0)
any_value (part ∷ parts) scene s =
    on_value (part.value scene s) (λ v. if holds v then Ok (pos 1) else any_value parts scene s)

-- an element: the index, and then its number in the row [C, 6.5.2.1; order: own]
abbrev pub element_of : Cells → Indexing → (NumberedScene → Progress → List ℤ) → Valued
element_of cells element row scene s =
    on_value (element.index scene s) (λ i. element_value element.line (cell_column cells i) (row scene s))

-- an expression, of whose parts it is known what they mean; parts are evaluated from left to right [C, 6.5; order: own]
abbrev pub meaning_step : SlotExpr-F ExpressionMeaning Linked Indexing → ExpressionMeaning
meaning_step (SlotExpr-F.Number n) = one_value (λ scene s. Ok n)
meaning_step (SlotExpr-F.Name slot) = record {
  value = λ scene s. Ok (slot_value slot scene s);
  numbers = λ scene s. Ok (slot_numbers slot scene s);
}
meaning_step (SlotExpr-F.Field input span) = record {
  value = λ scene s. Ok (number_at (scene.current_rows input) span.column);
  numbers = λ scene s. Ok (span_numbers span (scene.current_rows input));
}
meaning_step (SlotExpr-F.Get column) = one_value (λ scene s. Ok (number_at s.memory column))
meaning_step (SlotExpr-F.At cells element) = one_value (element_of cells element (λ scene s. s.memory))
meaning_step (SlotExpr-F.FieldAt input cells element) =
    one_value (element_of cells element (λ scene s. scene.current_rows input))
meaning_step (SlotExpr-F.Unary signs e) = one_value (λ scene s. on_value (e.value scene s) (signs_value signs))
meaning_step (SlotExpr-F.Chain e links) = one_value (chained e.value links)
meaning_step (SlotExpr-F.All parts) = one_value (all_value parts)
meaning_step (SlotExpr-F.Any parts) = one_value (any_value parts)

-- an operator with its operand [C, 6.5]
abbrev pub linked_step : SlotLink-F ExpressionMeaning Linked Indexing → Linked
linked_step link scene s v = on_value (link.right.value scene s) (λ w. at_line link.line (applied link.op v w))

-- an index and its line [own]
abbrev pub element_step : SlotSubscript-F ExpressionMeaning Linked Indexing → Indexing
element_step subscript = record { line = subscript.line; index = subscript.index.value }

-- what an expression means [own]
abbrev pub meaning_of : SlotExpr → ExpressionMeaning
meaning_of = fold-SlotExpr ExpressionMeaning Linked Indexing meaning_step linked_step element_step

-- the value of an expression [C, 6.5]
abbrev pub value_of : SlotExpr → Valued
value_of e = (meaning_of e).value

-- an operator with its operand [C, 6.5]
abbrev pub link_of : SlotLink → Linked
link_of link scene s v = on_value (value_of link.right scene s) (λ w. at_line link.line (applied link.op v w))

-- the numbers of the arguments, from left to right [C, 6.5.2.2; order: own]
abbrev pub argument_numbers : List SlotExpr → NumberedScene → Progress → Result (List ℤ) Fault
argument_numbers [] scene s = Ok []
argument_numbers (e ∷ es) scene s = values_and ((meaning_of e).numbers scene s) (argument_numbers es scene s)

-- ---- values, which may be those of helpers

-- what is stored: the value of an expression, or what a helper returns for the values of its arguments
-- [C, 6.5.16; C, 6.5.2.2]
abbrev pub by_value : SlotValue → NumberedScene → Progress → (ℤ → Progress → End) → End
by_value (stored.Plain e) scene s go = with_value (value_of e scene s) (λ v. go v s)
by_value (stored.Call line helper arguments) scene s go =
    with_values (argument_numbers arguments scene s) (λ values.
    after_call (scene.answers line helper values s.fuel) s go)

-- the initial value of a local; without one it is 0 [C, 6.7.9; without one: own]
abbrev pub by_initial : Option SlotValue → NumberedScene → Progress → (ℤ → Progress → End) → End
by_initial None scene s go = go (pos 0) s
by_initial (Some value) scene s go = by_value value scene s go

-- one local more [C, 6.2.1]
abbrev pub with_local : ℤ → Progress → Progress
with_local v s = record s { locals = nameless v ∷ s.locals }

-- what a statement does, or a part of one [own]
abbrev pub Run : Type 0
Run = NumberedScene → Progress → End

-- the items in order, each of which begins behind its value. An item's own number is how many locals stand before it,
-- and is not read [C, 6.7; own]
abbrev pub declarations : List SlotItem → Run
declarations [] scene s = went_on s
declarations (item ∷ items) scene s =
    by_initial item.value scene s (λ v t. declarations items scene (with_local v t))

-- ---- assignments

-- the local of this number has the value [C, 6.5.16]
abbrev pub with_local_at : ℕ → ℤ → Progress → Progress
with_local_at number v s = record s { locals = set_local_at number v s.locals }

-- `x = v`: the value, then the store [C, 6.5.16.1]
abbrev pub name_set : (ℤ → Progress → Progress) → SlotValue → Run
name_set store value scene s = by_value value scene s (λ v t. went_on (store v t))

-- `x op= v`: the left side is read first, then comes the value, then the operator, then the store
-- [C, 6.5.16.2; order: own]
abbrev pub name_changed : (Progress → ℤ) → (ℤ → Progress → Progress) → Op → ℕ → SlotValue → Run
name_changed read store op line value scene s =
    by_value value scene s (λ v t.
    with_value (at_line line (applied op (read s) v)) (λ w. went_on (store w t)))

-- `x[e] = v`: the index, then the value, then the test of the index, then the store [C, 6.5.16.1; order: own]
abbrev pub element_set : Cells → SlotSubscript → SlotValue → Run
element_set cells place value scene s =
    with_value (value_of place.index scene s) (λ i.
    by_value value scene s (λ v t.
    with_column place.line (cell_column cells i) (λ column. went_on (set_column column v t))))

-- `x[e] op= v`: the index, then its test, then the element, then the value, then the operator, then the store
-- [C, 6.5.16.2; order: own]
abbrev pub element_changed : Cells → SlotSubscript → Op → ℕ → SlotValue → Run
element_changed cells place op line value scene s =
    with_value (value_of place.index scene s) (λ i.
    with_column place.line (cell_column cells i) (λ column.
    by_value value scene s (λ v t.
    with_value (at_line line (applied op (number_at s.memory column) v)) (λ w.
    went_on (set_column column w t)))))

-- an assignment to what is read and stored so, without an index [C, 6.5.16]
abbrev pub plainly_assigned :
    (Progress → ℤ) → (ℤ → Progress → Progress) → Option Op → ℕ → SlotValue → Run
plainly_assigned read store None line value = name_set store value
plainly_assigned read store (Some op) line value = name_changed read store op line value

-- an assignment to an element [C, 6.5.16]
abbrev pub element_assigned : Cells → SlotSubscript → Option Op → ℕ → SlotValue → Run
element_assigned cells place None line value = element_set cells place value
element_assigned cells place (Some op) line value = element_changed cells place op line value

-- an assignment by its form [C, 6.5.16]
abbrev pub assigned_by : SlotTarget → Option Op → ℕ → SlotValue → Run
assigned_by (target.Local number) = plainly_assigned (λ s. local_at number s.locals) (with_local_at number)
assigned_by (target.Memory column) = plainly_assigned (λ s. number_at s.memory column) (set_column column)
assigned_by (target.Element cells place) = element_assigned cells place

-- an assignment [C, 6.5.16]
abbrev pub assignment : SlotAssign → Run
assignment a = assigned_by a.target a.op a.op_line a.value

-- ---- calls

-- the message stands behind those that were added before; of a type that is not there an empty row
-- [FLAME User Manual; own]
abbrev pub with_message : ℕ → List ℤ → NumberedScene → Progress → Progress
with_message number values scene s =
    let row = fitted (slice_index_or scene.widths.messages number 0) values in
    record s { sent = s.sent ++ record { message = number; row = row } ∷ [] }

-- the agent stands behind those that were added before; of a type that is not there an empty row
-- [FLAME User Manual; own]
abbrev pub with_birth : ℕ → List ℤ → NumberedScene → Progress → Progress
with_birth number values scene s =
    let row = fitted (slice_index_or scene.widths.agents number 0) values in
    record s { born = s.born ++ record { agent = number; row = row } ∷ [] }

-- what a call statement does with the numbers of its arguments: it sets a memory variable to the first, sends a
-- message, bears an agent, or calls a helper, whose value counts for nothing [FLAME User Manual; C, 6.8.3]
abbrev pub done : SlotDeed → List ℤ → NumberedScene → Progress → End
done (Sets column) values scene s = went_on (set_column column (number_at values 0) s)
done (Sends number) values scene s = went_on (with_message number values scene s)
done (Bears number) values scene s = went_on (with_birth number values scene s)
done (Calls line number) values scene s =
    after_call (scene.answers line number values s.fuel) s (λ v t. went_on t)

-- ---- statements

-- one after another [C, 6.8.2]
abbrev pub in_turn : List Run → Run
in_turn [] scene s = went_on s
in_turn (run ∷ runs) scene s = on_to (run scene s) (in_turn runs scene)

-- a body is a scope [C, 6.8]
abbrev pub scope : List Run → Run
scope body scene = as_scope (in_turn body scene)

-- a test and the body that runs where it is the first that holds [own]
pub record Arm : Type 0 where
  pub test : Valued
  pub body : Run

-- the body of the first test that holds, and where none does what stands behind `else` [C, 6.8.4.1]
abbrev pub first_arm : List Arm → Run → Run
first_arm [] otherwise scene s = otherwise scene s
first_arm (arm ∷ arms) otherwise scene s =
    with_value (arm.test scene s) (λ v.
    if holds v then arm.body scene s else first_arm arms otherwise scene s)

-- the head of a `for` [own]
pub record Head : Type 0 where
  pub first : Run
  pub test : Valued
  pub step : Run

-- the test of a `for`; without one it always goes on [C, 6.8.5.3]
abbrev pub test_value : Option SlotExpr → Valued
test_value None scene s = Ok (pos 1)
test_value (Some e) scene s = value_of e scene s

-- the step of a `for`, if there is one [C, 6.8.5.3]
abbrev pub step_of : Option SlotAssign → Run
step_of None scene s = went_on s
step_of (Some a) scene s = assignment a scene s

-- nothing is done [own]
abbrev pub nothing : Run
nothing scene s = went_on s

-- one turn for each row, in order [FLAME User Manual]
abbrev pub each_row : ℕ → (List ℤ → Progress → End) → List (List ℤ) → Progress → End
each_row line body [] s = went_on s
each_row line body (row ∷ rows) s = turn line (body row) (each_row line body rows) s

-- a statement, of whose parts it is known what they do [C, 6.8; message loops: FLAME User Manual]
abbrev pub run_step : SlotStmt-F Run Arm Head → Run
run_step SlotStmt-F.Empty scene s = went_on s
run_step (SlotStmt-F.Declare items) scene s = declarations items scene s
run_step (SlotStmt-F.Assign a) scene s = assignment a scene s
run_step (SlotStmt-F.Call deed arguments) scene s =
    with_values (argument_numbers arguments scene s) (λ values. done deed values scene s)
run_step (SlotStmt-F.Block body) scene s = scope body scene s
run_step (SlotStmt-F.If arms otherwise) scene s = first_arm arms (scope otherwise) scene s
run_step (SlotStmt-F.While line test body) scene s =
    loop line (value_of test scene) (scope body scene) (nothing scene) s
run_step (SlotStmt-F.For line head body) scene s =
    as_scope (λ t.
    on_to (head.first scene t)
    (loop line (head.test scene) (scope body scene) (head.step scene))) s
run_step (SlotStmt-F.Do line body test) scene s =
    turn line (scope body scene) (loop line (value_of test scene) (scope body scene) (nothing scene)) s
run_step (SlotStmt-F.Loop line input body) scene s =
    each_row line (λ row. scope body (standing_at input row scene)) (slice_index_or scene.readings input []) s
run_step (SlotStmt-F.Return e) scene s = with_value (value_of e scene s) (λ v. returned v s)
run_step SlotStmt-F.Break scene s = broke s
run_step SlotStmt-F.Continue scene s = continued s

-- a test and its body, which is a scope [C, 6.8.4]
abbrev pub arm_step : SlotArm-F Run Arm Head → Arm
arm_step arm = record { test = value_of arm.test; body = scope arm.body }

-- the head of a `for` [C, 6.8.5.3]
abbrev pub head_step : SlotHead-F Run Arm Head → Head
head_step head = record { first = in_turn head.first; test = test_value head.test; step = step_of head.step }

-- what a statement does [C, 6.8]
abbrev pub run_of : SlotStmt → Run
run_of = fold-SlotStmt Run Arm Head run_step arm_step head_step

-- a test and its body [C, 6.8.4]
abbrev pub arm_of : SlotArm → Arm
arm_of arm = record { test = value_of arm.test; body = scope (map run_of arm.body) }

-- what statements do, one after another [C, 6.8.2]
abbrev pub runs_of : List SlotStmt → Run
runs_of body = in_turn (map run_of body)
