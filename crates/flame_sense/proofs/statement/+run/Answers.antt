use mir.Syntax.{w32}
use mir.Val.{SFits, to_z, of_z}
use Rattle.std.proofs.lemmas.Int.{to_z-of_z}
use Rattle.std.proofs.Common.{rules, ◌∙◌, ap, refl, sym, subst, length, option_map, arith, ◌-◌, ◌<◌, ◌≤◌, List, Option}
use Rattle.std.specs.Prelude.{IfSome, IfNone}
use Rattle.flame_spec.specs.declared.trees.Stmt.{Stmt}
use Rattle.flame_spec.specs.Conditions.{number_at}
use Rattle.flame_spec.specs.Seen.{expression, indexed, assigned, statements}
use Rattle.flame_spec.specs.Definitions.{helpers}
use Rattle.flame_sense.specs.declared.deed.Deed as code
use Rattle.flame_sense.specs.declared.ending.Ending.{Ending}
use Rattle.flame_sense.specs.declared.scene.Open.TheVariants.{Nothing}
use Rattle.flame_sense.specs.Acts.{IsNoDeeper}
use Rattle.flame_sense.specs.Depths.{depth, deepest}
use Rattle.flame_meaning.specs.Scenes.{Progress, Scene, array_named, element_column}
use Rattle.flame_meaning.specs.Expressions.{value_of}
use Rattle.flame_meaning.specs.Ends.{as_scope}
use Rattle.flame_meaning.specs.Statements.{loop_currents, test_value, meanings}
use Rattle.flame_meaning.specs.HelperCalls.{entered}
use Rattle.flame_sense.specs.StandsFor.{within_reach, definition_seen, scene_seen, progress_seen, end_of, gave_seen}
use Rattle.flame_sense.proofs.Assignments.{element_changed_so, name_changed_so}
use Rattle.flame_sense.proofs.Calls.{answered}
use Rattle.flame_sense.proofs.Levels.{body_below}
use Rattle.flame_sense.proofs.Locals.{length-visible}
use Rattle.flame_sense.proofs.Forms.{while_comes, do_comes, loop_comes, arm_comes, else_comes, for_comes, for_looped, for_stopped, do_loops, do_ends, turn_means, unit_less, still_less, loop_faults, loop_ends, turn_ends, step_ends, loop_goes_on, rows_go_on, row_ends}
use Rattle.flame_sense.proofs.Runs.{if_none_more, block_falls, step_left, scene_falls}
use Rattle.flame_sense.proofs.statement.+run.Goals as goal

-- ---- statements and bodies

pub statement-returns-in-While : goal.statement-returns-in-While
statement-returns-in-While t c =
    while_comes c.turns.result c.args.statement.now c.in-While.line c.in-While.test c.in-While.body c.items-in-While.result.now
    (scene_seen c.args.scene.now c.args.open_loops.now) (progress_seen c.args.s.now) (progress_seen c.turns.new.s)
    c.in-While.is c.items-in-While.ensures c.turns.ensures

pub statement-returns-in-Do : goal.statement-returns-in-Do
statement-returns-in-Do t c =
    do_comes c.do_loop.result c.args.statement.now c.in-Do.line c.in-Do.body c.items-in-Do.result.now c.in-Do.test
    (scene_seen c.args.scene.now c.args.open_loops.now) (progress_seen c.args.s.now) (progress_seen c.do_loop.new.s)
    c.in-Do.is c.items-in-Do.ensures c.do_loop.ensures

pub statement-returns-in-Loop : goal.statement-returns-in-Loop
statement-returns-in-Loop t c =
    loop_comes c.message_loop.result c.args.statement.now c.in-Loop.line c.in-Loop.word c.as_str-in-Loop.result.now
    c.in-Loop.body c.items-in-Loop.result.now c.in-Loop.field-3 c.in-Loop.field-4
    (scene_seen c.args.scene.now c.args.open_loops.now) (progress_seen c.args.s.now) (progress_seen c.message_loop.new.s)
    c.in-Loop.is c.items-in-Loop.ensures c.as_str-in-Loop.ensures c.message_loop.ensures

pub statement-returns-in-Some : goal.statement-returns-in-Some
statement-returns-in-Some t c =
    arm_comes c.args.statement.now c.in-If.arms c.items-in-If.result.now c.in-If.otherwise
    (scene_seen c.args.scene.now c.args.open_loops.now) (progress_seen c.args.s.now) (progress_seen c.branch-items.new.s)
    c.in_ok-ending-in-If.field-0 c.in-Some.ending
    c.in-If.is c.items-in-If.ensures c.in_ok-ending-in-If.ensures c.in-Some.is

pub statement-returns-in-None : goal.statement-returns-in-None
statement-returns-in-None t c =
    else_comes c.block-in-None.result c.args.statement.now c.in-If.arms c.items-in-If.result.now
    c.in-If.otherwise c.items-in-None.result.now
    (scene_seen c.args.scene.now c.args.open_loops.now) (progress_seen c.args.s.now) (progress_seen c.branch-items.new.s) (progress_seen c.block-in-None.new.s)
    c.in_ok-ending-in-If.field-0
    c.in-If.is c.items-in-If.ensures c.in_ok-ending-in-If.ensures c.in-None.is c.items-in-None.ensures c.block-in-None.ensures

pub statement-returns-in-For : goal.statement-returns-in-For
statement-returns-in-For t c =
    for_comes c.for_loop.result c.args.statement.now c.in-For.line c.in-For.head c.get.result.now c.in-For.body c.items-in-For.result.now
    (scene_seen c.args.scene.now c.args.open_loops.now) (progress_seen c.args.s.now) (progress_seen c.for_loop.new.s)
    c.in-For.is c.get.ensures c.items-in-For.ensures c.for_loop.ensures

-- ---- declarations and assignments

pub assignments::name_changed-returns-in-Ok : goal.assignments::name_changed-returns-in-Ok
assignments::name_changed-returns-in-Ok t c =
    let left : SFits w32 c.named-left.result = search rules in
    let right : SFits w32 c.in-Ok.right = search rules in
    name_changed_so c.args.op (assigned c.args.a.now) c.args.scene.now c.args.open_loops.now (progress_seen c.args.s.now)
    (progress_seen c.stored_value.new.s) c.in_ok-right.field-0 c.as_str-name.result.now c.named-left.result c.in-Ok.right
    (to_z w32 (of_z w32 c.named-left.result)) (to_z w32 (of_z w32 c.in-Ok.right))
    (end_of c.change_name.result (progress_seen c.change_name.new.s))
    c.in_ok-right.ensures c.in-Ok.is c.as_str-name.ensures c.named-left.ensures
    (to_z-of_z w32 c.named-left.result left) (to_z-of_z w32 c.in-Ok.right right) c.change_name.ensures

pub assignments::element_changed-returns-in-Ok-2 : goal.assignments::element_changed-returns-in-Ok-2
assignments::element_changed-returns-in-Ok-2 t c =
    let at : SFits w32 c.in-Ok.index = search rules in
    let left : SFits w32 c.number_near-left.result = search rules in
    let right : SFits w32 c.in-Ok-2.right = search rules in
    let scene : Scene = scene_seen c.args.scene.now c.args.open_loops.now in
    let s : Progress = progress_seen c.args.s.now in
    let a = assigned c.args.a.now in
    let index = sym c.in-Ok.is ∙ c.value.ensures ∙ ap (λ e. value_of (expression e) scene s) c.get.ensures in
    let there = sym c.in-Some.is ∙ c.element_column.ensures (array_named c.as_str.result.now scene s) c.array_named.ensures
    ∙ ap (λ i. option_map within_reach (element_column (array_named c.as_str.result.now scene s) i)) (to_z-of_z w32 c.in-Ok.index at)
    ∙ ap (λ n. option_map within_reach (element_column (array_named n scene s) c.in-Ok.index)) c.as_str.ensures in
    element_changed_so (indexed c.args.place.now) c.args.op a scene s (progress_seen c.stored_value.new.s)
    c.in-Ok.index c.in-Some.column c.in_ok-right.field-0 c.number_near-left.result c.in-Ok-2.right
    (to_z w32 (of_z w32 c.number_near-left.result)) (to_z w32 (of_z w32 c.in-Ok-2.right))
    (end_of c.change_column.result (progress_seen c.change_column.new.s))
    index there c.in_ok-right.ensures c.in-Ok-2.is
    (λ column near. c.number_near-left.ensures column near ∙ ap (λ m. number_at m column) c.as_slice.ensures.value)
    (to_z-of_z w32 c.number_near-left.result left) (to_z-of_z w32 c.in-Ok-2.right right) c.change_column.ensures

-- ---- calls

pub calls::call-statements-requires : goal.calls::call-statements-requires
calls::call-statements-requires t c =
    let units = c.args.scene.now.units.now in
    let Shallow : List Stmt → Type 0 = λ b. depth b ≤ deepest units in
    let shallow = subst Shallow (sym c.items-2.ensures) c.requires in
    let below = body_below c.args.scene.now.left c.in_helper-inner.result.left units c.in_helper-inner.result.units.now (depth c.items-2.result.now)
    c.if-scene-eq0.false c.in_helper-inner.ensures.left c.in_helper-inner.ensures.units shallow in
    (omega (arith, below, c.decreases), tt)

pub calls::call-returns : goal.calls::call-returns
calls::call-returns t c =
    let model = c.args.scene.now.model.now in
    answered c.args.scene.now.left model (helpers model c.args.scene.now.units.now) c.args.scene.now.constants.now c.args.scene.now.iteration
    c.args.line (definition_seen c.args.helper) c.args.values.now c.args.fuel
    (statements c.items-2.result.now) (scene_seen c.in_helper-inner.result Nothing) (progress_seen c.in_ok-s.s)
    (end_of c.in_ok-ending.ending (progress_seen c.statements.new.s)) (gave_seen c.given.result)
    c.if-scene-eq0.false c.if-fuel-eq0.false (ap statements c.items-2.ensures) c.in_helper-inner.ensures.scene
    (c.in_ok-s.ensures
    ∙ ap (λ ps. entered ps c.values.result.now (c.args.fuel - 1)) c.items.ensures
    ∙ ap (λ vs. entered c.args.helper.def.now.parameters vs (c.args.fuel - 1)) c.values.ensures)
    c.in_ok-ending.ensures (c.given.ensures (progress_seen c.statements.new.s) refl)

pub calls::done-call-requires : goal.calls::done-call-requires
calls::done-call-requires t c =
    let units = c.args.scene.now.units.now in
    let Shallow : Option code.Deed → Type 0 = λ o. IfSome o (IsNoDeeper units) in
    (omega arith, subst (IsNoDeeper units) c.in-Some-Calls.field-0-is (subst Shallow c.in-Some-Calls.is c.deed_of.ensures.depth))

-- ---- loops

pub loops::turn-returns-clause-means : goal.loops::turn-returns-clause-means
loops::turn-returns-clause-means t c =
    λ next.
    turn_means c.args.line (c.args.s.now.fuel - 1) (as_scope (meanings (statements c.args.body.now) (scene_seen c.args.scene.now c.args.open_loops.now))) next
    (progress_seen c.args.s.now) (progress_seen c.block.new.s) c.in_ok-ending.ending c.turned.result
    c.if-s-eq0.false refl c.in_ok-ending.ensures c.turned.ensures.means

pub loops::turn-returns-clause-pays : goal.loops::turn-returns-clause-pays
loops::turn-returns-clause-pays t c =
    if_none_more c.turned.result _ _ (λ g.
    unit_less c.args.s.now.fuel c.block.new.s.fuel c.if-s-eq0.false
    (block_falls (statements c.args.body.now) (scene_seen c.args.scene.now c.args.open_loops.now) _ (progress_seen c.block.new.s) c.in_ok-ending.ending
    (scene_falls c.args.scene.now c.args.open_loops.now) c.in_ok-ending.ensures g)) c.turned.ensures.goes_on

pub loops::turns-turns-smaller : goal.loops::turns-turns-smaller
loops::turns-turns-smaller t c =
    let Paid : Option Ending → Type 0 = λ o. IfNone o (c.turn.new.s.fuel < c.turns.s.fuel) in
    let paid_one = subst Paid c.in-None.is c.in_ok-ending.ensures.pays in
    let less = step_left (option_map assigned c.args.after.now) (scene_seen c.args.scene.now c.args.open_loops.now)
    (progress_seen c.turn.new.s) (progress_seen c.step.new.s) _ (scene_falls c.args.scene.now c.args.open_loops.now)
    c.in_ok-ending-2.ensures c.in-WentOn.is in
    still_less c.step.new.s.fuel c.turn.new.s.fuel c.turns.s.fuel paid_one less

pub loops::turns-returns-in_default : goal.loops::turns-returns-in_default
loops::turns-returns-in_default t c =
    let fits : SFits w32 c.in-Ok.value = search rules in
    step_ends c.args.line (test_value (option_map (λ e. expression e.now) c.args.test) (scene_seen c.args.scene.now c.args.open_loops.now))
    (statements c.args.body.now) (option_map assigned c.args.after.now) (scene_seen c.args.scene.now c.args.open_loops.now)
    (scene_falls c.args.scene.now c.args.open_loops.now) (progress_seen c.args.s.now) (progress_seen c.turns.s) c.turns.invariant
    c.in-Ok.value (progress_seen c.turn.new.s) (progress_seen c.step.new.s) c.in_ok-ending.field-0 c.in_ok-ending-2.ending
    fits c.in-Ok.ensures c.if-value-eq0.false c.in_ok-ending.ensures.means c.in-None.is
    c.in_ok-ending-2.ensures c.in_default.not-WentOn

pub loops::turns-returns-then-value-eq0 : goal.loops::turns-returns-then-value-eq0
loops::turns-returns-then-value-eq0 t c =
    let fits : SFits w32 c.in-Ok.value = search rules in
    loop_ends c.args.line (test_value (option_map (λ e. expression e.now) c.args.test) (scene_seen c.args.scene.now c.args.open_loops.now))
    (statements c.args.body.now) (option_map assigned c.args.after.now) (scene_seen c.args.scene.now c.args.open_loops.now)
    (scene_falls c.args.scene.now c.args.open_loops.now) (progress_seen c.args.s.now) (progress_seen c.turns.s) c.turns.invariant
    c.in-Ok.value fits c.in-Ok.ensures c.if-value-eq0.true

pub loops::turns-returns-in-Err : goal.loops::turns-returns-in-Err
loops::turns-returns-in-Err t c =
    loop_faults c.args.line (test_value (option_map (λ e. expression e.now) c.args.test) (scene_seen c.args.scene.now c.args.open_loops.now))
    (statements c.args.body.now) (option_map assigned c.args.after.now) (scene_seen c.args.scene.now c.args.open_loops.now)
    (scene_falls c.args.scene.now c.args.open_loops.now) (progress_seen c.args.s.now) (progress_seen c.turns.s) c.turns.invariant
    c.in-Err.fault c.in-Err.ensures

pub loops::turns-returns-in-Some : goal.loops::turns-returns-in-Some
loops::turns-returns-in-Some t c =
    let fits : SFits w32 c.in-Ok.value = search rules in
    turn_ends c.args.line (test_value (option_map (λ e. expression e.now) c.args.test) (scene_seen c.args.scene.now c.args.open_loops.now))
    (statements c.args.body.now) (option_map assigned c.args.after.now) (scene_seen c.args.scene.now c.args.open_loops.now)
    (scene_falls c.args.scene.now c.args.open_loops.now) (progress_seen c.args.s.now) (progress_seen c.turns.s) c.turns.invariant
    c.in-Ok.value (progress_seen c.turn.new.s) c.in_ok-ending.field-0 c.in-Some.ending
    fits c.in-Ok.ensures c.if-value-eq0.false c.in_ok-ending.ensures.means c.in-Some.is

pub loops::turns-turns-preserved : goal.loops::turns-turns-preserved
loops::turns-turns-preserved t c =
    let fits : SFits w32 c.in-Ok.value = search rules in
    loop_goes_on c.args.line (test_value (option_map (λ e. expression e.now) c.args.test) (scene_seen c.args.scene.now c.args.open_loops.now))
    (statements c.args.body.now) (option_map assigned c.args.after.now) (scene_seen c.args.scene.now c.args.open_loops.now)
    (scene_falls c.args.scene.now c.args.open_loops.now) (progress_seen c.args.s.now) (progress_seen c.turns.s) c.turns.invariant
    c.in-Ok.value (progress_seen c.turn.new.s) (progress_seen c.step.new.s) c.in_ok-ending.field-0 c.in_ok-ending-2.ending
    fits c.in-Ok.ensures c.if-value-eq0.false c.in_ok-ending.ensures.means c.in-None.is
    c.in_ok-ending-2.ensures c.in-WentOn.is

pub loops::for_loop-returns-in_ok-ending-in-WentOn : goal.loops::for_loop-returns-in_ok-ending-in-WentOn
loops::for_loop-returns-in_ok-ending-in-WentOn t c =
    for_looped c.args.line c.args.head.now c.items.result.now c.as_ref-test.result c.args.body.now
    (scene_seen c.args.scene.now c.args.open_loops.now) (progress_seen c.args.s.now)
    (progress_seen c.statements.new.s) (progress_seen c.turns.new.s) (progress_seen c.leave.new.s)
    c.in_ok-ending.ending c.in_ok-ending-in-WentOn.ending (length c.as_slice-depth.result.now)
    c.items.ensures c.as_ref-test.ensures.value
    (ap length c.as_slice-depth.ensures.value ∙ sym (length-visible c.args.s.now.locals.items))
    c.in_ok-ending.ensures c.in-WentOn.is c.in_ok-ending-in-WentOn.ensures c.leave.ensures

pub loops::for_loop-returns-in_default : goal.loops::for_loop-returns-in_default
loops::for_loop-returns-in_default t c =
    for_stopped c.args.line c.args.head.now c.items.result.now c.args.body.now
    (scene_seen c.args.scene.now c.args.open_loops.now) (progress_seen c.args.s.now)
    (progress_seen c.statements.new.s) (progress_seen c.leave-in_default.new.s) c.in_ok-ending.ending (length c.as_slice-depth.result.now)
    c.items.ensures
    (ap length c.as_slice-depth.ensures.value ∙ sym (length-visible c.args.s.now.locals.items))
    c.in_ok-ending.ensures c.in_default.not-WentOn c.leave-in_default.ensures

pub loops::do_loop-returns-in-None : goal.loops::do_loop-returns-in-None
loops::do_loop-returns-in-None t c =
    do_loops c.turns.result c.args.line (statements c.args.body.now) (expression c.args.test.now)
    (scene_seen c.args.scene.now c.args.open_loops.now) (progress_seen c.args.s.now) (progress_seen c.turn.new.s) (progress_seen c.turns.new.s)
    c.in_ok-turn.field-0 c.in_ok-turn.ensures.means c.in-None.is c.turns.ensures

pub loops::do_loop-returns-in-Some : goal.loops::do_loop-returns-in-Some
loops::do_loop-returns-in-Some t c =
    do_ends c.args.line (statements c.args.body.now) (expression c.args.test.now)
    (scene_seen c.args.scene.now c.args.open_loops.now) (progress_seen c.args.s.now) (progress_seen c.turn.new.s)
    c.in_ok-turn.field-0 c.in-Some.ending c.in_ok-turn.ensures.means c.in-Some.is

pub loops::message_loop-loop-row-preserved : goal.loops::message_loop-loop-row-preserved
loops::message_loop-loop-row-preserved t c =
    rows_go_on c.args.line c.args.body.now c.args.scene.now c.in-Some.message c.in-Some.rows.now c.loop-row.row-index
    c.row-item.result c.args.open_loops (loop_currents c.args.word.now (scene_seen c.args.scene.now c.args.open_loops.now)) (progress_seen c.args.s.now)
    (progress_seen c.loop-row.s) (progress_seen c.turn.new.s) c.in_ok-ending.field-0
    c.loop-row.invariant c.loop-row-test.true c.row-item.is c.in_ok-ending.ensures.means c.in-None.is

pub loops::message_loop-returns-in-Some-2 : goal.loops::message_loop-returns-in-Some-2
loops::message_loop-returns-in-Some-2 t c =
    row_ends c.args.line c.args.body.now c.args.scene.now c.in-Some.message c.in-Some.rows.now c.loop-row.row-index
    c.row-item.result c.args.open_loops (loop_currents c.args.word.now (scene_seen c.args.scene.now c.args.open_loops.now)) (progress_seen c.args.s.now)
    (progress_seen c.loop-row.s) (progress_seen c.turn.new.s) c.in_ok-ending.field-0
    c.loop-row.invariant c.loop-row-test.true c.row-item.is c.in_ok-ending.ensures.means c.in-Some-2.ending c.in-Some-2.is
