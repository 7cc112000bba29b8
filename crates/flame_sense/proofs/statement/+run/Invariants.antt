use denote.Param.Weighed.{most}
use Rattle.std.proofs.Common.{◌≡◌, ◌+◌, ◌*◌, max, drop, map, option_map}
use Rattle.flame_spec.specs.declared.trees.Arm.{size-Arm}
use Rattle.flame_spec.specs.declared.trees.Stmt.{size-Stmt}
use Rattle.flame_spec.specs.Seen.{expression, declared, assigned, statements, arms}
use Rattle.flame_meaning.specs.Ends.{End}
use Rattle.flame_meaning.specs.Scenes.{Progress}
use Rattle.flame_meaning.specs.Loops.{each_row}
use Rattle.flame_meaning.specs.Statements.{test_value, declarations, loop_currents, meanings, first_arm}
use Rattle.flame_sense.proofs.Runs.{over_row}
use Rattle.flame_sense.proofs.Turning.{stands_at}
use Rattle.flame_sense.specs.StandsFor.{scene_seen, progress_seen}
use Rattle.flame_sense.specs.Depths.{depth}
use Rattle.flame_sense.proofs.Levels.{levels}
use Rattle.flame_meaning.proofs.Turns.{whole}
use Rattle.flame_sense.proofs.statement.+run.Given as goal

abbrev pub invariant-statements-loop-one : goal.invariant-statements-loop-one
invariant-statements-loop-one l =
    meanings (statements l.body) (scene_seen l.scene l.open_loops) (progress_seen l.fn.s)
    ≡ meanings (statements (drop l.one-index l.body)) (scene_seen l.scene l.open_loops) (progress_seen l.s)

abbrev pub invariant-branch-loop-arm : goal.invariant-branch-loop-arm
invariant-branch-loop-arm l =
    (otherwise : Progress → End)
    → first_arm (arms l.arms) otherwise (scene_seen l.scene l.open_loops) (progress_seen l.fn.s)
    ≡ first_arm (arms (drop l.arm-index l.arms)) otherwise (scene_seen l.scene l.open_loops) (progress_seen l.s)

abbrev pub invariant-loops::message_loop-loop-row : goal.invariant-loops::message_loop-loop-row
invariant-loops::message_loop-loop-row l =
    each_row l.line (over_row l.body (scene_seen l.scene l.open_loops)) (loop_currents l.word (scene_seen l.scene l.open_loops))
    (progress_seen l.fn.s)
    ≡ each_row l.line (over_row l.body (scene_seen l.scene l.open_loops))
    (map (stands_at l.message) (drop l.row-index l.rows)) (progress_seen l.s)

abbrev pub invariant-loops::turns-turns : goal.invariant-loops::turns-turns
invariant-loops::turns-turns l =
    whole l.line (test_value (option_map (λ e. expression e.now) l.test) (scene_seen l.scene l.open_loops))
    (statements l.body) (option_map assigned l.after) (scene_seen l.scene l.open_loops) (progress_seen l.fn.s)
    ≡ whole l.line (test_value (option_map (λ e. expression e.now) l.test) (scene_seen l.scene l.open_loops))
    (statements l.body) (option_map assigned l.after) (scene_seen l.scene l.open_loops) (progress_seen l.s)

abbrev pub decreases-loops::turns-turns : goal.decreases-loops::turns-turns
decreases-loops::turns-turns l = l.s.fuel

abbrev pub invariant-assignments::declare-loop-item : goal.invariant-assignments::declare-loop-item
invariant-assignments::declare-loop-item l =
    declarations (map declared l.items) (scene_seen l.scene l.open_loops) (progress_seen l.fn.s)
    ≡ declarations (map declared (drop l.item-index l.items)) (scene_seen l.scene l.open_loops) (progress_seen l.s)

abbrev pub decreases-calls::call : goal.decreases-calls::call
decreases-calls::call l = levels l.scene.now.left l.scene.now.units.now

abbrev pub decreases-calls::helped : goal.decreases-calls::helped
decreases-calls::helped l = levels l.scene.now.left l.scene.now.units.now + 1

abbrev pub decreases-calls::done : goal.decreases-calls::done
decreases-calls::done l = levels l.scene.now.left l.scene.now.units.now + 1

abbrev pub decreases-assignments::stored_value : goal.decreases-assignments::stored_value
decreases-assignments::stored_value l = levels l.scene.now.left l.scene.now.units.now + 2

abbrev pub decreases-calls::call_statement : goal.decreases-calls::call_statement
decreases-calls::call_statement l = levels l.scene.now.left l.scene.now.units.now + 2

abbrev pub decreases-assignments::initial : goal.decreases-assignments::initial
decreases-assignments::initial l = levels l.scene.now.left l.scene.now.units.now + 3

abbrev pub decreases-assignments::name_set : goal.decreases-assignments::name_set
decreases-assignments::name_set l = levels l.scene.now.left l.scene.now.units.now + 3

abbrev pub decreases-assignments::name_changed : goal.decreases-assignments::name_changed
decreases-assignments::name_changed l = levels l.scene.now.left l.scene.now.units.now + 3

abbrev pub decreases-assignments::element_set : goal.decreases-assignments::element_set
decreases-assignments::element_set l = levels l.scene.now.left l.scene.now.units.now + 3

abbrev pub decreases-assignments::element_changed : goal.decreases-assignments::element_changed
decreases-assignments::element_changed l = levels l.scene.now.left l.scene.now.units.now + 3

abbrev pub decreases-assignments::declare : goal.decreases-assignments::declare
decreases-assignments::declare l = levels l.scene.now.left l.scene.now.units.now + 4

abbrev pub decreases-assignments::assign : goal.decreases-assignments::assign
decreases-assignments::assign l = levels l.scene.now.left l.scene.now.units.now + 4

abbrev pub decreases-loops::step : goal.decreases-loops::step
decreases-loops::step l = levels l.scene.now.left l.scene.now.units.now + 5

abbrev pub decreases-statement : goal.decreases-statement
decreases-statement l = levels l.scene.now.left l.scene.now.units.now + (8 * size-Stmt l.statement.now + 6)

abbrev pub decreases-statements : goal.decreases-statements
decreases-statements l = levels l.scene.now.left l.scene.now.units.now + (8 * depth l.body.now + 7)

abbrev pub decreases-branch : goal.decreases-branch
decreases-branch l = levels l.scene.now.left l.scene.now.units.now + (8 * most size-Arm l.arms.now + 7)

abbrev pub decreases-block : goal.decreases-block
decreases-block l = levels l.scene.now.left l.scene.now.units.now + (8 * depth l.body.now + 8)

abbrev pub decreases-loops::turn : goal.decreases-loops::turn
decreases-loops::turn l = levels l.scene.now.left l.scene.now.units.now + (8 * depth l.body.now + 9)

abbrev pub decreases-loops::turns : goal.decreases-loops::turns
decreases-loops::turns l = levels l.scene.now.left l.scene.now.units.now + (8 * depth l.body.now + 10)

abbrev pub decreases-loops::message_loop : goal.decreases-loops::message_loop
decreases-loops::message_loop l = levels l.scene.now.left l.scene.now.units.now + (8 * depth l.body.now + 10)

abbrev pub decreases-loops::do_loop : goal.decreases-loops::do_loop
decreases-loops::do_loop l = levels l.scene.now.left l.scene.now.units.now + (8 * depth l.body.now + 11)

abbrev pub decreases-loops::for_loop : goal.decreases-loops::for_loop
decreases-loops::for_loop l = levels l.scene.now.left l.scene.now.units.now + (8 * max (depth l.head.now.first) (depth l.body.now) + 12)
