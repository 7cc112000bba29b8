use Rattle.std.proofs.Common.{◌≡◌, ◌+◌, ◌∙◌, ap, sym, refl, arith, drop, map, List}
use Rattle.flame_body.specs.declared.slots.SlotArm.{SlotArm}
use Rattle.flame_body.specs.declared.slots.SlotStmt.{SlotStmt}
use Rattle.flame_compile.specs.Pieces.{Piece, going, written}
use Rattle.flame_compile.specs.Emit.{expression, arm, head, arm_piece, arms_code, if_block, while_block, for_block, do_block, statement, statements}
use Rattle.flame_compile.proofs.Blocks.{arm_written, if_written, while_written, for_written, do_written, loop_written}
use Rattle.flame_compile.proofs.Forms.{statement-Empty, statement-If, statement-While, statement-For, statement-Do}
use Rattle.flame_compile.proofs.Writing.{written_none, written_more, written_done}
use Rattle.flame_compile.proofs.statement.+write_statement.Goals as goal

pub write_block-loop-statement-preserved : goal.write_block-loop-statement-preserved
write_block-loop-statement-preserved t c =
    let leave = c.args.leave in
    let again = c.args.again in
    let block : List SlotStmt → Piece = λ l. going leave again (statements l) in
    ap (written (block (drop (c.loop-statement.statement-index + 1) c.args.body.now))) c.in_ok-write_statement.ensures
    ∙ sym (written_more block (λ s. going leave again (statement s)) (λ x xs. refl) c.args.body.now
    c.loop-statement.statement-index c.statement-item.result c.loop-statement.out.items c.loop-statement-test.true
    c.statement-item.is)
    ∙ c.loop-statement.invariant

pub write_block-returns : goal.write_block-returns
write_block-returns t c =
    let block : List SlotStmt → Piece = λ l. going c.args.leave c.args.again (statements l) in
    written_done block refl c.args.body.now c.loop-statement.statement-index c.loop-statement.out.items (omega arith)
    ∙ c.loop-statement.invariant

pub write_arms-loop-arm-preserved : goal.write_arms-loop-arm-preserved
write_arms-loop-arm-preserved t c =
    let leave = c.args.leave in
    let again = c.args.again in
    let end = c.args.end in
    let pieces : List SlotArm → Piece = λ l. arms_code (map arm l) leave again end in
    ap (written (pieces (drop (c.loop-arm.arm-index + 1) c.args.arms.now))) c.in_ok-write_arm.ensures
    ∙ sym (written_more pieces (λ a. arm_piece (arm a) leave again end) (λ x xs. refl) c.args.arms.now
    c.loop-arm.arm-index c.arm-item.result c.loop-arm.out.items c.loop-arm-test.true c.arm-item.is)
    ∙ c.loop-arm.invariant

pub write_arms-returns : goal.write_arms-returns
write_arms-returns t c =
    let pieces : List SlotArm → Piece = λ l. arms_code (map arm l) c.args.leave c.args.again c.args.end in
    written_done pieces refl c.args.arms.now c.loop-arm.arm-index c.loop-arm.out.items (omega arith)
    ∙ c.loop-arm.invariant

pub write_arm-returns : goal.write_arm-returns
write_arm-returns t c =
    arm_written (arm c.args.arm.now) c.args.leave c.args.again c.in_ok-next.next c.args.end _ _ _ _ _
    (omega (arith, c.in_ok-here.ensures, c.in_ok-arm_size.ensures, c.in_ok-next.ensures))
    c.in_ok-write_expression.ensures c.in_ok-put.ensures
    (c.in_ok-write_block.ensures
    ∙ ap (λ b. written (going c.args.leave c.args.again (statements b)) c.put.new.out.items) c.items.ensures)
    c.in_ok-put-2.ensures

pub write_while-returns : goal.write_while-returns
write_while-returns t c =
    while_written c.args.line (expression c.args.test.now) (statements c.args.body.now) 0 0
    c.in_ok-turn.turn c.in_ok-check.check c.in_ok-end.end _ _ _ _ _ _
    (omega (arith, c.in_ok-start.ensures, c.in_ok-turn.ensures))
    (omega (arith, c.in_ok-start.ensures, c.in_ok-block_size.ensures, c.in_ok-check.ensures))
    (omega (arith, c.in_ok-start.ensures, c.in_ok-block_size.ensures, c.in_ok-check.ensures, c.in_ok-expression_size.ensures, c.in_ok-end.ensures))
    c.in_ok-put.ensures c.in_ok-put-2.ensures c.in_ok-write_block.ensures c.in_ok-write_expression.ensures
    c.in_ok-put-3.ensures

pub write_do-returns : goal.write_do-returns
write_do-returns t c =
    do_written c.args.line (statements c.args.body.now) (expression c.args.test.now) 0 0
    c.in_ok-turn.turn c.in_ok-check.check c.in_ok-end.end _ _ _ _ _
    (omega (arith, c.in_ok-turn.ensures))
    (omega (arith, c.in_ok-turn.ensures, c.in_ok-block_size.ensures, c.in_ok-check.ensures))
    (omega (arith, c.in_ok-turn.ensures, c.in_ok-block_size.ensures, c.in_ok-check.ensures, c.in_ok-expression_size.ensures, c.in_ok-end.ensures))
    c.in_ok-put.ensures c.in_ok-write_block.ensures c.in_ok-write_expression.ensures c.in_ok-put-2.ensures

pub write_loop-returns : goal.write_loop-returns
write_loop-returns t c =
    loop_written c.args.line c.args.input (statements c.args.body.now) 0 0 c.in_ok-turn.turn c.in_ok-end.end _ _ _ _ _ _
    (omega (arith, c.in_ok-here.ensures, c.in_ok-turn.ensures))
    (omega (arith, c.in_ok-here.ensures, c.in_ok-turn.ensures, c.in_ok-block_size.ensures, c.in_ok-end.ensures))
    c.in_ok-put.ensures c.in_ok-put-2.ensures c.in_ok-write_block.ensures c.in_ok-put-3.ensures c.in_ok-put-4.ensures

pub write_statement-returns-in-Empty : goal.write_statement-returns-in-Empty
write_statement-returns-in-Empty t c =
    written_none c.args.out.now.items
    ∙ sym (ap (λ b. written (going c.args.leave c.args.again b) c.args.out.now.items)
    (ap statement c.in-Empty.is ∙ statement-Empty))

pub write_statement-returns-in_ok-write_block-in-If : goal.write_statement-returns-in_ok-write_block-in-If
write_statement-returns-in_ok-write_block-in-If t c =
    let old = c.args.out.now.items in
    let leave = c.args.leave in
    let again = c.args.again in
    let arms = c.items-arms.result.now in
    let otherwise = c.items-otherwise.result.now in
    if_written (map arm arms) (statements otherwise) leave again c.in_ok-end-in-If.end _ _ _
    (omega (arith, c.in_ok-here-in-If.ensures, c.in_ok-arms_size-in-If.ensures, c.in_ok-block_size-in-If.ensures, c.in_ok-end-in-If.ensures))
    c.in_ok-write_arms-in-If.ensures c.in_ok-write_block-in-If.ensures
    ∙ ap (λ l. written (going leave again (if_block (map arm l) (statements otherwise))) old) c.items-arms.ensures
    ∙ ap (λ l. written (going leave again (if_block (map arm c.in-If.arms) (statements l))) old) c.items-otherwise.ensures
    ∙ sym (ap (λ b. written (going leave again b) old) (ap statement c.in-If.is ∙ statement-If c.in-If.arms c.in-If.otherwise))

pub write_statement-returns-in_ok-write_while-in-While : goal.write_statement-returns-in_ok-write_while-in-While
write_statement-returns-in_ok-write_while-in-While t c =
    let old = c.args.out.now.items in
    let leave = c.args.leave in
    let again = c.args.again in
    let line = c.in-While.line in
    let test = expression c.in-While.test in
    c.in_ok-write_while-in-While.ensures
    ∙ ap (λ l. written (going leave again (while_block line test (statements l))) old) c.items-in-While.ensures
    ∙ sym (ap (λ b. written (going leave again b) old)
    (ap statement c.in-While.is ∙ statement-While line c.in-While.test c.in-While.body))

pub write_statement-returns-in_ok-write_do-in-Do : goal.write_statement-returns-in_ok-write_do-in-Do
write_statement-returns-in_ok-write_do-in-Do t c =
    let old = c.args.out.now.items in
    let leave = c.args.leave in
    let again = c.args.again in
    let line = c.in-Do.line in
    let test = expression c.in-Do.test in
    c.in_ok-write_do-in-Do.ensures
    ∙ ap (λ l. written (going leave again (do_block line (statements l) test)) old) c.items-in-Do.ensures
    ∙ sym (ap (λ b. written (going leave again b) old)
    (ap statement c.in-Do.is ∙ statement-Do line c.in-Do.body c.in-Do.test))

pub write_statement-returns-in_ok-put-in-For-3 : goal.write_statement-returns-in_ok-put-in-For-3
write_statement-returns-in_ok-put-in-For-3 t c =
    let old = c.args.out.now.items in
    let leave = c.args.leave in
    let again = c.args.again in
    let line = c.in-For.line in
    let h = c.get-head.result.now in
    let body = c.items-body.result.now in
    let first : c.in_ok-block_size-in-For.field-0 ≡ (statements h.first).size =
    c.in_ok-block_size-in-For.ensures ∙ ap (λ l. (statements l).size) c.items-in-For.ensures in
    for_written line (head h) (statements body) leave again c.in_ok-turn-in-For.turn c.in_ok-step-in-For.step
    c.in_ok-test-in-For.test c.in_ok-end-in-For.end _ _ _ _ _ _ _ _
    (omega (arith, first, c.in_ok-here-in-For.ensures, c.in_ok-start-in-For.ensures, c.in_ok-turn-in-For.ensures))
    (omega (arith, first, c.in_ok-here-in-For.ensures, c.in_ok-start-in-For.ensures, c.in_ok-block_size-in-For-2.ensures, c.in_ok-step-in-For.ensures))
    (omega (
      arith,
      first,
      c.in_ok-here-in-For.ensures,
      c.in_ok-start-in-For.ensures,
      c.in_ok-block_size-in-For-2.ensures,
      c.in_ok-step-in-For.ensures,
      c.in_ok-step_size-in-For.ensures,
      c.in_ok-test-in-For.ensures,
    ))
    (omega (
      arith,
      first,
      c.in_ok-here-in-For.ensures,
      c.in_ok-start-in-For.ensures,
      c.in_ok-block_size-in-For-2.ensures,
      c.in_ok-step-in-For.ensures,
      c.in_ok-step_size-in-For.ensures,
      c.in_ok-test-in-For.ensures,
      c.in_ok-test_size-in-For.ensures,
      c.in_ok-end-in-For.ensures,
    ))
    (c.in_ok-write_block-in-For.ensures ∙ ap (λ l. written (going leave again (statements l)) old) c.items-in-For-2.ensures)
    c.in_ok-put-in-For.ensures c.in_ok-put-in-For-2.ensures c.in_ok-write_block-in-For-2.ensures
    c.in_ok-write_step-in-For.ensures c.in_ok-write_test-in-For.ensures c.in_ok-put-in-For-3.ensures
    ∙ ap (λ x. written (going leave again (for_block line (head x) (statements body))) old) c.get-head.ensures
    ∙ ap (λ l. written (going leave again (for_block line (head c.in-For.head) (statements l))) old) c.items-body.ensures
    ∙ sym (ap (λ b. written (going leave again b) old)
    (ap statement c.in-For.is ∙ statement-For line c.in-For.head c.in-For.body))
