use Rattle.std.proofs.Common.{◌+◌, ◌∙◌, ap, sym, refl, arith, drop, map, List}
use Rattle.std.specs.Prelude.{pos}
use Rattle.flame_body.specs.declared.slots.SlotExpr.{SlotExpr}
use Rattle.flame_body.specs.declared.slots.SlotLink.{SlotLink}
use Rattle.flame_code.specs.declared.instrs.Instr.TheVariants.{JumpZero, JumpNotZero, MemAt, FieldAt}
use Rattle.flame_compile.specs.Pieces.{Piece, row, one, both, in_order, written}
use Rattle.flame_compile.specs.Emit.{signs_code, tested, expression, link}
use Rattle.flame_compile.proofs.Forms.{expression-At, expression-FieldAt, expression-Unary, expression-Chain, expression-All, expression-Any}
use Rattle.flame_compile.proofs.Writing.{two_written, written_more, written_done, choice_written}
use Rattle.flame_compile.proofs.expression.+write_expression.Goals as goal

pub write_expression-returns-in_ok-put-in-At : goal.write_expression-returns-in_ok-put-in-At
write_expression-returns-in_ok-put-in-At t c =
    let place = c.in-At.place in
    let cells = c.in-At.cells in
    two_written (expression c.get.result.now) (one (MemAt place.line cells.column cells.length)) (expression c.args.e.now)
    _ _ _ c.in_ok-write_expression-in-At.ensures c.in_ok-put-in-At.ensures
    (ap (λ e. both (expression e) (one (MemAt place.line cells.column cells.length))) c.get.ensures
    ∙ sym (ap expression c.in-At.is ∙ expression-At cells place))

pub write_expression-returns-in_ok-put-in-FieldAt : goal.write_expression-returns-in_ok-put-in-FieldAt
write_expression-returns-in_ok-put-in-FieldAt t c =
    let place = c.in-FieldAt.place in
    let input = c.in-FieldAt.input in
    let cells = c.in-FieldAt.cells in
    two_written (expression c.get-in-FieldAt.result.now) (one (FieldAt place.line input cells.column cells.length))
    (expression c.args.e.now) _ _ _ c.in_ok-write_expression-in-FieldAt.ensures c.in_ok-put-in-FieldAt.ensures
    (ap (λ e. both (expression e) (one (FieldAt place.line input cells.column cells.length))) c.get-in-FieldAt.ensures
    ∙ sym (ap expression c.in-FieldAt.is ∙ expression-FieldAt input cells place))

pub write_expression-returns-in_ok-write_signs-in-Unary : goal.write_expression-returns-in_ok-write_signs-in-Unary
write_expression-returns-in_ok-write_signs-in-Unary t c =
    two_written (expression c.get-in-Unary.result.now) (row (signs_code c.items.result.now)) (expression c.args.e.now) _ _ _
    c.in_ok-write_expression-in-Unary.ensures c.in_ok-write_signs-in-Unary.ensures
    (ap (λ l. both (expression c.get-in-Unary.result.now) (row (signs_code l))) c.items.ensures
    ∙ ap (λ e. both (expression e) (row (signs_code c.in-Unary.signs))) c.get-in-Unary.ensures
    ∙ sym (ap expression c.in-Unary.is ∙ expression-Unary c.in-Unary.signs c.in-Unary.e))

pub write_expression-returns-in_ok-write_links-in-Chain : goal.write_expression-returns-in_ok-write_links-in-Chain
write_expression-returns-in_ok-write_links-in-Chain t c =
    two_written (expression c.get-in-Chain.result.now) (in_order (map link c.items-in-Chain.result.now))
    (expression c.args.e.now) _ _ _ c.in_ok-write_expression-in-Chain.ensures c.in_ok-write_links-in-Chain.ensures
    (ap (λ l. both (expression c.get-in-Chain.result.now) (in_order (map link l))) c.items-in-Chain.ensures
    ∙ ap (λ e. both (expression e) (in_order (map link c.in-Chain.links))) c.get-in-Chain.ensures
    ∙ sym (ap expression c.in-Chain.is ∙ expression-Chain c.in-Chain.e c.in-Chain.links))

pub write_links-loop-link-preserved : goal.write_links-loop-link-preserved
write_links-loop-link-preserved t c =
    let links : List SlotLink → Piece = λ l. in_order (map link l) in
    let item = c.link-item.result in
    ap (written (links (drop (c.loop-link.link-index + 1) c.args.links.now)))
    (two_written (expression item.right) (one c.operator.result) (link item) _ _ _
    c.in_ok-write_expression.ensures c.in_ok-put.ensures (ap (λ i. both (expression item.right) (one i)) c.operator.ensures))
    ∙ sym (written_more links link (λ x xs. refl) c.args.links.now c.loop-link.link-index item c.loop-link.out.items
    c.loop-link-test.true c.link-item.is)
    ∙ c.loop-link.invariant

pub write_links-returns : goal.write_links-returns
write_links-returns t c =
    let links : List SlotLink → Piece = λ l. in_order (map link l) in
    written_done links refl c.args.links.now c.loop-link.link-index c.loop-link.out.items (omega arith)
    ∙ c.loop-link.invariant

pub write_tested-loop-part-preserved : goal.write_tested-loop-part-preserved
write_tested-loop-part-preserved t c =
    let parts : List SlotExpr → Piece = λ l. tested c.args.jump (map expression l) in
    let item = c.part-item.result in
    ap (written (parts (drop (c.loop-part.part-index + 1) c.args.parts.now)))
    (two_written (expression item) (one c.args.jump) (both (expression item) (one c.args.jump)) _ _ _
    c.in_ok-write_expression.ensures c.in_ok-put.ensures refl)
    ∙ sym (written_more parts (λ e. both (expression e) (one c.args.jump)) (λ x xs. refl) c.args.parts.now
    c.loop-part.part-index item c.loop-part.out.items c.loop-part-test.true c.part-item.is)
    ∙ c.loop-part.invariant

pub write_tested-returns : goal.write_tested-returns
write_tested-returns t c =
    let parts : List SlotExpr → Piece = λ l. tested c.args.jump (map expression l) in
    written_done parts refl c.args.parts.now c.loop-part.part-index c.loop-part.out.items (omega arith)
    ∙ c.loop-part.invariant

pub write_all-returns : goal.write_all-returns
write_all-returns t c =
    choice_written JumpZero (pos 1) (pos 0) (map expression c.args.parts.now) c.in_ok-fails.fails c.in_ok-end.end _ _ _ _ _
    (omega (arith, c.in_ok-here.ensures, c.in_ok-tested_size.ensures, c.in_ok-behind.ensures, c.in_ok-fails.ensures))
    (omega (arith, c.in_ok-here.ensures, c.in_ok-tested_size.ensures, c.in_ok-behind.ensures, c.in_ok-end.ensures))
    c.in_ok-write_tested.ensures c.in_ok-put.ensures c.in_ok-put-2.ensures c.in_ok-put-3.ensures
    ∙ ap (λ x. written x c.args.out.now.items) (sym (expression-All c.args.parts.now))

pub write_any-returns : goal.write_any-returns
write_any-returns t c =
    choice_written JumpNotZero (pos 0) (pos 1) (map expression c.args.parts.now) c.in_ok-holds.holds c.in_ok-end.end _ _ _ _ _
    (omega (arith, c.in_ok-here.ensures, c.in_ok-tested_size.ensures, c.in_ok-behind.ensures, c.in_ok-holds.ensures))
    (omega (arith, c.in_ok-here.ensures, c.in_ok-tested_size.ensures, c.in_ok-behind.ensures, c.in_ok-end.ensures))
    c.in_ok-write_tested.ensures c.in_ok-put.ensures c.in_ok-put-2.ensures c.in_ok-put-3.ensures
    ∙ ap (λ x. written x c.args.out.now.items) (sym (expression-Any c.args.parts.now))
