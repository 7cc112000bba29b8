-- Each way that the reader returns, by the parts that it read.
use Rattle.std.proofs.Common.{◌+◌, [], ◌∷◌, drop, sym, refl, ap, subst, ◌∙◌, arith}
use Rattle.flame_spec.specs.Seen.{indexed, stored}
use Rattle.flame_spec.proofs.SeenForms.{expression-Number}
use Rattle.flame_expr.specs.Lexemes.{first}
use Rattle.flame_expr.specs.OperatorLevels.{joins}
use Rattle.flame_expr.specs.ViablePrefixes.{a_value, a_place, index, parameter, more_parameters, parameters, form, lexeme, both, maybe, either, many, one_of, expr, more_args, more_items, else_ifs, else_body, an_item, an_assign, a_decl, a_simple, some_args, a_stmt, a_block, a_body, a_def, a_unit}
use Rattle.flame_expr.specs.ViablePrefixes as steps
use Rattle.flame_expr.proofs.Places.{there}
use Rattle.flame_expr.proofs.Ends.{EndedAny, StoppedAny, stops_by, any_ended, any_stopped, here_stopped, enter_ended, enter_stopped, nothing_ended}
use Rattle.flame_parse.specs.AssignmentOperators.{set_op, step_op}
use Rattle.flame_parse.proofs.Beginnings as begin
use Rattle.std.specs.Prelude.{option_map}
use Rattle.flame_parse.proofs.Values as values
use Rattle.flame_parse.proofs.Assigns.{sets_read, step_behind_read}
use Rattle.flame_parse.proofs.simple.place_assign.Goals as goal

pub returns-in_err-name-clause-stopped : goal.returns-in_err-name-clause-stopped
returns-in_err-name-clause-stopped c = stops_by _ _ c.from_residual.ensures.1 (λ n h. values.assign_place_stopped c.args.tokens.now c.args.at n c.requires.begun h) c.in_err-name.ensures.stopped

pub returns-in-Some-clause-ended : goal.returns-in-Some-clause-ended
returns-in-Some-clause-ended c =
    let mid = c.in_ok-name.mid in
    let s = ap step_op (sym c.lexeme_at.ensures) ∙ sym c.in-Some.ensures in
    let b = begin.steps_by (first (drop mid c.args.tokens.now)) c.in-Some.op s in
    let l = there c.args.tokens.now mid (first (drop mid c.args.tokens.now)) refl b.0 in
    values.assign_ended c.args.tokens.now c.args.at mid (mid + 1) c.requires.begun c.in_ok-name.ensures.ended
    (enter_ended (joins 6) begin.operations c.args.tokens.now mid (mid + 1) (first (drop mid c.args.tokens.now)) b.0 b.1 refl
    (subst (λ B. EndedAny (joins 6) B c.args.tokens.now (mid + 1) (mid + 1)) (sym b.2)
    (any_ended (nothing_ended (joins 6) c.args.tokens.now (mid + 1) (omega (arith, l))))))

pub returns-in-Some-clause-tree : goal.returns-in-Some-clause-tree
returns-in-Some-clause-tree c =
    let s = ap step_op (sym c.lexeme_at.ensures) ∙ sym c.in-Some.ensures in
    rw (expression-Number _, c.line_at-line.ensures, c.line_at-op_line.ensures)
    (step_behind_read c.args.tokens.now c.args.at c.in_ok-name.mid c.in_ok-name.name (option_map indexed c.in_ok-name.subscript) c.in-Some.op
    c.in_ok-name.ensures.tree s)

pub returns-in_default-set_operator-clause-stopped : goal.returns-in_default-set_operator-clause-stopped
returns-in_default-set_operator-clause-stopped c =
    let mid = c.in_ok-name.mid in
    rw c.syntax.ensures
    (values.assign_stopped c.args.tokens.now c.args.at mid mid c.requires.begun c.in_ok-name.ensures.ended
    (here_stopped (joins 6) (one_of steps.setters ∷ form a_value ∷ []) ((one_of steps.steppers ∷ []) ∷ []) c.args.tokens.now mid
    c.in_ok-name.ensures.ended.within
    (begin.no_operation (first (drop mid c.args.tokens.now)) (ap set_op (sym c.lexeme_at-2.ensures) ∙ sym c.in_default-set_operator.ensures)
    (ap step_op (sym c.lexeme_at.ensures) ∙ sym c.in_default.ensures))))

pub returns-in_err-value-clause-stopped : goal.returns-in_err-value-clause-stopped
returns-in_err-value-clause-stopped c =
    let mid = c.in_ok-name.mid in
    let s = ap set_op (sym c.lexeme_at-2.ensures) ∙ sym c.in-Some-set_operator.ensures in
    let b = begin.sets_by (first (drop mid c.args.tokens.now)) c.in-Some-set_operator.op s in
    stops_by _ _ c.from_residual-in_err-value.ensures.1
    (λ n h. values.assign_stopped c.args.tokens.now c.args.at mid n c.requires.begun c.in_ok-name.ensures.ended
    (enter_stopped (joins 6) begin.operations c.args.tokens.now mid n (first (drop mid c.args.tokens.now)) b.0 b.1 refl
    (subst (λ B. StoppedAny (joins 6) B c.args.tokens.now (mid + 1) n) (sym b.2) (any_stopped h))))
    c.in_err-value.ensures.stopped

pub returns-clause-ended : goal.returns-clause-ended
returns-clause-ended c =
    let mid = c.in_ok-name.mid in
    let s = ap set_op (sym c.lexeme_at-2.ensures) ∙ sym c.in-Some-set_operator.ensures in
    let b = begin.sets_by (first (drop mid c.args.tokens.now)) c.in-Some-set_operator.op s in
    values.assign_ended c.args.tokens.now c.args.at mid c.in_ok-value.end c.requires.begun c.in_ok-name.ensures.ended
    (enter_ended (joins 6) begin.operations c.args.tokens.now mid c.in_ok-value.end (first (drop mid c.args.tokens.now)) b.0 b.1 refl
    (subst (λ B. EndedAny (joins 6) B c.args.tokens.now (mid + 1) c.in_ok-value.end) (sym b.2) (any_ended c.in_ok-value.ensures.ended)))

pub returns-clause-tree : goal.returns-clause-tree
returns-clause-tree c =
    let s = ap set_op (sym c.lexeme_at-2.ensures) ∙ sym c.in-Some-set_operator.ensures in
    rw (c.line_at-line.ensures, c.line_at-op_line.ensures)
    (sets_read c.args.tokens.now c.args.at c.in_ok-name.mid c.in_ok-value.end c.in_ok-name.name (option_map indexed c.in_ok-name.subscript)
    c.in-Some-set_operator.op (stored c.in_ok-value.value) c.in_ok-name.ensures.tree s c.in_ok-value.ensures.tree)
