-- Each way that the reader returns, by the parts that it read.
use Rattle.std.proofs.Common.{◌+◌, [], ◌∷◌, drop, sym, refl, ap, ◌∙◌}
use Rattle.flame_spec.specs.Seen.{indexed}
use Rattle.flame_spec.proofs.SeenForms.{expression-Number}
use Rattle.flame_expr.specs.Lexemes.{first}
use Rattle.flame_expr.specs.OperatorLevels.{joins, joins_index}
use Rattle.flame_expr.specs.ViablePrefixes.{a_place, form, an_assign}
use Rattle.flame_expr.proofs.Ends.{stops_by, one_stopped, here_stopped, begin_ended, begin_stopped, ended_weaker, stopped_weaker}
use Rattle.flame_expr.proofs.Readings.{unlike}
use Rattle.flame_parse.specs.AssignmentOperators.{step_op}
use Rattle.flame_parse.proofs.Beginnings as begin
use Rattle.std.specs.Prelude.{option_map}
use Rattle.flame_parse.proofs.Assigns.{step_before_read}
use Rattle.flame_parse.proofs.simple.assign.Goals as goal

pub returns-in_err-name-clause-stopped : goal.returns-in_err-name-clause-stopped
returns-in_err-name-clause-stopped c =
    let s = ap step_op (sym c.lexeme_at.ensures) ∙ sym c.in-Some.ensures in
    let b = begin.begins_step (first (drop c.args.at c.args.tokens.now)) c.in-Some.op s in
    stops_by _ _ c.from_residual.ensures.1
    (λ n h. begin_stopped (joins 6) (form an_assign ∷ []) (form a_place ∷ []) c.args.tokens.now c.args.at n
    (first (drop c.args.at c.args.tokens.now)) b.0 b.1 b.2 refl
    (stopped_weaker joins_index (joins 6) (form a_place ∷ []) c.args.tokens.now (c.args.at + 1) n refl h))
    c.in_err-name.ensures.stopped

pub returns-in-Some-clause-ended : goal.returns-in-Some-clause-ended
returns-in-Some-clause-ended c =
    let s = ap step_op (sym c.lexeme_at.ensures) ∙ sym c.in-Some.ensures in
    let b = begin.begins_step (first (drop c.args.at c.args.tokens.now)) c.in-Some.op s in
    begin_ended (joins 6) (form an_assign ∷ []) (form a_place ∷ []) c.args.tokens.now c.args.at c.in_ok-name.end
    (first (drop c.args.at c.args.tokens.now)) b.0 b.1 b.2 refl
    (ended_weaker joins_index (joins 6) (form a_place ∷ []) c.args.tokens.now (c.args.at + 1) c.in_ok-name.end refl c.in_ok-name.ensures.ended)

pub returns-in-Some-clause-tree : goal.returns-in-Some-clause-tree
returns-in-Some-clause-tree c =
    let s = ap step_op (sym c.lexeme_at.ensures) ∙ sym c.in-Some.ensures in
    rw (expression-Number _, c.line_at.ensures, c.line_at-in-Some.ensures)
    (step_before_read c.args.tokens.now c.args.at c.in_ok-name.name (option_map indexed c.in_ok-name.subscript) c.in-Some.op
    (drop c.in_ok-name.end c.args.tokens.now) s c.in_ok-name.ensures.tree)

pub returns-in_default-lexeme_at : goal.returns-in_default-lexeme_at
returns-in_default-lexeme_at c = record {
  tree = tt;
  ended = tt;
  ahead = tt;
  stopped = rw c.syntax.ensures
      (one_stopped
      (here_stopped (joins 6) (form an_assign ∷ []) [] c.args.tokens.now c.args.at c.requires.within
      (begin.no_assign (first (drop c.args.at c.args.tokens.now)) (ap step_op (sym c.lexeme_at.ensures) ∙ sym c.in_default.ensures)
      (unlike c.lexeme_at-2.ensures c.in_default-lexeme_at.not-Word))));
}

pub returns-in_err-assign-clause-stopped : goal.returns-in_err-assign-clause-stopped
returns-in_err-assign-clause-stopped c = stops_by _ _ c.from_residual-in_err-assign.ensures.1 (λ n h. h) c.in_err-assign.ensures.stopped

pub returns-clause-tree : goal.returns-clause-tree
returns-clause-tree c = c.in_ok-assign.ensures.tree

pub returns-clause-ended : goal.returns-clause-ended
returns-clause-ended c = c.in_ok-assign.ensures.ended
