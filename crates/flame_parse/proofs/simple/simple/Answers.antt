-- Each way that the reader returns, by the parts that it read.
use Rattle.std.proofs.Common.{◌+◌, [], ◌∷◌, drop, sym, refl, arith}
use Rattle.flame_spec.specs.Seen.{expression}
use Rattle.flame_spec.proofs.SeenForms.{statement-Empty, statement-Assign, statement-Return, statement-Break, statement-Continue}
use Rattle.flame_expr.specs.declared.lexemes.Lexeme.TheVariants.{Semicolon, Return, Break, Continue}
use Rattle.flame_expr.specs.Lexemes.{first}
use Rattle.flame_expr.specs.OperatorLevels.{joins}
use Rattle.flame_expr.specs.ExpressionGrammar.{Reads}
use Rattle.flame_expr.specs.ViablePrefixes.{form, lexeme, expr, an_assign, a_simple}
use Rattle.flame_expr.proofs.Places.{there}
use Rattle.flame_expr.proofs.Ends.{stops_by, any_ended, one_ended, any_stopped, one_stopped, begin_ended, begin_stopped, ended_then, stopped_then, stopped_before, nothing_ended}
use Rattle.flame_expr.proofs.Readings.{at_next, unlike}
use Rattle.flame_parse.specs.StatementGrammar as grammar
use Rattle.flame_expr.proofs.Likeness.{alike_ended, alike_stopped}
use Rattle.flame_parse.proofs.Beginnings as begin
use Rattle.flame_parse.proofs.Runs.{end_of}
use Rattle.flame_parse.proofs.Assigns.{breaking_read, continuing_read}
use Rattle.std.proofs.lemmas.Result.{err_from_is_err_and}
use Rattle.flame_parse.proofs.simple.simple.Goals as goal

pub returns-in_err-value-in-Return-clause-stopped : goal.returns-in_err-value-in-Return-clause-stopped
returns-in_err-value-in-Return-clause-stopped c =
    stops_by _ _ c.from_residual.ensures.1
    (λ n h. begin_stopped [] (form a_simple ∷ []) (expr ∷ lexeme Semicolon ∷ []) c.args.tokens.now c.args.at n Return refl refl refl
    (sym c.in-Return.ensures) (stopped_before (joins 6) [] (expr ∷ []) (lexeme Semicolon ∷ []) c.args.tokens.now (c.args.at + 1) n refl h))
    c.in_err-value-in-Return.ensures.stopped

pub returns-in_err-end-in-Return-clause-stopped : goal.returns-in_err-end-in-Return-clause-stopped
returns-in_err-end-in-Return-clause-stopped c =
    stops_by _ _ c.from_residual-in_err-end-in-Return.ensures.1
    (λ n h. begin_stopped [] (form a_simple ∷ []) (expr ∷ lexeme Semicolon ∷ []) c.args.tokens.now c.args.at n Return refl refl refl
    (sym c.in-Return.ensures)
    (stopped_then (joins 6) [] (expr ∷ []) (lexeme Semicolon ∷ []) c.args.tokens.now (c.args.at + 1) c.in_ok-value-in-Return.mid n refl
    c.in_ok-value-in-Return.ensures.ended h))
    c.in_err-end-in-Return.ensures.stopped

pub returns-in_ok-end-in-Return-clause-ended : goal.returns-in_ok-end-in-Return-clause-ended
returns-in_ok-end-in-Return-clause-ended c =
    begin_ended [] (form a_simple ∷ []) (expr ∷ lexeme Semicolon ∷ []) c.args.tokens.now c.args.at c.in_ok-end-in-Return.end Return refl refl refl
    (sym c.in-Return.ensures)
    (ended_then (joins 6) [] (expr ∷ []) (lexeme Semicolon ∷ []) c.args.tokens.now (c.args.at + 1) c.in_ok-value-in-Return.mid
    c.in_ok-end-in-Return.end refl c.in_ok-value-in-Return.ensures.ended c.in_ok-end-in-Return.ensures.ended)

pub returns-in_ok-end-in-Return-clause-tree : goal.returns-in_ok-end-in-Return-clause-tree
returns-in_ok-end-in-Return-clause-tree c =
    rw (statement-Return _)
    (end_of (grammar.Simple (drop c.args.at c.args.tokens.now) _) c.args.tokens.now c.in_ok-value-in-Return.mid c.in_ok-end-in-Return.end
    c.in_ok-end-in-Return.ensures.next
    (grammar.returning (sym c.in-Return.ensures)
    (at_next (λ ts. Reads 6 ts (expression c.in_ok-value-in-Return.value) (drop c.in_ok-value-in-Return.mid c.args.tokens.now)) c.args.tokens.now
    c.args.at c.in_ok-value-in-Return.ensures.tree)
    c.in_ok-end-in-Return.ensures.found))

pub returns-in_err-end-in-Break-clause-stopped : goal.returns-in_err-end-in-Break-clause-stopped
returns-in_err-end-in-Break-clause-stopped c =
    stops_by _ _ c.from_residual-in_err-end-in-Break.ensures.1
    (λ n h. begin_stopped [] (form a_simple ∷ []) (lexeme Semicolon ∷ []) c.args.tokens.now c.args.at n Break refl refl refl (sym c.in-Break.ensures)
    h)
    c.in_err-end-in-Break.ensures.stopped

pub returns-in_ok-end-in-Break-clause-ended : goal.returns-in_ok-end-in-Break-clause-ended
returns-in_ok-end-in-Break-clause-ended c =
    begin_ended [] (form a_simple ∷ []) (lexeme Semicolon ∷ []) c.args.tokens.now c.args.at c.in_ok-end-in-Break.end Break refl refl refl
    (sym c.in-Break.ensures) c.in_ok-end-in-Break.ensures.ended

pub returns-in_ok-end-in-Break-clause-tree : goal.returns-in_ok-end-in-Break-clause-tree
returns-in_ok-end-in-Break-clause-tree c =
    rw (statement-Break _, c.line_at.ensures)
    (breaking_read c.args.tokens.now c.args.at c.in_ok-end-in-Break.end (sym c.in-Break.ensures) c.in_ok-end-in-Break.ensures.found
    c.in_ok-end-in-Break.ensures.next)

pub returns-in_err-end-in-Continue-clause-stopped : goal.returns-in_err-end-in-Continue-clause-stopped
returns-in_err-end-in-Continue-clause-stopped c =
    stops_by _ _ c.from_residual-in_err-end-in-Continue.ensures.1
    (λ n h. begin_stopped [] (form a_simple ∷ []) (lexeme Semicolon ∷ []) c.args.tokens.now c.args.at n Continue refl refl refl
    (sym c.in-Continue.ensures) h)
    c.in_err-end-in-Continue.ensures.stopped

pub returns-in_ok-end-in-Continue-clause-ended : goal.returns-in_ok-end-in-Continue-clause-ended
returns-in_ok-end-in-Continue-clause-ended c =
    begin_ended [] (form a_simple ∷ []) (lexeme Semicolon ∷ []) c.args.tokens.now c.args.at c.in_ok-end-in-Continue.end Continue refl refl refl
    (sym c.in-Continue.ensures) c.in_ok-end-in-Continue.ensures.ended

pub returns-in_ok-end-in-Continue-clause-tree : goal.returns-in_ok-end-in-Continue-clause-tree
returns-in_ok-end-in-Continue-clause-tree c =
    rw (statement-Continue _, c.line_at-in-Continue.ensures)
    (continuing_read c.args.tokens.now c.args.at c.in_ok-end-in-Continue.end (sym c.in-Continue.ensures) c.in_ok-end-in-Continue.ensures.found
    c.in_ok-end-in-Continue.ensures.next)

pub returns-in-Semicolon-clause-tree : goal.returns-in-Semicolon-clause-tree
returns-in-Semicolon-clause-tree c =
    rw statement-Empty
    (end_of (grammar.Simple (drop c.args.at c.args.tokens.now) _) c.args.tokens.now c.args.at (c.args.at + 1) refl
    (grammar.nothing (sym c.in-Semicolon.ensures)))

pub returns-in-Semicolon-clause-ended : goal.returns-in-Semicolon-clause-ended
returns-in-Semicolon-clause-ended c = begin_ended [] (form a_simple ∷ []) [] c.args.tokens.now c.args.at (c.args.at + 1) Semicolon refl refl refl (sym c.in-Semicolon.ensures) (nothing_ended [] c.args.tokens.now (c.args.at + 1) (let q = there c.args.tokens.now c.args.at Semicolon (sym c.in-Semicolon.ensures) refl in omega (arith, q)))

pub returns-in_err-form-in-Word-clause-stopped : goal.returns-in_err-form-in-Word-clause-stopped
returns-in_err-form-in-Word-clause-stopped c = stops_by _ _ c.from_residual-in_err-form-in-Word.ensures.1 (λ n h. h) c.in_err-form-in-Word.ensures.stopped

pub returns-in_err-assign-in_default : goal.returns-in_err-assign-in_default
returns-in_err-assign-in_default c =
    let p = err_from_is_err_and c.from_residual-in_err-assign-in_default.result c.from_residual-in_err-assign-in_default.ensures.1 in
    record {
      tree = rw p.1 tt;
      ended = rw p.1 tt;
      ahead = rw p.1 tt;
      stopped = stops_by _ _ c.from_residual-in_err-assign-in_default.ensures.1
          (λ n h. one_stopped
          (alike_stopped [] ((form an_assign ∷ lexeme Semicolon ∷ []) ∷ []) ((form a_simple ∷ []) ∷ []) c.args.tokens.now c.args.at n (omega arith)
          (omega arith)
          (begin.simple_alike (first (drop c.args.at c.args.tokens.now)) (unlike c.lexeme_at.ensures c.in_default.not-Semicolon)
          (unlike c.lexeme_at.ensures c.in_default.not-Return) (unlike c.lexeme_at.ensures c.in_default.not-Break)
          (unlike c.lexeme_at.ensures c.in_default.not-Continue) (unlike c.lexeme_at.ensures c.in_default.not-Word))
          (any_stopped h)))
          c.in_err-assign-in_default.ensures.stopped;
    }

pub returns-in_ok-assign-in_default : goal.returns-in_ok-assign-in_default
returns-in_ok-assign-in_default c = record {
  tree = rw (statement-Assign _) (grammar.assigning c.in_ok-assign-in_default.ensures.tree);
  ended = one_ended
      (alike_ended [] ((form an_assign ∷ lexeme Semicolon ∷ []) ∷ []) ((form a_simple ∷ []) ∷ []) c.args.tokens.now c.args.at
      c.in_ok-assign-in_default.end (omega arith) (omega arith)
      (begin.simple_alike (first (drop c.args.at c.args.tokens.now)) (unlike c.lexeme_at.ensures c.in_default.not-Semicolon)
      (unlike c.lexeme_at.ensures c.in_default.not-Return) (unlike c.lexeme_at.ensures c.in_default.not-Break)
      (unlike c.lexeme_at.ensures c.in_default.not-Continue) (unlike c.lexeme_at.ensures c.in_default.not-Word))
      (any_ended c.in_ok-assign-in_default.ensures.ended));
  ahead = c.in_ok-assign-in_default.ensures.ahead;
  stopped = tt;
}
