-- Each way that the reader returns, by the parts that it read.
use Rattle.std.proofs.Common.{[], ◌∷◌, drop, sym, refl, ap, subst, ◌∙◌, arith}
use Rattle.flame_expr.specs.declared.lexemes.Lexeme.TheVariants.{Close, Void}
use Rattle.flame_expr.specs.Lexemes.{first}
use Rattle.flame_expr.specs.ViablePrefixes.{parameter, more_parameters, parameters, lexeme}
use Rattle.flame_expr.proofs.Places.{behind-drop}
use Rattle.flame_expr.proofs.Ends.{stops_by, any_ended, one_ended, any_stopped, one_stopped, begin_ended, begin_stopped, ended_then, stopped_then, stopped_before}
use Rattle.flame_expr.proofs.Readings.{unlike, two_behind}
use Rattle.flame_parse.specs.AssignmentOperators.{joins_parameters}
use Rattle.flame_parse.specs.StatementGrammar as grammar
use Rattle.flame_expr.proofs.Likeness.{alike_ended, alike_stopped}
use Rattle.flame_parse.proofs.Beginnings as begin
use Rattle.flame_parse.proofs.Runs.{end_of}
use Rattle.std.proofs.lemmas.Result.{err_from_is_err_and}
use Rattle.flame_parse.proofs.unit.parameters.Goals as goal

pub returns-in_err-end-in-Void-clause-stopped : goal.returns-in_err-end-in-Void-clause-stopped
returns-in_err-end-in-Void-clause-stopped c =
    stops_by _ _ c.from_residual.ensures.1
    (λ n h. begin_stopped [] (parameters ∷ lexeme Close ∷ []) (lexeme Close ∷ []) c.args.tokens.now c.args.at n Void refl refl refl
    (sym c.in-Void.ensures) h)
    c.in_err-end-in-Void.ensures.stopped

pub returns-in_ok-end-in-Void-clause-ended : goal.returns-in_ok-end-in-Void-clause-ended
returns-in_ok-end-in-Void-clause-ended c =
    begin_ended [] (parameters ∷ lexeme Close ∷ []) (lexeme Close ∷ []) c.args.tokens.now c.args.at c.in_ok-end-in-Void.end Void refl refl refl
    (sym c.in-Void.ensures) c.in_ok-end-in-Void.ensures.ended

pub returns-in_ok-end-in-Void-clause-tree : goal.returns-in_ok-end-in-Void-clause-tree
returns-in_ok-end-in-Void-clause-tree c =
    rw c.new.ensures.items
    (subst (λ ts. grammar.Parameters (drop c.args.at c.args.tokens.now) [] ts)
    (two_behind c.args.tokens.now c.args.at ∙ ap (λ m. drop m c.args.tokens.now) (sym c.in_ok-end-in-Void.ensures.next))
    (grammar.void_given (sym c.in-Void.ensures) (ap first (behind-drop c.args.tokens.now c.args.at) ∙ c.in_ok-end-in-Void.ensures.found)))

pub returns-in_err-found-in-Int-clause-stopped : goal.returns-in_err-found-in-Int-clause-stopped
returns-in_err-found-in-Int-clause-stopped c =
    stops_by _ _ c.from_residual-in_err-found-in-Int.ensures.1
    (λ n h. one_stopped
    (alike_stopped [] ((parameter ∷ more_parameters ∷ lexeme Close ∷ []) ∷ []) ((parameters ∷ lexeme Close ∷ []) ∷ []) c.args.tokens.now c.args.at n
    (omega arith) (omega arith) (begin.int_alike (first (drop c.args.at c.args.tokens.now)) (sym c.in-Int.ensures))
    (any_stopped (stopped_before joins_parameters [] (parameter ∷ more_parameters ∷ []) (lexeme Close ∷ []) c.args.tokens.now c.args.at n refl h))))
    c.in_err-found-in-Int.ensures.stopped

pub returns-in_err-end-in-Int-clause-stopped : goal.returns-in_err-end-in-Int-clause-stopped
returns-in_err-end-in-Int-clause-stopped c =
    stops_by _ _ c.from_residual-in_err-end-in-Int.ensures.1
    (λ n h. one_stopped
    (alike_stopped [] ((parameter ∷ more_parameters ∷ lexeme Close ∷ []) ∷ []) ((parameters ∷ lexeme Close ∷ []) ∷ []) c.args.tokens.now c.args.at n
    (omega arith) (omega arith) (begin.int_alike (first (drop c.args.at c.args.tokens.now)) (sym c.in-Int.ensures))
    (any_stopped
    (stopped_then joins_parameters [] (parameter ∷ more_parameters ∷ []) (lexeme Close ∷ []) c.args.tokens.now c.args.at
    c.in_ok-found-in-Int.mid n refl c.in_ok-found-in-Int.ensures.ended h))))
    c.in_err-end-in-Int.ensures.stopped

pub returns-in_ok-end-in-Int-clause-ended : goal.returns-in_ok-end-in-Int-clause-ended
returns-in_ok-end-in-Int-clause-ended c =
    one_ended
    (alike_ended [] ((parameter ∷ more_parameters ∷ lexeme Close ∷ []) ∷ []) ((parameters ∷ lexeme Close ∷ []) ∷ []) c.args.tokens.now c.args.at
    c.in_ok-end-in-Int.end (omega arith) (omega arith) (begin.int_alike (first (drop c.args.at c.args.tokens.now)) (sym c.in-Int.ensures))
    (any_ended
    (ended_then joins_parameters [] (parameter ∷ more_parameters ∷ []) (lexeme Close ∷ []) c.args.tokens.now c.args.at c.in_ok-found-in-Int.mid
    c.in_ok-end-in-Int.end refl c.in_ok-found-in-Int.ensures.ended c.in_ok-end-in-Int.ensures.ended)))

pub returns-in_ok-end-in-Int-clause-tree : goal.returns-in_ok-end-in-Int-clause-tree
returns-in_ok-end-in-Int-clause-tree c =
    end_of (grammar.Parameters (drop c.args.at c.args.tokens.now) c.in_ok-found-in-Int.found.items) c.args.tokens.now c.in_ok-found-in-Int.mid
    c.in_ok-end-in-Int.end c.in_ok-end-in-Int.ensures.next (grammar.some_given c.in_ok-found-in-Int.ensures.tree c.in_ok-end-in-Int.ensures.found)

pub returns-in_err-end-in_default : goal.returns-in_err-end-in_default
returns-in_err-end-in_default c =
    let p = err_from_is_err_and c.from_residual-in_err-end-in_default.result c.from_residual-in_err-end-in_default.ensures.1 in
    record {
      tree = rw p.1 tt;
      ended = rw p.1 tt;
      ahead = rw p.1 tt;
      stopped = stops_by _ _ c.from_residual-in_err-end-in_default.ensures.1
          (λ n h. one_stopped
          (alike_stopped [] ((lexeme Close ∷ []) ∷ []) ((parameters ∷ lexeme Close ∷ []) ∷ []) c.args.tokens.now c.args.at n (omega arith)
          (omega arith)
          (begin.parameters_alike (first (drop c.args.at c.args.tokens.now)) (unlike c.lexeme_at.ensures c.in_default.not-Void)
          (unlike c.lexeme_at.ensures c.in_default.not-Int))
          (any_stopped h)))
          c.in_err-end-in_default.ensures.stopped;
    }

pub returns-in_ok-end-in_default : goal.returns-in_ok-end-in_default
returns-in_ok-end-in_default c = record {
  tree = rw c.new-in_default.ensures.items
      (end_of (grammar.Parameters (drop c.args.at c.args.tokens.now) []) c.args.tokens.now c.args.at c.in_ok-end-in_default.end
      c.in_ok-end-in_default.ensures.next (grammar.none_given c.in_ok-end-in_default.ensures.found));
  ended = one_ended
      (alike_ended [] ((lexeme Close ∷ []) ∷ []) ((parameters ∷ lexeme Close ∷ []) ∷ []) c.args.tokens.now c.args.at c.in_ok-end-in_default.end
      (omega arith) (omega arith)
      (begin.parameters_alike (first (drop c.args.at c.args.tokens.now)) (unlike c.lexeme_at.ensures c.in_default.not-Void)
      (unlike c.lexeme_at.ensures c.in_default.not-Int))
      (any_ended c.in_ok-end-in_default.ensures.ended));
  ahead = omega (arith, c.in_ok-end-in_default.ensures.next);
  stopped = tt;
}
