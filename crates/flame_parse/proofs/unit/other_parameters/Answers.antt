-- Each way that the reader returns, by the parts that it read.
use Rattle.std.proofs.Common.{◌+◌, [], ◌∷◌, drop, sym, refl, arith}
use Rattle.flame_expr.specs.declared.lexemes.Lexeme.TheVariants.{Comma}
use Rattle.flame_expr.specs.Lexemes.{first}
use Rattle.flame_expr.specs.ViablePrefixes.{parameter, more_parameters}
use Rattle.flame_expr.proofs.Ends.{stops_by, one_ended, here_ended, begin_ended, begin_stopped, ended_then, stopped_then, stopped_before}
use Rattle.flame_expr.proofs.Readings.{at_next, unlike}
use Rattle.flame_parse.specs.AssignmentOperators.{joins_parameters}
use Rattle.flame_parse.specs.StatementGrammar as grammar
use Rattle.flame_parse.proofs.Beginnings as begin
use Rattle.flame_parse.proofs.Runs.{run_begin, run_push, run_read}
use Rattle.flame_parse.proofs.unit.other_parameters.Goals as goal

pub returns-in_err-next-clause-stopped : goal.returns-in_err-next-clause-stopped
returns-in_err-next-clause-stopped c =
    stops_by _ _ c.from_residual.ensures.1
    (λ n h. c.others.invariant.stopped n
    (begin_stopped joins_parameters (more_parameters ∷ []) (parameter ∷ more_parameters ∷ []) c.args.tokens.now c.others.place n Comma refl refl
    refl (sym c.in-Comma.ensures)
    (stopped_before [] joins_parameters (parameter ∷ []) (more_parameters ∷ []) c.args.tokens.now (c.others.place + 1) n refl h)))
    c.in_err-next.ensures.stopped

pub others-init : goal.others-init
others-init c = rw c.new-found.ensures.items (run_begin joins_parameters (more_parameters ∷ []) grammar.MoreParameters c.args.tokens.now c.args.at c.requires.within)

pub others-preserved : goal.others-preserved
others-preserved c =
    rw c.in_ok-push.ensures.items
    (run_push joins_parameters (more_parameters ∷ []) grammar.MoreParameters c.args.tokens.now c.args.at c.others.place c.in_ok-next.end
    c.others.found.items c.in_ok-next.next c.others.invariant (omega (arith, c.in_ok-next.ensures.ahead)) c.in_ok-next.ensures.ended.within
    (λ ds rest x. grammar.parameter_more (sym c.in-Comma.ensures)
    (at_next (λ ts. grammar.OneParameter ts c.in_ok-next.next (drop c.in_ok-next.end c.args.tokens.now)) c.args.tokens.now c.others.place
    c.in_ok-next.ensures.tree)
    x)
    (λ end x. begin_ended joins_parameters (more_parameters ∷ []) (parameter ∷ more_parameters ∷ []) c.args.tokens.now c.others.place end Comma refl
    refl refl (sym c.in-Comma.ensures)
    (ended_then [] joins_parameters (parameter ∷ []) (more_parameters ∷ []) c.args.tokens.now (c.others.place + 1) c.in_ok-next.end end refl
    c.in_ok-next.ensures.ended x))
    (λ n x. begin_stopped joins_parameters (more_parameters ∷ []) (parameter ∷ more_parameters ∷ []) c.args.tokens.now c.others.place n Comma refl
    refl refl (sym c.in-Comma.ensures)
    (stopped_then [] joins_parameters (parameter ∷ []) (more_parameters ∷ []) c.args.tokens.now (c.others.place + 1) c.in_ok-next.end n refl
    c.in_ok-next.ensures.ended x)))

pub returns-in_default : goal.returns-in_default
returns-in_default c = record {
  tree = run_read joins_parameters (more_parameters ∷ []) grammar.MoreParameters c.args.tokens.now c.args.at c.others.place c.others.found.items
      c.others.invariant grammar.no_parameter;
  ended = c.others.invariant.ended c.others.place
      (one_ended
      (here_ended joins_parameters ((more_parameters ∷ []) ∷ []) c.args.tokens.now c.others.place c.others.invariant.within
      (begin.parameters_end (first (drop c.others.place c.args.tokens.now)) (unlike c.lexeme_at.ensures c.in_default.not-Comma))));
  stopped = tt;
}
