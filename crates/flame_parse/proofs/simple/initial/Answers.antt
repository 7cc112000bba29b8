-- Each way that the reader returns, by the parts that it read.
use Rattle.std.proofs.Common.{◌+◌, [], ◌∷◌, drop, sym, refl}
use Rattle.flame_spec.specs.Seen.{stored}
use Rattle.flame_expr.specs.declared.lexemes.Lexeme.TheVariants.{Set}
use Rattle.flame_expr.specs.Lexemes.{first}
use Rattle.flame_expr.specs.OperatorLevels.{joins}
use Rattle.flame_expr.specs.ViablePrefixes.{a_value, form}
use Rattle.flame_expr.proofs.Ends.{stops_by, one_ended, here_ended, begin_ended, begin_stopped, ended_weaker, stopped_weaker}
use Rattle.flame_expr.proofs.Readings.{at_next, unlike}
use Rattle.flame_parse.specs.AssignmentOperators.{joins_item}
use Rattle.flame_parse.specs.StatementGrammar as grammar
use Rattle.flame_parse.proofs.Beginnings as begin
use Rattle.flame_parse.specs.HeadSymbols.{initial_symbol}
use Rattle.flame_parse.proofs.simple.initial.Goals as goal

pub returns-in_err-value-in-Set-clause-stopped : goal.returns-in_err-value-in-Set-clause-stopped
returns-in_err-value-in-Set-clause-stopped c =
    stops_by _ _ c.from_residual.ensures.1
    (λ n h. begin_stopped joins_item (initial_symbol ∷ []) (form a_value ∷ []) c.args.tokens.now c.args.at n Set refl refl refl (sym c.in-Set.ensures)
    (stopped_weaker (joins 6) joins_item (form a_value ∷ []) c.args.tokens.now (c.args.at + 1) n refl h))
    c.in_err-value-in-Set.ensures.stopped

pub returns-in_ok-value-in-Set-clause-tree : goal.returns-in_ok-value-in-Set-clause-tree
returns-in_ok-value-in-Set-clause-tree c =
    grammar.an_initial (sym c.in-Set.ensures)
    (at_next (λ ts. grammar.Stores ts (stored c.in_ok-value-in-Set.value) (drop c.in_ok-value-in-Set.end c.args.tokens.now)) c.args.tokens.now
    c.args.at c.in_ok-value-in-Set.ensures.tree)

pub returns-in_ok-value-in-Set-clause-ended : goal.returns-in_ok-value-in-Set-clause-ended
returns-in_ok-value-in-Set-clause-ended c =
    begin_ended joins_item (initial_symbol ∷ []) (form a_value ∷ []) c.args.tokens.now c.args.at c.in_ok-value-in-Set.end Set refl refl refl
    (sym c.in-Set.ensures)
    (ended_weaker (joins 6) joins_item (form a_value ∷ []) c.args.tokens.now (c.args.at + 1) c.in_ok-value-in-Set.end refl
    c.in_ok-value-in-Set.ensures.ended)

pub returns-in_default : goal.returns-in_default
returns-in_default c = record {
  tree = grammar.no_initial;
  ended = one_ended
      (here_ended joins_item ((initial_symbol ∷ []) ∷ []) c.args.tokens.now c.args.at c.requires.within
      (begin.initial_ends (first (drop c.args.at c.args.tokens.now)) (unlike c.lexeme_at.ensures c.in_default.not-Set)));
  stopped = tt;
}
