-- Each way that the reader returns, by the parts that it read.
use Rattle.std.proofs.Common.{[], ◌∷◌, drop, refl}
use Rattle.flame_spec.specs.Seen.{stored}
use Rattle.flame_expr.specs.declared.lexemes.Lexeme.TheVariants.{Word}
use Rattle.flame_expr.specs.ViablePrefixes.{lexeme, an_item}
use Rattle.flame_expr.proofs.Ends.{stops_by, ended_then, stopped_then, stopped_before, form_ended, form_stopped}
use Rattle.flame_parse.specs.AssignmentOperators.{joins_item}
use Rattle.flame_parse.specs.StatementGrammar as grammar
use Rattle.flame_parse.proofs.Runs.{next_of}
use Rattle.std.specs.Prelude.{option_map}
use Rattle.flame_parse.specs.HeadSymbols.{initial_symbol}
use Rattle.flame_parse.proofs.simple.item.Goals as goal

pub returns-in_err-mid-clause-stopped : goal.returns-in_err-mid-clause-stopped
returns-in_err-mid-clause-stopped c =
    stops_by _ _ c.from_residual.ensures.1
    (λ n h. form_stopped joins_item an_item (lexeme Word) (initial_symbol) c.args.tokens.now c.args.at n refl
    (stopped_before [] joins_item (lexeme Word ∷ []) (initial_symbol ∷ []) c.args.tokens.now c.args.at n refl h))
    c.in_err-mid.ensures.stopped

pub returns-in_err-value-clause-stopped : goal.returns-in_err-value-clause-stopped
returns-in_err-value-clause-stopped c =
    stops_by _ _ c.from_residual-in_err-value.ensures.1
    (λ n h. form_stopped joins_item an_item (lexeme Word) (initial_symbol) c.args.tokens.now c.args.at n refl
    (stopped_then [] joins_item (lexeme Word ∷ []) (initial_symbol ∷ []) c.args.tokens.now c.args.at c.in_ok-mid.mid n refl
    c.in_ok-mid.ensures.ended h))
    c.in_err-value.ensures.stopped

pub returns-clause-ended : goal.returns-clause-ended
returns-clause-ended c =
    form_ended joins_item an_item (lexeme Word) (initial_symbol) c.args.tokens.now c.args.at c.in_ok-value.end refl
    (ended_then [] joins_item (lexeme Word ∷ []) (initial_symbol ∷ []) c.args.tokens.now c.args.at c.in_ok-mid.mid c.in_ok-value.end refl
    c.in_ok-mid.ensures.ended c.in_ok-value.ensures.ended)

pub returns-clause-tree : goal.returns-clause-tree
returns-clause-tree c =
    let v = option_map stored c.in_ok-value.value in
    rw (c.line_at-line.ensures, c.in_ok-name.ensures)
    (grammar.an_item c.in_ok-mid.ensures.found
    (next_of (λ ts. grammar.Initial ts v (drop c.in_ok-value.end c.args.tokens.now)) c.args.tokens.now c.args.at c.in_ok-mid.mid
    c.in_ok-mid.ensures.next c.in_ok-value.ensures.tree))
