-- Each way that the reader returns, by the parts that it read.
use Rattle.std.proofs.Common.{[], ◌∷◌, drop, refl}
use Rattle.flame_spec.specs.Seen.{assigned}
use Rattle.flame_expr.specs.declared.lexemes.Lexeme.TheVariants.{Semicolon}
use Rattle.flame_expr.specs.OperatorLevels.{joins}
use Rattle.flame_expr.specs.ViablePrefixes.{form, lexeme, an_assign}
use Rattle.flame_expr.proofs.Ends.{stops_by, ended_then, stopped_then, stopped_before}
use Rattle.flame_parse.specs.StatementGrammar as grammar
use Rattle.flame_parse.proofs.Runs.{end_of}
use Rattle.flame_parse.proofs.simple.assigned_to.Goals as goal

pub returns-in_err-assign-clause-stopped : goal.returns-in_err-assign-clause-stopped
returns-in_err-assign-clause-stopped c =
    stops_by _ _ c.from_residual.ensures.1
    (λ n h. (stopped_before (joins 6) [] (form an_assign ∷ []) (lexeme Semicolon ∷ []) c.args.tokens.now c.args.at n refl h))
    c.in_err-assign.ensures.stopped

pub returns-in_err-end-clause-stopped : goal.returns-in_err-end-clause-stopped
returns-in_err-end-clause-stopped c =
    stops_by _ _ c.from_residual-in_err-end.ensures.1
    (λ n h.
    (stopped_then (joins 6) [] (form an_assign ∷ []) (lexeme Semicolon ∷ []) c.args.tokens.now c.args.at c.in_ok-assign.mid n refl
    c.in_ok-assign.ensures.ended h))
    c.in_err-end.ensures.stopped

pub returns-clause-ended : goal.returns-clause-ended
returns-clause-ended c =
    (ended_then (joins 6) [] (form an_assign ∷ []) (lexeme Semicolon ∷ []) c.args.tokens.now c.args.at c.in_ok-assign.mid c.in_ok-end.end refl
    c.in_ok-assign.ensures.ended c.in_ok-end.ensures.ended)

pub returns-clause-tree : goal.returns-clause-tree
returns-clause-tree c =
    end_of (grammar.AssignedTo (drop c.args.at c.args.tokens.now) (assigned c.in_ok-assign.assign)) c.args.tokens.now c.in_ok-assign.mid
    c.in_ok-end.end c.in_ok-end.ensures.next (grammar.assigned_to c.in_ok-assign.ensures.tree c.in_ok-end.ensures.found)
