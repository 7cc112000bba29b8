-- Each way that the reader returns, by the parts that it read.
use Rattle.std.proofs.Common.{[], ◌∷◌, refl}
use Rattle.flame_expr.specs.OperatorLevels.{joins}
use Rattle.flame_expr.specs.ViablePrefixes.{expr, more_args, some_args}
use Rattle.flame_expr.proofs.Ends.{stops_by, ended_then, stopped_then, stopped_before, form_ended, form_stopped}
use Rattle.flame_parse.specs.AssignmentOperators.{joins_args}
use Rattle.flame_parse.specs.StatementGrammar as grammar
use Rattle.flame_parse.proofs.simple.args.Goals as goal

pub returns-in_err-first-clause-stopped : goal.returns-in_err-first-clause-stopped
returns-in_err-first-clause-stopped c =
    stops_by _ _ c.from_residual.ensures.1
    (λ n h. form_stopped joins_args some_args expr more_args c.args.tokens.now c.args.at n refl
    (stopped_before (joins 6) joins_args (expr ∷ []) (more_args ∷ []) c.args.tokens.now c.args.at n refl h))
    c.in_err-first.ensures.stopped

pub returns-in_err-others-clause-stopped : goal.returns-in_err-others-clause-stopped
returns-in_err-others-clause-stopped c =
    stops_by _ _ c.from_residual-in_err-others.ensures.1
    (λ n h. form_stopped joins_args some_args expr more_args c.args.tokens.now c.args.at n refl
    (stopped_then (joins 6) joins_args (expr ∷ []) (more_args ∷ []) c.args.tokens.now c.args.at c.in_ok-first.mid n refl c.in_ok-first.ensures.ended
    h))
    c.in_err-others.ensures.stopped

pub returns-clause-ended : goal.returns-clause-ended
returns-clause-ended c =
    form_ended joins_args some_args expr more_args c.args.tokens.now c.args.at c.in_ok-others.end refl
    (ended_then (joins 6) joins_args (expr ∷ []) (more_args ∷ []) c.args.tokens.now c.args.at c.in_ok-first.mid c.in_ok-others.end refl
    c.in_ok-first.ensures.ended c.in_ok-others.ensures.ended)

pub returns-clause-tree : goal.returns-clause-tree
returns-clause-tree c = rw c.in_ok-insert.ensures.items (grammar.args c.in_ok-first.ensures.tree c.in_ok-others.ensures.tree)
