-- Each way that the reader returns, by the parts that it read.
use Rattle.std.proofs.Common.{[], ◌∷◌, refl}
use Rattle.flame_expr.specs.ViablePrefixes.{form, more_items, an_item}
use Rattle.flame_expr.proofs.Ends.{stops_by, ended_then, stopped_then, stopped_before}
use Rattle.flame_parse.specs.AssignmentOperators.{joins_item, joins_items}
use Rattle.flame_parse.specs.StatementGrammar as grammar
use Rattle.flame_parse.proofs.simple.items.Goals as goal

pub returns-in_err-first-clause-stopped : goal.returns-in_err-first-clause-stopped
returns-in_err-first-clause-stopped c =
    stops_by _ _ c.from_residual.ensures.1
    (λ n h. (stopped_before joins_item joins_items (form an_item ∷ []) (more_items ∷ []) c.args.tokens.now c.args.at n refl h))
    c.in_err-first.ensures.stopped

pub returns-in_err-others-clause-stopped : goal.returns-in_err-others-clause-stopped
returns-in_err-others-clause-stopped c =
    stops_by _ _ c.from_residual-in_err-others.ensures.1
    (λ n h.
    (stopped_then joins_item joins_items (form an_item ∷ []) (more_items ∷ []) c.args.tokens.now c.args.at c.in_ok-first.mid n refl
    c.in_ok-first.ensures.ended h))
    c.in_err-others.ensures.stopped

pub returns-clause-ended : goal.returns-clause-ended
returns-clause-ended c =
    (ended_then joins_item joins_items (form an_item ∷ []) (more_items ∷ []) c.args.tokens.now c.args.at c.in_ok-first.mid c.in_ok-others.end refl
    c.in_ok-first.ensures.ended c.in_ok-others.ensures.ended)

pub returns-clause-tree : goal.returns-clause-tree
returns-clause-tree c = rw c.in_ok-insert.ensures.items (grammar.items c.in_ok-first.ensures.tree c.in_ok-others.ensures.tree)
