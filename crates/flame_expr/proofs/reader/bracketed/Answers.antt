use Rattle.flame_spec.specs.Seen.{expression}
use Rattle.flame_expr.proofs.Ends.{stops_by}
use Rattle.flame_expr.proofs.Readings.{bracketed_read}
use Rattle.flame_expr.proofs.Primaries.{opened_stopped, open_stopped, opened_ended}
use Rattle.flame_expr.proofs.reader.bracketed.Goals as goal

pub returns-in_err-inside-clause-stopped : goal.returns-in_err-inside-clause-stopped
returns-in_err-inside-clause-stopped c = stops_by _ _ c.from_residual.ensures.1 (λ n h. open_stopped c.args.tokens.now c.args.at n h) c.in_err-inside.ensures.stopped

pub returns-in_err-tree-clause-stopped : goal.returns-in_err-tree-clause-stopped
returns-in_err-tree-clause-stopped c =
    stops_by _ _ c.from_residual-in_err-tree.ensures.1
    (λ n h. opened_stopped c.args.tokens.now c.args.at c.in_ok-inside.inside n c.in_ok-inside.ensures.ended h) c.in_err-tree.ensures.stopped

pub returns-clause-tree : goal.returns-clause-tree
returns-clause-tree c =
    bracketed_read c.args.tokens.now c.args.at c.in_ok-inside.inside c.in_ok-tree.end (expression c.in_ok-tree.tree) c.in_ok-inside.ensures.found
    c.in_ok-inside.ensures.next c.in_ok-tree.ensures.tree

pub returns-clause-ended : goal.returns-clause-ended
returns-clause-ended c = opened_ended c.args.tokens.now c.args.at c.in_ok-inside.inside c.in_ok-tree.end c.in_ok-inside.ensures.ended c.in_ok-tree.ensures.ended
