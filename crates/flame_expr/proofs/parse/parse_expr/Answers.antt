use Rattle.flame_spec.specs.Seen.{expression}
use Rattle.flame_expr.proofs.Ends.{stops_by}
use Rattle.flame_expr.proofs.LongestPrefixes.{is_expression, is_no_expression}
use Rattle.flame_expr.proofs.parse.parse_expr.Goals as goal

pub returns-in_err-tree-clause-syntax : goal.returns-in_err-tree-clause-syntax
returns-in_err-tree-clause-syntax c = stops_by _ _ c.from_residual.ensures.1 (λ n h. is_no_expression c.args.tokens.now c.args.at n c.requires.within h) c.in_err-tree.ensures.stopped

pub returns-clause-tree : goal.returns-clause-tree
returns-clause-tree c = is_expression c.args.tokens.now c.args.at c.in_ok-tree.end (expression c.in_ok-tree.tree) c.requires.within c.in_ok-tree.ensures.tree c.in_ok-tree.ensures.ended
