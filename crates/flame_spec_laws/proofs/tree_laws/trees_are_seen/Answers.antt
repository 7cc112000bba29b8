-- Trees are made back into the data that they are seen of.
use Rattle.flame_spec_laws.proofs.UnseenStatements.{stmts_of, statements_forth}
use Rattle.flame_spec_laws.proofs.tree_laws.trees_are_seen.Goals as goal

pub returns : goal.returns
returns c = λ body. (stmts_of body, statements_forth body)
