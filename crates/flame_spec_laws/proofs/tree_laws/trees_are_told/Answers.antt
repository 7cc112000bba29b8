-- What is seen tells what it is seen of.
use Rattle.flame_spec_laws.proofs.Unseen.{expression_tells}
use Rattle.flame_spec_laws.proofs.UnseenStatements.{statement_tells}
use Rattle.flame_spec_laws.proofs.tree_laws.trees_are_told.Goals as goal

pub returns-clause-expressions : goal.returns-clause-expressions
returns-clause-expressions c = expression_tells

pub returns-clause-statements : goal.returns-clause-statements
returns-clause-statements c = statement_tells
