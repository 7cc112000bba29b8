-- The agreement is kept.
use Rattle.flame_meaning.proofs.Agreeing.{statement_agrees, statements_agree, scope_agrees, item_agrees, inside_agree, turn_agrees}
use Rattle.flame_meaning.proofs.accepted_laws.agreement_is_kept.Goals as goal

pub returns-clause-statements : goal.returns-clause-statements
returns-clause-statements c = statement_agrees

pub returns-clause-sequences : goal.returns-clause-sequences
returns-clause-sequences c = statements_agree

pub returns-clause-scopes : goal.returns-clause-scopes
returns-clause-scopes c = scope_agrees

pub returns-clause-items : goal.returns-clause-items
returns-clause-items c = item_agrees

pub returns-clause-places : goal.returns-clause-places
returns-clause-places c = inside_agree

pub returns-clause-turns : goal.returns-clause-turns
returns-clause-turns c = turn_agrees
