use Rattle.flame_orders.proofs.FunctionRuns.{whole_functions_run, opened_pieces_are_takers, opened_functions_move}
use Rattle.flame_orders.proofs.laws.whole_functions.Goals as goal

pub returns-clause-fresh : goal.returns-clause-fresh
returns-clause-fresh c = whole_functions_run c.names_differ.ensures.messages

pub returns-clause-takers : goal.returns-clause-takers
returns-clause-takers c = opened_pieces_are_takers

pub returns-clause-opened : goal.returns-clause-opened
returns-clause-opened c = opened_functions_move c.names_differ.ensures.messages
