use Rattle.flame_orders.proofs.OneBeginnings.{frozen_boards_agree, outcomes_agree, pieces_agree, open_functions_agree, done_functions_agree}
use Rattle.flame_orders.proofs.laws.beginnings_decide.Goals as goal

pub returns-clause-boards : goal.returns-clause-boards
returns-clause-boards c = frozen_boards_agree c.names_differ.ensures.messages

pub returns-clause-outcomes : goal.returns-clause-outcomes
returns-clause-outcomes c = outcomes_agree c.names_differ.ensures.messages

pub returns-clause-pieces : goal.returns-clause-pieces
returns-clause-pieces c = pieces_agree c.names_differ.ensures.messages

pub returns-clause-open : goal.returns-clause-open
returns-clause-open c = open_functions_agree c.names_differ.ensures.messages

pub returns-clause-done : goal.returns-clause-done
returns-clause-done c = done_functions_agree c.names_differ.ensures.messages
