use Rattle.flame_pieces.proofs.Freeing.{nothing_is_told, waiters_are_told, what_is_done_is_told}
use Rattle.flame_pieces.proofs.laws.told.Goals as goal

pub returns-clause-nothing : goal.returns-clause-nothing
returns-clause-nothing c = nothing_is_told

pub returns-clause-waiters : goal.returns-clause-waiters
returns-clause-waiters c = waiters_are_told

pub returns-clause-done : goal.returns-clause-done
returns-clause-done c = what_is_done_is_told
