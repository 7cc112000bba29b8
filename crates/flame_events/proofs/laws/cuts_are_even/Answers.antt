use Rattle.flame_events.proofs.EvenCuts.{piece_sizes_are_shares, cuts_are_even, nobody_is_no_piece}
use Rattle.flame_events.proofs.laws.cuts_are_even.Goals as goal

pub returns-clause-sizes : goal.returns-clause-sizes
returns-clause-sizes c = piece_sizes_are_shares

pub returns-clause-even : goal.returns-clause-even
returns-clause-even c = cuts_are_even

pub returns-clause-nobody : goal.returns-clause-nobody
returns-clause-nobody c = nobody_is_no_piece
