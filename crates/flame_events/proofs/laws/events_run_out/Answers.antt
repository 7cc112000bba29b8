use Rattle.flame_events.proofs.RunningOut.{events_run_out, piece_events_run_out, legal_events_are_bounded, piece_events_are_bounded}
use Rattle.flame_events.proofs.laws.events_run_out.Goals as goal

pub returns-clause-one : goal.returns-clause-one
returns-clause-one c = events_run_out

pub returns-clause-one_of_piece : goal.returns-clause-one_of_piece
returns-clause-one_of_piece c = piece_events_run_out

pub returns-clause-many : goal.returns-clause-many
returns-clause-many c = legal_events_are_bounded

pub returns-clause-many_of_pieces : goal.returns-clause-many_of_pieces
returns-clause-many_of_pieces c = piece_events_are_bounded
