use Rattle.flame_orders.proofs.Untouched.{other_functions_stay, other_pieces_stay, other_marks_stay}
use Rattle.flame_orders.proofs.laws.others_stay.Goals as goal

pub returns-clause-functions : goal.returns-clause-functions
returns-clause-functions c = other_functions_stay

pub returns-clause-pieces : goal.returns-clause-pieces
returns-clause-pieces c = other_pieces_stay

pub returns-clause-marks : goal.returns-clause-marks
returns-clause-marks c = other_marks_stay
