-- Rows that are read are rows of boards.
use Rattle.flame_spec_laws.proofs.Readings.{outcomes_over_boards_are_ints}
use Rattle.flame_spec_laws.proofs.joined_laws.outcomes_over_boards.Goals as goal

pub returns : goal.returns
returns c = outcomes_over_boards_are_ints
