-- What is read is as wide as codes see.
use Rattle.flame_program.proofs.ReadingWidths.{readings-fit-codes}
use Rattle.flame_program.proofs.laws.readings_fit_codes.Goals as goal

pub returns : goal.returns
returns c = readings-fit-codes
