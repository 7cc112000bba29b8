use Rattle.flame_body.proofs.NumberedBodies.{bodies-by-number}
use Rattle.flame_body.proofs.laws.bodies_by_number.Goals as goal

pub returns : goal.returns
returns c = bodies-by-number
