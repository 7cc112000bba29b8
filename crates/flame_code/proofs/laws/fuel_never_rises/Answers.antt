use Rattle.flame_code.proofs.Endings.{fuel_falls}
use Rattle.flame_code.proofs.laws.fuel_never_rises.Goals as goal

pub returns : goal.returns
returns c = fuel_falls
