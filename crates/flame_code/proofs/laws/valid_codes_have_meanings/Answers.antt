use Rattle.flame_code.proofs.Endings.{some_meaning}
use Rattle.flame_code.proofs.laws.valid_codes_have_meanings.Goals as goal

pub returns : goal.returns
returns c = some_meaning
