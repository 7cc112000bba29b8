use Rattle.flame_popfile.proofs.FaultlessStarts.{read_populations_fit}
use Rattle.flame_popfile.proofs.laws.read_populations_fit.Goals as goal

pub returns : goal.returns
returns c = read_populations_fit
