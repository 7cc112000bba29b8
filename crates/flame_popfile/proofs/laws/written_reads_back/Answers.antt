use Rattle.flame_popfile.proofs.WrittenBack.{written_reads_back}
use Rattle.flame_popfile.proofs.laws.written_reads_back.Goals as goal

pub returns : goal.returns
returns c = written_reads_back
