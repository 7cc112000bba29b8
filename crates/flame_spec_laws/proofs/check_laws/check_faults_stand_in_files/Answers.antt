-- The file of a fault.
use Rattle.std.proofs.Common.{length}
use Rattle.flame_spec.specs.CheckFaults.{check_faults}
use Rattle.flame_spec_laws.proofs.FilesOfFaults.{Placed, all-Contains, faults-placed}
use Rattle.flame_spec_laws.proofs.check_laws.check_faults_stand_in_files.Goals as goal

pub returns : goal.returns
returns c = λ model units fault among.
    all-Contains (Placed (length units)) (check_faults model units) fault (faults-placed model units) among
