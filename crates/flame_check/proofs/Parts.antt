-- The parts of all check faults.
use Rattle.std.proofs.Common.{◌≡◌, List, ◌++◌, append_assoc}
use Rattle.flame_spec.specs.declared.faults.CheckFault.{CheckFault}

-- six parts, of which the fourth and the fifth belong together
pub laid_out :
    (twice bare missing recursive deep bodies : List CheckFault)
    → ((((twice ++ bare) ++ missing) ++ recursive) ++ deep) ++ bodies
    ≡ twice ++ (bare ++ (missing ++ ((recursive ++ deep) ++ bodies)))
laid_out twice bare missing recursive deep bodies = simp append_assoc
