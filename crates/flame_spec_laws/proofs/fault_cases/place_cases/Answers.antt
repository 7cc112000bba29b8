-- The name is an argument of the call in the branch in the loop.
use Rattle.std.proofs.Common.{refl}
use Rattle.flame_spec_laws.specs.BodyParts.{itself, single_argument, later_argument, call_argument, branch_arm, for_body}
use Rattle.flame_spec_laws.specs.BodyParts.{first_statement, arm_body, later_parameter, function_body}
use Rattle.flame_spec_laws.proofs.fault_cases.place_cases.Goals as goal

pub returns : goal.returns
returns c =
    later_parameter _ _ _
    (function_body _
    (first_statement _ _
    (for_body _ _ _ _ _
    (first_statement _ _
    (branch_arm _ _
    (arm_body _ _ _
    (first_statement _ _
    (call_argument _ _ _ _ refl
    (later_argument _ _ _ _ _ _
    (single_argument _ _ _ _ _ _ refl itself))))))))))
