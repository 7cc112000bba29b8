-- What the check gives of function files that it accepts.
use Rattle.std.specs.Prelude.{◌≡◌, List, []}
use Rattle.flame_spec.specs.declared.models.Model.{Model}
use Rattle.flame_spec.specs.declared.trees.Unit as file
use Rattle.flame_spec.specs.CheckFaults.{check_faults}
use Rattle.flame_body.specs.FunctionBodies.{function_bodies, helper_bodies}
use Rattle.flame_check.specs.declared.checking.Checked.{Checked}

-- the function files have no check fault, and these are the bodies of the functions and of the helpers [own]
pub record IsChecked (model : Model) (units : List file.Unit) (checked : Checked) : Type 0 where
  pub faultless : check_faults model units ≡ []
  pub bodies : checked.bodies ≡ function_bodies model units
  pub helpers : checked.helpers ≡ helper_bodies model units
