-- What the check of a source's function files gives.
use Rattle.std.specs.Prelude.{◌≡◌, []}
use Rattle.flame_spec.specs.declared.outcomes.Source.{Source}
use Rattle.flame_spec.specs.CheckFaults.{check_faults}
use Rattle.flame_body.specs.FunctionBodies.{function_bodies, helper_bodies}
use Rattle.flame_check.specs.declared.checking.Checked.{Checked}

-- the function files have no fault, and these are the bodies of the model's functions and of the helpers [own]
pub record IsChecked (source : Source) (checked : Checked) : Type 0 where
  pub faultless : check_faults source.model source.units ≡ []
  pub bodies : checked.bodies ≡ function_bodies source.model source.units
  pub helpers : checked.helpers ≡ helper_bodies source.model source.units
