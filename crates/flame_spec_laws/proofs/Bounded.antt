-- Helpers of files without check faults have heights, so their calls stay within the bound.
use Rattle.std.proofs.Common.{◌≡◌, []}
use Rattle.flame_spec.specs.declared.models.Model.{Model}
use Rattle.flame_spec.specs.declared.trees.Unit as file
use Rattle.std.specs.Prelude.{List}
use Rattle.flame_spec.specs.CheckFaults.{check_faults}
use Rattle.flame_spec.specs.Definitions.{helpers}
use Rattle.flame_meaning.specs.DepthLaws.{HaveHeights}
use Rattle.flame_meaning.proofs.DeepCalls.{deeper_calls_end_alike, deeper_calls_mean_alike}
use Rattle.flame_spec_laws.specs.JoinedLaws.{CallsEndWithinTheBound, BodiesMeanWithinTheBound}
use Rattle.flame_spec_laws.proofs.CallRounds.{low, rises}

have_heights :
    (model : Model) (units : List file.Unit)
    → check_faults model units ≡ []
    → HaveHeights model (helpers model units)
have_heights model units none =
    λ g below. (low model units none g below, λ h h_below calls. rises model units none g h below h_below calls)

pub calls_end_within_the_bound : CallsEndWithinTheBound
calls_end_within_the_bound source constants iteration levels line number helper values fuel none at enough =
    deeper_calls_end_alike source.model (helpers source.model source.units) constants iteration levels line number
    helper values fuel (have_heights source.model source.units none) at enough

pub bodies_mean_within_the_bound : BodiesMeanWithinTheBound
bodies_mean_within_the_bound source place readings constants iteration levels body s none enough =
    deeper_calls_mean_alike source place readings constants iteration levels body s
    (have_heights source.model source.units none) enough
