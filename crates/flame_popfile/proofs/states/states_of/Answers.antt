-- The faults of an object are those of its parts.
use Rattle.std.proofs.Common.{refl, sym, subst}
use Rattle.serde_json.specs.View.{view}
use Rattle.flame_spec.specs.FirstFaults.{FailsFirst}
use Rattle.flame_spec.proofs.FaultLists.{Reads-same, Reads-passed}
use Rattle.flame_popfile.specs.PopulationFaults.{states_faults}
use Rattle.flame_xmml.specs.ValuePlaces.{path_of}
use Rattle.flame_popfile.proofs.PlacePaths.{object_is, object_not}
use Rattle.flame_popfile.proofs.states.states_of.Goals as goal

pub returns-in_err-object : goal.returns-in_err-object
returns-in_err-object c =
    Reads-passed _ _ _ c.from_residual.result c.from_residual.ensures.1
    (subst (λ l. FailsFirst l c.in_err-object.field-0.0)
    (sym
    (object_not (states_faults c.args.model.now c.args.turns) (path_of c.args.place.now) (view c.args.states.now)
    c.in_err-object.ensures.fault.0))
    c.in_err-object.ensures.fault.1)

pub returns : goal.returns
returns c =
    Reads-same c.start_in.result
    (object_is (states_faults c.args.model.now c.args.turns) (path_of c.args.place.now) (view c.args.states.now)
    c.in_ok-object.ensures.object)
    refl c.start_in.ensures
