-- The faults of an object are those of its parts.
use Rattle.std.proofs.Common.{◌∙◌, sym, subst}
use Rattle.serde_json.specs.View.{view}
use Rattle.flame_spec.specs.FirstFaults.{FailsFirst}
use Rattle.flame_spec.proofs.FaultLists.{Passes-same, Passes-passed}
use Rattle.flame_popfile.specs.PopulationFaults.{agent_parts}
use Rattle.flame_xmml.specs.ValuePlaces.{path_of}
use Rattle.flame_popfile.proofs.PlacePaths.{object_is, object_not}
use Rattle.flame_popfile.proofs.agents.add_agent.Goals as goal

pub returns-in_err-object-clause-passes : goal.returns-in_err-object-clause-passes
returns-in_err-object-clause-passes c =
    Passes-passed _ _ c.from_residual.result c.from_residual.ensures.1
    (subst (λ l. FailsFirst l c.in_err-object.field-0.0)
    (sym
    (object_not (agent_parts c.args.format c.args.kinds.now c.args.earlier.now) (path_of c.args.place.now)
    (view c.args.value.now) c.in_err-object.ensures.fault.0))
    c.in_err-object.ensures.fault.1)

pub returns-in_err-add_named-clause-passes : goal.returns-in_err-add_named-clause-passes
returns-in_err-add_named-clause-passes c =
    Passes-same c.from_residual-in_err-add_named.result
    (object_is (agent_parts c.args.format c.args.kinds.now c.args.earlier.now) (path_of c.args.place.now)
    (view c.args.value.now) c.in_ok-object.ensures.object)
    (Passes-passed _ _ c.from_residual-in_err-add_named.result c.from_residual-in_err-add_named.ensures.1
    c.in_err-add_named.ensures.passes)

pub returns-clause-passes : goal.returns-clause-passes
returns-clause-passes c =
    object_is (agent_parts c.args.format c.args.kinds.now c.args.earlier.now) (path_of c.args.place.now)
    (view c.args.value.now) c.in_ok-object.ensures.object
    ∙ c.in_ok-add_named.ensures.passes
