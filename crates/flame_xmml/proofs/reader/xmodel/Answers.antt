-- The faults of a key come before those of the keys after it.
use Rattle.serde_json.specs.View.{view}
use Rattle.flame_rows.proofs.Lists.{append-nils}
use Rattle.flame_spec.proofs.FaultLists.{Reads-passed, FailsFirst-append, FailsFirst-behind}
use Rattle.flame_xmml.specs.ShapeFaults.{xmodel_keys, plain}
use Rattle.flame_xmml.specs.ValuePlaces.{path_of}
use Rattle.flame_xmml.proofs.Firsts.{first_in_object}
use Rattle.flame_xmml.proofs.reader.xmodel.Goals as goal

pub returns-in_err-messages : goal.returns-in_err-messages
returns-in_err-messages c =
    let here = FailsFirst-behind _ _ _ c.in_ok-constants.ensures.0 c.in_err-messages.ensures in
    Reads-passed _ _ _ c.from_residual-in_err-messages.result c.from_residual-in_err-messages.ensures.1
    (first_in_object (xmodel_keys plain) (path_of c.args.place.now) (view c.args.value.now) _ c.in_ok-object.ensures.object
    (FailsFirst-append _ _ _ (FailsFirst-append _ _ _ here)))

pub returns-in_err-agents : goal.returns-in_err-agents
returns-in_err-agents c =
    let before = append-nils _ _ c.in_ok-constants.ensures.0 c.in_ok-messages.ensures.0 in
    let here = FailsFirst-behind _ _ _ before c.in_err-agents.ensures in
    Reads-passed _ _ _ c.from_residual-in_err-agents.result c.from_residual-in_err-agents.ensures.1
    (first_in_object (xmodel_keys plain) (path_of c.args.place.now) (view c.args.value.now) _ c.in_ok-object.ensures.object
    (FailsFirst-append _ _ _ here))

pub returns-in_err-empty_at : goal.returns-in_err-empty_at
returns-in_err-empty_at c =
    let lists = append-nils _ _ c.in_ok-constants.ensures.0 c.in_ok-messages.ensures.0 in
    let before = append-nils _ _ lists c.in_ok-agents.ensures.0 in
    let here = FailsFirst-behind _ _ _ before c.in_err-empty_at.ensures in
    Reads-passed _ _ _ c.from_residual-in_err-empty_at.result c.from_residual-in_err-empty_at.ensures.1
    (first_in_object (xmodel_keys plain) (path_of c.args.place.now) (view c.args.value.now) _ c.in_ok-object.ensures.object
    here)
