-- The faults of a key come before those of the keys after it.
use Rattle.serde_json.specs.View.{view}
use Rattle.flame_rows.proofs.Lists.{append-nils}
use Rattle.flame_spec.proofs.FaultLists.{Reads-passed, FailsFirst-append, FailsFirst-behind}
use Rattle.flame_xmml.specs.ShapeFaults.{input_keys}
use Rattle.flame_xmml.specs.ValuePlaces.{path_of}
use Rattle.flame_xmml.proofs.Firsts.{first_in_object}
use Rattle.flame_xmml.proofs.member.InputMember.read.Goals as goal

pub returns-in_err-name_at : goal.returns-in_err-name_at
returns-in_err-name_at c =
    Reads-passed _ _ _ c.from_residual-in_err-name_at.result c.from_residual-in_err-name_at.ensures.1
    (first_in_object input_keys (path_of c.args.place.now) (view c.args.value.now) _ c.in_ok-object.ensures.object
    (FailsFirst-append _ _ _ (FailsFirst-append _ _ _ (FailsFirst-append _ _ _ c.in_err-name_at.ensures))))

pub returns-in_err-truth_at : goal.returns-in_err-truth_at
returns-in_err-truth_at c =
    let here = FailsFirst-behind _ _ _ c.in_ok-name_at.ensures.0 c.in_err-truth_at.ensures in
    Reads-passed _ _ _ c.from_residual-in_err-truth_at.result c.from_residual-in_err-truth_at.ensures.1
    (first_in_object input_keys (path_of c.args.place.now) (view c.args.value.now) _ c.in_ok-object.ensures.object
    (FailsFirst-append _ _ _ (FailsFirst-append _ _ _ here)))

pub returns-in_err-condition_at : goal.returns-in_err-condition_at
returns-in_err-condition_at c =
    let before = append-nils _ _ c.in_ok-name_at.ensures.0 c.in_ok-truth_at.ensures.0 in
    let here = FailsFirst-behind _ _ _ before c.in_err-condition_at.ensures in
    Reads-passed _ _ _ c.from_residual-in_err-condition_at.result c.from_residual-in_err-condition_at.ensures.1
    (first_in_object input_keys (path_of c.args.place.now) (view c.args.value.now) _ c.in_ok-object.ensures.object
    (FailsFirst-append _ _ _ here))
