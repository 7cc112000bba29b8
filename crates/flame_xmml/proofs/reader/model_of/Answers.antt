-- The whole value is an object with `xmodel`.
use Rattle.std.proofs.Common.{refl, sym, ◌∙◌, subst}
use Rattle.serde_json.specs.Data.{null}
use Rattle.serde_json.specs.View.{view}
use Rattle.flame_xmml.specs.ShapeFaults.{plain}
use Rattle.flame_spec.specs.FirstFaults.{FailsFirst}
use Rattle.flame_spec.proofs.FaultLists.{FailsFirst-passed}
use Rattle.flame_xmml.proofs.Firsts.{if_ok}
use Rattle.flame_xmml.proofs.Paths.{whole}
use Rattle.flame_xmml.proofs.reader.model_of.Goals as goal

pub returns-in_err-xmodel-in-Some-clause-fault : goal.returns-in_err-xmodel-in-Some-clause-fault
returns-in_err-xmodel-in-Some-clause-fault c =
    let same = whole plain _ _ (view c.in-Some.found.now) (view c.args.value.now) refl refl
    c.in_ok-object.ensures.object c.in-Some.ensures.value in
    FailsFirst-passed _ _ c.from_residual-in_err-xmodel-in-Some.result c.from_residual-in_err-xmodel-in-Some.ensures.1
    (subst (λ faults. FailsFirst faults c.in_err-xmodel-in-Some.field-0.0) (sym same) c.in_err-xmodel-in-Some.ensures)

pub returns-in_ok-xmodel-in-Some-clause-faultless : goal.returns-in_ok-xmodel-in-Some-clause-faultless
returns-in_ok-xmodel-in-Some-clause-faultless c =
    let same = whole plain _ _ (view c.in-Some.found.now) (view c.args.value.now) refl refl
    c.in_ok-object.ensures.object c.in-Some.ensures.value in
    if_ok c.counted.result (same ∙ c.in_ok-xmodel-in-Some.ensures.0)

pub returns-in-None-clause-fault : goal.returns-in-None-clause-fault
returns-in-None-clause-fault c =
    subst (λ faults. FailsFirst faults c.fault.result)
    (sym (whole plain _ _ null (view c.args.value.now) refl refl c.in_ok-object.ensures.object c.in-None.ensures.value))
    c.fault.ensures
