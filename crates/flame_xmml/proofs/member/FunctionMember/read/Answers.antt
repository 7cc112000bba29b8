-- The faults of the first keys come before those of the others.
use Rattle.std.proofs.Common.{◌∙◌, ap, sym, subst}
use Rattle.serde_json.specs.View.{view}
use Rattle.flame_rows.proofs.Lists.{append-nils}
use Rattle.flame_spec.specs.declared.models.Function.{Function}
use Rattle.flame_xmml.specs.declared.member.Step.{Step}
use Rattle.flame_xmml.specs.declared.member.Uses.{Uses}
use Rattle.flame_xmml.specs.FunctionStep.{step_of}
use Rattle.flame_spec.specs.FirstFaults.{FailsFirst}
use Rattle.flame_spec.proofs.FaultLists.{Reads-passed, FailsFirst-append, FailsFirst-behind}
use Rattle.flame_xmml.specs.ShapeFaults.{function_keys}
use Rattle.flame_xmml.specs.ValuePlaces.{path_of}
use Rattle.flame_xmml.proofs.FunctionParts.{function_keys-parts}
use Rattle.flame_xmml.proofs.Firsts.{first_in_object, object_faults-is}
use Rattle.flame_xmml.proofs.member.FunctionMember.read.Goals as goal

pub returns-in_err-step : goal.returns-in_err-step
returns-in_err-step c =
    Reads-passed _ _ _ c.from_residual-in_err-step.result c.from_residual-in_err-step.ensures.1
    (first_in_object function_keys (path_of c.args.place.now) (view c.args.value.now) _ c.in_ok-object.ensures.object
    (FailsFirst-append _ _ _ (FailsFirst-append _ _ _ (FailsFirst-append _ _ _ c.in_err-step.ensures))))

pub returns-in_err-uses : goal.returns-in_err-uses
returns-in_err-uses c =
    let path = path_of c.args.place.now in
    let value = view c.args.value.now in
    Reads-passed _ _ _ c.from_residual-in_err-uses.result c.from_residual-in_err-uses.ensures.1
    (first_in_object function_keys path value _ c.in_ok-object.ensures.object
    (subst (λ faults. FailsFirst faults c.in_err-uses.field-0.0) (sym (function_keys-parts path value))
    (FailsFirst-behind _ _ _ c.in_ok-step.ensures.0 c.in_err-uses.ensures)))

pub returns : goal.returns
returns c =
    let path = path_of c.args.place.now in
    let value = view c.args.value.now in
    let build : Step → Uses → Function = λ step uses. record {
      name = step.name;
      current = step.current;
      next = step.next;
      condition = uses.condition;
      inputs = uses.inputs;
      outputs = uses.outputs;
    } in (
      object_faults-is function_keys path value c.in_ok-object.ensures.object
          ∙ function_keys-parts path value
          ∙ append-nils _ _ c.in_ok-step.ensures.0 c.in_ok-uses.ensures.0,
      ap (λ step. build step c.in_ok-uses.uses) c.in_ok-step.ensures.1
          ∙ ap (build (step_of value)) c.in_ok-uses.ensures.1,
    )
