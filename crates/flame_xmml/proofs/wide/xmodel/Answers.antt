-- The faults of a key come before those of the keys after it.
use Rattle.std.proofs.Common.{ap, ◌∙◌}
use Rattle.serde_json.specs.View.{view}
use Rattle.flame_rows.proofs.Lists.{append-nils}
use Rattle.flame_spec.proofs.FaultLists.{Reads-passed, FailsFirst-append, FailsFirst-behind}
use Rattle.flame_xmml.specs.ShapeFaults.{xmodel_keys, wide}
use Rattle.flame_xmml.specs.WideValues.{enabled_files}
use Rattle.flame_xmml.specs.ValuePlaces.{path_of}
use Rattle.flame_xmml.proofs.Firsts.{first_in_object, object_faults-is}
use Rattle.flame_xmml.proofs.wide.xmodel.Goals as goal

pub returns-in_err-messages : goal.returns-in_err-messages
returns-in_err-messages c =
    let here = FailsFirst-behind _ _ _ c.in_ok-environment.ensures.0 c.in_err-messages.ensures in
    Reads-passed _ _ _ c.from_residual-in_err-messages.result c.from_residual-in_err-messages.ensures.1
    (first_in_object (xmodel_keys wide) (path_of c.args.place.now) (view c.args.value.now) _ c.in_ok-object.ensures.object
    (FailsFirst-append _ _ _ (FailsFirst-append _ _ _ here)))

pub returns-in_err-agents : goal.returns-in_err-agents
returns-in_err-agents c =
    let before = append-nils _ _ c.in_ok-environment.ensures.0 c.in_ok-messages.ensures.0 in
    let here = FailsFirst-behind _ _ _ before c.in_err-agents.ensures in
    Reads-passed _ _ _ c.from_residual-in_err-agents.result c.from_residual-in_err-agents.ensures.1
    (first_in_object (xmodel_keys wide) (path_of c.args.place.now) (view c.args.value.now) _ c.in_ok-object.ensures.object
    (FailsFirst-append _ _ _ here))

pub returns-in_err-named : goal.returns-in_err-named
returns-in_err-named c =
    let lists = append-nils _ _ c.in_ok-environment.ensures.0 c.in_ok-messages.ensures.0 in
    let before = append-nils _ _ lists c.in_ok-agents.ensures.0 in
    let here = FailsFirst-behind _ _ _ before c.in_err-named.ensures in
    Reads-passed _ _ _ c.from_residual-in_err-named.result c.from_residual-in_err-named.ensures.1
    (first_in_object (xmodel_keys wide) (path_of c.args.place.now) (view c.args.value.now) _ c.in_ok-object.ensures.object
    here)

pub returns : goal.returns
returns c =
    let value = view c.args.value.now in
    let read = c.in_ok-environment.ensures in
    let lists = append-nils _ _ read.0 c.in_ok-messages.ensures.0 in
    let none = append-nils _ _ (append-nils _ _ lists c.in_ok-agents.ensures.0) c.in_ok-named.ensures.0 in
    let environment = ap (λ both. both.0) read.1 in
    let types = ap (λ both. both.1) read.1 in
    let nested = c.in_ok-nested.ensures ∙ ap enabled_files (c.items.ensures ∙ c.in_ok-named.ensures.1) in (
      object_faults-is (xmodel_keys wide) (path_of c.args.place.now) value c.in_ok-object.ensures.object ∙ none,
      λ i. record {
        constants = (environment i).constants;
        files = (environment i).files;
        units = (environment i).units;
        types = types i;
        messages = c.in_ok-messages.ensures.1 i;
        agents = c.in_ok-agents.ensures.1 i;
        nested = nested i;
      },
    )
