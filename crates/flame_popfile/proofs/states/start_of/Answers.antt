-- The whole value is an object with `states`.
use Rattle.std.proofs.Common.{◌∙◌, codes, refl, sym, ap, subst}
use Rattle.serde_json.specs.Data.{null}
use Rattle.serde_json.specs.View.{view}
use Rattle.flame_spec.specs.FirstFaults.{FailsFirst}
use Rattle.flame_spec.specs.Paths.{root, at_key}
use Rattle.flame_spec.proofs.FaultLists.{Reads-same, Reads-passed}
use Rattle.flame_xmml.specs.ValueParts.{part}
use Rattle.flame_popfile.specs.declared.faults.PopKind.TheVariants.{Shape}
use Rattle.flame_popfile.specs.PopulationParts.{object_faults, refused}
use Rattle.flame_popfile.specs.PopulationFaults.{states_faults}
use Rattle.flame_popfile.specs.PopulationStarts.{states_start}
use Rattle.flame_xmml.proofs.Paths.{path_of-Root}
use Rattle.flame_popfile.proofs.PlacePaths.{object_not, whole}
use Rattle.flame_popfile.proofs.states.start_of.Goals as goal

pub returns-in_err-object : goal.returns-in_err-object
returns-in_err-object c =
    Reads-passed _ _ _ c.from_residual.result c.from_residual.ensures.1
    (subst (λ l. FailsFirst l c.in_err-object.field-0.0)
    (ap (refused Shape) path_of-Root
    ∙ sym
    (object_not
    (λ path value. object_faults (states_faults c.args.model.now c.args.turns) (at_key path (codes "states"))
    (part (codes "states") value))
    root (view c.args.value.now) c.in_err-object.ensures.fault.0))
    c.in_err-object.ensures.fault.1)

pub returns-in-Some : goal.returns-in-Some
returns-in-Some c =
    Reads-same c.states_of.result
    (whole (states_faults c.args.model.now c.args.turns) _ _ (view c.in-Some.states.now) (view c.args.value.now) refl refl
    c.in_ok-object.ensures.object c.in-Some.ensures.value)
    (ap (states_start c.args.model.now) (sym c.in-Some.ensures.value))
    c.states_of.ensures

pub returns-in-None : goal.returns-in-None
returns-in-None c =
    subst (λ l. FailsFirst l c.fault.result)
    (sym
    (whole (states_faults c.args.model.now c.args.turns) _ _ null (view c.args.value.now) refl refl
    c.in_ok-object.ensures.object c.in-None.ensures.value))
    c.fault.ensures
