-- A name of a type is to be new.
use Rattle.std.proofs.Common.{◌∙◌, sym, subst}
use Rattle.flame_spec.specs.FirstFaults.{FailsFirst}
use Rattle.flame_spec.proofs.FaultLists.{FailsFirst-passed}
use Rattle.flame_xmml.specs.ValuePlaces.{path_of}
use Rattle.flame_popfile.proofs.TakenNames.{name_of_type, name_of_none}
use Rattle.flame_popfile.proofs.agents.kind_named.Goals as goal

pub returns-in_err-add_name-in-Some-clause-first : goal.returns-in_err-add_name-in-Some-clause-first
returns-in_err-add_name-in-Some-clause-first c =
    FailsFirst-passed _ _ c.from_residual.result c.from_residual.ensures.1
    (subst (λ faults. FailsFirst faults c.in_err-add_name-in-Some.field-0.0)
    (sym
    (name_of_type c.args.kinds.now c.args.earlier.now (path_of c.args.place.now) c.args.name.now _ (sym c.in-Some.ensures)))
    c.in_err-add_name-in-Some.ensures.passes)

pub returns-in_ok-add_name-in-Some-clause-none : goal.returns-in_ok-add_name-in-Some-clause-none
returns-in_ok-add_name-in-Some-clause-none c =
    name_of_type c.args.kinds.now c.args.earlier.now (path_of c.args.place.now) c.args.name.now _ (sym c.in-Some.ensures)
    ∙ c.in_ok-add_name-in-Some.ensures.passes

pub returns-in-None-clause-first : goal.returns-in-None-clause-first
returns-in-None-clause-first c =
    subst (λ faults. FailsFirst faults c.fault.result)
    (sym (name_of_none c.args.kinds.now c.args.earlier.now (path_of c.args.place.now) c.args.name.now (sym c.in-None.ensures)))
    c.fault.ensures
