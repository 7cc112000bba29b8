-- The name of a member stands at its place.
use Rattle.std.proofs.Common.{◌≡◌, ◌++◌, ◌∙◌, refl, sym, ap, subst}
use Rattle.std.proofs.lemmas.Result.{IfOk-weaker, IfErr-weaker, on_ok_weaker}
use Rattle.serde_json.specs.View.{view}
use Rattle.flame_spec.specs.FirstFaults.{FailsFirst}
use Rattle.flame_popfile.proofs.TakenNames.{name_known, name_missing, type_known, taken_known}
use Rattle.flame_popfile.proofs.agents.kind_of.Goals as goal

pub returns-in-Some-clause-none : goal.returns-in-Some-clause-none
returns-in-Some-clause-none c =
    let same =
    name_known c.args.kinds.now c.args.earlier.now c.args.place _ (view c.args.value.now) c.in-Some.name.now refl
    c.in-Some.ensures in
    on_ok_weaker c.kind_named.result (λ e. same ∙ e) c.kind_named.ensures.none

pub returns-in-Some-clause-kind : goal.returns-in-Some-clause-kind
returns-in-Some-clause-kind c =
    let same = type_known c.args.kinds.now (view c.args.value.now) c.in-Some.name.now c.in-Some.ensures in
    IfOk-weaker c.kind_named.result _ _ (λ kind e. same ∙ e) c.kind_named.ensures.kind

pub returns-in-Some-clause-names : goal.returns-in-Some-clause-names
returns-in-Some-clause-names c =
    let same = taken_known c.args.format (view c.args.value.now) c.in-Some.name.now c.in-Some.ensures in
    on_ok_weaker c.kind_named.result (λ e. e ∙ ap (λ names. c.args.earlier.now ++ names) same) c.kind_named.ensures.names

pub returns-in-Some-clause-first : goal.returns-in-Some-clause-first
returns-in-Some-clause-first c =
    let same =
    name_known c.args.kinds.now c.args.earlier.now c.args.place _ (view c.args.value.now) c.in-Some.name.now refl
    c.in-Some.ensures in
    IfErr-weaker c.kind_named.result _ _ (λ fail h. subst (λ faults. FailsFirst faults fail) (sym same) h)
    c.kind_named.ensures.first

pub returns-in-None-clause-first : goal.returns-in-None-clause-first
returns-in-None-clause-first c =
    let same =
    name_missing c.args.kinds.now c.args.earlier.now c.args.place _ (view c.args.value.now) refl c.in-None.ensures in
    subst (λ faults. FailsFirst faults c.fault.result) (sym same) c.fault.ensures
