-- Each branch opens one layer of the condition.
use Rattle.std.proofs.Common.{◌≡◌, ◌<◌, sym, ap, ◌∙◌, subst, codes, arith}
use Rattle.serde_json.specs.Data.{depth}
use Rattle.serde_json.specs.View.{view}
use Rattle.flame_spec.specs.declared.conditions.Condition.{Not as negation}
use Rattle.flame_spec.specs.Paths.{at_key}
use Rattle.flame_xmml.specs.ValuePlaces.{path_of}
use Rattle.flame_xmml.specs.ConditionShapes.{condition_faults, condition_of, time_faults, time_of}
use Rattle.flame_xmml.specs.ValueData.{data_of}
use Rattle.flame_xmml.specs.ValueParts.{is_object, required}
use Rattle.flame_spec.specs.FirstFaults.{FailsFirst}
use Rattle.flame_spec.proofs.FaultLists.{Reads-same, Reads-passed, FailsFirst-append}
use Rattle.flame_xmml.proofs.Paths.{path_of-Key, inside}
use Rattle.flame_xmml.proofs.Layers.{found-whole, part-depth, negated, timed, operated}
use Rattle.flame_xmml.proofs.condition.+condition.Goals as goal

pub condition-inner_at-requires : goal.condition-inner_at-requires
condition-inner_at-requires t c =
    let opened = found-whole (view c.in-Some.value.now) _ c.in-Some.ensures in
    let same : depth (view c.in-Some.value.now) ≡ depth (data_of c.args.value) = ap depth opened.1 in
    (omega (arith, same), ap is_object opened.1 ∙ opened.0)

pub condition-returns-in_err-inner : goal.condition-returns-in_err-inner
condition-returns-in_err-inner t c =
    let here = negated c.args.in_filter (path_of c.args.place.now) _ _ c.in-Some.ensures (cc) in
    Reads-passed _ _ _ c.from_residual.result c.from_residual.ensures.1
    (subst (λ faults. FailsFirst faults c.in_err-inner.field-0.0) (sym here.0) c.in_err-inner.ensures)

pub condition-returns-in_ok-inner : goal.condition-returns-in_ok-inner
condition-returns-in_ok-inner t c =
    let here = negated c.args.in_filter (path_of c.args.place.now) _ _ c.in-Some.ensures (cc) in
    (here.0 ∙ c.in_ok-inner.ensures.0, ap negation c.in_ok-inner.ensures.1 ∙ sym here.1)

pub condition-returns-then-has-2 : goal.condition-returns-then-has-2
condition-returns-then-has-2 t c =
    let here = timed c.args.in_filter (path_of c.args.place.now) _ _ c.in-Some.ensures (cc) (cc) in
    let there = sym c.part.ensures.value in
    Reads-same c.time.result
    (here.0 ∙ ap (λ value. time_faults c.args.in_filter (at_key (path_of c.args.place.now) (codes "time")) value) there)
    (here.1 ∙ ap time_of there)
    (rw path_of-Key at c.time.ensures)

pub condition-returns-else-has-2 : goal.condition-returns-else-has-2
condition-returns-else-has-2 t c =
    let here = operated c.args.in_filter (path_of c.args.place.now) _ _ c.in-Some.ensures (cc) (cc) in
    Reads-same c.operation.result here.0 here.1 c.operation.ensures

pub sides-returns-in_err-left : goal.sides-returns-in_err-left
sides-returns-in_err-left t c =
    Reads-passed _ _ _ c.from_residual.result c.from_residual.ensures.1
    (FailsFirst-append _ _ (required (condition_faults c.args.in_filter) (codes "rhs") (path_of c.args.place.now) (view c.args.value.now)) c.in_err-left.ensures)

pub inner_at-condition-requires : goal.inner_at-condition-requires
inner_at-condition-requires t c =
    let less : depth (data_of c.part.result) < depth (view c.args.value.now) =
    rw c.part.ensures.value (part-depth c.args.key.now (view c.args.value.now) c.requires.1.1) in
    (omega arith, tt)

pub inner_at-returns-in_err-inner : goal.inner_at-returns-in_err-inner
inner_at-returns-in_err-inner t c =
    let moved = inside c.args.in_filter c.args.place c.args.key _ (view c.args.value.now) c.part.ensures.value in
    Reads-passed _ _ _ c.from_residual.result c.from_residual.ensures.1
    (subst (λ faults. FailsFirst faults c.in_err-inner.field-0.0) moved c.in_err-inner.ensures)

pub inner_at-returns : goal.inner_at-returns
inner_at-returns t c =
    let moved = inside c.args.in_filter c.args.place c.args.key _ (view c.args.value.now) c.part.ensures.value in (
      sym moved ∙ c.in_ok-inner.ensures.0,
      c.in_ok-of.ensures ∙ c.in_ok-inner.ensures.1 ∙ ap condition_of c.part.ensures.value,
    )
