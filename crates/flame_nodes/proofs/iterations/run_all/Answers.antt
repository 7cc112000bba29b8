use Rattle.std.proofs.Common.{◌≡◌, ◌∙◌, ◌<◌, ◌+◌, ap, drop, length, sym, subst, Ok}
use Rattle.std.specs.Prelude.{slice_index_or}
use Rattle.std.proofs.lemmas.List.{drop_more}
use Rattle.flame_rows.proofs.Truths.{is_some-false}
use Rattle.flame_spec.specs.Before.{before, function_count}
use Rattle.flame_spec.specs.ModelOrder.{model_order}
use Rattle.flame_world.specs.Iterations.{and_on, step, steps, unless_faulted}
use Rattle.flame_world.proofs.WidthsKept.{fitting_fields_stay}
use Rattle.flame_field.specs.KeptFields.{field_of}
use Rattle.flame_round.specs.KeptRounds.{round_of}
use Rattle.flame_nodes.proofs.NodeSteps.{stops-so}
use Rattle.flame_nodes.proofs.iterations.run_all.Goals as goal

pub step-requires-clause-there : goal.step-requires-clause-there
step-requires-clause-there g c κs within =
    let model = c.args.round.now.program.now.model in
    let place = c.loop-function.function-index in
    let order : c.items-function-items.result.now ≡ model_order model = c.items-function-items.ensures ∙ c.plan.ensures.order in
    subst (λ list. slice_index_or list place 0 < function_count model) (sym order)
    (c.orders.ensures.functions (function_count model) (before model) place
    (subst (λ list. place < length list) order c.loop-function-test.true))

pub loop-function-preserved : goal.loop-function-preserved
loop-function-preserved g c =
    let round = round_of c.args.round.now in
    let items = c.items-function-items.result.now in
    let place = c.loop-function.function-index in
    let function = slice_index_or items place 0 in
    let field = field_of c.loop-function.field in
    let next = field_of c.step.new.field in
    let stepped : step round function field ≡ Ok next =
    sym c.in_ok-fault.ensures.stepped
    ∙ ap (λ fault. unless_faulted fault next) (is_some-false c.in_ok-fault.fault (sym c.if-is_some.ensures)) in
    let old = c.loop-function.invariant in
    record {
      fits = fitting_fields_stay round function field next old.fits stepped;
      dealt = c.in_ok-fault.ensures.dealt;
      rest =
          sym (ap (λ r. and_on r (steps round (drop (place + 1) items))) stepped)
          ∙ ap (λ list. steps round list field) (sym (drop_more items place 0 c.loop-function-test.true))
          ∙ old.rest;
    }

pub returns-then-is_some : goal.returns-then-is_some
returns-then-is_some g c =
    let round = round_of c.args.round.now in
    let items = c.items-function-items.result.now in
    let place = c.loop-function.function-index in
    let field = field_of c.loop-function.field in
    let next = field_of c.step.new.field in
    let order : items ≡ model_order round.source.model = c.items-function-items.ensures ∙ c.plan.ensures.order in
    sym (stops-so c.in_ok-fault.fault next (steps round (drop (place + 1) items)) (sym c.if-is_some.ensures))
    ∙ ap (λ r. and_on r (steps round (drop (place + 1) items))) c.in_ok-fault.ensures.stepped
    ∙ ap (λ list. steps round list field) (sym (drop_more items place 0 c.loop-function-test.true))
    ∙ c.loop-function.invariant.rest
    ∙ ap (λ list. steps round list (field_of c.args.field.now)) order
