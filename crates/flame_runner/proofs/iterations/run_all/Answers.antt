use Rattle.std.proofs.Common.{◌≡◌, ◌∙◌, ◌<◌, ◌+◌, ap, drop, length, sym, subst, Ok}
use Rattle.std.specs.Prelude.{slice_index_or}
use Rattle.std.proofs.lemmas.List.{drop_more}
use Rattle.flame_spec.specs.Before.{before, function_count}
use Rattle.flame_spec.specs.ModelOrder.{model_order}
use Rattle.flame_world.specs.Iterations.{and_on, step, steps}
use Rattle.flame_world.proofs.WidthsKept.{fitting_fields_stay}
use Rattle.flame_field.specs.KeptFields.{field_of}
use Rattle.flame_round.specs.Choices.{choice_at}
use Rattle.flame_round.specs.KeptRounds.{round_of}
use Rattle.flame_runner.specs.KeptSteps.{result_of, IsOnDealt}
use Rattle.flame_runner.proofs.iterations.run_all.Goals as goal

pub step-requires-clause-there : goal.step-requires-clause-there
step-requires-clause-there c =
    let model = c.args.round.now.program.now.model in
    let place = c.loop-function.function-index in
    let order : c.items-function-items.result.now ≡ model_order model = c.items-function-items.ensures ∙ c.plan.ensures.order in
    subst (λ list. slice_index_or list place 0 < function_count model) (sym order)
    (c.orders.ensures.functions (function_count model) (before model) place
    (subst (λ list. place < length list) order c.loop-function-test.true))

pub loop-function-preserved : goal.loop-function-preserved
loop-function-preserved c =
    let round = round_of c.args.round.now in
    let items = c.items-function-items.result.now in
    let place = c.loop-function.function-index in
    let function = slice_index_or items place 0 in
    let field = field_of c.loop-function.field in
    let stepped : step round function field ≡ Ok (field_of c.in-On.next) = sym c.in_ok-next.ensures.stepped ∙ ap result_of c.in-On.is in
    let old = c.loop-function.invariant in
    record {
      fits = fitting_fields_stay round function field (field_of c.in-On.next) old.fits stepped;
      dealt = subst (IsOnDealt (choice_at round.source.model round.iteration)) c.in-On.is c.in_ok-next.ensures.dealt;
      rest =
          sym (ap (λ r. and_on r (steps round (drop (place + 1) items))) stepped)
          ∙ ap (λ list. steps round list field) (sym (drop_more items place 0 c.loop-function-test.true))
          ∙ old.rest;
    }
