use Rattle.std.proofs.Common.{◌≡◌, ◌∙◌, ◌<◌, ◌+◌, ◌^◌, List, false, ap, arith, get_or, length, subst, sym}
use Rattle.std.specs.Prelude.{ℕ, ◌&&◌, nat_lt}
use Rattle.std.specs.List.{All}
use Rattle.std.proofs.lemmas.Bool.{ltb-true}
use Rattle.flame_spec.specs.Before.{function_count}
use Rattle.flame_spec.specs.Below.{is_in}
use Rattle.flame_events.specs.LegalEvents.{inputs_of}
use Rattle.flame_pieces.specs.FreeThings.{Tells}
use Rattle.flame_pieces.specs.Waiting as waits
use Rattle.flame_progress.specs.ManyWait.{waiting_for}
use Rattle.flame_progress.proofs.Allowing.{inputs_below}
use Rattle.flame_core.proofs.Counting.{functions_numbered}
use Rattle.flame_core.proofs.Openings.{all_read, inputs_told, tells_as}
use Rattle.flame_core.proofs.Routed.{goes_at, routes_many}
use Rattle.flame_core.proofs.Running.{inputs_are}
use Rattle.flame_core.proofs.starting.inputs_counted.Goals as goal

pub wait_for-requires-clause-within : goal.wait_for-requires-clause-within
wait_for-requires-clause-within c =
    let model = c.args.program.now.model in
    let many = routes_many model c.routes.result.now c.routes.ensures in
    let less : c.loop-route.route-index < function_count model = omega (arith, c.loop-route-test.true, ap length c.items-route-items.ensures, many) in
    omega (arith, less, c.loop-route.invariant.number, c.loop-route.invariant.told.many)

pub wait_for-requires-clause-open : goal.wait_for-requires-clause-open
wait_for-requires-clause-open c = λ j d within.
    let model = c.args.program.now.model in
    let k = c.loop-route.route-index in
    let many = routes_many model c.routes.result.now c.routes.ensures in
    let less : k < function_count model = omega (arith, c.loop-route-test.true, ap length c.items-route-items.ensures, many) in
    let route = c.route-item.result in
    let goes = goes_at model c.routes.result.now c.routes.ensures k route less
    (c.route-item.is ∙ ap (λ l. get_or l k route) c.items-route-items.ensures) in
    let own : c.items.result.now ≡ inputs_of model k = c.items.ensures ∙ sym (inputs_are model k route goes) in
    let P : List ℕ → Type 0 = λ l. All (λ m. m < length model.messages) l in
    let below = subst P (sym own) (inputs_below model k less) j d within in
    c.loop-route.invariant.told.which (get_or c.items.result.now j d) below

pub overflow_add-function : goal.overflow_add-function
overflow_add-function c =
    let model = c.args.program.now.model in
    let many = routes_many model c.routes.result.now c.routes.ensures in
    let less : c.loop-route.route-index < function_count model = omega (arith, c.loop-route-test.true, ap length c.items-route-items.ensures, many) in
    let few = ltb-true (function_count model) (2 ^ 32) (functions_numbered model c.requires) in
    omega (arith, less, c.loop-route.invariant.number, few)

pub loop-route-preserved : goal.loop-route-preserved
loop-route-preserved c =
    let model = c.args.program.now.model in
    let k = c.loop-route.route-index in
    let many = routes_many model c.routes.result.now c.routes.ensures in
    let less : k < function_count model = omega (arith, c.loop-route-test.true, ap length c.items-route-items.ensures, many) in
    let route = c.route-item.result in
    let goes = goes_at model c.routes.result.now c.routes.ensures k route less
    (c.route-item.is ∙ ap (λ l. get_or l k route) c.items-route-items.ensures) in
    let own : c.items.result.now ≡ inputs_of model k = c.items.ensures ∙ sym (inputs_are model k route goes) in
    let P : waits.Waiting → Type 0 = λ w. Tells (length model.messages) (function_count model)
    (λ m f. nat_lt f (k + 1) && is_in m (inputs_of model f)) (λ m. false) w in
    let is = c.in_ok-wait_for.ensures ∙ ap (λ n. waiting_for n c.items.result.now c.loop-route.waits) c.loop-route.invariant.number in
    record {
      number = ap (λ n. n + 1) c.loop-route.invariant.number;
      told = subst P (sym is) (inputs_told model k c.items.result.now c.loop-route.waits less own c.loop-route.invariant.told);
    }

pub returns : goal.returns
returns c =
    let model = c.args.program.now.model in
    let n = function_count model in
    let k = c.loop-route.route-index in
    let many = routes_many model c.routes.result.now c.routes.ensures in
    let all : k ≡ n = omega (arith, c.loop-route-test.false, c.loop-route.auto.route-index-end, ap length c.items-route-items.ensures, many) in
    tells_as (length model.messages) n (λ m f. nat_lt f k && is_in m (inputs_of model f)) (λ m f. is_in m (inputs_of model f)) (λ m. false)
    c.loop-route.waits (λ m f within. ap (λ j. nat_lt f j && is_in m (inputs_of model f)) all ∙ all_read model m f) c.loop-route.invariant.told
