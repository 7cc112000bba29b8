-- The route of one function more.
use Rattle.std.proofs.Common.{◌≡◌, ◌∙◌, ◌+◌, ℕ, List, [], ◌∷◌, ◌++◌, Some, length, map, ap, sym, subst, refl, cond, arith}
use Rattle.std.specs.Prelude.{slice_get}
use Rattle.std.specs.Str.{bytes_eq}
use Rattle.std.proofs.lemmas.Option.{slice_get_read}
use Rattle.flame_lookup.specs.WordTables.{numbers_under}
use Rattle.flame_spec.specs.declared.models.Function.{Function}
use Rattle.flame_route.specs.TypeRoutes.{AreTaken}
use Rattle.flame_route.proofs.RouteChoices.{none-taken, one-function-more}
use Rattle.flame_route.proofs.types.chosen_routes.Goals as goal

pub route_of-requires-clause-reads : goal.route_of-requires-clause-reads
route_of-requires-clause-reads c =
    let functions = c.items-functions.result.now in
    let i = c.loop-i.i in
    let function = c.index-functions-i.result in
    c.requires.reads i function
    (ap (λ fs. slice_get fs i) (sym c.items-functions.ensures)
    ∙ slice_get_read functions (length functions) i function refl c.loop-i-test.true c.index-functions-i.is)

pub loop-i-init : goal.loop-i-init
loop-i-init c =
    let under = numbers_under c.args.table.now in
    subst (λ routes. AreTaken c.args.messages.now c.args.at c.args.agent.now c.args.first 0 routes under)
    (sym c.new-routes.ensures.items)
    (none-taken c.args.messages.now c.args.at c.args.agent.now c.args.first under c.requires.none)

pub loop-i-preserved : goal.loop-i-preserved
loop-i-preserved c =
    let model = c.args.messages.now in
    let agent = c.args.agent.now in
    let first = c.args.first in
    let functions = c.items-functions.result.now in
    let i = c.loop-i.i in
    let function = c.index-functions-i.result in
    let under = numbers_under c.loop-i.table in
    let after = numbers_under c.next_choice.new.table in
    let route = c.in_ok-route.route in
    let at : slice_get agent.functions i ≡ Some function =
    ap (λ fs. slice_get fs i) (sym c.items-functions.ensures)
    ∙ slice_get_read functions (length functions) i function refl c.loop-i-test.true c.index-functions-i.is in
    let choice : route.choice ≡ length (under function.current) =
    c.in_ok-route.ensures.choice ∙ c.in_ok-choice.ensures.choice ∙ ap (λ state. length (under state)) c.as_str.ensures in
    let noted : (state : List ℕ) → after state ≡ cond (bytes_eq function.current state) (under state ++ (first + i) ∷ []) (under state) =
    λ state. c.in_ok-choice.ensures.noted state
    ∙ ap (λ text. cond (bytes_eq text state) (under state ++ c.in_ok-here.here ∷ []) (under state)) c.as_str.ensures
    ∙ ap (λ n. cond (bytes_eq function.current state) (under state ++ n ∷ []) (under state)) c.in_ok-here.ensures in
    subst (λ routes. AreTaken model c.args.at agent first (i + 1) routes after) (sym c.in_ok-push.ensures.items)
    (one-function-more model c.args.at agent first i c.loop-i.routes.items under function route after at c.loop-i.invariant
    c.in_ok-route.ensures.route choice noted)

pub returns : goal.returns
returns c =
    let functions = c.items-functions.result.now in
    let end : c.loop-i.i ≡ length functions = omega (arith, c.loop-i-test.false, c.loop-i.auto.i-end) in
    let many : length functions ≡ length c.args.agent.now.functions =
    ap (λ (fs : List Function). length fs) c.items-functions.ensures in
    subst (λ n. AreTaken c.args.messages.now c.args.at c.args.agent.now c.args.first n c.loop-i.routes.items
    (numbers_under c.loop-i.table))
    (end ∙ many) c.loop-i.invariant
