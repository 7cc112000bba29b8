-- The routes of one type more.
use Rattle.std.proofs.Common.{◌≡◌, ◌∙◌, ◌+◌, List, [], ◌++◌, Some, length, map, ap, sym, subst, refl, arith}
use Rattle.std.specs.Prelude.{slice_get}
use Rattle.std.proofs.lemmas.Option.{slice_get_read}
use Rattle.flame_spec.specs.declared.models.AgentType.{AgentType}
use Rattle.flame_spec.specs.declared.models.Model.{Model}
use Rattle.flame_route.specs.ModelRoutes.{start_place}
use Rattle.flame_route.specs.TypeRoutes.{ReadsAll, AreTypeRoutes}
use Rattle.flame_route.proofs.SoFar.{AreSoFar, none-so-far, one-type-more, all-types, read-all}
use Rattle.flame_route.proofs.routes.Routes.of.Goals as goal

pub routes_of-requires : goal.routes_of-requires
routes_of-requires c =
    let agents = c.items-agents.result.now in
    let i = c.loop-i.i in
    let agent = c.index-agents-i.result in
    subst (λ (model : Model). ReadsAll model agent.functions) (sym c.in_ok-messages.ensures)
    (read-all c.args.model.now i agent c.requires
    (ap (λ types. slice_get types i) (sym c.items-agents.ensures)
    ∙ slice_get_read agents (length agents) i agent refl c.loop-i-test.true c.index-agents-i.is))

pub loop-i-init : goal.loop-i-init
loop-i-init c =
    let model = c.args.model.now in
    subst (λ routes. AreSoFar model 0 routes c.new-leaving.result.items) (sym c.new-routes.ensures.items)
    (subst (λ leaving. AreSoFar model 0 [] leaving) (sym c.new-leaving.ensures.items) (none-so-far model))

pub loop-i-preserved : goal.loop-i-preserved
loop-i-preserved c =
    let model = c.args.model.now in
    let agents = c.items-agents.result.now in
    let i = c.loop-i.i in
    let agent = c.index-agents-i.result in
    let routes = c.loop-i.routes.items in
    let leaving = c.loop-i.leaving.items in
    let own = c.in_ok-own.own.routes.items in
    let out = c.in_ok-own.own.leaving in
    let there : slice_get model.agents i ≡ Some agent =
    ap (λ types. slice_get types i) (sym c.items-agents.ensures)
    ∙ slice_get_read agents (length agents) i agent refl c.loop-i-test.true c.index-agents-i.is in
    let first : c.in_ok-first.first ≡ length routes = c.in_ok-first.ensures ∙ c.len.ensures ∙ c.loop-i.routes.ok.0 in
    let mine : AreTypeRoutes model i agent (length routes) own out =
    subst (λ at. AreTypeRoutes model at agent (length routes) own out) c.in_ok-at.ensures
    (subst (λ n. AreTypeRoutes model c.in_ok-at.at agent n own out) first
    (subst (λ m. AreTypeRoutes m c.in_ok-at.at agent c.in_ok-first.first own out) c.in_ok-messages.ensures c.in_ok-own.ensures)) in
    subst (λ all. AreSoFar model (i + 1) all c.push.new.self.items) (sym c.in_ok-append.ensures.items)
    (subst (λ all. AreSoFar model (i + 1) (routes ++ own) all) (sym c.in_ok-push.ensures.items)
    (one-type-more model i agent routes leaving own out there c.loop-i.invariant mine))

pub returns : goal.returns
returns c =
    let model = c.args.model.now in
    let agents = c.items-agents.result.now in
    let routes = c.of-2.result in
    let leaving = c.of-3.result in
    let end : c.loop-i.i ≡ length agents = omega (arith, c.loop-i-test.false, c.loop-i.auto.i-end) in
    let many : length agents ≡ length model.agents = ap (λ (types : List AgentType). length types) c.items-agents.ensures in
    all-types model (record { routes = routes; leaving = leaving; starts = c.of-4.result })
    (subst (λ n. AreSoFar model n routes leaving) (end ∙ many)
    (subst (λ all. AreSoFar model c.loop-i.i all leaving) (sym c.of-2.ensures)
    (subst (λ all. AreSoFar model c.loop-i.i c.loop-i.routes.items all) (sym c.of-3.ensures) c.loop-i.invariant)))
    (c.of-4.ensures ∙ c.in_ok-starts_of.ensures ∙ ap (map start_place) c.items-agents.ensures)
