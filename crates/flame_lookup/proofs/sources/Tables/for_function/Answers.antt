use Rattle.std.proofs.Common.{◌≡◌, ◌∙◌, ◌<◌, ap, sym, subst, length, option_map, Option, Some}
use Rattle.std.specs.Prelude.{slice_get}
use Rattle.std.proofs.lemmas.Option.{slice_get_within}
use Rattle.flame_spec.specs.declared.models.AgentType.{AgentType}
use Rattle.flame_spec.specs.Functions.{Place, functions}
use Rattle.flame_lookup.specs.Sources.{Sources, BodyPlace}
use Rattle.flame_lookup.specs.WordsFound.{place_found}
use Rattle.flame_lookup.proofs.Firsts.{seen_as}
use Rattle.flame_lookup.proofs.Places.{slice_get-type}
use Rattle.flame_lookup.proofs.sources.Tables.for_function.Goals as goal

pub memory-requires : goal.memory-requires
memory-requires c =
    let place = c.index-places-number.result in
    let model = c.args.self.now.model in
    let shown = c.places.ensures ∙ c.self.invariant.in_order ∙ ap (λ (sources : Sources). functions sources.model) c.self.view_is in
    let there = seen_as place_found c.places.result.now (functions model) c.args.number place shown c.requires c.index-places-number.is in
    let same = c.self.invariant.agents ∙ ap (λ (sources : Sources). sources.model.agents) c.self.view_is in
    subst (λ agents. place.number < length agents) (sym same)
    (slice_get_within model.agents place.number place.agent.now
    (slice_get-type model.agents c.args.number (place_found place) there))

pub of-requires : goal.of-requires
of-requires c =
    let place = c.index-places-number.result in
    let model = c.args.self.now.model in
    let shown = c.places.ensures ∙ c.self.invariant.in_order ∙ ap (λ (sources : Sources). functions sources.model) c.self.view_is in
    let there = seen_as place_found c.places.result.now (functions model) c.args.number place shown c.requires c.index-places-number.is in
    let type = slice_get-type model.agents c.args.number (place_found place) there in
    let agents = c.self.invariant.agents ∙ ap (λ (sources : Sources). sources.model.agents) c.self.view_is in
    let memory = sym (ap (option_map (λ (agent : AgentType). agent.memory)) type)
    ∙ ap (λ types. option_map (λ (agent : AgentType). agent.memory) (slice_get types place.number)) (sym agents)
    ∙ c.memory.ensures in
    let same : place.agent.now.memory ≡ c.memory.result.now = cc in
    sym same

pub returns : goal.returns
returns c =
    let place = c.index-places-number.result in
    let model = c.args.self.now.model in
    let shown = c.places.ensures ∙ c.self.invariant.in_order ∙ ap (λ (sources : Sources). functions sources.model) c.self.view_is in
    let there = seen_as place_found c.places.result.now (functions model) c.args.number place shown c.requires c.index-places-number.is in
    let standing : Option Place → BodyPlace = λ runs. record { sources = c.args.self.now; runs = runs; file = c.args.file } in
    c.of-2.ensures ∙ ap (λ (p : Place). standing (Some p)) c.in_ok-runs.ensures ∙ ap standing (sym there)
