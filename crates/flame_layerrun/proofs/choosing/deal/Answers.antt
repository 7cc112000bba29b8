use Rattle.std.proofs.Common.{◌∙◌, ◌+◌, ◌<◌, List, length, map, ap, sym, subst}
use Rattle.std.specs.List.{All}
use Rattle.std.proofs.lemmas.List.{length-map}
use Rattle.flame_round.specs.Choices.{choice_at}
use Rattle.flame_round.proofs.Chosen.{choice-within, out-left}
use Rattle.flame_layerrun.proofs.choosing.deal.Goals as goal

pub deal-requires-clause-count : goal.deal-requires-clause-count
deal-requires-clause-count g c =
    let round = c.args.round.now in
    let route = c.args.route.now in
    ap length (c.items.ensures ∙ c.in_ok-choices.ensures)
    ∙ length-map c.as_slice.result.now (choice_at round.program.now.model round.iteration route.agent route.from)
    ∙ ap length c.as_slice.ensures.value

pub deal-requires-clause-within : goal.deal-requires-clause-within
deal-requires-clause-within g c =
    let round = c.args.round.now in
    let model = round.program.now.model in
    let route = c.args.route.now in
    let out = c.out_of.ensures c.requires.route.place c.requires.route.there ∙ sym (out-left model c.args.function route c.requires.route) in
    subst (λ (choices : List _). All (λ choice. choice < length c.out_of.result.now + 1) choices)
    (sym (c.items.ensures ∙ c.in_ok-choices.ensures))
    (subst (λ n. All (λ choice. choice < n + 1) (map (choice_at model round.iteration route.agent route.from) c.as_slice.result.now))
    (sym (ap length out))
    (choice-within model round.iteration route.agent route.from c.as_slice.result.now))

pub returns-clause-dealt : goal.returns-clause-dealt
returns-clause-dealt g c before =
    let round = c.args.round.now in
    let choose = choice_at round.program.now.model round.iteration c.args.route.now.agent c.args.route.now.from in
    c.deal.ensures.dealt choose (c.items.ensures ∙ c.in_ok-choices.ensures ∙ ap (map choose) c.as_slice.ensures.value) before
