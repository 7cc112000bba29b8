use Rattle.std.proofs.Common.{ap, sym, subst, ◌∙◌}
use Rattle.std.proofs.lemmas.Option.{slice_get_within}
use Rattle.flame_spec.specs.Below.{HasNoTwice}
use Rattle.flame_spec.specs.Functions.{functions}
use Rattle.flame_meaning.specs.Outcomes.{outputs_at}
use Rattle.flame_orders.proofs.OnceOutputs.{outputs_once}
use Rattle.flame_share.proofs.parts.outputs_of.Goals as goal

pub route_of-route-requires : goal.route_of-route-requires
route_of-route-requires c = slice_get_within (functions c.args.program.now.model) c.args.function c.requires.place c.requires.at

pub returns-clause-outputs : goal.returns-clause-outputs
returns-clause-outputs c =
    c.items.ensures
    ∙ (c.route_of-route.ensures c.requires.place c.requires.at).outputs
    ∙ ap (λ place. outputs_at place c.args.program.now.model) (sym c.requires.at)

pub returns-clause-once : goal.returns-clause-once
returns-clause-once c =
    let same = c.items.ensures
    ∙ (c.route_of-route.ensures c.requires.place c.requires.at).outputs
    ∙ ap (λ place. outputs_at place c.args.program.now.model) (sym c.requires.at) in
    subst HasNoTwice (sym same) (outputs_once c.args.program.now c.source-accepted.ensures.accepted c.args.function)
