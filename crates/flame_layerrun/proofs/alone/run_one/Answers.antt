use Rattle.std.proofs.Common.{◌+◌, ◌<◌, ◌∙◌, ap, length, subst, sym}
use Rattle.std.specs.List.{All}
use Rattle.flame_world.specs.declared.pieces.Part.{Part}
use Rattle.flame_world.specs.declared.pieces.Rest.{Rest}
use Rattle.flame_events.specs.LegalEvents.{outputs_of}
use Rattle.flame_lanes.specs.LayerBoards.{weigh_board}
use Rattle.flame_layerrun.proofs.ListedOutputs.{outputs-known}
use Rattle.flame_lanes.proofs.Columned.{All-unmapped}
use Rattle.flame_layerrun.proofs.alone.run_one.Goals as goal

pub put_parts-requires : goal.put_parts-requires
put_parts-requires g c =
    let model = c.args.floor.now.round.program.now.model in
    let outputs = outputs_of model c.args.task.function in
    let count = length c.args.boards.now.items in
    All-unmapped (λ message. message < count) (λ (part : Part). part.message) c.in_ok-rest.parts.items
    (subst (All (λ message. message < count)) (sym c.in_ok-rest.ensures.outputs)
    (subst (λ n. All (λ message. message < n) outputs) (sym c.requires.boards) (outputs-known model c.args.task.function)))

pub returns-clause-left : goal.returns-clause-left
returns-clause-left g c = λ read all.
    ap (λ (rest : Rest). record { place = c.args.task.place; rest = rest }) (c.in_ok-rest.ensures.rest read all)

pub returns-clause-sent : goal.returns-clause-sent
returns-clause-sent g c = λ read all message weight.
    c.in_ok-put_parts.ensures.moved message weight
    ∙ ap (λ n. weigh_board c.args.boards.now.items message weight + n) (c.in_ok-rest.ensures.parts read all message weight)
