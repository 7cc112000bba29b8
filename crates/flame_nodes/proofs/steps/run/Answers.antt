use Rattle.std.proofs.Common.{◌≡◌, ◌≤◌, ◌∙◌, ℕ, List, ap, map, rules, sym, subst, w32, SFits}
use Rattle.std.specs.Prelude.{ℤ}
use Rattle.std.specs.List.{All, flat_map}
use Rattle.std.proofs.lemmas.Int.{to_z-of_z}
use Rattle.std.proofs.lemmas.Result.{IfOk-weaker}
use Rattle.flame_rows.specs.Bags.{ascending, weigh}
use Rattle.flame_rows.proofs.BagLaws.{weigh-ascending}
use Rattle.flame_rows.proofs.Merging.{same_bag}
use Rattle.flame_events.specs.LegalEvents.{outputs_of}
use Rattle.flame_index.specs.FrozenBoards.{shared_messages}
use Rattle.flame_spec.specs.declared.outcomes.Outcome.{Outcome}
use Rattle.flame_meaning.specs.Outcomes.{outcome}
use Rattle.flame_share.specs.PieceFits.{FitsPiece}
use Rattle.flame_world.specs.declared.pieces.Piece.{Piece}
use Rattle.flame_nodes.specs.NodeLeavings.{AreLeftBy}
use Rattle.flame_nodes.specs.NodePieces.{agents_in, node_pieces}
use Rattle.flame_nodes.specs.declared.partings.Parting.{Parting}
use Rattle.flame_nodes.specs.PartingLaws.{EachGoesToOneNode}
use Rattle.flame_nodes.specs.Partings.{parted}
use Rattle.flame_nodes.proofs.LeftShares.{any-order}
use Rattle.flame_nodes.proofs.NodeLists.{agents-weigh, all-fit, are-own}
use Rattle.flame_nodes.proofs.steps.run.Goals as goal

-- the agents of all pieces weigh what the takers do, where each goes to one node
all-weigh : EachGoesToOneNode → (weight : List ℤ → ℕ) (function : ℕ) (parting : Parting) (nodes : ℕ) (takers : List (List ℤ)) → 1 ≤ nodes
    → weigh weight (agents_in (node_pieces function (parted parting nodes (ascending takers)))) ≡ weigh weight takers
all-weigh law weight function parting nodes takers some =
    let bags = parted parting nodes (ascending takers) in
    agents-weigh weight function bags
    ∙ sym (weigh-ascending weight (flat_map (λ bag. bag) bags))
    ∙ ap (weigh weight) (law parting nodes (ascending takers) some)
    ∙ weigh-ascending weight (ascending takers)
    ∙ weigh-ascending weight takers

pub leave_pieces-requires-clause-fit : goal.leave_pieces-requires-clause-fit
leave_pieces-requires-clause-fit g c κs within =
    let round = c.args.round.now in
    let model = round.program.now.model in
    let takers = c.args.takers.items in
    let bags = parted c.in_ok-parting.parting c.args.crew.now.nodes (ascending takers) in
    let pieces = node_pieces c.args.function bags in
    let boards = map shared_messages c.args.boards.items in
    let fits = c.requires.fits in
    let all : All (FitsPiece model round.constants.now boards) pieces =
    all-fit model c.args.function round.constants.now boards takers fits pieces (are-own c.args.function bags)
    (λ weight. all-weigh c.each_goes_to_one_node.ensures.whole weight c.args.function c.in_ok-parting.parting c.args.crew.now.nodes takers c.requires.some) in
    subst (λ (lists : List (List (List ℤ))). All (FitsPiece model round.constants.now lists) c.in_ok-pieces.pieces)
    (sym (ap (map shared_messages) c.of-boards.ensures))
    (subst (All (FitsPiece model round.constants.now boards)) (sym c.in_ok-pieces.ensures) all)

pub returns : goal.returns
returns g c =
    IfOk-weaker c.leave_pieces.result _ _
    (λ left given all named.
    let round = c.args.round.now in
    let source = round.program.now in
    let function = c.args.function in
    let takers = c.args.takers.items in
    let parting = c.in_ok-parting.parting in
    let nodes = c.args.crew.now.nodes in
    let bags = parted parting nodes (ascending takers) in
    let pieces = node_pieces function bags in
    let run : List ℤ → Outcome = λ memory. outcome source function memory all round.constants.now round.iteration round.fuel in
    let law = c.parts_make_the_whole.ensures in
    let range : SFits w32 round.iteration = search rules in
    let same : ascending (agents_in c.in_ok-pieces.pieces) ≡ ascending takers =
    ap (λ (ps : List Piece). ascending (agents_in ps)) c.in_ok-pieces.ensures
    ∙ same_bag (agents_in pieces) takers
    (λ weight. all-weigh c.each_goes_to_one_node.ensures.whole weight function parting nodes takers c.requires.some) in
    let mine : All (λ (piece : Piece). piece.function ≡ function) c.in_ok-pieces.pieces =
    subst (All (λ (piece : Piece). piece.function ≡ function)) (sym c.in_ok-pieces.ensures) (are-own function bags) in
    any-order round.iteration function run (outputs_of source.model function) law.survivors law.messages law.births law.fault
    (agents_in c.in_ok-pieces.pieces) takers left same
    (subst
    (λ (iteration : ℤ). AreLeftBy iteration function (λ memory. outcome source function memory all round.constants.now iteration round.fuel)
    (outputs_of source.model function) (agents_in c.in_ok-pieces.pieces) left)
    (to_z-of_z w32 round.iteration range)
    (given function all mine (ap (map shared_messages) c.of-boards.ensures ∙ named))))
    c.leave_pieces.ensures
