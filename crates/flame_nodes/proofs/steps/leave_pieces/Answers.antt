use Rattle.std.proofs.Common.{◌≡◌, ◌∙◌, List, ap, map, sym, subst}
use Rattle.std.specs.Prelude.{ℤ}
use Rattle.std.specs.List.{All}
use Rattle.std.proofs.lemmas.Result.{IfOk-weaker}
use Rattle.flame_events.specs.LegalEvents.{outputs_of}
use Rattle.flame_index.specs.FrozenBoards.{shared_messages}
use Rattle.flame_orders.proofs.OnceOutputs.{outputs_once}
use Rattle.flame_spec.specs.declared.outcomes.Outcome.{Outcome}
use Rattle.flame_meaning.specs.Outcomes.{outcome}
use Rattle.flame_world.specs.declared.pieces.Piece.{Piece}
use Rattle.flame_world.specs.declared.shares.Share.{Share}
use Rattle.flame_world.specs.Shares.{piece_of, setting_of}
use Rattle.flame_nodes.specs.GatheredShares.{IsSetting}
use Rattle.flame_nodes.specs.NodeLeavings.{AreLeftBy}
use Rattle.flame_nodes.specs.NodePieces.{agents_in}
use Rattle.flame_nodes.proofs.SharedRuns.{all-of-run}
use Rattle.flame_nodes.proofs.steps.leave_pieces.Goals as goal

pub returns : goal.returns
returns g c =
    IfOk-weaker c.left_by.result _ _
    (λ left given function all own named.
    let terms = c.args.terms in
    let source = terms.program.now in
    let constants = terms.constants.now in
    let read = map shared_messages terms.boards.now in
    let outputs = outputs_of source.model function in
    let run : List ℤ → Outcome = λ memory. outcome source function memory all constants terms.iteration terms.fuel in
    let shares = c.into_items.result.items in
    let same : map piece_of shares ≡ c.args.pieces = ap (map piece_of) c.into_items.ensures ∙ c.in_ok-shares.ensures.pieces in
    let sets : All (λ (share : Share). IsSetting source constants read terms.iteration terms.fuel (setting_of share)) shares =
    subst (All (λ (share : Share). IsSetting source constants read terms.iteration terms.fuel (setting_of share))) (sym c.into_items.ensures) c.in_ok-shares.ensures.settings in
    let mine : All (λ (piece : Piece). piece.function ≡ function) (map piece_of shares) =
    subst (All (λ (piece : Piece). piece.function ≡ function)) (sym same) own in
    let of_run = all-of-run source constants read terms.iteration terms.fuel function all named shares sets mine in
    subst (λ (pieces : List Piece). AreLeftBy terms.iteration function run outputs (agents_in pieces) left) same
    (given terms.iteration function run outputs (outputs_once source c.source-accepted.ensures.accepted function) of_run))
    c.left_by.ensures
