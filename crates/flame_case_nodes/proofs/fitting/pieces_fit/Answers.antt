use Rattle.std.proofs.Common.{◌≡◌, ◌∙◌, ◌+◌, ◌++◌, ◌∷◌, [], ap, map, subst, sym, take}
use Rattle.std.specs.List.{All}
use Rattle.std.proofs.lemmas.List.{take_all, take_more}
use Rattle.std.proofs.lemmas.List.Elements.{All-append, All-cons, All-nil}
use Rattle.flame_index.specs.FrozenBoards.{shared_messages}
use Rattle.flame_share.specs.PieceFits.{FitsPiece}
use Rattle.flame_world.specs.declared.pieces.Piece.{Piece}
use Rattle.flame_case_nodes.proofs.fitting.pieces_fit.Goals as goal

pub loop-piece-preserved : goal.loop-piece-preserved
loop-piece-preserved c =
    let Fits : Piece → Type 0 =
    FitsPiece c.args.program.now.model c.args.under.now.constants (map shared_messages c.args.under.now.boards) in
    let pieces = c.args.pieces.now in
    let i = c.loop-piece.piece-index in
    let piece = c.piece-item.result in
    let more : take (i + 1) pieces ≡ take i pieces ++ piece ∷ [] =
    take_more pieces i piece c.loop-piece-test.true ∙ ap (λ one. take i pieces ++ one ∷ []) (sym c.piece-item.is) in
    subst (All Fits) (sym more)
    (All-append Fits (take i pieces) (piece ∷ []) c.loop-piece.invariant
    (All-cons Fits piece [] (c.in_ok-piece_fits.ensures c.if-not-branch.false) (All-nil Fits)))

pub returns : goal.returns
returns c =
    let Fits : Piece → Type 0 =
    FitsPiece c.args.program.now.model c.args.under.now.constants (map shared_messages c.args.under.now.boards) in
    λ all. subst (All Fits) (take_all c.loop-piece.piece-index c.args.pieces.now c.loop-piece-test.false) c.loop-piece.invariant
