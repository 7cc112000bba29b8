use Rattle.std.proofs.Common.{◌≡◌, ◌∙◌, ◌+◌, ◌<◌, ◌++◌, [], ◌∷◌, List, Some, ap, arith, get_or, length, map, sym, subst, suc, take, zero, ℕ}
use Rattle.std.specs.Prelude.{ℤ, slice_get}
use Rattle.std.specs.List.{AllZip}
use Rattle.std.proofs.lemmas.List.{map-append, take_more}
use Rattle.flame_agent.specs.FunctionFits.{IsBoardFor}
use Rattle.flame_index.specs.FrozenBoards.{shared_messages}
use Rattle.flame_route.proofs.Places.{zip-taken}
use Rattle.flame_case_nodes.proofs.fitting.boards_fit.Goals as goal

get-there : {X : Type 0} (xs : List X) (k : ℕ) (x : X) → k < length xs → x ≡ get_or xs k x → slice_get xs k ≡ Some x
get-there [] k x within at = absurd (omega (arith, within))
get-there (y ∷ xs) zero x within at = ap Some (sym at)
get-there (y ∷ xs) (suc k) x within at = get-there xs k x (omega (arith, within)) at

pub loop-i-preserved : goal.loop-i-preserved
loop-i-preserved c =
    let model = c.args.model.now in
    let inputs = c.args.inputs.now in
    let boards = c.args.boards.now in
    let i = c.loop-i.i in
    let input = c.index-inputs-i.result in
    let board = c.index-boards-i.result in
    let taken : take (i + 1) boards ≡ take i boards ++ board ∷ [] =
    take_more boards i board (omega (arith, c.loop-i-test.true, c.if-inputs-boards.false))
    ∙ ap (λ b. take i boards ++ b ∷ []) (sym c.index-boards-i.is) in
    let more : map shared_messages (take (i + 1) boards) ≡ map shared_messages (take i boards) ++ shared_messages board ∷ [] =
    ap (map shared_messages) taken ∙ map-append shared_messages (take i boards) (board ∷ []) in
    let fits : IsBoardFor model input (shared_messages board) = c.in_ok-board_fits.ensures c.if-not-branch.false in
    subst (λ (list : List (List (List ℤ))). AllZip (IsBoardFor model) (take (i + 1) inputs) list) (sym more)
    (zip-taken (IsBoardFor model) inputs i (map shared_messages (take i boards)) input (shared_messages board)
    (get-there inputs i input c.loop-i-test.true c.index-inputs-i.is) c.loop-i.invariant fits)
