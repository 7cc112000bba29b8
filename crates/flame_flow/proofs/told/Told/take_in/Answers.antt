-- The agents of a piece came, and are noted.
use Rattle.std.proofs.Common.{◌∷◌, ◌++◌, [], length, replicate, subst, sym, ◌∙◌, ap}
use Rattle.flame_world.specs.Shares.{piece_of}
use Rattle.flame_world.specs.declared.pieces.Piece.{Piece}
use Rattle.flame_events.specs.declared.events.Event.TheVariants as event
use Rattle.flame_events.specs.AbsorbedPieces.{agent_events}
use Rattle.flame_flow.specs.declared.told.Came.{Came}
use Rattle.flame_flow.specs.ToldCores.{IsTold, ToldCore, history_of, Ran}
use Rattle.flame_flow.proofs.Tellings.{told_came, told_stays}
use Rattle.flame_flow.proofs.told.Told.take_in.Goals as goal

pub invariant_of-self-2 : goal.invariant_of-self-2
invariant_of-self-2 c =
    let seen = c.self.inside.core in
    let items = c.self.inside.history.items in
    let came : Came = record { event = event.Agent c.piece-piece.result.now.function c.piece-piece.result.now.number; times = length c.rows.result.now } in
    let absorbed = c.in_ok-take_in.ensures.ok in
    let piece = piece_of c.args.share in
    let events = agent_events piece.function piece.number absorbed.can.work in
    let agents = ap length (c.rows.ensures.rows ∙ ap (λ (p : Piece). p.agents) c.piece-piece.ensures ∙ absorbed.can.agents) in
    subst IsTold
    (told_came seen c.take_in.new.self items c.push_reserved.new.self.items came events absorbed.left
    (c.push_reserved.ensures.items ∙ ap (λ list. list ++ came ∷ []) c.reserve.ensures.items)
    (λ i. replicate (agents i) (event.Agent (c.piece-piece.ensures i).function (c.piece-piece.ensures i).number)))
    (told_stays (record { seen = seen; history = history_of items }) events c.self.invariant absorbed.legal)

pub returns-clause-ok : goal.returns-clause-ok
returns-clause-ok c =
    let seen = c.self.inside.core in
    let items = c.self.inside.history.items in
    let came : Came = record { event = event.Agent c.piece-piece.result.now.function c.piece-piece.result.now.number; times = length c.rows.result.now } in
    let absorbed = c.in_ok-take_in.ensures.ok in
    let piece = piece_of c.args.share in
    let events = agent_events piece.function piece.number absorbed.can.work in
    let agents = ap length (c.rows.ensures.rows ∙ ap (λ (p : Piece). p.agents) c.piece-piece.ensures ∙ absorbed.can.agents) in
    let left =
    sym (told_came seen c.take_in.new.self items c.push_reserved.new.self.items came events absorbed.left
    (c.push_reserved.ensures.items ∙ ap (λ list. list ++ came ∷ []) c.reserve.ensures.items)
    (λ i. replicate (agents i) (event.Agent (c.piece-piece.ensures i).function (c.piece-piece.ensures i).number))) in
    let P : ToldCore → Type 0 = λ t. Ran c.args.share t (record { seen = c.take_in.new.self; history = history_of c.push_reserved.new.self.items }) in
    subst P c.self.view_is (record { can = absorbed.can; left = left })
