-- All of a piece comes.
use Rattle.std.proofs.Common.{ap, sym, ◌∙◌, subst}
use Rattle.flame_spec.specs.declared.outcomes.Source.{Source}
use Rattle.flame_spec.specs.Accepted.{IsAccepted}
use Rattle.flame_world.specs.declared.pieces.Piece.{Piece}
use Rattle.flame_events.specs.LegalEvents.{outputs_of}
use Rattle.flame_flow.specs.ToldCores.{HasGrown}
use Rattle.flame_flow.proofs.Bringing.{hands_legal, ran_whole}
use Rattle.flame_flow.proofs.Tellings.{grown_none, grown_more, grown_on}
use Rattle.flame_flow.proofs.goings.run_whole.Goals as goal

pub hand_in-requires : goal.hand_in-requires
hand_in-requires c =
    let told = c.args.told.now in
    hands_legal told c.take_in.new.self c.args.share c.outputs_at-outputs.result.now c.piece.result.now.function c.piece-2.result.now.number
    c.program-program.ensures.told (subst IsAccepted c.program-program.ensures.source c.source-source.ensures.accepted) c.in_ok-take_in.ensures.ok
    (ap (λ (p : Piece). p.function) c.piece.ensures) (ap (λ (p : Piece). p.number) c.piece-2.ensures)
    (c.outputs_at-outputs.ensures ∙ ap (λ (s : Source). outputs_of s.model c.piece.result.now.function) c.program-program.ensures.source)

pub returns-in_err-take_in-clause-on : goal.returns-in_err-take_in-clause-on
returns-in_err-take_in-clause-on c = subst (HasGrown c.args.told.now) (sym c.in_err-take_in.ensures.err) (grown_none c.args.told.now)

pub returns-in_err-hand_in-clause-on : goal.returns-in_err-hand_in-clause-on
returns-in_err-hand_in-clause-on c =
    let told = c.args.told.now in
    grown_on told c.take_in.new.self c.hand_in.new.self
    (grown_more told told c.take_in.new.self _ (grown_none told) c.in_ok-take_in.ensures.ok.left) c.in_err-hand_in.ensures.on

pub returns-clause-on : goal.returns-clause-on
returns-clause-on c =
    let told = c.args.told.now in
    grown_on told c.take_in.new.self c.hand_in.new.self
    (grown_more told told c.take_in.new.self _ (grown_none told) c.in_ok-take_in.ensures.ok.left) c.in_ok-hand_in.ensures.on

pub returns-clause-ok : goal.returns-clause-ok
returns-clause-ok c =
    let told = c.args.told.now in
    ran_whole told c.take_in.new.self c.hand_in.new.self c.args.share c.outputs_at-outputs.result.now c.piece.result.now.function c.piece-2.result.now.number
    c.in_ok-take_in.ensures.ok
    (ap (λ (p : Piece). p.function) c.piece.ensures) (ap (λ (p : Piece). p.number) c.piece-2.ensures)
    (c.outputs_at-outputs.ensures ∙ ap (λ (s : Source). outputs_of s.model c.piece.result.now.function) c.program-program.ensures.source)
    c.in_ok-hand_in.ensures.ok
