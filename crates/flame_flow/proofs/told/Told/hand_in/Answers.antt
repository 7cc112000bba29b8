-- A piece hands in its messages, output by output.
use Rattle.std.proofs.Common.{ℕ, List, ◌∷◌, ◌+◌, [], drop, get_or, refl, sym, ◌∙◌, ap}
use Rattle.std.proofs.lemmas.Bool.{and_parts}
use Rattle.std.proofs.lemmas.List.{drop_more}
use Rattle.flame_events.specs.declared.events.Event.TheVariants as event
use Rattle.flame_events.specs.EventSteps.{after, are_legal}
use Rattle.flame_events.specs.HandedPieces.{hand_in_events}
use Rattle.flame_core.specs.CoreCalls.{allows}
use Rattle.flame_core.specs.SeenCores.{round_in}
use Rattle.flame_flow.specs.ToldCores.{ToldCore, told_on}
use Rattle.flame_flow.proofs.Tellings.{grown_none, grown_more, told_again}
use Rattle.flame_flow.proofs.told.Told.hand_in.Goals as goal

pub step-requires : goal.step-requires
step-requires c =
    let k = c.loop-message.message-index in
    let told = c.loop-message.self in
    let e = event.HandIn c.args.function c.args.piece (get_or c.args.outputs.now k 0) in
    let legal = ap (λ (l : List ℕ). are_legal (round_in told.seen) told.seen.pieces told.seen.core (hand_in_events l c.args.function c.args.piece))
    (sym (drop_more c.args.outputs.now k 0 c.loop-message-test.true)) ∙ c.loop-message.invariant.legal in
    (and_parts (allows told.seen e) _ legal).0

pub loop-message-init : goal.loop-message-init
loop-message-init c = record { legal = c.requires; rest = refl; grown = grown_none c.args.self.now }

pub loop-message-preserved : goal.loop-message-preserved
loop-message-preserved c =
    let k = c.loop-message.message-index in
    let told = c.loop-message.self in
    let old = c.loop-message.invariant in
    let rest = drop (k + 1) c.args.outputs.now in
    let e = event.HandIn c.args.function c.args.piece (get_or c.args.outputs.now k 0) in
    let events = hand_in_events rest c.args.function c.args.piece in
    let next = drop_more c.args.outputs.now k 0 c.loop-message-test.true in
    let legal = ap (λ (l : List ℕ). are_legal (round_in told.seen) told.seen.pieces told.seen.core (hand_in_events l c.args.function c.args.piece)) (sym next) ∙ old.legal in
    let stepped = c.in_ok-step.ensures.ok in
    record {
      legal =
          ap (λ (t : ToldCore). are_legal (round_in t.seen) t.seen.pieces t.seen.core events) stepped
          ∙ (and_parts (allows told.seen e) (are_legal (round_in told.seen) told.seen.pieces (after (round_in told.seen) told.seen.pieces told.seen.core e) events) legal).1;
      rest =
          ap (told_on events) stepped
          ∙ told_again (e ∷ []) events told
          ∙ sym (ap (λ (l : List ℕ). told_on (hand_in_events l c.args.function c.args.piece) told) next)
          ∙ old.rest;
      grown = grown_more c.args.self.now told c.step.new.self (e ∷ []) old.grown stepped;
    }
