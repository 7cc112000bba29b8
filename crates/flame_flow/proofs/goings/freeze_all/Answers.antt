-- Boards are frozen, one after another.
use Rattle.std.proofs.Common.{◌≡◌, ◌+◌, ℕ, List, drop, get_or, refl, sym, ap, ◌∙◌}
use Rattle.std.proofs.lemmas.List.{drop_more}
use Rattle.flame_events.specs.declared.events.Event.TheVariants as event
use Rattle.flame_core.specs.SeenCores.{round_in}
use Rattle.flame_flow.specs.Goings.{with_legal, with_frozen}
use Rattle.flame_flow.proofs.Tellings.{gone_none, gone_on, gone_round, gone_pieces}
use Rattle.flame_flow.proofs.goings.freeze_all.Goals as goal

pub loop-message-init : goal.loop-message-init
loop-message-init c = record { on = gone_none c.args.told.now; rest = refl }

pub loop-message-preserved : goal.loop-message-preserved
loop-message-preserved c =
    let first = c.args.told.now in
    let told = c.loop-message.told in
    let old = c.loop-message.invariant in
    let k = c.loop-message.message-index in
    let messages = c.args.messages.now in
    let e = event.Freeze (get_or messages k 0) in
    let round = gone_round first told old.on in
    let pieces = gone_pieces first told old.on in
    let is : c.come.new.told.seen.core ≡ with_legal (round_in first.seen) first.seen.pieces e told.seen.core =
    c.in_ok-come.ensures.ok ∙ (λ i. with_legal (round i) (pieces i) e told.seen.core) in
    record {
      on = gone_on first told c.come.new.told old.on c.in_ok-come.ensures.on;
      rest =
          ap (with_frozen (round_in first.seen) first.seen.pieces (drop (k + 1) messages)) is
          ∙ sym (ap (λ (l : List ℕ). with_frozen (round_in first.seen) first.seen.pieces l told.seen.core) (drop_more messages k 0 c.loop-message-test.true))
          ∙ old.rest;
    }

pub returns-in_err-come-clause-on : goal.returns-in_err-come-clause-on
returns-in_err-come-clause-on c =
    gone_on c.args.told.now c.loop-message.told c.come.new.told c.loop-message.invariant.on c.in_err-come.ensures.on
