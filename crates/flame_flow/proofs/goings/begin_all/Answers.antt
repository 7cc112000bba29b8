-- All that is legal at once comes.
use Rattle.std.proofs.Common.{◌<◌, [], List, ℕ, length, map, ap, sym, ◌∙◌, subst}
use Rattle.std.proofs.lemmas.Bool.{lt-ltb}
use Rattle.flame_spec.specs.declared.outcomes.Source.{Source}
use Rattle.flame_spec.specs.Accepted.{IsAccepted}
use Rattle.flame_spec.specs.ModelOrder.{model_order}
use Rattle.flame_core.specs.SeenCores.{round_in}
use Rattle.flame_flow.specs.Goings.{AreWaysOf, with_frozen, with_opened, GoesOn}
use Rattle.flame_flow.specs.KeptGoings.{going_of}
use Rattle.flame_flow.proofs.Bringing.{begins_all}
use Rattle.flame_flow.proofs.Tellings.{gone_none, gone_on, gone_grown, grown_source}
use Rattle.flame_flow.proofs.goings.begin_all.Goals as goal

pub shut_all-requires : goal.shut_all-requires
shut_all-requires c =
    let told = c.args.going.now.told in
    let on = gone_on told c.freeze_all.new.told c.open_all.new.going.told c.in_ok-freeze_all.ensures.on c.in_ok-open_all.ensures.on in
    let ways = c.args.ways.now in
    subst (λ (s : Source). AreWaysOf s.model ways.ranks.items (map (λ list. list.items) ways.next.items))
    (sym (grown_source told c.open_all.new.going.told (gone_grown told c.open_all.new.going.told on))) c.requires.ways

pub returns-in_err-messages-clause-on : goal.returns-in_err-messages-clause-on
returns-in_err-messages-clause-on c = gone_none c.args.going.now.told

pub returns-in_err-open_all-clause-on : goal.returns-in_err-open_all-clause-on
returns-in_err-open_all-clause-on c =
    gone_on c.args.going.now.told c.freeze_all.new.told c.open_all.new.going.told c.in_ok-freeze_all.ensures.on c.in_err-open_all.ensures.on

pub returns-in_err-shut_all-clause-on : goal.returns-in_err-shut_all-clause-on
returns-in_err-shut_all-clause-on c =
    let told = c.args.going.now.told in
    gone_on told c.open_all.new.going.told c.shut_all.new.going.told
    (gone_on told c.freeze_all.new.told c.open_all.new.going.told c.in_ok-freeze_all.ensures.on c.in_ok-open_all.ensures.on)
    c.in_err-shut_all.ensures.on

pub returns-clause-on : goal.returns-clause-on
returns-clause-on c =
    let told = c.args.going.now.told in
    gone_on told c.open_all.new.going.told c.shut_all.new.going.told
    (gone_on told c.freeze_all.new.told c.open_all.new.going.told c.in_ok-freeze_all.ensures.on c.in_ok-open_all.ensures.on)
    c.in_ok-shut_all.ensures.on

pub returns-clause-goes : goal.returns-clause-goes
returns-clause-goes c = λ begun none.
    let going = c.args.going.now in
    let told = going.told in
    let ways = c.args.ways.now in
    let next = map (λ list. list.items) ways.next.items in
    let one = c.freeze_all.new.told in
    let two = c.open_all.new.going in
    let on = gone_on told one two.told c.in_ok-freeze_all.ensures.on c.in_ok-open_all.ensures.on in
    let same = grown_source told two.told (gone_grown told two.told on) in
    let messages = c.in_ok-messages.messages.items in
    let count = c.len-count.ensures ∙ ap (λ (s : Source). length s.model.messages) (c.source-source.ensures.same ∙ c.program-program.ensures.source) in
    subst (λ (s : Source). GoesOn s.model begun [] [] (going_of c.shut_all.new.going)) same
    (c.in_ok-shut_all.ensures.goes begun
    (subst (λ (s : Source). GoesOn s.model begun [] [] (going_of two)) (sym same)
    (begins_all told one messages ways.ranks.items next begun c.items-order.result.now (going_of two)
    c.program-program.ensures.told (subst IsAccepted c.program-program.ensures.source c.source-source.ensures.accepted) c.requires.ways c.requires.new
    c.in_ok-freeze_all.ensures.on
    (λ m less. c.in_ok-messages.ensures m ∙ lt-ltb m c.len-count.result (subst (λ n. m < n) (sym count) less))
    (c.in_ok-freeze_all.ensures.ok ∙ ap (λ (l : List ℕ). with_frozen (round_in told.seen) told.seen.pieces l told.seen.core) c.as_slice-numbers.ensures.value)
    (c.items-order.ensures ∙ c.plan.ensures.order ∙ ap (λ (s : Source). model_order s.model) c.program-program.ensures.source)
    (c.in_ok-open_all.ensures.ok
    ∙ (λ i. with_opened (round_in one.seen) one.seen.pieces (c.as_slice-ranks.ensures.value i) c.items-order.result.now
    (record { core = one.seen.core; due = c.requires.due i; over = c.requires.over i })))
    none)))
