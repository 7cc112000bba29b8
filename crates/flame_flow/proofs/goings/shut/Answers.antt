-- A function is shut, and what this allows comes.
use Rattle.std.proofs.Common.{map, refl, sym}
use Rattle.flame_events.specs.declared.events.Event.TheVariants as event
use Rattle.flame_flow.proofs.Bringing.{shut_is}
use Rattle.flame_flow.proofs.Tellings.{gone_on, gone_one}
use Rattle.flame_flow.proofs.goings.shut.Goals as goal

pub returns-in_err-go_behind-clause-on : goal.returns-in_err-go_behind-clause-on
returns-in_err-go_behind-clause-on c =
    let told = c.args.going.now.told in
    gone_on told c.step.new.self c.go_behind.new.going.told (gone_one told c.step.new.self (event.Shut c.args.function) refl c.in_ok-step.ensures.ok)
    c.in_err-go_behind.ensures.on

pub returns-clause-on : goal.returns-clause-on
returns-clause-on c =
    let told = c.args.going.now.told in
    gone_on told c.step.new.self c.go_behind.new.going.told (gone_one told c.step.new.self (event.Shut c.args.function) refl c.in_ok-step.ensures.ok)
    c.in_ok-go_behind.ensures.on

pub returns-clause-ok : goal.returns-clause-ok
returns-clause-ok c =
    let going = c.args.going.now in
    let ways = c.args.ways.now in
    shut_is going.told c.step.new.self ways.ranks.items (map (λ list. list.items) ways.next.items) c.args.function going.due going.over.items _
    (sym c.if-not-allows.ensures) c.in_ok-step.ensures.ok c.in_ok-go_behind.ensures.ok
