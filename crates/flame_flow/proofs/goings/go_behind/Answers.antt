-- What may come behind a function that is shut.
use Rattle.std.proofs.Common.{ℕ, List, [], map, ap, ◌∙◌}
use Rattle.std.specs.Prelude.{slice_index_or}
use Rattle.flame_core.specs.SeenCores.{round_in}
use Rattle.flame_flow.specs.Goings.{with_opened}
use Rattle.flame_spec.specs.declared.outcomes.Source.{Source}
use Rattle.flame_events.specs.LegalEvents.{outputs_of}
use Rattle.flame_flow.proofs.Bringing.{behind_is}
use Rattle.flame_flow.proofs.Tellings.{gone_on}
use Rattle.flame_flow.proofs.goings.go_behind.Goals as goal

pub returns-in_err-open_all-clause-on : goal.returns-in_err-open_all-clause-on
returns-in_err-open_all-clause-on c =
    gone_on c.args.going.now.told c.freeze_all.new.told c.open_all.new.going.told c.in_ok-freeze_all.ensures.on c.in_err-open_all.ensures.on

pub returns-clause-on : goal.returns-clause-on
returns-clause-on c =
    gone_on c.args.going.now.told c.freeze_all.new.told c.open_all.new.going.told c.in_ok-freeze_all.ensures.on c.in_ok-open_all.ensures.on

pub returns-clause-ok : goal.returns-clause-ok
returns-clause-ok c =
    let going = c.args.going.now in
    let ways = c.args.ways.now in
    behind_is going.told c.freeze_all.new.told c.outputs_at-outputs.result.now c.list_at-next.result.now ways.ranks.items
    (map (λ list. list.items) ways.next.items) c.args.function going.due going.over.items _
    c.in_ok-freeze_all.ensures.on
    (c.outputs_at-outputs.ensures ∙ ap (λ (s : Source). outputs_of s.model c.args.function) c.program.ensures.source)
    c.in_ok-freeze_all.ensures.ok
    (c.list_at-next.ensures ∙ ap (λ lists. slice_index_or (map (λ list. list.items) lists) c.args.function []) c.as_slice-lists.ensures.value)
    (c.in_ok-open_all.ensures.ok
    ∙ ap (λ (ranks : List ℕ). with_opened (round_in c.freeze_all.new.told.seen) c.freeze_all.new.told.seen.pieces ranks c.list_at-next.result.now
    (record { core = c.freeze_all.new.told.seen.core; due = going.due; over = going.over.items })) c.as_slice-ranks.ensures.value)
