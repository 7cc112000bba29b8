use Rattle.std.proofs.Common.{◌∙◌, ap, sym}
use Rattle.std.proofs.lemmas.Result.{err_from_is_err_and, on_ok_weaker, IfErr-weaker}
use Rattle.flame_rows.proofs.Lists.{append-nils}
use Rattle.flame_spec.proofs.FaultLists.{FailsFirst-append, FailsFirst-behind, FailsFirst-same}
use Rattle.flame_nest.specs.FlatModels.{with_new}
use Rattle.flame_nest.specs.NestFaults.{meant_by, types_faults, messages_faults, agents_faults}
use Rattle.flame_nest.specs.GivenTables.{given_in}
use Rattle.flame_nest.specs.FileWalks.{known_with}
use Rattle.flame_nest.proofs.walking.check_file.Goals as goal

pub returns-in_err-check_types-clause-first : goal.returns-in_err-check_types-clause-first
returns-in_err-check_types-clause-first c =
    let p = err_from_is_err_and c.from_residual.result c.from_residual.ensures.1 in
    rw
    (p.1, p.2)
    (FailsFirst-append
    _
    _
    _
    (FailsFirst-same
    _
    _
    _
    (ap (types_faults c.args.file.now (given_in c.args.types.now) c.args.kinds.now) c.items.ensures)
    c.in_err-check_types.ensures.first))

pub returns-in_err-check_messages-clause-first : goal.returns-in_err-check_messages-clause-first
returns-in_err-check_messages-clause-first c =
    let p = err_from_is_err_and c.from_residual-in_err-check_messages.result c.from_residual-in_err-check_messages.ensures.1 in
    let file = c.args.file.now in
    let given = given_in c.args.messages.now in
    let known = c.in_ok-check_types.ensures.kinds ∙ ap (with_new (λ type. type.name) c.args.kinds.now) c.items.ensures in
    rw
    (p.1, p.2)
    (FailsFirst-behind
    _
    _
    _
    (ap (types_faults file (given_in c.args.types.now) c.args.kinds.now) (sym c.items.ensures)
    ∙ c.in_ok-check_types.ensures.none)
    (FailsFirst-append
    _
    _
    _
    (FailsFirst-same
    _
    _
    _
    (ap (λ k. messages_faults file given (meant_by k) c.items-2.result.now) known
    ∙ ap (messages_faults file given (meant_by (known_with c.args.kinds.now c.args.wide.now))) c.items-2.ensures)
    c.in_err-check_messages.ensures.first)))

pub returns-clause-none : goal.returns-clause-none
returns-clause-none c =
    let file = c.args.file.now in
    let given = given_in c.args.messages.now in
    let known = c.in_ok-check_types.ensures.kinds ∙ ap (with_new (λ type. type.name) c.args.kinds.now) c.items.ensures in
    on_ok_weaker
    c.check_agents.result
    (λ e.
    append-nils
    _
    _
    (ap (types_faults file (given_in c.args.types.now) c.args.kinds.now) (sym c.items.ensures)
    ∙ c.in_ok-check_types.ensures.none)
    (append-nils
    _
    _
    (sym
    (ap (λ k. messages_faults file given (meant_by k) c.items-2.result.now) known
    ∙ ap (messages_faults file given (meant_by (known_with c.args.kinds.now c.args.wide.now))) c.items-2.ensures)
    ∙ c.in_ok-check_messages.ensures.none)
    (sym
    (ap (λ k. agents_faults file (meant_by k) c.items-3.result.now) known
    ∙ ap (agents_faults file (meant_by (known_with c.args.kinds.now c.args.wide.now))) c.items-3.ensures)
    ∙ e)))
    c.check_agents.ensures.none

pub returns-clause-first : goal.returns-clause-first
returns-clause-first c =
    let file = c.args.file.now in
    let given = given_in c.args.messages.now in
    let known = c.in_ok-check_types.ensures.kinds ∙ ap (with_new (λ type. type.name) c.args.kinds.now) c.items.ensures in
    IfErr-weaker
    c.check_agents.result
    _
    _
    (λ fail h.
    FailsFirst-behind
    fail
    _
    _
    (ap (types_faults file (given_in c.args.types.now) c.args.kinds.now) (sym c.items.ensures)
    ∙ c.in_ok-check_types.ensures.none)
    (FailsFirst-behind
    fail
    _
    _
    (sym
    (ap (λ k. messages_faults file given (meant_by k) c.items-2.result.now) known
    ∙ ap (messages_faults file given (meant_by (known_with c.args.kinds.now c.args.wide.now))) c.items-2.ensures)
    ∙ c.in_ok-check_messages.ensures.none)
    (FailsFirst-same
    fail
    _
    _
    (ap (λ k. agents_faults file (meant_by k) c.items-3.result.now) known
    ∙ ap (agents_faults file (meant_by (known_with c.args.kinds.now c.args.wide.now))) c.items-3.ensures)
    h)))
    c.check_agents.ensures.first
