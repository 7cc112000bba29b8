use Rattle.std.proofs.Common.{◌≡◌, ◌∙◌, ap, map, take, false}
use Rattle.std.proofs.lemmas.Result.{err_from_is_err_and}
use Rattle.flame_spec.specs.KnownNames.{is_among, message_names}
use Rattle.flame_spec.specs.Paths.{at_number}
use Rattle.flame_spec.specs.MessageFaults.{message_faults}
use Rattle.flame_spec.proofs.FaultLists.{FailsFirst-member}
use Rattle.flame_names.specs.PlacePaths.{text_of}
use Rattle.flame_names.specs.NameLooks.{message_entry}
use Rattle.flame_name_sets.specs.NameTables.{look}
use Rattle.flame_names.proofs.MessageNames.{names_of-messages}
use Rattle.flame_name_sets.proofs.Tables.{look-none}
use Rattle.flame_names.proofs.messages.add_messages.Goals as goal

pub returns-in_err-variables-clause-first : goal.returns-in_err-variables-clause-first
returns-in_err-variables-clause-first c =
    let p = err_from_is_err_and c.from_residual.result c.from_residual.ensures.1 in
    let path = text_of c.args.place.now in
    let messages = c.args.messages.now in
    rw
    (p.1, p.2)
    (FailsFirst-member
    _
    (λ i message. message_faults (message_names (take i messages)) (at_number path i) message)
    messages
    c.loop-i.i
    c.index-messages-i.result
    _
    (message_faults c.loop-i.earlier (at_number path c.loop-i.i) c.index-messages-i.result)
    c.loop-i-test.true
    c.loop-i.invariant.rest
    (cc)
    c.in_err-variables.ensures.first)

pub add-requires : goal.add-requires
add-requires c =
    let name = c.as_str.result.now in
    let messages = take c.loop-i.i c.args.messages.now in
    let added : is_among name (message_names messages) ≡ false = cc c.in_ok-variables.ensures.added in
    ap (look name) c.loop-i.invariant.known
    ∙ look-none
    name
    (map message_entry messages)
    (ap (is_among name) (names_of-messages messages) ∙ added)
