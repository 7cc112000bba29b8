use Rattle.std.proofs.Common.{◌≡◌, ◌∙◌, ap, sym, option_map, Some}
use Rattle.std.specs.Prelude.{slice_get}
use Rattle.std.proofs.lemmas.Option.{slice_get_within}
use Rattle.flame_spec.specs.declared.models.MessageType.{MessageType}
use Rattle.flame_spec.specs.Columns.{variable_named}
use Rattle.flame_spec.specs.ExpressionFaults.{member_of}
use Rattle.flame_spec.specs.LookUps.{message_read}
use Rattle.flame_lookup.specs.WordsFound.{item_found}
use Rattle.flame_lookup.proofs.Firsts.{slice_get-numbered}
use Rattle.flame_lookup.proofs.lists.Messages.member.Goals as goal

pub fields-requires : goal.fields-requires
fields-requires c =
    let messages = c.args.self.now in
    let found : message_read messages c.args.word.now ≡ Some (c.in-Some.message.at, c.in-Some.message.item.now) =
    sym (ap (option_map item_found) (sym c.in-Some.is) ∙ c.read.ensures) in
    slice_get_within messages c.in-Some.message.at c.in-Some.message.item.now
    (slice_get-numbered _ messages c.in-Some.message.at c.in-Some.message.item.now found)

pub returns-in-Some : goal.returns-in-Some
returns-in-Some c =
    let messages = c.args.self.now in
    let found : message_read messages c.args.word.now ≡ Some (c.in-Some.message.at, c.in-Some.message.item.now) =
    sym (ap (option_map item_found) (sym c.in-Some.is) ∙ c.read.ensures) in
    let there : slice_get messages c.in-Some.message.at ≡ Some c.in-Some.message.item.now =
    slice_get-numbered _ messages c.in-Some.message.at c.in-Some.message.item.now found in
    let shown = sym (ap (option_map (λ (message : MessageType). message.variables)) there) ∙ c.fields.ensures in
    let fields : c.in-Some.message.item.now.variables ≡ c.fields.result.now = cc in
    c.named.ensures
    ∙ ap (λ variables. variable_named variables c.args.variable.now) (sym fields)
    ∙ ap (λ o. member_of o c.args.variable.now) (sym found)
