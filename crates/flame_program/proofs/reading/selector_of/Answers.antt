-- The message that the input's name finds.
use Rattle.std.proofs.Common.{◌≡◌, Some, option_map, sym, ap, ◌∙◌, subst}
use Rattle.flame_lookup.specs.WordsFound.{item_found}
use Rattle.flame_meaning.specs.Outcomes.{message_named}
use Rattle.flame_program.specs.SourceInputs.{IsReadFrom}
use Rattle.flame_program.proofs.reading.selector_of.Goals as goal

pub filter_of-requires : goal.filter_of-requires
filter_of-requires c =
    let found = c.in-Some.found.now in
    let messages = c.args.model.now.messages in
    let there : message_named messages c.args.input.now.message ≡ Some (found.at, found.item.now) =
    ap (message_named messages) (sym c.as_str.ensures) ∙ sym (c.requires.messages c.as_str.result.now)
    ∙ ap (option_map item_found) (sym c.in-Some.ensures.value) in
    c.requires.readable.filter found.at found.item.now there

pub key_of-requires : goal.key_of-requires
key_of-requires c =
    let found = c.in-Some.found.now in
    let messages = c.args.model.now.messages in
    let there : message_named messages c.args.input.now.message ≡ Some (found.at, found.item.now) =
    ap (message_named messages) (sym c.as_str.ensures) ∙ sym (c.requires.messages c.as_str.result.now)
    ∙ ap (option_map item_found) (sym c.in-Some.ensures.value) in
    c.requires.readable.sort found.at found.item.now there

pub returns-in_ok-filter_of-in-Some : goal.returns-in_ok-filter_of-in-Some
returns-in_ok-filter_of-in-Some c =
    let found = c.in-Some.found.now in
    let messages = c.args.model.now.messages in
    let there : message_named messages c.args.input.now.message ≡ Some (found.at, found.item.now) =
    ap (message_named messages) (sym c.as_str.ensures) ∙ sym (c.requires.messages c.as_str.result.now)
    ∙ ap (option_map item_found) (sym c.in-Some.ensures.value) in
    subst (λ o. IsReadFrom o c.args.agent.now c.args.input.now (record {
      filter = c.in_ok-filter_of-in-Some.field-0;
      sort = c.key_of.result;
    })) (sym there) (c.in_ok-filter_of-in-Some.ensures, c.key_of.ensures)
