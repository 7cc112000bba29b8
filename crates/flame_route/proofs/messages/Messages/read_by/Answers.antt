-- The message that is found by the name.
use Rattle.std.proofs.Common.{◌≡◌, ◌∙◌, Some, option_map, ap, sym}
use Rattle.flame_lookup.specs.WordsFound.{item_found}
use Rattle.flame_meaning.specs.Outcomes.{message_named}
use Rattle.flame_spec.specs.declared.models.Model.{Model}
use Rattle.flame_route.proofs.messages.Messages.read_by.Goals as goal

pub returns : goal.returns
returns c =
    let found = c.in-Some.found.now in
    let text = c.as_str.result.now in
    let there : message_named c.args.self.now.messages c.args.input.now.message ≡ Some (found.at, found.item.now) =
    ap (message_named c.args.self.now.messages) (sym c.as_str.ensures)
    ∙ ap (λ (model : Model). message_named model.messages text) (sym c.self.view_is)
    ∙ sym (c.self.invariant text)
    ∙ ap (option_map item_found) (sym c.in-Some.ensures.value) in
    ap (option_map (λ found. found.0)) there
