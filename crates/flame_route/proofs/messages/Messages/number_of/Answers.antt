-- The message that is found by the name, or none.
use Rattle.std.proofs.Common.{◌≡◌, ◌∙◌, Some, None, option_map, ap, sym}
use Rattle.flame_lookup.specs.WordsFound.{item_found}
use Rattle.flame_meaning.specs.Outcomes.{message_named}
use Rattle.flame_spec.specs.declared.models.Model.{Model}
use Rattle.flame_route.proofs.messages.Messages.number_of.Goals as goal

pub returns-in-Some : goal.returns-in-Some
returns-in-Some c =
    let found = c.in-Some.found.now in
    let text = c.as_str.result.now in
    let there : message_named c.args.self.now.messages c.args.name.now ≡ Some (found.at, found.item.now) =
    ap (message_named c.args.self.now.messages) (sym c.as_str.ensures)
    ∙ ap (λ (model : Model). message_named model.messages text) (sym c.self.view_is)
    ∙ sym (c.self.invariant text)
    ∙ ap (option_map item_found) (sym c.in-Some.ensures.value) in
    sym (ap (option_map (λ found. found.0)) there)

pub returns-in-None : goal.returns-in-None
returns-in-None c =
    let text = c.as_str.result.now in
    let none : message_named c.args.self.now.messages c.args.name.now ≡ None =
    ap (message_named c.args.self.now.messages) (sym c.as_str.ensures)
    ∙ ap (λ (model : Model). message_named model.messages text) (sym c.self.view_is)
    ∙ sym (c.self.invariant text)
    ∙ ap (option_map item_found) (sym c.in-None.ensures.value) in
    sym (ap (option_map (λ found. found.0)) none)
