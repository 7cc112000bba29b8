-- The route, part by part.
use Rattle.std.proofs.Common.{◌∙◌, ℕ, List, Some, map, option_map, ap, sym, refl}
use Rattle.std.specs.Prelude.{slice_get}
use Rattle.std.specs.List.{position_or_len, filter_map}
use Rattle.std.specs.Str.{bytes_eq}
use Rattle.flame_spec.specs.declared.models.Input.{Input}
use Rattle.flame_meaning.specs.Outcomes.{message_named}
use Rattle.flame_route.proofs.types.route_of.Goals as goal

pub read_by_each-requires : goal.read_by_each-requires
read_by_each-requires c =
    λ i input there. c.requires.reads.each i input (ap (λ inputs. slice_get inputs i) (sym c.items.ensures) ∙ there)

pub returns-clause-route : goal.returns-clause-route
returns-clause-route c =
    let own = c.args.own.now in
    let function = c.args.function.now in
    record {
      agent = refl;
      from =
          c.in_ok-from.ensures ∙ c.place.ensures
          ∙ ap (λ text. position_or_len (λ other. bytes_eq other text) own) c.as_str.ensures
          ∙ ap (position_or_len (λ other. bytes_eq other function.current)) c.requires.states;
      to =
          c.in_ok-to.ensures ∙ c.place-2.ensures
          ∙ ap (λ text. position_or_len (λ other. bytes_eq other text) own) c.as_str-2.ensures
          ∙ ap (position_or_len (λ other. bytes_eq other function.next)) c.requires.states;
      inputs =
          ap (map (λ (input : Input). option_map (λ found. found.0) (message_named c.args.messages.now.messages input.message))) (sym c.items.ensures)
          ∙ c.in_ok-inputs.ensures ∙ ap (map Some) (sym c.of.ensures);
      outputs =
          c.of-2.ensures ∙ c.in_ok-outputs.ensures
          ∙ ap (filter_map (λ (name : List ℕ). option_map (λ found. found.0) (message_named c.args.messages.now.messages name))) c.items-2.ensures;
    }
