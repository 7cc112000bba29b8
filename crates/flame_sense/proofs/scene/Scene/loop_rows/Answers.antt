use Rattle.std.proofs.Common.{◌∙◌, ap, sym, option_map, ℕ}
use Rattle.std.specs.Str.{bytes_eq}
use Rattle.flame_spec.specs.declared.models.MessageType.{MessageType}
use Rattle.flame_spec.specs.Lists.{numbered_where}
use Rattle.flame_spec.specs.LookUps.{message_looped}
use Rattle.flame_sense.specs.declared.scene.Open.TheVariants.{Nothing}
use Rattle.flame_sense.specs.StandsFor.{scene_seen, place_seen, message_of}
use Rattle.flame_sense.proofs.Turning.{rows_there}
use Rattle.flame_sense.proofs.scene.Scene.loop_rows.Goals as goal

pub returns : goal.returns
returns c =
    let message : ℕ × MessageType = (c.in_ok-number.number, c.in_ok-number.message.now) in
    let looped = ap (λ messages. message_looped messages c.args.word.now) (sym c.messages.ensures)
    ∙ sym c.message_where.ensures ∙ ap (option_map message_of) c.in_ok-number.was in
    let found = sym c.in_ok-input.was ∙ c.input_of.ensures
    ∙ ap (λ name. option_map (λ found. found.0) (numbered_where (λ input. bytes_eq input.message name) c.items.result.now)) c.as_str.ensures
    ∙ ap (λ inputs. option_map (λ found. found.0) (numbered_where (λ input. bytes_eq input.message c.in_ok-number.message.now.name) inputs)) c.items.ensures in
    rows_there (scene_seen c.args.self.now Nothing) c.args.word.now (place_seen c.in_ok-place.place) message c.in_ok-input.input c.reading.result.now
    (ap (option_map place_seen) c.in_ok-place.was) looped found c.reading.ensures
