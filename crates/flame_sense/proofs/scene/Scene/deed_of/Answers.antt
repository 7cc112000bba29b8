use Rattle.std.proofs.Common.{◌∙◌, ap, sym, option_map, ℕ}
use Rattle.flame_spec.specs.declared.models.MessageType.{MessageType}
use Rattle.flame_spec.specs.CallFaults.{set_or_else}
use Rattle.flame_spec.specs.LookUps.{memory_set, message_sent}
use Rattle.flame_sense.specs.Acts.{act_of}
use Rattle.flame_sense.specs.StandsFor.{context_seen, place_seen, message_of}
use Rattle.flame_sense.proofs.Deeds.{sends_there}
use Rattle.flame_sense.proofs.scene.Scene.deed_of.Goals as goal

pub returns-in-Some-runs-clause-acts : goal.returns-in-Some-runs-clause-acts
returns-in-Some-runs-clause-acts c =
    let context = context_seen c.args.self.now in
    let found : ℕ × MessageType = (c.in-Some-message_where.number, c.in-Some-message_where.message.now) in
    let sent = ap (λ messages. message_sent messages c.args.word.now) (sym c.items.ensures)
    ∙ sym c.message_where.ensures ∙ ap (option_map message_of) c.in-Some-message_where.is in
    sym (ap (λ memory. option_map act_of (set_or_else context (memory_set memory c.args.word.now) c.args.word.now)) (sym c.memory.ensures)
    ∙ ap (option_map act_of) (sends_there context c.args.word.now (memory_set c.memory.result.now c.args.word.now) found (place_seen c.in-Some-runs.field-0)
    (sym c.in_default.is ∙ c.span_where.ensures) sent (ap (option_map place_seen) c.in-Some-runs.is)))
