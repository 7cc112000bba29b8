use Rattle.std.proofs.Common.{◌≡◌, drop}
use Rattle.flame_spec.specs.Lists.{numbered_where, numbered_from}
use Rattle.flame_sense.specs.StandsFor.{is_written}
use Rattle.flame_sense.proofs.scene.message_where.Given as goal

abbrev pub invariant-loop-number : goal.invariant-loop-number
invariant-loop-number l =
    numbered_where (λ message. is_written l.form l.word message.name) l.messages
    ≡ numbered_from (λ message. is_written l.form l.word message.name) l.number (drop l.number l.messages)
