use Rattle.std.proofs.Common.{◌≡◌, map, take}
use Rattle.flame_spec.specs.Columns.{width}
use Rattle.flame_check.proofs.rows.message_widths.Given as goal

abbrev pub invariant-loop-message : goal.invariant-loop-message
invariant-loop-message l = l.widths.items ≡ map (λ message. width message.variables) (take l.message-index l.messages)
