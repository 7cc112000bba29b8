use Rattle.std.proofs.Common.{map, string_bytes}
use Rattle.flame_words.proofs.Bounds.{answered_within}
use Rattle.flame_words.proofs.reader.order.Goals as goal

pub returns-in-Some-of-clause-limits : goal.returns-in-Some-of-clause-limits
returns-in-Some-of-clause-limits c =
    answered_within c.in-Some-of.command (map string_bytes c.in-Some.later.now) c.order_behind.result
    c.order_behind.ensures.order
