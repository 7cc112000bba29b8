use Rattle.std.proofs.Common.{◌<◌, ℕ, length, map, ap, ◌∙◌, arith}
use Rattle.std.specs.Prelude.{◌==◌}
use Rattle.flame_pieces.specs.Waiting.{Waiting, awaited, is_free}
use Rattle.flame_pieces.proofs.Counting.{count_none}
use Rattle.flame_pieces.proofs.Things.{at_zero}
use Rattle.flame_pieces.proofs.waits.Waits.is_free.Goals as goal

pub returns : goal.returns
returns c =
    let counts = c.self.inside.counts.items in
    let within : c.args.waiter < length counts = omega (arith, c.requires, ap (λ (v : Waiting). v.count) c.self.view_is) in
    ap (λ (n : ℕ). n == 0) (at_zero counts c.args.waiter c.index.result.now within c.index.ensures)
    ∙ count_none (map awaited c.self.inside.things.items) counts c.args.waiter (length counts) c.self.invariant
    ∙ ap (λ (v : Waiting). is_free v c.args.waiter) c.self.view_is
