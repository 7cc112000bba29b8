use Rattle.std.proofs.Common.{sym, ap, ◌∙◌, arith}
use Rattle.std.specs.Prelude.{◌&&◌, not}
use Rattle.flame_pieces.specs.Waiting.{is_free}
use Rattle.flame_progress.proofs.Allowing.{may_freeze_is, may_not_freeze}
use Rattle.flame_progress.proofs.legal.may_freeze.Goals as goal

pub is_free-requires : goal.is_free-requires
is_free-requires c = omega (arith, c.requires.outputs)

pub returns-then-message-len : goal.returns-then-message-len
returns-then-message-len c = λ model tallies.
    sym (may_not_freeze model c.args.progress.now c.args.counts.now tallies c.args.message (omega arith))

pub returns-then-is_frozen : goal.returns-then-is_frozen
returns-then-is_frozen c = λ model tallies.
    let counts = c.args.counts.now in
    let m = c.args.message in
    sym (may_freeze_is model c.args.progress.now counts tallies m (omega arith)
    ∙ ap (λ b. not b && is_free counts.outputs m) (sym c.if-is_frozen.ensures))

pub returns : goal.returns
returns c = λ model tallies.
    let counts = c.args.counts.now in
    let m = c.args.message in
    sym (may_freeze_is model c.args.progress.now counts tallies m (omega arith)
    ∙ (λ i. not (sym c.if-is_frozen.ensures i) && sym c.is_free.ensures i))
