use Rattle.std.proofs.Common.{sym, ap, ◌∙◌, arith}
use Rattle.std.specs.Prelude.{◌&&◌}
use Rattle.flame_pieces.specs.Waiting.{is_free}
use Rattle.flame_progress.proofs.Allowing.{may_not_open, may_open_is}
use Rattle.flame_progress.proofs.legal.may_open.Goals as goal

pub is_free-requires : goal.is_free-requires
is_free-requires c = omega (arith, c.requires.functions)

pub is_free-requires-2 : goal.is_free-requires-2
is_free-requires-2 c = omega (arith, c.requires.inputs)

pub returns-then-function-len : goal.returns-then-function-len
returns-then-function-len c = λ model tallies.
    sym (may_not_open model c.args.progress.now c.args.counts.now tallies c.args.function (omega arith))

pub returns-then-not-is_waiting : goal.returns-then-not-is_waiting
returns-then-not-is_waiting c = λ model tallies.
    let counts = c.args.counts.now in
    let f = c.args.function in
    sym (may_open_is model c.args.progress.now counts tallies f (omega arith)
    ∙ ap (λ b. (b && is_free counts.functions f) && is_free counts.inputs f) (sym c.if-not-is_waiting.ensures))

pub returns-then-not-is_free : goal.returns-then-not-is_free
returns-then-not-is_free c = λ model tallies.
    let counts = c.args.counts.now in
    let f = c.args.function in
    sym (may_open_is model c.args.progress.now counts tallies f (omega arith)
    ∙ (λ i. (sym c.if-not-is_waiting.ensures i && sym c.if-not-is_free.ensures i) && is_free counts.inputs f))

pub returns : goal.returns
returns c = λ model tallies.
    let counts = c.args.counts.now in
    let f = c.args.function in
    sym (may_open_is model c.args.progress.now counts tallies f (omega arith)
    ∙ (λ i. (sym c.if-not-is_waiting.ensures i && sym c.if-not-is_free.ensures i) && sym c.is_free-2.ensures i))
