use Rattle.std.proofs.Common.{sym, ap, refl, ◌∙◌, drop}
use Rattle.flame_expr.specs.Lexemes.{first}
use Rattle.flame_expr.specs.OperatorLevels.{sign_of}
use Rattle.flame_expr.proofs.LevelFacts.{sign_real}
use Rattle.flame_expr.proofs.Places.{there}
use Rattle.flame_expr.proofs.Readings.{signs_begin, signs_read, signs_ended, signs_step}
use Rattle.flame_expr.proofs.reader.signs.Goals as goal

pub loop-kind-init : goal.loop-kind-init
loop-kind-init c = rw c.new-found.ensures.items (signs_begin c.args.tokens.now c.args.at c.requires.within)

pub loop-kind-preserved : goal.loop-kind-preserved
loop-kind-preserved c =
    let s = ap sign_of (sym c.lexeme_at.ensures) ∙ sym c.in-Some.ensures in
    let t = there c.args.tokens.now c.loop-kind.place (first (drop c.loop-kind.place c.args.tokens.now)) refl (sign_real (first (drop c.loop-kind.place c.args.tokens.now)) c.in-Some.kind s) in
    rw (c.in_ok-push.ensures.items, c.line_at.ensures) (signs_step c.args.tokens.now c.args.at c.loop-kind.place c.loop-kind.found.items c.in-Some.kind c.loop-kind.invariant s t)

pub returns-in_default-clause-tree : goal.returns-in_default-clause-tree
returns-in_default-clause-tree c = signs_read c.args.tokens.now c.args.at c.loop-kind.place c.loop-kind.found.items c.loop-kind.invariant

pub returns-in_default-clause-ended : goal.returns-in_default-clause-ended
returns-in_default-clause-ended c =
    signs_ended c.args.tokens.now c.args.at c.loop-kind.place c.loop-kind.found.items c.loop-kind.invariant
    (ap sign_of (sym c.lexeme_at.ensures) ∙ sym c.in_default.ensures)
