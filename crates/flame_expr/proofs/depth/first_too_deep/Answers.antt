use Rattle.std.proofs.Common.{◌+◌, ap, ◌∙◌, arith}
use Rattle.std.specs.Prelude.{if◌then◌else◌}
use Rattle.flame_expr.specs.Nesting.{opens, closes}
use Rattle.flame_expr.proofs.Depths.{depth_begin, depth_step, depth_exceeds}
use Rattle.flame_expr.proofs.depth.first_too_deep.Goals as goal

pub loop-at-init : goal.loop-at-init
loop-at-init c = (omega arith, omega arith, depth_begin c.args.tokens.now)

pub loop-at-preserved : goal.loop-at-preserved
loop-at-preserved c =
    let o = ap (λ n. c.loop-at.opened + n) (c.opening-opened.ensures.count ∙ ap (λ l. if opens l then 1 else 0) c.lexeme_at-lexeme.ensures) in
    let k = ap (λ n. c.loop-at.closed + n) (c.closing-closed.ensures.count ∙ ap (λ l. if closes l then 1 else 0) c.lexeme_at-lexeme.ensures) in (
      omega (arith, c.loop-at.invariant.0, c.opening-opened.ensures.bound),
      omega (arith, c.loop-at.invariant.1, c.closing-closed.ensures.bound),
      depth_step c.args.tokens.now c.loop-at.at c.loop-at.opened c.loop-at.closed _ _ c.loop-at.invariant.2 o k (omega (arith, c.if-opened-closed.false)),
    )

pub returns-then-opened-closed-clause-deep : goal.returns-then-opened-closed-clause-deep
returns-then-opened-closed-clause-deep c =
    let o = ap (λ n. c.loop-at.opened + n) (c.opening-opened.ensures.count ∙ ap (λ l. if opens l then 1 else 0) c.lexeme_at-lexeme.ensures) in
    let k = ap (λ n. c.loop-at.closed + n) (c.closing-closed.ensures.count ∙ ap (λ l. if closes l then 1 else 0) c.lexeme_at-lexeme.ensures) in
    depth_exceeds c.args.tokens.now c.loop-at.at c.loop-at.opened c.loop-at.closed _ _ (omega arith) c.loop-at.invariant.2 o k (omega (arith, c.if-opened-closed.true))
