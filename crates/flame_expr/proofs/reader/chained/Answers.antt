use Rattle.std.proofs.Common.{◌<◌, ◌∙◌, ap, arith, length}
use Rattle.std.proofs.lemmas.Bool.Decides.{nat_tests}
use Rattle.flame_spec.specs.Trees.{chain}
use Rattle.flame_spec.specs.Seen.{expression, links}
use Rattle.flame_spec.proofs.SeenForms.{expression-Chain}
use Rattle.flame_expr.proofs.Readings.{chain-chained}
use Rattle.flame_expr.proofs.reader.chained.Goals as goal

pub returns : goal.returns
returns c =
    let n : 0 < length c.args.more.items = grind (arith, nat_tests, c.args.more.ok.0, c.if-is_empty.ensures) in
    expression-Chain c.in_ok-first.first c.of-links.result
    ∙ ap (λ e. chain (expression e) (links c.of-links.result)) c.in_ok-first.ensures
    ∙ ap (λ ls. chain (expression c.args.first) (links ls)) c.of-links.ensures
    ∙ chain-chained (expression c.args.first) c.args.more.items n
