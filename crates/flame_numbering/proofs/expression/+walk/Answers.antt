use Rattle.std.proofs.Common.{◌++◌, ◌∙◌, ap, sym}
use Rattle.std.proofs.lemmas.Result.{err_from_is_err_and}
use Rattle.flame_spec.proofs.SeenForms.{expression-At, expression-Chain}
use Rattle.flame_spec.specs.ExpressionFaults.{expression_faults, links_faults, unknown_faults, indexed_faults}
use Rattle.flame_spec.specs.Seen.{expression, links}
use Rattle.flame_spec.specs.Trees.{at}
use Rattle.flame_spec.proofs.FaultLists.{FailsFirst-front}
use Rattle.flame_lookup.specs.Sources.{context_at}
use Rattle.flame_numbering.proofs.Firsts.{first_behind_as}
use Rattle.flame_numbering.proofs.expression.+walk.Goals as goal

pub expression-returns-in_err-cells-in-At-clause-first :
    goal.expression-returns-in_err-cells-in-At-clause-first
expression-returns-in_err-cells-in-At-clause-first t c =
    let fail = c.from_residual-in_err-cells-in-At in
    let p = err_from_is_err_and fail.result fail.ensures.1 in
    let context = context_at c.args.words.now in
    let sight = c.args.spot.now in
    let word = c.as_str-in-At.result.now in
    let s = c.in-At.subscript in
    let inner = expression_faults context sight (expression s.index) in
    rw (p.1, p.2)
    (FailsFirst-front
    _
    (expression_faults context sight (expression c.args.e.now))
    (unknown_faults context sight c.in-At.line word ++ indexed_faults context c.in-At.line word)
    inner
    (ap (λ e. expression_faults context sight (expression e)) c.in-At.is
    ∙ ap (expression_faults context sight) (expression-At c.in-At.line c.in-At.word s)
    ∙ ap (λ w. expression_faults context sight (at c.in-At.line w s.line (expression s.index))) (sym c.as_str-in-At.ensures))
    c.in_err-cells-in-At.ensures.first)

pub expression-returns-in_err-first-in-Chain-clause-first :
    goal.expression-returns-in_err-first-in-Chain-clause-first
expression-returns-in_err-first-in-Chain-clause-first t c =
    let fail = c.from_residual-in_err-first-in-Chain in
    let p = err_from_is_err_and fail.result fail.ensures.1 in
    let context = context_at c.args.words.now in
    let sight = c.args.spot.now in
    let behind = links_faults context sight (links c.in-Chain.more) in
    rw (p.1, p.2)
    (FailsFirst-front
    _
    (expression_faults context sight (expression c.args.e.now))
    (expression_faults context sight (expression c.deref-in-Chain.result.now))
    behind
    (ap (λ e. expression_faults context sight (expression e)) c.in-Chain.is
    ∙ ap (expression_faults context sight) (expression-Chain c.in-Chain.e c.in-Chain.more)
    ∙ ap (λ e. expression_faults context sight (expression e) ++ behind) (sym c.deref-in-Chain.ensures))
    c.in_err-first-in-Chain.ensures.first)

pub expression-returns-in_err-more-in-Chain-clause-first :
    goal.expression-returns-in_err-more-in-Chain-clause-first
expression-returns-in_err-more-in-Chain-clause-first t c =
    let fail = c.from_residual-in_err-more-in-Chain in
    let p = err_from_is_err_and fail.result fail.ensures.1 in
    let context = context_at c.args.words.now in
    let sight = c.args.spot.now in
    let before = expression_faults context sight (expression c.deref-in-Chain.result.now) in
    rw (p.1, p.2)
    (first_behind_as (expression_faults context sight (expression c.args.e.now))
    before (links_faults context sight (links c.items-in-Chain.result.now)) _
    (ap (λ e. expression_faults context sight (expression e)) c.in-Chain.is
    ∙ ap (expression_faults context sight) (expression-Chain c.in-Chain.e c.in-Chain.more)
    ∙ ap (λ e. expression_faults context sight (expression e) ++ links_faults context sight (links c.in-Chain.more))
    (sym c.deref-in-Chain.ensures)
    ∙ ap (λ ls. before ++ links_faults context sight (links ls)) (sym c.items-in-Chain.ensures))
    c.in_ok-first-in-Chain.ensures.clean
    c.in_err-more-in-Chain.ensures.first)
