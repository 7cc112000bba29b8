use Rattle.std.proofs.lemmas.Result.{err_from_is_err_and}
use Rattle.flame_spec.specs.ExpressionFaults.{unknown_faults, bare_faults}
use Rattle.flame_spec.proofs.FaultLists.{FailsFirst-append}
use Rattle.flame_lookup.specs.Sources.{context_at}
use Rattle.flame_numbering.proofs.name.single.Goals as goal

pub returns-in_err-visible-clause-first : goal.returns-in_err-visible-clause-first
returns-in_err-visible-clause-first c =
    let p = err_from_is_err_and c.from_residual.result c.from_residual.ensures.1 in
    let context = context_at c.args.words.now in
    rw (p.1, p.2)
    (FailsFirst-append
    _
    (unknown_faults context c.args.spot.now c.args.line c.args.word.now)
    (bare_faults context c.args.line c.args.word.now)
    c.in_err-visible.ensures.first)
