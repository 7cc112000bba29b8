use Rattle.std.proofs.Common.{◌++◌}
use Rattle.std.specs.Prelude.{option_map}
use Rattle.std.proofs.lemmas.Result.{err_from_is_err_and}
use Rattle.flame_spec.specs.declared.faults.CheckKind.TheVariants.{ReadOnly}
use Rattle.flame_spec.specs.ExpressionFaults.{fault_where, unknown_faults}
use Rattle.flame_spec.specs.Seen.{indexed}
use Rattle.flame_spec.specs.StatementFaults.{is_read_only, subscript_faults}
use Rattle.flame_spec.proofs.FaultLists.{FailsFirst-append}
use Rattle.flame_lookup.specs.Sources.{context_at}
use Rattle.flame_numbering.proofs.stored.assignee.Goals as goal

pub returns-in_err-visible-clause-first : goal.returns-in_err-visible-clause-first
returns-in_err-visible-clause-first c =
    let p = err_from_is_err_and c.from_residual.result c.from_residual.ensures.1 in
    let context = context_at c.args.words.now in
    let sight = c.args.spot.now in
    let line = c.args.line in
    let word = c.args.word.now in
    let unknown = unknown_faults context sight line word in
    let fixed = fault_where (is_read_only context word) context ReadOnly line word in
    let index = subscript_faults context sight line word (option_map indexed c.args.subscript.now) in
    rw (p.1, p.2)
    (FailsFirst-append _ (unknown ++ fixed) index (FailsFirst-append _ unknown fixed c.in_err-visible.ensures.first))
