use Rattle.std.proofs.Common.{◌++◌, List, ap, sym, ℕ}
use Rattle.std.specs.Prelude.{option_map}
use Rattle.std.proofs.lemmas.Result.{err_from_is_err_and}
use Rattle.flame_spec.specs.declared.faults.CheckFault.{CheckFault}
use Rattle.flame_spec.specs.declared.faults.CheckKind.TheVariants.{ReadOnly}
use Rattle.flame_spec.specs.ExpressionFaults.{fault_where, unknown_faults}
use Rattle.flame_spec.specs.Seen.{assigned, indexed, stored}
use Rattle.flame_spec.specs.StatementFaults.{assignment_faults, is_read_only, stored_faults, subscript_faults}
use Rattle.flame_spec.proofs.FaultLists.{FailsFirst-front}
use Rattle.flame_lookup.specs.Sources.{context_at}
use Rattle.flame_numbering.proofs.stored.assignment.Goals as goal

pub returns-in_err-target-clause-first : goal.returns-in_err-target-clause-first
returns-in_err-target-clause-first c =
    let p = err_from_is_err_and c.from_residual.result c.from_residual.ensures.1 in
    let context = context_at c.args.words.now in
    let sight = c.args.spot.now in
    let a = c.args.a.now in
    let here : List ℕ → List CheckFault = λ w. unknown_faults context sight a.line w
    ++ fault_where (is_read_only context w) context ReadOnly a.line w
    ++ subscript_faults context sight a.line w (option_map indexed a.subscript) in
    let value = stored_faults context sight (stored a.value) in
    rw (p.1, p.2)
    (FailsFirst-front
    _
    (assignment_faults context sight (assigned a))
    (here c.as_str.result.now)
    value
    (ap (λ w. here w ++ value) (sym c.as_str.ensures))
    c.in_err-target.ensures.first)
