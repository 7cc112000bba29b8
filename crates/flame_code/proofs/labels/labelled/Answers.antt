use Rattle.std.proofs.Common.{◌∙◌, sym, subst, List}
use Rattle.flame_code.specs.declared.instrs.Instr.{Instr}
use Rattle.flame_code.specs.Validity.{IsValid}
use Rattle.flame_code.proofs.Labelling.{labels_valid}
use Rattle.flame_code.proofs.labels.labelled.Goals as goal

pub make-requires-clause-valid : goal.make-requires-clause-valid
make-requires-clause-valid c =
    subst (λ (is : List Instr). IsValid (record { instrs = is; widths = c.args.widths })) c.items.ensures
    (labels_valid (record { instrs = c.items.result.now; widths = c.args.widths }) c.args.labels.now (sym c.labels_fit.ensures ∙ c.if-labels_fit.true))
