use Rattle.std.proofs.Common.{◌∙◌, List, ap, subst}
use Rattle.std.specs.Prelude.{IsTrue}
use Rattle.flame_code.specs.Feeds.{Fed}
use Rattle.flame_code.specs.InputRows.{HaveWidths, rows_of}
use Rattle.flame_machine.specs.ListCursors.{feeds_of}
use Rattle.flame_machine.proofs.Fitted.{widths_tested}
use Rattle.flame_machine.proofs.lists.Lists.have_widths.Goals as goal

pub returns-then-cursors-widths : goal.returns-then-cursors-widths
returns-then-cursors-widths c =
    let b = c.all_fit.result in
    subst (λ (feeds : List Fed). (IsTrue b → HaveWidths c.args.widths.now (rows_of feeds)) × (HaveWidths c.args.widths.now (rows_of feeds) → IsTrue b))
    (ap feeds_of c.as_slice-cursors.ensures.value ∙ c.self.view_is)
    (widths_tested c.args.widths.now c.as_slice-cursors.result.now c.if-cursors-widths.true b c.all_fit.ensures)
