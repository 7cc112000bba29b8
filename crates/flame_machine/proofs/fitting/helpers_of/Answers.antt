use Rattle.std.proofs.Common.{◌∙◌, sym, subst, List, ℕ}
use Rattle.flame_code.specs.HelperCodes.{AreHelpers}
use Rattle.flame_code.specs.Routines.{Routine}
use Rattle.flame_machine.proofs.Fitted.{heights_show}
use Rattle.flame_machine.proofs.fitting.helpers_of.Goals as goal

pub make-requires : goal.make-requires
make-requires c =
    subst (λ (rs : List Routine). AreHelpers (record { routines = rs; parameters = c.args.parameters })) c.items.ensures
    (subst (λ (ps : List ℕ). AreHelpers (record { routines = c.items.result.now; parameters = ps })) c.items-2.ensures
    (heights_show (record { routines = c.items.result.now; parameters = c.items-2.result.now }) c.args.heights.now
    (sym c.heights_fit.ensures ∙ c.if-heights_fit.true)))
