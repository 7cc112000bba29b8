-- The instructions are those of the code of the helper's body.
use Rattle.std.proofs.Common.{◌≡◌, Some, subst, ◌∙◌}
use Rattle.std.specs.Prelude.{slice_get}
use Rattle.flame_code.specs.HelperCodes.{HelperCodes}
use Rattle.flame_lookup.specs.WordsFound.{definition_found}
use Rattle.flame_report.proofs.CodesFound as found
use Rattle.flame_report.proofs.codes.helper_instrs.Goals as goal

pub returns : goal.returns
returns c =
    c.instrs.ensures.same
    ∙ found.helper_instrs c.args.program.now c.args.number (definition_found c.args.helper.now) c.code.result.now c.requires
    (subst (λ (h : HelperCodes). slice_get h.routines c.args.number ≡ Some c.code.result.now) c.helpers.ensures
    c.code.ensures.found)
