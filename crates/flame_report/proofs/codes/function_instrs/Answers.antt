-- The instructions are those of the code of the function's body.
use Rattle.std.proofs.Common.{◌∙◌}
use Rattle.flame_lookup.specs.WordsFound.{place_found}
use Rattle.flame_report.proofs.CodesFound as found
use Rattle.flame_report.proofs.codes.function_instrs.Goals as goal

pub returns : goal.returns
returns c =
    c.instrs.ensures.same
    ∙ found.function_instrs c.args.program.now c.args.number (place_found c.args.place.now) c.code.result.now c.requires
    c.code.ensures
