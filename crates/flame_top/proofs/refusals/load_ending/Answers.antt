-- The refusal of a model has a line.
use Rattle.std.proofs.Common.{subst}
use Rattle.flame_load.specs.LoadAnswers.{IsTold}
use Rattle.flame_top.specs.RefusalLines.{files_line, model_line}
use Rattle.flame_top.proofs.RefusedInputs.{line_stops, files_is_line, model_is_line}
use Rattle.flame_top.proofs.refusals.load_ending.Goals as goal

pub returns-in-Refused-clause-line : goal.returns-in-Refused-clause-line
returns-in-Refused-clause-line c =
    let root = c.args.root.now in
    let fault = c.in-Refused.fault in
    line_stops (files_line root fault) c.files_text.result c.refused.result
    (files_is_line root fault (subst IsTold c.in-Refused.is c.requires.told))
    c.files_text.ensures c.refused.ensures

pub returns-in-RefusedModel-clause-line : goal.returns-in-RefusedModel-clause-line
returns-in-RefusedModel-clause-line c =
    let model = c.in-RefusedModel.model in
    let fault = c.in-RefusedModel.fault in
    line_stops (model_line model fault) c.model_text.result c.refused-in-RefusedModel.result
    (model_is_line model fault (subst IsTold c.in-RefusedModel.is c.requires.told))
    c.model_text.ensures c.refused-in-RefusedModel.ensures
