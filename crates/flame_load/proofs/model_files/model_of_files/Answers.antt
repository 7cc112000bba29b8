-- The flat model comes first.
use Rattle.std.proofs.Common.{sym}
use Rattle.flame_load.specs.ModelFileReads.{flat_model, named_model}
use Rattle.flame_load.specs.RestsOfReadings.{files_read}
use Rattle.flame_load.proofs.Leftovers.{passes_first, gives_behind}
use Rattle.flame_load.proofs.model_files.model_of_files.Goals as goal

pub returns-in_err-model-clause-gives : goal.returns-in_err-model-clause-gives
returns-in_err-model-clause-gives c =
    passes_first (λ model. model) _ c.from_residual.result (flat_model (files_read c.args.files)) named_model
    c.from_residual.ensures.1
    (c.in_err-model.ensures.gives (files_read c.args.files) (sym c.of-names.ensures) (sym c.of-wides.ensures))

pub returns-clause-gives : goal.returns-clause-gives
returns-clause-gives c =
    gives_behind (λ model. model) c.named.result (flat_model (files_read c.args.files)) named_model c.in_ok-model.model
    (c.in_ok-model.ensures.gives (files_read c.args.files) (sym c.of-names.ensures) (sym c.of-wides.ensures))
    c.named.ensures.gives
