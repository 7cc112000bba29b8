-- The model files come first.
use Rattle.flame_load.specs.ModelFileReads.{model_files, model_of_files}
use Rattle.flame_load.specs.RestsOfReadings.{files_read}
use Rattle.flame_load.proofs.Leftovers.{passes_first, gives_behind}
use Rattle.flame_load.proofs.model_files.model_in.Goals as goal

pub returns-in_err-files-clause-gives : goal.returns-in_err-files-clause-gives
returns-in_err-files-clause-gives g c = λ told held.
    passes_first (λ model. model) _ c.from_residual.result (model_files told c.args.name.now) model_of_files
    c.from_residual.ensures.1 (c.in_err-files.ensures.gives told held)

pub returns-clause-gives : goal.returns-clause-gives
returns-clause-gives g c = λ told held.
    gives_behind (λ model. model) c.model_of_files.result (model_files told c.args.name.now) model_of_files
    (files_read c.in_ok-files.files) (c.in_ok-files.ensures.gives told held) c.model_of_files.ensures.gives
