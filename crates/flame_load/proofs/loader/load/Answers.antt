-- The model comes first.
use Rattle.std.proofs.Common.{◌∙◌}
use Rattle.flame_load.specs.LoadedSources.{source_of}
use Rattle.flame_load.specs.ModelFileReads.{model_in}
use Rattle.flame_load.proofs.Leftovers.{passes_first, gives_behind}
use Rattle.flame_load.proofs.loader.load.Goals as goal

pub returns-in_err-model-clause-gives : goal.returns-in_err-model-clause-gives
returns-in_err-model-clause-gives g c = λ told read held reads.
    passes_first (λ program. program) _ c.from_residual.result (model_in told c.args.name.now) (source_of read told)
    c.from_residual.ensures.1 (c.in_err-model.ensures.gives told held)

pub returns-clause-gives : goal.returns-clause-gives
returns-clause-gives g c = λ told read held reads.
    gives_behind (λ program. program) c.program_of.result (model_in told c.args.name.now) (source_of read told) c.in_ok-model.model
    (c.in_ok-model.ensures.gives told held)
    (c.program_of.ensures.gives told read (c.model_in.ensures.reads.files ∙ held) reads)
