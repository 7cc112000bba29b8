-- The function files come first.
use Rattle.flame_load.specs.FunctionFileReads.{units_in}
use Rattle.flame_load.specs.LoadedSources.{sound_source}
use Rattle.flame_load.proofs.Leftovers.{passes_first, gives_behind}
use Rattle.flame_load.proofs.loader.program_of.Goals as goal

pub returns-in_err-units-clause-gives : goal.returns-in_err-units-clause-gives
returns-in_err-units-clause-gives g c = λ told read held reads.
    passes_first (λ program. program) _ c.from_residual.result (units_in read told c.args.model.files)
    (λ units. sound_source (record { model = c.args.model; units = units }))
    c.from_residual.ensures.1 (c.in_err-units.ensures.gives told read held reads)

pub returns-clause-gives : goal.returns-clause-gives
returns-clause-gives g c = λ told read held reads.
    gives_behind (λ program. program) c.sound.result (units_in read told c.args.model.files)
    (λ units. sound_source (record { model = c.args.model; units = units }))
    c.in_ok-units.units (c.in_ok-units.ensures.gives told read held reads) c.sound.ensures.gives
