-- The check comes first.
use Rattle.flame_load.proofs.SoundSources.{sound_source_behind}
use Rattle.flame_load.proofs.loader.sound.Goals as goal

pub returns-in-Ok-clause-gives : goal.returns-in-Ok-clause-gives
returns-in-Ok-clause-gives c =
    sound_source_behind (λ program. program) c.planned.result c.args.source c.in-Ok.checked c.in-Ok.ensures.checked
    c.planned.ensures.gives
