-- A reader gives what the text is read as.
use Rattle.flame_load.proofs.TextSteps.{text_is_given}
use Rattle.flame_load.proofs.function_files.spelled.Goals as goal

pub returns-in-Ok-clause-gives : goal.returns-in-Ok-clause-gives
returns-in-Ok-clause-gives c = λ read reads.
    text_is_given c.one_text_reading.ensures read c.args.name.now c.args.bytes.now c.in-Ok.unit reads c.in-Ok.ensures
