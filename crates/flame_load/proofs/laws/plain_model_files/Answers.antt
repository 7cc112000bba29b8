-- Plain files are flat as they stand.
use Rattle.flame_load.proofs.PlainLoads.{plain_files_are_read}
use Rattle.flame_load.proofs.laws.plain_model_files.Goals as goal

pub returns : goal.returns
returns c =
    plain_files_are_read c.plain_in_wide.ensures c.well_formed_wide.ensures c.plain_files.ensures.faultless
    c.flat_models.ensures.plain c.flat_models.ensures.flat
