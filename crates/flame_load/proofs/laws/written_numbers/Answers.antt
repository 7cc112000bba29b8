-- Loaded sources write numbers of int alone.
use Rattle.flame_load.proofs.WrittenSources.{loaded_write_ints}
use Rattle.flame_load.proofs.laws.written_numbers.Goals as goal

pub returns : goal.returns
returns c = loaded_write_ints
