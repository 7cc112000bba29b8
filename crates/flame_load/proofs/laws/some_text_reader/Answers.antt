-- Each text is read as something.
use Rattle.flame_load.proofs.TextReaders.{there_is_a_reader}
use Rattle.flame_load.proofs.laws.some_text_reader.Goals as goal

pub returns : goal.returns
returns c = there_is_a_reader c.trees_are_seen.ensures c.read_files.ensures c.some_reading.ensures.read
