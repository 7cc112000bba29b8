-- Texts are cut, parsed and seen in one way.
use Rattle.flame_load.proofs.TextReaders.{texts_are_read_once}
use Rattle.flame_load.proofs.laws.one_text_reading.Goals as goal

pub returns : goal.returns
returns c =
    texts_are_read_once c.one_unit.ensures c.trees_are_told.ensures.statements c.one_reading.ensures.tokens
    c.one_reading.ensures.fault c.one_reading.ensures.apart
