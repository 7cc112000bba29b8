use Rattle.flame_words.specs.WordSteps.{seen_of}
use Rattle.flame_words.proofs.SmallNumbers.{run_number, run_options}
use Rattle.flame_words.proofs.make.run_of.Goals as goal

pub number_at-requires-clause-number : goal.number_at-requires-clause-number
number_at-requires-clause-number c = run_number (seen_of c.args.reading.now) c.requires.complete c.requires.command

pub how_of-requires : goal.how_of-requires
how_of-requires c = run_options (seen_of c.args.reading.now) c.requires.complete c.requires.command
