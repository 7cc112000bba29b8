use Rattle.flame_words.specs.WordSteps.{seen_of}
use Rattle.flame_words.proofs.SmallNumbers.{trial_seed, trial_size, trial_turns, trial_options}
use Rattle.flame_words.proofs.make.trial_of.Goals as goal

pub number_at-requires-clause-number : goal.number_at-requires-clause-number
number_at-requires-clause-number c = trial_seed (seen_of c.args.reading.now) c.requires.complete c.requires.command

pub number_at-requires-2-clause-number : goal.number_at-requires-2-clause-number
number_at-requires-2-clause-number c = trial_size (seen_of c.args.reading.now) c.requires.complete c.requires.command

pub number_at-requires-3-clause-number : goal.number_at-requires-3-clause-number
number_at-requires-3-clause-number c = trial_turns (seen_of c.args.reading.now) c.requires.complete c.requires.command

pub how_of-requires : goal.how_of-requires
how_of-requires c = trial_options (seen_of c.args.reading.now) c.requires.complete c.requires.command
