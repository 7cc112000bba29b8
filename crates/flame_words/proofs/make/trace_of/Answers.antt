use Rattle.flame_words.specs.WordSteps.{seen_of}
use Rattle.flame_words.proofs.SmallNumbers.{workers_small, fuel_small, trace_options}
use Rattle.flame_words.proofs.make.trace_of.Goals as goal

pub number-requires : goal.number-requires
number-requires c =
    rw c.word_of.ensures (workers_small (seen_of c.args.reading.now).givens
    (trace_options (seen_of c.args.reading.now) c.requires.complete c.requires.command))

pub number-requires-2 : goal.number-requires-2
number-requires-2 c =
    rw c.word_of-2.ensures (fuel_small (seen_of c.args.reading.now).givens
    (trace_options (seen_of c.args.reading.now) c.requires.complete c.requires.command))
