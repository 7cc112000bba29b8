use Rattle.flame_bench.proofs.codes.outcome_over.Goals as goal

pub run-requires-clause-entry : goal.run-requires-clause-entry
run-requires-clause-entry c = c.fits_entry.ensures.fits c.if-not-fits_entry.false _ _
