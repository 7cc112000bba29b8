-- What is called, stored and assigned is found.
use Rattle.flame_meaning.proofs.Fitting.{call_does, stored_finds, assignment_finds, fitted_whole}
use Rattle.flame_meaning.proofs.accepted_laws.deeds_are_found.Goals as goal

pub returns-clause-calls : goal.returns-clause-calls
returns-clause-calls c = λ place sight scene s line word arguments a none. call_does place sight scene s a line word arguments none

pub returns-clause-stored : goal.returns-clause-stored
returns-clause-stored c = λ place sight scene s stored a none. stored_finds place sight scene s a stored none

pub returns-clause-assignments : goal.returns-clause-assignments
returns-clause-assignments c = λ place sight scene s b a none. assignment_finds place sight scene s a b none

pub returns-clause-fitted : goal.returns-clause-fitted
returns-clause-fitted c = fitted_whole
