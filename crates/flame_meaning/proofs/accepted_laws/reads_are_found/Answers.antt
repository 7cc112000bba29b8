-- What is read is found.
use Rattle.flame_meaning.proofs.Finding.{expression_finds, input_there}
use Rattle.flame_meaning.proofs.accepted_laws.reads_are_found.Goals as goal

pub returns-clause-expressions : goal.returns-clause-expressions
returns-clause-expressions c = λ place sight scene s e a none. expression_finds place sight scene s a e none

pub returns-clause-loops : goal.returns-clause-loops
returns-clause-loops c = λ place sight scene s line word a none. input_there place sight scene s a line word none
