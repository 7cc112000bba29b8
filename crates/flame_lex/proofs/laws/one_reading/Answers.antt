use Rattle.flame_lex.proofs.Unique.{one_piece}
use Rattle.flame_lex.proofs.Readings.{one_whole_cut, one_token_list, one_fault_of, tokens_or_fault}
use Rattle.flame_lex.proofs.laws.one_reading.Goals as goal

pub returns-clause-piece : goal.returns-clause-piece
returns-clause-piece c = one_piece

pub returns-clause-cut : goal.returns-clause-cut
returns-clause-cut c = one_whole_cut

pub returns-clause-tokens : goal.returns-clause-tokens
returns-clause-tokens c = one_token_list

pub returns-clause-fault : goal.returns-clause-fault
returns-clause-fault c = one_fault_of

pub returns-clause-apart : goal.returns-clause-apart
returns-clause-apart c = tokens_or_fault
