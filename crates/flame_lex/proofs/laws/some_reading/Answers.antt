use Rattle.flame_lex.proofs.Existence.{every_text_is_read}
use Rattle.flame_lex.proofs.Readings.{few_tokens}
use Rattle.flame_lex.proofs.laws.some_reading.Goals as goal

pub returns-clause-read : goal.returns-clause-read
returns-clause-read c = every_text_is_read

pub returns-clause-few : goal.returns-clause-few
returns-clause-few c = few_tokens
