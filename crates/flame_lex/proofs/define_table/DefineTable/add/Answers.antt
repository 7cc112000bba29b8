-- One more number for one word.
use Rattle.std.proofs.Common.{arith}
use Rattle.std.proofs.lemmas.Grind.{text_groups}
use Rattle.flame_lex.proofs.define_table.DefineTable.add.Goals as goal

pub returns : goal.returns
returns c = λ word. grind (arith, text_groups)
