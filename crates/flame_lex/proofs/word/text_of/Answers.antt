use Rattle.flame_lex.proofs.Prefixes.{word-IsUtf8}
use Rattle.flame_lex.proofs.word.text_of.Goals as goal

pub unreachable-requires : goal.unreachable-requires
unreachable-requires c = c.in-Err.ensures.cases.0 (word-IsUtf8 c.args.word.now c.requires)
