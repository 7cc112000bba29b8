use Rattle.std.proofs.Common.{length, sym, arith}
use Rattle.std.proofs.lemmas.Bool.{eqb-false}
use Rattle.flame_lex.proofs.LoopWords.{not_opened, loop_word}
use Rattle.flame_lex.proofs.word.loop_name.Goals as goal

pub returns-in_err-behind : goal.returns-in_err-behind
returns-in_err-behind c =
    rw c.from_residual.ensures
    (λ name. not_opened c.args.opening.now c.args.word.now name c.in_err-behind.ensures.cases)

pub returns-else-is_empty : goal.returns-else-is_empty
returns-else-is_empty c =
    let opened = c.in_ok-behind.ensures.cases in
    let ended = c.in_ok-name.ensures.cases in
    let some = eqb-false (length c.in_ok-name.name.now) 0 (sym c.if-is_empty.ensures) in
    record {
      parts = loop_word c.args.opening.now c.args.word.now c.in_ok-behind.behind.now c.in_ok-name.name.now
          opened.0 opened.1 ended.0 ended.1;
      named = omega (arith, some);
    }
