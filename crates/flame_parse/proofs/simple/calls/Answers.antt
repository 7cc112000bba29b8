-- Each way that the reader returns, by the parts that it read.
use Rattle.std.proofs.Common.{sym, ap, ◌∙◌}
use Rattle.flame_expr.specs.declared.lexemes.Lexeme.TheVariants.{Open}
use Rattle.flame_expr.specs.Lexemes.{first}
use Rattle.flame_expr.proofs.Places.{behind-drop}
use Rattle.flame_expr.proofs.Readings.{unlike, two_behind}
use Rattle.flame_parse.proofs.Values as values
use Rattle.std.proofs.lemmas.Bool.{false≢true}
use Rattle.flame_parse.proofs.simple.calls.Goals as goal

pub returns-in_default-lexeme_at : goal.returns-in_default-lexeme_at
returns-in_default-lexeme_at c = record {
  yes = λ f. absurd (false≢true f);
  no = λ f h. unlike c.lexeme_at-2.ensures c.in_default-lexeme_at.not-Open (values.next_first c.args.tokens.now c.args.at Open h.1);
}

pub returns-in-Close-clause-no : goal.returns-in-Close-clause-no
returns-in-Close-clause-no c = λ f h. h.2 (ap first (two_behind c.args.tokens.now c.args.at) ∙ sym c.in-Close.ensures)

pub returns-in_default-lexeme_at-2 : goal.returns-in_default-lexeme_at-2
returns-in_default-lexeme_at-2 c = record {
  yes = λ f. (
    sym c.in-Word.ensures,
    ap first (behind-drop c.args.tokens.now c.args.at) ∙ sym c.in-Open.ensures,
    λ g. unlike c.lexeme_at-3.ensures
        c.in_default-lexeme_at-2.not-Close (ap first (sym (two_behind c.args.tokens.now c.args.at)) ∙ g),
  );
  no = λ f. absurd (false≢true (sym f));
}
