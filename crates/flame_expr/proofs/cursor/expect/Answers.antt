use Rattle.std.proofs.Common.{sym, ◌∙◌, rules}
use Rattle.flame_expr.proofs.Places.{lexeme_ended, lexeme_stopped}
use denote.Enum.Bare.{same_false}
use Rattle.flame_expr.specs.contracts.lexemes.Lexeme as kind
use Rattle.flame_expr.proofs.cursor.expect.Goals as goal

pub returns-then-eq-clause-ended : goal.returns-then-eq-clause-ended
returns-then-eq-clause-ended c = lexeme_ended c.args.tokens.now c.args.at c.args.wanted c.requires.real (search rules)

pub returns-else-eq-clause-stopped : goal.returns-else-eq-clause-stopped
returns-else-eq-clause-stopped c =
    rw c.syntax.ensures
    (lexeme_stopped c.args.tokens.now c.args.at c.args.wanted c.requires.within
    (λ f. same_false kind.the_type c.lexeme_at.result c.args.wanted (sym c.eq.ensures ∙ c.if-eq.false) (c.lexeme_at.ensures ∙ f)))
