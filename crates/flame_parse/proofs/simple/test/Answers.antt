-- Each way that the reader returns, by the parts that it read.
use Rattle.std.proofs.Common.{◌≡◌, ◌+◌, [], ◌∷◌, drop, sym, refl, ◌∙◌, arith, rules, Some, None}
use Rattle.flame_spec.specs.Seen.{expression}
use Rattle.flame_expr.specs.declared.lexemes.Lexeme.TheVariants.{Semicolon}
use Rattle.flame_expr.specs.Lexemes.{first}
use Rattle.flame_expr.specs.OperatorLevels.{joins}
use Rattle.flame_expr.specs.ViablePrefixes.{lexeme, maybe, expr}
use Rattle.flame_expr.proofs.Places.{there}
use Rattle.flame_expr.proofs.Ends.{stops_by, any_ended, one_ended, any_stopped, one_stopped, begin_ended, ended_then, stopped_then, stopped_before, nothing_ended}
use Rattle.flame_parse.specs.StatementGrammar as grammar
use Rattle.flame_expr.proofs.Likeness.{alike_ended, alike_stopped}
use Rattle.flame_parse.proofs.Beginnings as begin
use Rattle.flame_parse.proofs.Runs.{end_of}
use denote.Enum.Bare.{same_false}
use Rattle.flame_expr.specs.contracts.lexemes.Lexeme as kind
use Rattle.flame_parse.proofs.simple.test.Goals as goal

pub returns-in_err-test-clause-stopped : goal.returns-in_err-test-clause-stopped
returns-in_err-test-clause-stopped c =
    stops_by _ _ c.from_residual.ensures.1
    (λ n h. one_stopped
    (alike_stopped [] ((expr ∷ lexeme Semicolon ∷ []) ∷ []) ((maybe expr ∷ lexeme Semicolon ∷ []) ∷ []) c.args.tokens.now c.args.at n (omega arith)
    (omega arith)
    (begin.test_alike (first (drop c.args.at c.args.tokens.now))
    (λ q. same_false kind.the_type c.lexeme_at.result Semicolon (sym c.eq.ensures ∙ c.if-eq.false) (c.lexeme_at.ensures ∙ q)))
    (any_stopped (stopped_before (joins 6) [] (expr ∷ []) (lexeme Semicolon ∷ []) c.args.tokens.now c.args.at n refl h))))
    c.in_err-test.ensures.stopped

pub returns-in_err-end-clause-stopped : goal.returns-in_err-end-clause-stopped
returns-in_err-end-clause-stopped c =
    stops_by _ _ c.from_residual-in_err-end.ensures.1
    (λ n h. one_stopped
    (alike_stopped [] ((expr ∷ lexeme Semicolon ∷ []) ∷ []) ((maybe expr ∷ lexeme Semicolon ∷ []) ∷ []) c.args.tokens.now c.args.at n (omega arith)
    (omega arith)
    (begin.test_alike (first (drop c.args.at c.args.tokens.now))
    (λ q. same_false kind.the_type c.lexeme_at.result Semicolon (sym c.eq.ensures ∙ c.if-eq.false) (c.lexeme_at.ensures ∙ q)))
    (any_stopped
    (stopped_then (joins 6) [] (expr ∷ []) (lexeme Semicolon ∷ []) c.args.tokens.now c.args.at c.in_ok-test.mid n refl
    c.in_ok-test.ensures.ended h))))
    c.in_err-end.ensures.stopped

pub returns-clause-ended : goal.returns-clause-ended
returns-clause-ended c =
    one_ended
    (alike_ended [] ((expr ∷ lexeme Semicolon ∷ []) ∷ []) ((maybe expr ∷ lexeme Semicolon ∷ []) ∷ []) c.args.tokens.now c.args.at c.in_ok-end.end
    (omega arith) (omega arith)
    (begin.test_alike (first (drop c.args.at c.args.tokens.now))
    (λ q. same_false kind.the_type c.lexeme_at.result Semicolon (sym c.eq.ensures ∙ c.if-eq.false) (c.lexeme_at.ensures ∙ q)))
    (any_ended
    (ended_then (joins 6) [] (expr ∷ []) (lexeme Semicolon ∷ []) c.args.tokens.now c.args.at c.in_ok-test.mid c.in_ok-end.end refl
    c.in_ok-test.ensures.ended c.in_ok-end.ensures.ended)))

pub returns-clause-tree : goal.returns-clause-tree
returns-clause-tree c =
    end_of (grammar.Test (drop c.args.at c.args.tokens.now) (Some (expression c.in_ok-test.test))) c.args.tokens.now c.in_ok-test.mid c.in_ok-end.end
    c.in_ok-end.ensures.next (grammar.a_test c.in_ok-test.ensures.tree c.in_ok-end.ensures.found)

pub returns-then-eq-clause-tree : goal.returns-then-eq-clause-tree
returns-then-eq-clause-tree c =
    let s : first (drop c.args.at c.args.tokens.now) ≡ Semicolon = search rules in
    end_of (grammar.Test (drop c.args.at c.args.tokens.now) None) c.args.tokens.now c.args.at (c.args.at + 1) refl (grammar.no_test s)

pub returns-then-eq-clause-ended : goal.returns-then-eq-clause-ended
returns-then-eq-clause-ended c =
    let s : first (drop c.args.at c.args.tokens.now) ≡ Semicolon = search rules in
    begin_ended [] (maybe expr ∷ lexeme Semicolon ∷ []) [] c.args.tokens.now c.args.at (c.args.at + 1) Semicolon refl refl refl s (nothing_ended [] c.args.tokens.now (c.args.at + 1) (let q = there c.args.tokens.now c.args.at Semicolon s refl in omega (arith, q)))
