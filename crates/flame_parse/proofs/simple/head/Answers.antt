-- Each way that the reader returns, by the parts that it read.
use Rattle.std.proofs.Common.{[], ◌∷◌, drop, refl}
use Rattle.flame_spec.specs.Seen.{statements}
use Rattle.flame_expr.specs.declared.lexemes.Lexeme.TheVariants.{Open, Close, Semicolon}
use Rattle.flame_expr.specs.ViablePrefixes.{form, lexeme, maybe, either, expr, an_assign, a_decl}
use Rattle.flame_expr.proofs.Ends.{stops_by, ended_then, stopped_then, stopped_before}
use Rattle.flame_parse.specs.StatementGrammar as grammar
use Rattle.flame_parse.proofs.Runs.{next_of}
use Rattle.flame_parse.proofs.simple.head.Goals as goal

pub returns-in_err-inside-clause-stopped : goal.returns-in_err-inside-clause-stopped
returns-in_err-inside-clause-stopped c =
    stops_by _ _ c.from_residual.ensures.1
    (λ n h.
    (stopped_before [] [] (lexeme Open ∷ [])
    (maybe (either (form an_assign) (form a_decl)) ∷ lexeme Semicolon ∷ maybe expr ∷ lexeme Semicolon ∷ maybe (form an_assign) ∷ lexeme Close ∷ [])
    c.args.tokens.now c.args.at n refl h))
    c.in_err-inside.ensures.stopped

pub returns-in_err-first-clause-stopped : goal.returns-in_err-first-clause-stopped
returns-in_err-first-clause-stopped c =
    stops_by _ _ c.from_residual-in_err-first.ensures.1
    (λ n h.
    (stopped_then [] [] (lexeme Open ∷ [])
    (maybe (either (form an_assign) (form a_decl)) ∷ lexeme Semicolon ∷ maybe expr ∷ lexeme Semicolon ∷ maybe (form an_assign) ∷ lexeme Close ∷ [])
    c.args.tokens.now c.args.at c.in_ok-inside.inside n refl c.in_ok-inside.ensures.ended
    (stopped_before [] [] (maybe (either (form an_assign) (form a_decl)) ∷ lexeme Semicolon ∷ [])
    (maybe expr ∷ lexeme Semicolon ∷ maybe (form an_assign) ∷ lexeme Close ∷ []) c.args.tokens.now c.in_ok-inside.inside n refl h)))
    c.in_err-first.ensures.stopped

pub returns-in_err-test-clause-stopped : goal.returns-in_err-test-clause-stopped
returns-in_err-test-clause-stopped c =
    stops_by _ _ c.from_residual-in_err-test.ensures.1
    (λ n h.
    (stopped_then [] [] (lexeme Open ∷ [])
    (maybe (either (form an_assign) (form a_decl)) ∷ lexeme Semicolon ∷ maybe expr ∷ lexeme Semicolon ∷ maybe (form an_assign) ∷ lexeme Close ∷ [])
    c.args.tokens.now c.args.at c.in_ok-inside.inside n refl c.in_ok-inside.ensures.ended
    (stopped_then [] [] (maybe (either (form an_assign) (form a_decl)) ∷ lexeme Semicolon ∷ [])
    (maybe expr ∷ lexeme Semicolon ∷ maybe (form an_assign) ∷ lexeme Close ∷ []) c.args.tokens.now c.in_ok-inside.inside c.in_ok-first.mid n
    refl c.in_ok-first.ensures.ended
    (stopped_before [] [] (maybe expr ∷ lexeme Semicolon ∷ []) (maybe (form an_assign) ∷ lexeme Close ∷ []) c.args.tokens.now c.in_ok-first.mid
    n refl h))))
    c.in_err-test.ensures.stopped

pub returns-in_err-step-clause-stopped : goal.returns-in_err-step-clause-stopped
returns-in_err-step-clause-stopped c =
    stops_by _ _ c.from_residual-in_err-step.ensures.1
    (λ n h.
    (stopped_then [] [] (lexeme Open ∷ [])
    (maybe (either (form an_assign) (form a_decl)) ∷ lexeme Semicolon ∷ maybe expr ∷ lexeme Semicolon ∷ maybe (form an_assign) ∷ lexeme Close ∷ [])
    c.args.tokens.now c.args.at c.in_ok-inside.inside n refl c.in_ok-inside.ensures.ended
    (stopped_then [] [] (maybe (either (form an_assign) (form a_decl)) ∷ lexeme Semicolon ∷ [])
    (maybe expr ∷ lexeme Semicolon ∷ maybe (form an_assign) ∷ lexeme Close ∷ []) c.args.tokens.now c.in_ok-inside.inside c.in_ok-first.mid n
    refl c.in_ok-first.ensures.ended
    (stopped_then [] [] (maybe expr ∷ lexeme Semicolon ∷ []) (maybe (form an_assign) ∷ lexeme Close ∷ []) c.args.tokens.now c.in_ok-first.mid
    c.in_ok-test.place n refl c.in_ok-test.ensures.ended h))))
    c.in_err-step.ensures.stopped

pub returns-clause-ended : goal.returns-clause-ended
returns-clause-ended c =
    (ended_then [] [] (lexeme Open ∷ [])
    (maybe (either (form an_assign) (form a_decl)) ∷ lexeme Semicolon ∷ maybe expr ∷ lexeme Semicolon ∷ maybe (form an_assign) ∷ lexeme Close ∷ [])
    c.args.tokens.now c.args.at c.in_ok-inside.inside c.in_ok-step.end refl c.in_ok-inside.ensures.ended
    (ended_then [] [] (maybe (either (form an_assign) (form a_decl)) ∷ lexeme Semicolon ∷ [])
    (maybe expr ∷ lexeme Semicolon ∷ maybe (form an_assign) ∷ lexeme Close ∷ []) c.args.tokens.now c.in_ok-inside.inside c.in_ok-first.mid
    c.in_ok-step.end refl c.in_ok-first.ensures.ended
    (ended_then [] [] (maybe expr ∷ lexeme Semicolon ∷ []) (maybe (form an_assign) ∷ lexeme Close ∷ []) c.args.tokens.now c.in_ok-first.mid
    c.in_ok-test.place c.in_ok-step.end refl c.in_ok-test.ensures.ended c.in_ok-step.ensures.ended)))

pub returns-clause-tree : goal.returns-clause-tree
returns-clause-tree c =
    rw c.of-first.ensures
    (grammar.heading c.in_ok-inside.ensures.found
    (next_of (λ ts. grammar.First ts (statements c.in_ok-first.first.items) (drop c.in_ok-first.mid c.args.tokens.now)) c.args.tokens.now c.args.at
    c.in_ok-inside.inside c.in_ok-inside.ensures.next c.in_ok-first.ensures.tree)
    c.in_ok-test.ensures.tree c.in_ok-step.ensures.tree)
