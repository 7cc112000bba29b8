-- Each way that the reader returns, by the parts that it read.
use Rattle.std.proofs.Common.{◌+◌, [], ◌∷◌, drop, map, sym, refl, ap, subst, ◌∙◌, arith}
use Rattle.flame_spec.specs.Seen.{expression, declared, assigned, statement, statements}
use Rattle.flame_spec.proofs.SeenForms.{statement-Declare, statement-Block, statement-If, statement-While, statement-For, statement-Do, statement-Loop}
use Rattle.flame_expr.specs.declared.lexemes.Lexeme.TheVariants.{Start, Finish, Open, Close, OpenBrace, CloseBrace, Semicolon, Int, If, Else, While, For, Do}
use Rattle.flame_expr.specs.Lexemes.{first}
use Rattle.flame_expr.specs.ExpressionGrammar.{Bracketed}
use Rattle.flame_expr.specs.ViablePrefixes.{form, lexeme, maybe, either, many, expr, more_items, else_ifs, else_body, an_item, an_assign, a_decl, a_simple, a_stmt, a_body}
use Rattle.flame_expr.proofs.Places.{behind-drop}
use Rattle.flame_expr.proofs.Ends.{stops_by, any_ended, one_ended, any_stopped, one_stopped, here_ended, enter_ended, enter_stopped, begin_ended, begin_stopped, ended_then, stopped_then, stopped_before, ended_weaker, stopped_weaker}
use Rattle.flame_expr.proofs.Readings.{at_next, unlike, two_behind}
use Rattle.flame_parse.specs.AssignmentOperators.{starts, joins_items, joins_stmt, joins_stmts}
use Rattle.flame_parse.specs.StatementGrammar as grammar
use Rattle.flame_expr.proofs.Likeness.{alike_ended, alike_stopped}
use Rattle.flame_parse.proofs.Repeats.{many_ended, many_stopped, first_stopped}
use Rattle.flame_parse.proofs.Beginnings as begin
use Rattle.flame_parse.proofs.Runs.{next_of, end_of, run_begin, run_step, run_read, StmtsRead}
use Rattle.std.specs.Prelude.{option_map}
use Rattle.std.proofs.lemmas.Result.{err_from_is_err_and}
use Rattle.flame_parse.proofs.Blocks.{block_stopped, block_ended, brace_body_stopped, brace_body_ended, brace_stmt_stopped, brace_stmt_ended, arms_begin, arms_step, arms_read, arms_with}
use Rattle.flame_parse.proofs.stmt.+stmts.Goals as goal

pub block-returns-in_err-inside-clause-stopped : goal.block-returns-in_err-inside-clause-stopped
block-returns-in_err-inside-clause-stopped t c =
    stops_by _ _ c.from_residual.ensures.1
    (λ n h. block_stopped c.args.tokens.now c.args.at n
    (stopped_before [] [] (lexeme OpenBrace ∷ []) (many (form a_stmt) ∷ lexeme CloseBrace ∷ []) c.args.tokens.now c.args.at n refl h))
    c.in_err-inside.ensures.stopped

pub block-returns-in_err-found-clause-stopped : goal.block-returns-in_err-found-clause-stopped
block-returns-in_err-found-clause-stopped t c =
    stops_by _ _ c.from_residual-in_err-found.ensures.1
    (λ n h. block_stopped c.args.tokens.now c.args.at n
    (stopped_then [] [] (lexeme OpenBrace ∷ []) (many (form a_stmt) ∷ lexeme CloseBrace ∷ []) c.args.tokens.now c.args.at c.in_ok-inside.inside n
    refl c.in_ok-inside.ensures.ended
    (stopped_before joins_stmts [] (many (form a_stmt) ∷ []) (lexeme CloseBrace ∷ []) c.args.tokens.now c.in_ok-inside.inside n refl h)))
    c.in_err-found.ensures.stopped

pub block-returns-in_err-end-clause-stopped : goal.block-returns-in_err-end-clause-stopped
block-returns-in_err-end-clause-stopped t c =
    stops_by _ _ c.from_residual-in_err-end.ensures.1
    (λ n h. block_stopped c.args.tokens.now c.args.at n
    (stopped_then [] [] (lexeme OpenBrace ∷ []) (many (form a_stmt) ∷ lexeme CloseBrace ∷ []) c.args.tokens.now c.args.at c.in_ok-inside.inside n
    refl c.in_ok-inside.ensures.ended
    (stopped_then joins_stmts [] (many (form a_stmt) ∷ []) (lexeme CloseBrace ∷ []) c.args.tokens.now c.in_ok-inside.inside c.in_ok-found.close n
    refl c.in_ok-found.ensures.ended h)))
    c.in_err-end.ensures.stopped

pub block-returns-clause-ended : goal.block-returns-clause-ended
block-returns-clause-ended t c =
    block_ended c.args.tokens.now c.args.at c.in_ok-end.end
    (ended_then [] [] (lexeme OpenBrace ∷ []) (many (form a_stmt) ∷ lexeme CloseBrace ∷ []) c.args.tokens.now c.args.at c.in_ok-inside.inside
    c.in_ok-end.end refl c.in_ok-inside.ensures.ended
    (ended_then joins_stmts [] (many (form a_stmt) ∷ []) (lexeme CloseBrace ∷ []) c.args.tokens.now c.in_ok-inside.inside c.in_ok-found.close
    c.in_ok-end.end refl c.in_ok-found.ensures.ended c.in_ok-end.ensures.ended))

pub block-returns-clause-tree : goal.block-returns-clause-tree
block-returns-clause-tree t c =
    end_of (grammar.Block (drop c.args.at c.args.tokens.now) (statements c.in_ok-found.found.items)) c.args.tokens.now c.in_ok-found.close
    c.in_ok-end.end c.in_ok-end.ensures.next
    (grammar.braces c.in_ok-inside.ensures.found
    (next_of (λ ts. grammar.Stmts ts (statements c.in_ok-found.found.items) (drop c.in_ok-found.close c.args.tokens.now)) c.args.tokens.now
    c.args.at c.in_ok-inside.inside c.in_ok-inside.ensures.next c.in_ok-found.ensures.tree)
    c.in_ok-end.ensures.found)

pub stmts-returns-in_err-next-clause-stopped : goal.stmts-returns-in_err-next-clause-stopped
stmts-returns-in_err-next-clause-stopped t c =
    let s = begin.starts_stmt (first (drop c.stmts.place c.args.tokens.now)) (ap starts (sym c.lexeme_at.ensures) ∙ sym c.if-not-starts_statement.ensures) in
    stops_by _ _ c.from_residual.ensures.1
    (λ n h. c.stmts.invariant.stopped n (first_stopped joins_stmt joins_stmts (form a_stmt) c.args.tokens.now c.stmts.place n refl s.0 s.1 h))
    c.in_err-next.ensures.stopped

pub stmts-stmts-init : goal.stmts-stmts-init
stmts-stmts-init t c = rw c.new-found.ensures.items (run_begin joins_stmts (many (form a_stmt) ∷ []) StmtsRead c.args.tokens.now c.args.at c.requires.within)

pub stmts-stmts-preserved : goal.stmts-stmts-preserved
stmts-stmts-preserved t c =
    let s = begin.starts_stmt (first (drop c.stmts.place c.args.tokens.now)) (ap starts (sym c.lexeme_at.ensures) ∙ sym c.if-not-starts_statement.ensures) in
    rw c.in_ok-push.ensures.items
    (run_step statement joins_stmts (many (form a_stmt) ∷ []) StmtsRead c.args.tokens.now c.args.at c.stmts.place c.in_ok-next.end
    c.stmts.found.items c.in_ok-next.next c.stmts.invariant (omega (arith, c.in_ok-next.ensures.ahead)) c.in_ok-next.ensures.ended.within
    (λ ds rest x. grammar.stmt_more c.in_ok-next.ensures.tree x)
    (λ end x. many_ended joins_stmt joins_stmts (form a_stmt) c.args.tokens.now c.stmts.place c.in_ok-next.end end refl s.0
    c.in_ok-next.ensures.ahead c.in_ok-next.ensures.ended x)
    (λ n x. many_stopped joins_stmt joins_stmts (form a_stmt) c.args.tokens.now c.stmts.place c.in_ok-next.end n refl s.0
    c.in_ok-next.ensures.ahead c.in_ok-next.ensures.ended x))

pub stmts-returns-then-not-starts_statement-clause-tree : goal.stmts-returns-then-not-starts_statement-clause-tree
stmts-returns-then-not-starts_statement-clause-tree t c =
    run_read joins_stmts (many (form a_stmt) ∷ []) StmtsRead c.args.tokens.now c.args.at c.stmts.place (map statement c.stmts.found.items)
    c.stmts.invariant grammar.no_stmt

pub stmts-returns-then-not-starts_statement-clause-ended : goal.stmts-returns-then-not-starts_statement-clause-ended
stmts-returns-then-not-starts_statement-clause-ended t c =
    c.stmts.invariant.ended c.stmts.place
    (one_ended
    (here_ended joins_stmts ((many (form a_stmt) ∷ []) ∷ []) c.args.tokens.now c.stmts.place c.stmts.invariant.within
    (begin.stmts_end (first (drop c.stmts.place c.args.tokens.now)) (ap starts (sym c.lexeme_at.ensures) ∙ sym c.if-not-starts_statement.ensures))))

pub while_loop-returns-in_err-test-clause-stopped : goal.while_loop-returns-in_err-test-clause-stopped
while_loop-returns-in_err-test-clause-stopped t c =
    stops_by _ _ c.from_residual.ensures.1
    (λ n h. begin_stopped joins_stmt (form a_stmt ∷ []) (lexeme Open ∷ expr ∷ lexeme Close ∷ form a_body ∷ []) c.args.tokens.now c.args.at n While
    refl refl refl c.requires.begun
    (stopped_before [] joins_stmt (lexeme Open ∷ expr ∷ lexeme Close ∷ []) (form a_body ∷ []) c.args.tokens.now (c.args.at + 1) n refl h))
    c.in_err-test.ensures.stopped

pub while_loop-returns-in_err-found-clause-stopped : goal.while_loop-returns-in_err-found-clause-stopped
while_loop-returns-in_err-found-clause-stopped t c =
    stops_by _ _ c.from_residual-in_err-found.ensures.1
    (λ n h. begin_stopped joins_stmt (form a_stmt ∷ []) (lexeme Open ∷ expr ∷ lexeme Close ∷ form a_body ∷ []) c.args.tokens.now c.args.at n While
    refl refl refl c.requires.begun
    (stopped_then [] joins_stmt (lexeme Open ∷ expr ∷ lexeme Close ∷ []) (form a_body ∷ []) c.args.tokens.now (c.args.at + 1) c.in_ok-test.mid n
    refl c.in_ok-test.ensures.ended (stopped_weaker [] joins_stmt (form a_body ∷ []) c.args.tokens.now c.in_ok-test.mid n refl h)))
    c.in_err-found.ensures.stopped

pub while_loop-returns-clause-ended : goal.while_loop-returns-clause-ended
while_loop-returns-clause-ended t c =
    begin_ended joins_stmt (form a_stmt ∷ []) (lexeme Open ∷ expr ∷ lexeme Close ∷ form a_body ∷ []) c.args.tokens.now c.args.at c.in_ok-found.end
    While refl refl refl c.requires.begun
    (ended_then [] joins_stmt (lexeme Open ∷ expr ∷ lexeme Close ∷ []) (form a_body ∷ []) c.args.tokens.now (c.args.at + 1) c.in_ok-test.mid
    c.in_ok-found.end refl c.in_ok-test.ensures.ended
    (ended_weaker [] joins_stmt (form a_body ∷ []) c.args.tokens.now c.in_ok-test.mid c.in_ok-found.end refl c.in_ok-found.ensures.ended))

pub while_loop-returns-clause-tree : goal.while_loop-returns-clause-tree
while_loop-returns-clause-tree t c =
    rw (statement-While _ _ _, c.line_at.ensures, c.of.ensures)
    (grammar.whiling c.requires.begun
    (at_next (λ ts. Bracketed ts (expression c.in_ok-test.test) (drop c.in_ok-test.mid c.args.tokens.now)) c.args.tokens.now c.args.at
    c.in_ok-test.ensures.tree)
    c.in_ok-found.ensures.tree)

pub for_loop-returns-in_err-head-clause-stopped : goal.for_loop-returns-in_err-head-clause-stopped
for_loop-returns-in_err-head-clause-stopped t c =
    stops_by _ _ c.from_residual.ensures.1
    (λ n h. begin_stopped joins_stmt (form a_stmt ∷ [])
    (lexeme Open ∷ maybe (either (form an_assign) (form a_decl)) ∷ lexeme Semicolon ∷ maybe expr ∷ lexeme Semicolon ∷ maybe (form an_assign) ∷
    lexeme Close ∷ form a_body ∷ [])
    c.args.tokens.now c.args.at n For refl refl refl c.requires.begun
    (stopped_before [] joins_stmt
    (lexeme Open ∷ maybe (either (form an_assign) (form a_decl)) ∷ lexeme Semicolon ∷ maybe expr ∷ lexeme Semicolon ∷ maybe (form an_assign) ∷
    lexeme Close ∷ [])
    (form a_body ∷ []) c.args.tokens.now (c.args.at + 1) n refl h))
    c.in_err-head.ensures.stopped

pub for_loop-returns-in_err-found-clause-stopped : goal.for_loop-returns-in_err-found-clause-stopped
for_loop-returns-in_err-found-clause-stopped t c =
    stops_by _ _ c.from_residual-in_err-found.ensures.1
    (λ n h. begin_stopped joins_stmt (form a_stmt ∷ [])
    (lexeme Open ∷ maybe (either (form an_assign) (form a_decl)) ∷ lexeme Semicolon ∷ maybe expr ∷ lexeme Semicolon ∷ maybe (form an_assign) ∷
    lexeme Close ∷ form a_body ∷ [])
    c.args.tokens.now c.args.at n For refl refl refl c.requires.begun
    (stopped_then [] joins_stmt
    (lexeme Open ∷ maybe (either (form an_assign) (form a_decl)) ∷ lexeme Semicolon ∷ maybe expr ∷ lexeme Semicolon ∷ maybe (form an_assign) ∷
    lexeme Close ∷ [])
    (form a_body ∷ []) c.args.tokens.now (c.args.at + 1) c.in_ok-head.mid n refl c.in_ok-head.ensures.ended
    (stopped_weaker [] joins_stmt (form a_body ∷ []) c.args.tokens.now c.in_ok-head.mid n refl h)))
    c.in_err-found.ensures.stopped

pub for_loop-returns-clause-ended : goal.for_loop-returns-clause-ended
for_loop-returns-clause-ended t c =
    begin_ended joins_stmt (form a_stmt ∷ [])
    (lexeme Open ∷ maybe (either (form an_assign) (form a_decl)) ∷ lexeme Semicolon ∷ maybe expr ∷ lexeme Semicolon ∷ maybe (form an_assign) ∷ lexeme
    Close ∷ form a_body ∷ [])
    c.args.tokens.now c.args.at c.in_ok-found.end For refl refl refl c.requires.begun
    (ended_then [] joins_stmt
    (lexeme Open ∷ maybe (either (form an_assign) (form a_decl)) ∷ lexeme Semicolon ∷ maybe expr ∷ lexeme Semicolon ∷ maybe (form an_assign) ∷
    lexeme Close ∷ [])
    (form a_body ∷ []) c.args.tokens.now (c.args.at + 1) c.in_ok-head.mid c.in_ok-found.end refl c.in_ok-head.ensures.ended
    (ended_weaker [] joins_stmt (form a_body ∷ []) c.args.tokens.now c.in_ok-head.mid c.in_ok-found.end refl c.in_ok-found.ensures.ended))

pub for_loop-returns-clause-tree : goal.for_loop-returns-clause-tree
for_loop-returns-clause-tree t c =
    rw (statement-For _ _ _, c.line_at.ensures, c.of.ensures)
    (grammar.repeating c.requires.begun
    (at_next
    (λ ts. grammar.Heading ts (statements c.in_ok-head.head.first) (option_map expression c.in_ok-head.head.test)
    (option_map assigned c.in_ok-head.head.step) (drop c.in_ok-head.mid c.args.tokens.now))
    c.args.tokens.now c.args.at c.in_ok-head.ensures.tree)
    c.in_ok-found.ensures.tree)

pub do_loop-returns-in_err-found-clause-stopped : goal.do_loop-returns-in_err-found-clause-stopped
do_loop-returns-in_err-found-clause-stopped t c =
    stops_by _ _ c.from_residual.ensures.1
    (λ n h. begin_stopped joins_stmt (form a_stmt ∷ []) (form a_body ∷ lexeme While ∷ lexeme Open ∷ expr ∷ lexeme Close ∷ lexeme Semicolon ∷ [])
    c.args.tokens.now c.args.at n Do refl refl refl c.requires.begun
    (stopped_before [] joins_stmt (form a_body ∷ []) (lexeme While ∷ lexeme Open ∷ expr ∷ lexeme Close ∷ lexeme Semicolon ∷ []) c.args.tokens.now
    (c.args.at + 1) n refl h))
    c.in_err-found.ensures.stopped

pub do_loop-returns-in_err-open-clause-stopped : goal.do_loop-returns-in_err-open-clause-stopped
do_loop-returns-in_err-open-clause-stopped t c =
    stops_by _ _ c.from_residual-in_err-open.ensures.1
    (λ n h. begin_stopped joins_stmt (form a_stmt ∷ []) (form a_body ∷ lexeme While ∷ lexeme Open ∷ expr ∷ lexeme Close ∷ lexeme Semicolon ∷ [])
    c.args.tokens.now c.args.at n Do refl refl refl c.requires.begun
    (stopped_then [] joins_stmt (form a_body ∷ []) (lexeme While ∷ lexeme Open ∷ expr ∷ lexeme Close ∷ lexeme Semicolon ∷ []) c.args.tokens.now
    (c.args.at + 1) c.in_ok-found.mid n refl c.in_ok-found.ensures.ended
    (stopped_before [] joins_stmt (lexeme While ∷ []) (lexeme Open ∷ expr ∷ lexeme Close ∷ lexeme Semicolon ∷ []) c.args.tokens.now
    c.in_ok-found.mid n refl h)))
    c.in_err-open.ensures.stopped

pub do_loop-returns-in_err-test-clause-stopped : goal.do_loop-returns-in_err-test-clause-stopped
do_loop-returns-in_err-test-clause-stopped t c =
    stops_by _ _ c.from_residual-in_err-test.ensures.1
    (λ n h. begin_stopped joins_stmt (form a_stmt ∷ []) (form a_body ∷ lexeme While ∷ lexeme Open ∷ expr ∷ lexeme Close ∷ lexeme Semicolon ∷ [])
    c.args.tokens.now c.args.at n Do refl refl refl c.requires.begun
    (stopped_then [] joins_stmt (form a_body ∷ []) (lexeme While ∷ lexeme Open ∷ expr ∷ lexeme Close ∷ lexeme Semicolon ∷ []) c.args.tokens.now
    (c.args.at + 1) c.in_ok-found.mid n refl c.in_ok-found.ensures.ended
    (stopped_then [] joins_stmt (lexeme While ∷ []) (lexeme Open ∷ expr ∷ lexeme Close ∷ lexeme Semicolon ∷ []) c.args.tokens.now
    c.in_ok-found.mid c.in_ok-open.open n refl c.in_ok-open.ensures.ended
    (stopped_before [] joins_stmt (lexeme Open ∷ expr ∷ lexeme Close ∷ []) (lexeme Semicolon ∷ []) c.args.tokens.now c.in_ok-open.open n refl h))))
    c.in_err-test.ensures.stopped

pub do_loop-returns-in_err-end-clause-stopped : goal.do_loop-returns-in_err-end-clause-stopped
do_loop-returns-in_err-end-clause-stopped t c =
    stops_by _ _ c.from_residual-in_err-end.ensures.1
    (λ n h. begin_stopped joins_stmt (form a_stmt ∷ []) (form a_body ∷ lexeme While ∷ lexeme Open ∷ expr ∷ lexeme Close ∷ lexeme Semicolon ∷ [])
    c.args.tokens.now c.args.at n Do refl refl refl c.requires.begun
    (stopped_then [] joins_stmt (form a_body ∷ []) (lexeme While ∷ lexeme Open ∷ expr ∷ lexeme Close ∷ lexeme Semicolon ∷ []) c.args.tokens.now
    (c.args.at + 1) c.in_ok-found.mid n refl c.in_ok-found.ensures.ended
    (stopped_then [] joins_stmt (lexeme While ∷ []) (lexeme Open ∷ expr ∷ lexeme Close ∷ lexeme Semicolon ∷ []) c.args.tokens.now
    c.in_ok-found.mid c.in_ok-open.open n refl c.in_ok-open.ensures.ended
    (stopped_then [] joins_stmt (lexeme Open ∷ expr ∷ lexeme Close ∷ []) (lexeme Semicolon ∷ []) c.args.tokens.now c.in_ok-open.open
    c.in_ok-test.place n refl c.in_ok-test.ensures.ended
    (stopped_weaker [] joins_stmt (lexeme Semicolon ∷ []) c.args.tokens.now c.in_ok-test.place n refl h)))))
    c.in_err-end.ensures.stopped

pub do_loop-returns-clause-ended : goal.do_loop-returns-clause-ended
do_loop-returns-clause-ended t c =
    begin_ended joins_stmt (form a_stmt ∷ []) (form a_body ∷ lexeme While ∷ lexeme Open ∷ expr ∷ lexeme Close ∷ lexeme Semicolon ∷ [])
    c.args.tokens.now c.args.at c.in_ok-end.end Do refl refl refl c.requires.begun
    (ended_then [] joins_stmt (form a_body ∷ []) (lexeme While ∷ lexeme Open ∷ expr ∷ lexeme Close ∷ lexeme Semicolon ∷ []) c.args.tokens.now
    (c.args.at + 1) c.in_ok-found.mid c.in_ok-end.end refl c.in_ok-found.ensures.ended
    (ended_then [] joins_stmt (lexeme While ∷ []) (lexeme Open ∷ expr ∷ lexeme Close ∷ lexeme Semicolon ∷ []) c.args.tokens.now c.in_ok-found.mid
    c.in_ok-open.open c.in_ok-end.end refl c.in_ok-open.ensures.ended
    (ended_then [] joins_stmt (lexeme Open ∷ expr ∷ lexeme Close ∷ []) (lexeme Semicolon ∷ []) c.args.tokens.now c.in_ok-open.open
    c.in_ok-test.place c.in_ok-end.end refl c.in_ok-test.ensures.ended
    (ended_weaker [] joins_stmt (lexeme Semicolon ∷ []) c.args.tokens.now c.in_ok-test.place c.in_ok-end.end refl c.in_ok-end.ensures.ended))))

pub do_loop-returns-clause-tree : goal.do_loop-returns-clause-tree
do_loop-returns-clause-tree t c =
    rw (statement-Do _ _ _, c.line_at.ensures, c.of.ensures)
    (end_of (grammar.Stmt (drop c.args.at c.args.tokens.now) _) c.args.tokens.now c.in_ok-test.place c.in_ok-end.end c.in_ok-end.ensures.next
    (grammar.doing c.requires.begun
    (at_next (λ ts. grammar.Body ts (statements c.in_ok-found.found.items) (drop c.in_ok-found.mid c.args.tokens.now)) c.args.tokens.now c.args.at
    c.in_ok-found.ensures.tree)
    c.in_ok-open.ensures.found
    (next_of (λ ts. Bracketed ts (expression c.in_ok-test.test) (drop c.in_ok-test.place c.args.tokens.now)) c.args.tokens.now c.in_ok-found.mid
    c.in_ok-open.open c.in_ok-open.ensures.next c.in_ok-test.ensures.tree)
    c.in_ok-end.ensures.found))

pub message_loop-returns-in_err-found-clause-stopped : goal.message_loop-returns-in_err-found-clause-stopped
message_loop-returns-in_err-found-clause-stopped t c =
    stops_by _ _ c.from_residual-in_err-found.ensures.1
    (λ n h. begin_stopped joins_stmt (form a_stmt ∷ []) (many (form a_stmt) ∷ lexeme Finish ∷ []) c.args.tokens.now c.args.at n Start refl refl refl
    c.requires.begun
    (stopped_before joins_stmts joins_stmt (many (form a_stmt) ∷ []) (lexeme Finish ∷ []) c.args.tokens.now (c.args.at + 1) n refl h))
    c.in_err-found.ensures.stopped

pub message_loop-returns-in_err-end-clause-stopped : goal.message_loop-returns-in_err-end-clause-stopped
message_loop-returns-in_err-end-clause-stopped t c =
    stops_by _ _ c.from_residual-in_err-end.ensures.1
    (λ n h. begin_stopped joins_stmt (form a_stmt ∷ []) (many (form a_stmt) ∷ lexeme Finish ∷ []) c.args.tokens.now c.args.at n Start refl refl refl
    c.requires.begun
    (stopped_then joins_stmts joins_stmt (many (form a_stmt) ∷ []) (lexeme Finish ∷ []) c.args.tokens.now (c.args.at + 1) c.in_ok-found.finish n
    refl c.in_ok-found.ensures.ended (stopped_weaker [] joins_stmt (lexeme Finish ∷ []) c.args.tokens.now c.in_ok-found.finish n refl h)))
    c.in_err-end.ensures.stopped

pub message_loop-returns-clause-ended : goal.message_loop-returns-clause-ended
message_loop-returns-clause-ended t c =
    begin_ended joins_stmt (form a_stmt ∷ []) (many (form a_stmt) ∷ lexeme Finish ∷ []) c.args.tokens.now c.args.at c.in_ok-end.end Start refl refl
    refl c.requires.begun
    (ended_then joins_stmts joins_stmt (many (form a_stmt) ∷ []) (lexeme Finish ∷ []) c.args.tokens.now (c.args.at + 1) c.in_ok-found.finish
    c.in_ok-end.end refl c.in_ok-found.ensures.ended
    (ended_weaker [] joins_stmt (lexeme Finish ∷ []) c.args.tokens.now c.in_ok-found.finish c.in_ok-end.end refl c.in_ok-end.ensures.ended))

pub message_loop-returns-clause-tree : goal.message_loop-returns-clause-tree
message_loop-returns-clause-tree t c =
    rw (statement-Loop _ _ _ _ _, c.in_ok-name.ensures, c.in_ok-end_name.ensures, c.line_at-line.ensures, c.line_at-end_line.ensures, c.of.ensures)
    (end_of (grammar.Stmt (drop c.args.at c.args.tokens.now) _) c.args.tokens.now c.in_ok-found.finish c.in_ok-end.end c.in_ok-end.ensures.next
    (grammar.looping c.requires.begun
    (at_next (λ ts. grammar.Stmts ts (statements c.in_ok-found.found.items) (drop c.in_ok-found.finish c.args.tokens.now)) c.args.tokens.now
    c.args.at c.in_ok-found.ensures.tree)
    c.in_ok-end.ensures.found))

pub branch-returns-in_err-test-clause-stopped : goal.branch-returns-in_err-test-clause-stopped
branch-returns-in_err-test-clause-stopped t c =
    stops_by _ _ c.from_residual.ensures.1
    (λ n h. begin_stopped joins_stmt (form a_stmt ∷ []) (lexeme Open ∷ expr ∷ lexeme Close ∷ form a_body ∷ else_ifs ∷ else_body ∷ [])
    c.args.tokens.now c.args.at n If refl refl refl c.requires.begun
    (stopped_before [] joins_stmt (lexeme Open ∷ expr ∷ lexeme Close ∷ []) (form a_body ∷ else_ifs ∷ else_body ∷ []) c.args.tokens.now
    (c.args.at + 1) n refl h))
    c.in_err-test.ensures.stopped

pub branch-returns-in_err-first-clause-stopped : goal.branch-returns-in_err-first-clause-stopped
branch-returns-in_err-first-clause-stopped t c =
    stops_by _ _ c.from_residual-in_err-first.ensures.1
    (λ n h. begin_stopped joins_stmt (form a_stmt ∷ []) (lexeme Open ∷ expr ∷ lexeme Close ∷ form a_body ∷ else_ifs ∷ else_body ∷ [])
    c.args.tokens.now c.args.at n If refl refl refl c.requires.begun
    (stopped_then [] joins_stmt (lexeme Open ∷ expr ∷ lexeme Close ∷ []) (form a_body ∷ else_ifs ∷ else_body ∷ []) c.args.tokens.now (c.args.at + 1)
    c.in_ok-test.mid n refl c.in_ok-test.ensures.ended
    (stopped_before [] joins_stmt (form a_body ∷ []) (else_ifs ∷ else_body ∷ []) c.args.tokens.now c.in_ok-test.mid n refl h)))
    c.in_err-first.ensures.stopped

pub branch-returns-in_err-arms-clause-stopped : goal.branch-returns-in_err-arms-clause-stopped
branch-returns-in_err-arms-clause-stopped t c =
    stops_by _ _ c.from_residual-in_err-arms.ensures.1
    (λ n h. begin_stopped joins_stmt (form a_stmt ∷ []) (lexeme Open ∷ expr ∷ lexeme Close ∷ form a_body ∷ else_ifs ∷ else_body ∷ [])
    c.args.tokens.now c.args.at n If refl refl refl c.requires.begun
    (stopped_then [] joins_stmt (lexeme Open ∷ expr ∷ lexeme Close ∷ []) (form a_body ∷ else_ifs ∷ else_body ∷ []) c.args.tokens.now (c.args.at + 1)
    c.in_ok-test.mid n refl c.in_ok-test.ensures.ended
    (stopped_then [] joins_stmt (form a_body ∷ []) (else_ifs ∷ else_body ∷ []) c.args.tokens.now c.in_ok-test.mid c.in_ok-first.place n refl
    c.in_ok-first.ensures.ended h)))
    c.in_err-arms.ensures.stopped

pub branch-returns-clause-ended : goal.branch-returns-clause-ended
branch-returns-clause-ended t c =
    begin_ended joins_stmt (form a_stmt ∷ []) (lexeme Open ∷ expr ∷ lexeme Close ∷ form a_body ∷ else_ifs ∷ else_body ∷ []) c.args.tokens.now
    c.args.at c.in_ok-arms.end If refl refl refl c.requires.begun
    (ended_then [] joins_stmt (lexeme Open ∷ expr ∷ lexeme Close ∷ []) (form a_body ∷ else_ifs ∷ else_body ∷ []) c.args.tokens.now (c.args.at + 1)
    c.in_ok-test.mid c.in_ok-arms.end refl c.in_ok-test.ensures.ended
    (ended_then [] joins_stmt (form a_body ∷ []) (else_ifs ∷ else_body ∷ []) c.args.tokens.now c.in_ok-test.mid c.in_ok-first.place c.in_ok-arms.end
    refl c.in_ok-first.ensures.ended c.in_ok-arms.ensures.ended))

pub branch-returns-clause-tree : goal.branch-returns-clause-tree
branch-returns-clause-tree t c =
    rw (statement-If _ _, c.of.ensures, c.of-2.ensures, c.in_ok-insert.ensures.items, c.of-body.ensures)
    (grammar.branching c.requires.begun
    (at_next (λ ts. Bracketed ts (expression c.in_ok-test.test) (drop c.in_ok-test.mid c.args.tokens.now)) c.args.tokens.now c.args.at
    c.in_ok-test.ensures.tree)
    c.in_ok-first.ensures.tree c.in_ok-arms.ensures.tree)

pub elses-returns-in_err-test-clause-stopped : goal.elses-returns-in_err-test-clause-stopped
elses-returns-in_err-test-clause-stopped t c =
    stops_by _ _ c.from_residual-in_err-test.ensures.1
    (λ n h. c.elses.invariant.stopped n
    (one_stopped
    (enter_stopped joins_stmt ((else_ifs ∷ else_body ∷ []) ∷ []) c.args.tokens.now c.elses.place n Else refl refl (sym c.in-Else.ensures)
    (enter_stopped joins_stmt
    ((lexeme If ∷ lexeme Open ∷ expr ∷ lexeme Close ∷ form a_body ∷ else_ifs ∷ else_body ∷ []) ∷ (form a_body ∷ []) ∷ []) c.args.tokens.now
    (c.elses.place + 1) n If refl refl (sym c.in-If.ensures)
    (any_stopped
    (stopped_before [] joins_stmt (lexeme Open ∷ expr ∷ lexeme Close ∷ []) (form a_body ∷ else_ifs ∷ else_body ∷ []) c.args.tokens.now
    (c.elses.place + 1 + 1) n refl h))))))
    c.in_err-test.ensures.stopped

pub elses-returns-in_err-inside-clause-stopped : goal.elses-returns-in_err-inside-clause-stopped
elses-returns-in_err-inside-clause-stopped t c =
    stops_by _ _ c.from_residual-in_err-inside.ensures.1
    (λ n h. c.elses.invariant.stopped n
    (one_stopped
    (enter_stopped joins_stmt ((else_ifs ∷ else_body ∷ []) ∷ []) c.args.tokens.now c.elses.place n Else refl refl (sym c.in-Else.ensures)
    (enter_stopped joins_stmt
    ((lexeme If ∷ lexeme Open ∷ expr ∷ lexeme Close ∷ form a_body ∷ else_ifs ∷ else_body ∷ []) ∷ (form a_body ∷ []) ∷ []) c.args.tokens.now
    (c.elses.place + 1) n If refl refl (sym c.in-If.ensures)
    (any_stopped
    (stopped_then [] joins_stmt (lexeme Open ∷ expr ∷ lexeme Close ∷ []) (form a_body ∷ else_ifs ∷ else_body ∷ []) c.args.tokens.now
    (c.elses.place + 1 + 1) c.in_ok-test.mid n refl c.in_ok-test.ensures.ended
    (stopped_before [] joins_stmt (form a_body ∷ []) (else_ifs ∷ else_body ∷ []) c.args.tokens.now c.in_ok-test.mid n refl h)))))))
    c.in_err-inside.ensures.stopped

pub elses-returns-in_err-last : goal.elses-returns-in_err-last
elses-returns-in_err-last t c =
    let p = err_from_is_err_and c.from_residual.result c.from_residual.ensures.1 in
    record {
      tree = rw p.1 tt;
      ended = rw p.1 tt;
      stopped = stops_by _ _ c.from_residual.ensures.1
          (λ n h. c.elses.invariant.stopped n
          (one_stopped
          (enter_stopped joins_stmt ((else_ifs ∷ else_body ∷ []) ∷ []) c.args.tokens.now c.elses.place n Else refl refl (sym c.in-Else.ensures)
          (alike_stopped joins_stmt ((form a_body ∷ []) ∷ [])
          ((lexeme If ∷ lexeme Open ∷ expr ∷ lexeme Close ∷ form a_body ∷ else_ifs ∷ else_body ∷ []) ∷ (form a_body ∷ []) ∷ [])
          c.args.tokens.now (c.elses.place + 1) n (omega arith) (omega arith)
          (begin.else_alike (first (drop (c.elses.place + 1) c.args.tokens.now))
          (unlike c.lexeme_at-in-elses.ensures c.in_default-lexeme_at.not-If))
          (any_stopped (stopped_weaker [] joins_stmt (form a_body ∷ []) c.args.tokens.now (c.elses.place + 1) n refl h))))))
          c.in_err-last.ensures.stopped;
    }

pub elses-elses-init : goal.elses-elses-init
elses-elses-init t c = rw c.new-found.ensures.items (arms_begin c.args.tokens.now c.args.at c.requires.within)

pub elses-elses-preserved : goal.elses-elses-preserved
elses-elses-preserved t c =
    rw (c.in_ok-push.ensures.items, c.of-body.ensures)
    (arms_step c.args.tokens.now c.args.at c.elses.place c.in_ok-inside.end c.elses.found.items _ c.elses.invariant
    (omega (arith, c.in_ok-test.ensures.ahead, c.in_ok-inside.ensures.ahead)) c.in_ok-inside.ensures.ended.within
    (λ ds os rest x. grammar.else_if (sym c.in-Else.ensures) (ap first (behind-drop c.args.tokens.now c.elses.place) ∙ (sym c.in-If.ensures))
    (subst (λ ts. Bracketed ts (expression c.in_ok-test.test) (drop c.in_ok-test.mid c.args.tokens.now))
    (sym (two_behind c.args.tokens.now c.elses.place)) c.in_ok-test.ensures.tree)
    c.in_ok-inside.ensures.tree x)
    (λ end x.
    (one_ended
    (enter_ended joins_stmt ((else_ifs ∷ else_body ∷ []) ∷ []) c.args.tokens.now c.elses.place end Else refl refl (sym c.in-Else.ensures)
    (enter_ended joins_stmt
    ((lexeme If ∷ lexeme Open ∷ expr ∷ lexeme Close ∷ form a_body ∷ else_ifs ∷ else_body ∷ []) ∷ (form a_body ∷ []) ∷ []) c.args.tokens.now
    (c.elses.place + 1) end If refl refl (sym c.in-If.ensures)
    (any_ended
    (ended_then [] joins_stmt (lexeme Open ∷ expr ∷ lexeme Close ∷ []) (form a_body ∷ else_ifs ∷ else_body ∷ []) c.args.tokens.now
    (c.elses.place + 1 + 1) c.in_ok-test.mid end refl c.in_ok-test.ensures.ended
    (ended_then [] joins_stmt (form a_body ∷ []) (else_ifs ∷ else_body ∷ []) c.args.tokens.now c.in_ok-test.mid c.in_ok-inside.end end
    refl c.in_ok-inside.ensures.ended x)))))))
    (λ n x.
    (one_stopped
    (enter_stopped joins_stmt ((else_ifs ∷ else_body ∷ []) ∷ []) c.args.tokens.now c.elses.place n Else refl refl (sym c.in-Else.ensures)
    (enter_stopped joins_stmt
    ((lexeme If ∷ lexeme Open ∷ expr ∷ lexeme Close ∷ form a_body ∷ else_ifs ∷ else_body ∷ []) ∷ (form a_body ∷ []) ∷ []) c.args.tokens.now
    (c.elses.place + 1) n If refl refl (sym c.in-If.ensures)
    (any_stopped
    (stopped_then [] joins_stmt (lexeme Open ∷ expr ∷ lexeme Close ∷ []) (form a_body ∷ else_ifs ∷ else_body ∷ []) c.args.tokens.now
    (c.elses.place + 1 + 1) c.in_ok-test.mid n refl c.in_ok-test.ensures.ended
    (stopped_then [] joins_stmt (form a_body ∷ []) (else_ifs ∷ else_body ∷ []) c.args.tokens.now c.in_ok-test.mid c.in_ok-inside.end n
    refl c.in_ok-inside.ensures.ended x))))))))

pub elses-returns-in_default : goal.elses-returns-in_default
elses-returns-in_default t c = record {
  tree = rw c.new.ensures.items (arms_read c.args.tokens.now c.args.at c.elses.place c.elses.found.items c.elses.invariant);
  ended = c.elses.invariant.ended c.elses.place
      (one_ended
      (here_ended joins_stmt ((else_ifs ∷ else_body ∷ []) ∷ []) c.args.tokens.now c.elses.place c.elses.invariant.within
      (begin.elses_end (first (drop c.elses.place c.args.tokens.now)) (unlike c.lexeme_at.ensures c.in_default.not-Else))));
  stopped = tt;
}

pub elses-returns-in_default-lexeme_at : goal.elses-returns-in_default-lexeme_at
elses-returns-in_default-lexeme_at t c = record {
  tree = arms_with c.args.tokens.now c.args.at c.elses.place c.elses.found.items (statements c.in_ok-last.last.items)
      (drop c.in_ok-last.end c.args.tokens.now) c.elses.invariant
      (grammar.an_else (sym c.in-Else.ensures)
      (at_next (λ ts. grammar.Body ts (statements c.in_ok-last.last.items) (drop c.in_ok-last.end c.args.tokens.now)) c.args.tokens.now c.elses.place
      c.in_ok-last.ensures.tree));
  ended = c.elses.invariant.ended c.in_ok-last.end
      (one_ended
      (enter_ended joins_stmt ((else_ifs ∷ else_body ∷ []) ∷ []) c.args.tokens.now c.elses.place c.in_ok-last.end Else refl refl
      (sym c.in-Else.ensures)
      (alike_ended joins_stmt ((form a_body ∷ []) ∷ [])
      ((lexeme If ∷ lexeme Open ∷ expr ∷ lexeme Close ∷ form a_body ∷ else_ifs ∷ else_body ∷ []) ∷ (form a_body ∷ []) ∷ []) c.args.tokens.now
      (c.elses.place + 1) c.in_ok-last.end (omega arith) (omega arith)
      (begin.else_alike (first (drop (c.elses.place + 1) c.args.tokens.now)) (unlike c.lexeme_at-in-elses.ensures c.in_default-lexeme_at.not-If))
      (any_ended
      (ended_weaker [] joins_stmt (form a_body ∷ []) c.args.tokens.now (c.elses.place + 1) c.in_ok-last.end refl c.in_ok-last.ensures.ended)))));
  stopped = tt;
}

pub body-returns-in_err-found-in-OpenBrace-clause-stopped : goal.body-returns-in_err-found-in-OpenBrace-clause-stopped
body-returns-in_err-found-in-OpenBrace-clause-stopped t c =
    stops_by _ _ c.from_residual.ensures.1 (λ n h. brace_body_stopped c.args.tokens.now c.args.at n (sym c.in-OpenBrace.ensures) h)
    c.in_err-found-in-OpenBrace.ensures.stopped

pub body-returns-in_ok-found-in-OpenBrace-clause-ended : goal.body-returns-in_ok-found-in-OpenBrace-clause-ended
body-returns-in_ok-found-in-OpenBrace-clause-ended t c =
    brace_body_ended c.args.tokens.now c.args.at c.in_ok-found-in-OpenBrace.end (sym c.in-OpenBrace.ensures) c.in_ok-found-in-OpenBrace.ensures.ended

pub body-returns-in_ok-found-in-OpenBrace-clause-tree : goal.body-returns-in_ok-found-in-OpenBrace-clause-tree
body-returns-in_ok-found-in-OpenBrace-clause-tree t c = grammar.in_braces c.in_ok-found-in-OpenBrace.ensures.tree

pub body-returns-in_err-form-in_default : goal.body-returns-in_err-form-in_default
body-returns-in_err-form-in_default t c =
    let p = err_from_is_err_and c.from_residual-in_err-form-in_default.result c.from_residual-in_err-form-in_default.ensures.1 in
    record {
      tree = rw p.1 tt;
      ended = rw p.1 tt;
      ahead = rw p.1 tt;
      stopped = stops_by _ _ c.from_residual-in_err-form-in_default.ensures.1
          (λ n h. one_stopped
          (alike_stopped [] ((form a_simple ∷ []) ∷ []) ((form a_body ∷ []) ∷ []) c.args.tokens.now c.args.at n (omega arith) (omega arith)
          (begin.body_alike (first (drop c.args.at c.args.tokens.now)) (unlike c.lexeme_at.ensures c.in_default.not-OpenBrace)) (any_stopped h)))
          c.in_err-form-in_default.ensures.stopped;
    }

pub body-returns-in_ok-one-in_default : goal.body-returns-in_ok-one-in_default
body-returns-in_ok-one-in_default t c = record {
  tree = rw c.in_ok-one-in_default.ensures (grammar.one_simple c.in_ok-form-in_default.ensures.tree);
  ended = one_ended
      (alike_ended [] ((form a_simple ∷ []) ∷ []) ((form a_body ∷ []) ∷ []) c.args.tokens.now c.args.at c.in_ok-form-in_default.end (omega arith)
      (omega arith) (begin.body_alike (first (drop c.args.at c.args.tokens.now)) (unlike c.lexeme_at.ensures c.in_default.not-OpenBrace))
      (any_ended c.in_ok-form-in_default.ensures.ended));
  ahead = c.in_ok-form-in_default.ensures.ahead;
  stopped = tt;
}

pub stmt-returns-in_err-items-in-Int-clause-stopped : goal.stmt-returns-in_err-items-in-Int-clause-stopped
stmt-returns-in_err-items-in-Int-clause-stopped t c =
    stops_by _ _ c.from_residual.ensures.1
    (λ n h. begin_stopped joins_stmt (form a_stmt ∷ []) (form an_item ∷ more_items ∷ lexeme Semicolon ∷ []) c.args.tokens.now c.args.at n Int refl
    refl refl (sym c.in-Int.ensures)
    (stopped_before joins_items joins_stmt (form an_item ∷ more_items ∷ []) (lexeme Semicolon ∷ []) c.args.tokens.now (c.args.at + 1) n refl h))
    c.in_err-items-in-Int.ensures.stopped

pub stmt-returns-in_err-end-in-Int-clause-stopped : goal.stmt-returns-in_err-end-in-Int-clause-stopped
stmt-returns-in_err-end-in-Int-clause-stopped t c =
    stops_by _ _ c.from_residual-in_err-end-in-Int.ensures.1
    (λ n h. begin_stopped joins_stmt (form a_stmt ∷ []) (form an_item ∷ more_items ∷ lexeme Semicolon ∷ []) c.args.tokens.now c.args.at n Int refl
    refl refl (sym c.in-Int.ensures)
    (stopped_then joins_items joins_stmt (form an_item ∷ more_items ∷ []) (lexeme Semicolon ∷ []) c.args.tokens.now (c.args.at + 1)
    c.in_ok-items-in-Int.mid n refl c.in_ok-items-in-Int.ensures.ended
    (stopped_weaker [] joins_stmt (lexeme Semicolon ∷ []) c.args.tokens.now c.in_ok-items-in-Int.mid n refl h)))
    c.in_err-end-in-Int.ensures.stopped

pub stmt-returns-in_ok-end-in-Int-clause-ended : goal.stmt-returns-in_ok-end-in-Int-clause-ended
stmt-returns-in_ok-end-in-Int-clause-ended t c =
    begin_ended joins_stmt (form a_stmt ∷ []) (form an_item ∷ more_items ∷ lexeme Semicolon ∷ []) c.args.tokens.now c.args.at c.in_ok-end-in-Int.end
    Int refl refl refl (sym c.in-Int.ensures)
    (ended_then joins_items joins_stmt (form an_item ∷ more_items ∷ []) (lexeme Semicolon ∷ []) c.args.tokens.now (c.args.at + 1)
    c.in_ok-items-in-Int.mid c.in_ok-end-in-Int.end refl c.in_ok-items-in-Int.ensures.ended
    (ended_weaker [] joins_stmt (lexeme Semicolon ∷ []) c.args.tokens.now c.in_ok-items-in-Int.mid c.in_ok-end-in-Int.end refl
    c.in_ok-end-in-Int.ensures.ended))

pub stmt-returns-in_ok-end-in-Int-clause-tree : goal.stmt-returns-in_ok-end-in-Int-clause-tree
stmt-returns-in_ok-end-in-Int-clause-tree t c =
    rw (statement-Declare _, c.of.ensures)
    (end_of (grammar.Stmt (drop c.args.at c.args.tokens.now) _) c.args.tokens.now c.in_ok-items-in-Int.mid c.in_ok-end-in-Int.end
    c.in_ok-end-in-Int.ensures.next
    (grammar.declaring
    (grammar.declaration (sym c.in-Int.ensures)
    (at_next (λ ts. grammar.Items ts (map declared c.in_ok-items-in-Int.items.items) (drop c.in_ok-items-in-Int.mid c.args.tokens.now))
    c.args.tokens.now c.args.at c.in_ok-items-in-Int.ensures.tree))
    c.in_ok-end-in-Int.ensures.found))

pub stmt-returns-in_err-found-in-OpenBrace-clause-stopped : goal.stmt-returns-in_err-found-in-OpenBrace-clause-stopped
stmt-returns-in_err-found-in-OpenBrace-clause-stopped t c =
    stops_by _ _ c.from_residual-in_err-found-in-OpenBrace.ensures.1
    (λ n h. brace_stmt_stopped c.args.tokens.now c.args.at n (sym c.in-OpenBrace.ensures) h) c.in_err-found-in-OpenBrace.ensures.stopped

pub stmt-returns-in_ok-found-in-OpenBrace-clause-ended : goal.stmt-returns-in_ok-found-in-OpenBrace-clause-ended
stmt-returns-in_ok-found-in-OpenBrace-clause-ended t c =
    brace_stmt_ended c.args.tokens.now c.args.at c.in_ok-found-in-OpenBrace.end (sym c.in-OpenBrace.ensures) c.in_ok-found-in-OpenBrace.ensures.ended

pub stmt-returns-in_ok-found-in-OpenBrace-clause-tree : goal.stmt-returns-in_ok-found-in-OpenBrace-clause-tree
stmt-returns-in_ok-found-in-OpenBrace-clause-tree t c =
    rw (statement-Block _, c.of-in-OpenBrace.ensures) (grammar.blocking c.in_ok-found-in-OpenBrace.ensures.tree)

pub stmt-returns-in_err-form-in_default : goal.stmt-returns-in_err-form-in_default
stmt-returns-in_err-form-in_default t c =
    let p = err_from_is_err_and c.from_residual-in_err-form-in_default.result c.from_residual-in_err-form-in_default.ensures.1 in
    record {
      tree = rw p.1 tt;
      ended = rw p.1 tt;
      ahead = rw p.1 tt;
      stopped = stops_by _ _ c.from_residual-in_err-form-in_default.ensures.1
          (λ n h. one_stopped
          (alike_stopped joins_stmt ((form a_simple ∷ []) ∷ []) ((form a_stmt ∷ []) ∷ []) c.args.tokens.now c.args.at n (omega arith) (omega arith)
          (begin.stmt_alike (first (drop c.args.at c.args.tokens.now)) (unlike c.lexeme_at.ensures c.in_default.not-Int)
          (unlike c.lexeme_at.ensures c.in_default.not-OpenBrace) (unlike c.lexeme_at.ensures c.in_default.not-If)
          (unlike c.lexeme_at.ensures c.in_default.not-While) (unlike c.lexeme_at.ensures c.in_default.not-For)
          (unlike c.lexeme_at.ensures c.in_default.not-Do) (unlike c.lexeme_at.ensures c.in_default.not-Start))
          (any_stopped (stopped_weaker [] joins_stmt (form a_simple ∷ []) c.args.tokens.now c.args.at n refl h))))
          c.in_err-form-in_default.ensures.stopped;
    }

pub stmt-returns-in_ok-form-in_default : goal.stmt-returns-in_ok-form-in_default
stmt-returns-in_ok-form-in_default t c = record {
  tree = grammar.simply c.in_ok-form-in_default.ensures.tree;
  ended = one_ended
      (alike_ended joins_stmt ((form a_simple ∷ []) ∷ []) ((form a_stmt ∷ []) ∷ []) c.args.tokens.now c.args.at c.in_ok-form-in_default.end
      (omega arith) (omega arith)
      (begin.stmt_alike (first (drop c.args.at c.args.tokens.now)) (unlike c.lexeme_at.ensures c.in_default.not-Int)
      (unlike c.lexeme_at.ensures c.in_default.not-OpenBrace) (unlike c.lexeme_at.ensures c.in_default.not-If)
      (unlike c.lexeme_at.ensures c.in_default.not-While) (unlike c.lexeme_at.ensures c.in_default.not-For)
      (unlike c.lexeme_at.ensures c.in_default.not-Do) (unlike c.lexeme_at.ensures c.in_default.not-Start))
      (any_ended
      (ended_weaker [] joins_stmt (form a_simple ∷ []) c.args.tokens.now c.args.at c.in_ok-form-in_default.end refl
      c.in_ok-form-in_default.ensures.ended)));
  ahead = c.in_ok-form-in_default.ensures.ahead;
  stopped = tt;
}
