-- Each way that the reader returns, by the parts that it read.
use Rattle.std.proofs.Common.{◌+◌, refl, arith}
use Rattle.flame_spec.specs.Seen.{expressions}
use Rattle.flame_expr.specs.declared.lexemes.Lexeme.TheVariants.{Open}
use Rattle.flame_expr.proofs.Places.{there}
use Rattle.flame_expr.proofs.Ends.{stops_by}
use Rattle.flame_parse.specs.StatementGrammar as grammar
use Rattle.flame_parse.proofs.Values as values
use Rattle.flame_parse.proofs.Assigns.{call_read}
use Rattle.flame_parse.proofs.simple.value.Goals as goal

pub returns-then-calls-clause-tree : goal.returns-then-calls-clause-tree
returns-then-calls-clause-tree c =
    rw (c.of.ensures, c.line_at-line.ensures, c.in_ok-word.ensures)
    (call_read c.args.tokens.now c.args.at c.in_ok-found.close c.in_ok-end.end (expressions c.in_ok-found.found.items)
    (c.calls.ensures.yes c.if-calls.true) c.in_ok-found.ensures.tree c.in_ok-end.ensures.found c.in_ok-end.ensures.next)

pub returns-then-calls-clause-ended : goal.returns-then-calls-clause-ended
returns-then-calls-clause-ended c =
    values.call_ended c.args.tokens.now c.args.at c.in_ok-found.close c.in_ok-end.end (c.calls.ensures.yes c.if-calls.true)
    c.in_ok-found.ensures.ended c.in_ok-end.ensures.ended

pub returns-in_err-found-clause-stopped : goal.returns-in_err-found-clause-stopped
returns-in_err-found-clause-stopped c =
    stops_by _ _ c.from_residual-in_err-found.ensures.1 (λ n h. values.call_stopped c.args.tokens.now c.args.at n (c.calls.ensures.yes c.if-calls.true) h)
    c.in_err-found.ensures.stopped

pub returns-in_err-end-clause-stopped : goal.returns-in_err-end-clause-stopped
returns-in_err-end-clause-stopped c =
    stops_by _ _ c.from_residual-in_err-end.ensures.1
    (λ n h. values.call_end_stopped c.args.tokens.now c.args.at c.in_ok-found.close n (c.calls.ensures.yes c.if-calls.true)
    c.in_ok-found.ensures.ended h)
    c.in_err-end.ensures.stopped

pub returns-in_err-tree-clause-stopped : goal.returns-in_err-tree-clause-stopped
returns-in_err-tree-clause-stopped c =
    stops_by _ _ c.from_residual-in_err-tree.ensures.1
    (λ n h. values.plain_stopped c.args.tokens.now c.args.at n (c.calls.ensures.no c.if-calls.false) h) c.in_err-tree.ensures.stopped

pub returns-clause-tree : goal.returns-clause-tree
returns-clause-tree c = grammar.an_expression c.in_ok-tree.ensures.tree

pub returns-clause-ended : goal.returns-clause-ended
returns-clause-ended c = values.plain_ended c.args.tokens.now c.args.at c.in_ok-tree.end (c.calls.ensures.no c.if-calls.false) c.in_ok-tree.ensures.ended

pub args-requires-clause-within : goal.args-requires-clause-within
args-requires-clause-within c =
    let i = c.calls.ensures.yes c.if-calls.true in
    let l = there c.args.tokens.now (c.args.at + 1) Open (values.next_first c.args.tokens.now c.args.at Open i.1) refl in
    omega (arith, l)
