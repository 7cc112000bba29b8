-- Each way that the reader returns, by the parts that it read.
use Rattle.flame_expr.proofs.Ends.{stops_by}
use Rattle.flame_parse.proofs.Defs.{int_stopped, name_stopped, parameter_read, parameter_ended}
use Rattle.flame_parse.proofs.unit.parameter.Goals as goal

pub returns-in_err-word-clause-stopped : goal.returns-in_err-word-clause-stopped
returns-in_err-word-clause-stopped c = stops_by _ _ c.from_residual.ensures.1 (λ n h. int_stopped c.args.tokens.now c.args.at n h) c.in_err-word.ensures.stopped

pub returns-in_err-end-clause-stopped : goal.returns-in_err-end-clause-stopped
returns-in_err-end-clause-stopped c =
    stops_by _ _ c.from_residual-in_err-end.ensures.1
    (λ n h. name_stopped c.args.tokens.now c.args.at c.in_ok-word.word n c.in_ok-word.ensures.ended h) c.in_err-end.ensures.stopped

pub returns-clause-tree : goal.returns-clause-tree
returns-clause-tree c =
    rw (c.line_at-line.ensures, c.in_ok-name.ensures)
    (parameter_read c.args.tokens.now c.args.at c.in_ok-word.word c.in_ok-end.end c.in_ok-word.ensures.found c.in_ok-word.ensures.next
    c.in_ok-end.ensures.found c.in_ok-end.ensures.next)

pub returns-clause-ended : goal.returns-clause-ended
returns-clause-ended c = parameter_ended c.args.tokens.now c.args.at c.in_ok-word.word c.in_ok-end.end c.in_ok-word.ensures.ended c.in_ok-end.ensures.ended
