-- Each way that the reader returns, by the parts that it read.
use Rattle.std.proofs.Common.{drop}
use Rattle.flame_spec.specs.Seen.{indexed}
use Rattle.flame_expr.proofs.Ends.{stops_by}
use Rattle.std.specs.Prelude.{option_map}
use Rattle.flame_parse.proofs.Values as values
use Rattle.flame_parse.proofs.Assigns.{place_read}
use Rattle.flame_parse.proofs.simple.place.Goals as goal

pub returns-in_err-mid-clause-stopped : goal.returns-in_err-mid-clause-stopped
returns-in_err-mid-clause-stopped c = stops_by _ _ c.from_residual.ensures.1 (λ n h. values.word_stopped c.args.tokens.now c.args.at n h) c.in_err-mid.ensures.stopped

pub returns-in_err-which-clause-stopped : goal.returns-in_err-which-clause-stopped
returns-in_err-which-clause-stopped c =
    stops_by _ _ c.from_residual-in_err-which.ensures.1
    (λ n h. values.place_stopped c.args.tokens.now c.args.at c.in_ok-mid.mid n c.in_ok-mid.ensures.ended h) c.in_err-which.ensures.stopped

pub returns-clause-tree : goal.returns-clause-tree
returns-clause-tree c =
    rw (c.in_ok-name.ensures)
    (place_read c.args.tokens.now c.args.at c.in_ok-mid.mid (option_map indexed c.in_ok-which.which) (drop c.in_ok-which.end c.args.tokens.now)
    c.in_ok-mid.ensures.found c.in_ok-mid.ensures.next c.in_ok-which.ensures.tree)

pub returns-clause-ended : goal.returns-clause-ended
returns-clause-ended c = values.place_ended c.args.tokens.now c.args.at c.in_ok-mid.mid c.in_ok-which.end c.in_ok-mid.ensures.ended c.in_ok-which.ensures.ended
