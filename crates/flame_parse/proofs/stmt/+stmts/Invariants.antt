use Rattle.std.proofs.Common.{◌+◌, ◌-◌, ◌*◌, [], ◌∷◌, length, map}
use Rattle.flame_spec.specs.Seen.{statement}
use Rattle.flame_expr.specs.ViablePrefixes.{form, many, a_stmt}
use Rattle.flame_parse.specs.AssignmentOperators.{joins_stmts}
use Rattle.flame_parse.proofs.Runs.{RunOn, StmtsRead}
use Rattle.flame_parse.proofs.Blocks.{ArmsOn}
use Rattle.flame_parse.proofs.stmt.+stmts.Given as goal

abbrev pub decreases-block : goal.decreases-block
decreases-block l = (length l.tokens.now - l.at) * 8

abbrev pub decreases-stmts : goal.decreases-stmts
decreases-stmts l = (length l.tokens.now - l.at) * 8 + 7

abbrev pub decreases-stmt : goal.decreases-stmt
decreases-stmt l = (length l.tokens.now - l.at) * 8 + 6

abbrev pub decreases-branch : goal.decreases-branch
decreases-branch l = (length l.tokens.now - l.at) * 8 + 5

abbrev pub decreases-elses : goal.decreases-elses
decreases-elses l = (length l.tokens.now - l.at) * 8 + 5

abbrev pub decreases-body : goal.decreases-body
decreases-body l = (length l.tokens.now - l.at) * 8 + 4

abbrev pub decreases-while_loop : goal.decreases-while_loop
decreases-while_loop l = (length l.tokens.now - l.at) * 8 + 5

abbrev pub decreases-for_loop : goal.decreases-for_loop
decreases-for_loop l = (length l.tokens.now - l.at) * 8 + 5

abbrev pub decreases-do_loop : goal.decreases-do_loop
decreases-do_loop l = (length l.tokens.now - l.at) * 8 + 5

abbrev pub decreases-message_loop : goal.decreases-message_loop
decreases-message_loop l = (length l.tokens.now - l.at) * 8 + 5

abbrev pub invariant-stmts-stmts : goal.invariant-stmts-stmts
invariant-stmts-stmts l = RunOn joins_stmts (many (form a_stmt) ∷ []) StmtsRead l.tokens l.fn.at l.place (map statement l.found.items)

abbrev pub decreases-stmts-stmts : goal.decreases-stmts-stmts
decreases-stmts-stmts l = length l.tokens - l.place

abbrev pub invariant-elses-elses : goal.invariant-elses-elses
invariant-elses-elses l = ArmsOn l.tokens l.fn.at l.place l.found.items

abbrev pub decreases-elses-elses : goal.decreases-elses-elses
decreases-elses-elses l = length l.tokens - l.place
