use Rattle.std.proofs.Common.{arith, map}
use Rattle.flame_parse.specs.Parsing.{defined}
use Rattle.flame_parse.proofs.WholeFiles.{whole_unit, ended_unit, fails_unit}
use Rattle.flame_parse.proofs.files.parse.Goals as goal

pub returns-in_err-found-clause-fault : goal.returns-in_err-found-clause-fault
returns-in_err-found-clause-fault c = fails_unit c.args.tokens.now _ _ c.from_residual.ensures.1 c.in_default.ensures.flat c.in_err-found.ensures.stopped

pub returns-then-end-tokens-clause-fault : goal.returns-then-end-tokens-clause-fault
returns-then-end-tokens-clause-fault c =
    rw c.syntax.ensures
    (ended_unit c.args.tokens.now c.in_ok-found.end c.in_default.ensures.flat (omega (arith, c.if-end-tokens.true)) c.in_ok-found.ensures.ended)

pub returns-clause-file : goal.returns-clause-file
returns-clause-file c =
    rw c.of-functions.ensures
    (whole_unit c.args.tokens.now c.in_ok-found.end (map defined c.in_ok-found.found.items) c.in_default.ensures.flat c.in_ok-found.ensures.tree
    (omega (arith, c.if-end-tokens.false)))
