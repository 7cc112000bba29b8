use Rattle.std.proofs.lemmas.List.{take_rest}
use Rattle.flame_lex.specs.Lexing.{nothing}
use Rattle.flame_lex.proofs.Cuts.{read_more}
use Rattle.flame_lex.proofs.Readings.{few_of}
use Rattle.flame_lex.proofs.lexer.lex.Goals as goal

pub loop-rest-preserved : goal.loop-rest-preserved
loop-rest-preserved c =
    rw (take_rest c.loop-rest.rest.now c.in_ok-found.field-0.length)
    (read_more c.args.bytes.now c.loop-rest.rest.now c.loop-rest.tokens.items c.put.new.tokens.items c.loop-rest.place
    c.past-place.result c.loop-rest.defines c.put.new.defines
    c.in_ok-found.field-0.found c.in_ok-found.field-0.length
    c.loop-rest.invariant c.in_ok-found.ensures.piece c.in_ok-put.ensures.tokens c.in_ok-put.ensures.defines
    c.past-place.ensures)

pub returns-clause-few : goal.returns-clause-few
returns-clause-few c =
    let read = c.loop-rest.invariant in
    let few = few_of nothing read.pieces c.args.bytes.now c.loop-rest.rest.now read.cut in
    rw (c.of.ensures, read.tokens_are) few
