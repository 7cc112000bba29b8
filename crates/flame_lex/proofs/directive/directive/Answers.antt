use Rattle.std.proofs.Common.{◌≡◌, subst, Some, true, refl, take, drop}
use Rattle.std.specs.Prelude.{slice_get}
use Rattle.std.proofs.lemmas.List.{take_rest}
use Rattle.flame_ops.specs.Words.{directive_spellings}
use Rattle.flame_lex.specs.LexSteps.{here_at}
use Rattle.flame_lex.proofs.Gaps.{include_piece, define_piece, directive_at, second}
use Rattle.flame_lex.proofs.directive.directive.Goals as goal

pub returns-in-Some-eq0-clause-piece : goal.returns-in-Some-eq0-clause-piece
returns-in-Some-eq0-clause-piece c =
    let bytes = c.args.bytes.now in
    let found = rw (take_rest bytes 1, c.args.tables.now.directives_are, c.in-Some-eq0.field-0-test) at
    c.in-Some-eq0.ensures.found in
    let count = rw (take_rest bytes 1) at c.word_length.ensures in
    rw c.line_length-length.ensures (include_piece (here_at true c.args.defines.now) bytes
    (directive_at (here_at true c.args.defines.now) 0 c.word_length.result bytes refl c.requires found count))

pub returns-in-Some-2-clause-piece : goal.returns-in-Some-2-clause-piece
returns-in-Some-2-clause-piece c =
    let bytes = c.args.bytes.now in
    let found = rw (take_rest bytes 1, c.args.tables.now.directives_are) at c.in-Some.ensures.found in
    let number = second c.in-Some.field-0 _ found c.in-Some.field-0-test.1 in
    let count = rw (take_rest bytes 1) at c.word_length.ensures in
    let said = rw (c.in-Some-2.is, c.line_length-length.ensures) at c.in_ok-define-in-Some.ensures in
    rw c.line_length-length.ensures (define_piece (here_at true c.args.defines.now) bytes c.in-Some-2.define
    (directive_at (here_at true c.args.defines.now) 1 c.word_length.result bytes refl c.requires
    (subst (λ n. slice_get directive_spellings n ≡ Some (take c.word_length.result (drop 1 bytes))) number found) count)
    said)
