use Rattle.std.proofs.Common.{ap, ◌∙◌, refl}
use Rattle.std.proofs.lemmas.Result.{err_from_is_err_and}
use Rattle.flame_lex.specs.ByteRuns.{is_hash}
use Rattle.flame_lex.specs.LexSteps.{here_at}
use Rattle.flame_lex.proofs.Classes.{hash_nothing}
use Rattle.flame_lex.proofs.Cuts.{token_piece}
use Rattle.flame_lex.proofs.Lexemes.{first_is-at}
use Rattle.flame_lex.proofs.lexer.piece_at.Goals as goal

pub returns-then-bytes-eq35-clause-fault : goal.returns-then-bytes-eq35-clause-fault
returns-then-bytes-eq35-clause-fault c =
    let hash = first_is-at is_hash c.args.bytes.now c.requires ∙ ap is_hash c.if-bytes-eq35.true in (
      refl,
      hash_nothing (here_at c.args.place.line_begins c.args.defines.now) c.args.bytes.now c.requires hash
          c.if-place.false,
    )

pub returns-in_err-kind-in-Ok-None-clause-fault : goal.returns-in_err-kind-in-Ok-None-clause-fault
returns-in_err-kind-in-Ok-None-clause-fault c =
    let p = err_from_is_err_and c.from_residual.result c.from_residual.ensures.1 in
    rw (p.1, p.2) (c.in_err-kind-in-Ok-None.ensures.fault (here_at c.args.place.line_begins c.args.defines.now))

pub returns-in-Err-clause-fault : goal.returns-in-Err-clause-fault
returns-in-Err-clause-fault c = c.in-Err.ensures.fault (here_at c.args.place.line_begins c.args.defines.now)

pub returns-in_ok-kind-in-Ok-None-clause-piece : goal.returns-in_ok-kind-in-Ok-None-clause-piece
returns-in_ok-kind-in-Ok-None-clause-piece c =
    token_piece (here_at c.args.place.line_begins c.args.defines.now) c.args.bytes.now
    c.in_ok-kind-in-Ok-None.field-0.kind c.in_ok-kind-in-Ok-None.field-0.length c.in_ok-kind-in-Ok-None.ensures.lexeme
