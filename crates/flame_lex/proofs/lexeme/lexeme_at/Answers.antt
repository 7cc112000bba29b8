use Rattle.std.proofs.Common.{sym, ◌∙◌, rules}
use Rattle.std.specs.Char.{is_ascii_digit}
use Rattle.std.proofs.lemmas.Int.{to_z-of_z}
use mir.Val.{SFits}
use mir.Syntax.{w32}
use Rattle.flame_ops.specs.Ascii.{begins_word, is_word_byte}
use Rattle.flame_lex.proofs.Runs.{run_front}
use Rattle.flame_lex.proofs.Lexemes.{first_is-at, word_token, number_token, number_fault}
use Rattle.flame_lex.proofs.lexeme.lexeme_at.Goals as goal

pub word_kind-requires-clause-word : goal.word_kind-requires-clause-word
word_kind-requires-clause-word c = rw c.word_length-length.ensures (run_front is_word_byte c.args.bytes.now).all

pub returns-in_ok-kind-clause-lexeme : goal.returns-in_ok-kind-clause-lexeme
returns-in_ok-kind-clause-lexeme c =
    let first = first_is-at begins_word c.args.bytes.now c.requires.more ∙ sym c.if-is_first_of_word.ensures in
    let kind = rw c.word_length-length.ensures at c.in_ok-kind.ensures in
    rw c.word_length-length.ensures (word_token c.in_ok-kind.kind c.args.bytes.now first kind)

pub returns-in-Ok-clause-lexeme : goal.returns-in-Ok-clause-lexeme
returns-in-Ok-clause-lexeme c =
    let first = first_is-at is_ascii_digit c.args.bytes.now c.requires.more ∙ sym c.if-is_ascii_digit.ensures.value in
    let number = rw c.word_length-length-then-is_ascii_digit.ensures at c.in-Ok.ensures.number in
    let fits : SFits w32 c.in-Ok.value = search rules in
    rw (to_z-of_z w32 c.in-Ok.value fits, c.word_length-length-then-is_ascii_digit.ensures)
    (number_token c.in-Ok.value c.args.bytes.now first number)

pub returns-in-Err-clause-fault : goal.returns-in-Err-clause-fault
returns-in-Err-clause-fault c = λ site.
    let first = first_is-at is_ascii_digit c.args.bytes.now c.requires.more ∙ sym c.if-is_ascii_digit.ensures.value in
    let fault = rw c.word_length-length-then-is_ascii_digit.ensures at c.in-Err.ensures.fault in
    number_fault site c.args.at c.args.bytes.now c.in-Err.fault first fault
