use Rattle.std.proofs.Common.{ap, length, ◌∙◌}
use Rattle.std.specs.List.{list_all}
use Rattle.std.proofs.lemmas.List.{take_rest}
use Rattle.flame_ops.specs.Ascii.{is_word_byte}
use Rattle.flame_lex.proofs.ReadLines.{no_space, no_word, no_second_space, no_number}
use Rattle.flame_lex.proofs.Runs.{run_at}
use Rattle.flame_lex.proofs.define.read_definition.Goals as goal

pub returns-in_err-from_name-clause-says : goal.returns-in_err-from_name-clause-says
returns-in_err-from_name-clause-says c =
    rw c.from_residual.ensures (no_space c.args.bytes.now c.in_err-from_name.ensures)

pub returns-in_err-name-clause-says : goal.returns-in_err-name-clause-says
returns-in_err-name-clause-says c =
    let from = c.in_ok-from_name.ensures in
    rw c.from_residual-in_err-name.ensures
    (no_word c.args.bytes.now c.in_ok-from_name.from_name.now from.0 from.1 c.in_err-name.ensures)

pub returns-in_err-from_number-clause-says : goal.returns-in_err-from_number-clause-says
returns-in_err-from_number-clause-says c =
    let from = c.in_ok-from_name.ensures in
    let name = c.in_ok-name.ensures in
    rw c.from_residual-in_err-from_number.ensures
    (no_second_space c.args.bytes.now c.in_ok-from_name.from_name.now c.in_ok-name.name.now from.0 from.1 name.0 name.1
    (rw (take_rest c.in_ok-from_name.from_name.now (length c.in_ok-name.name.now)) at c.in_err-from_number.ensures))

pub returns-in_err-value-clause-says : goal.returns-in_err-value-clause-says
returns-in_err-value-clause-says c =
    rw c.from_residual-in_err-value.ensures
    (no_number c.args.bytes.now c.in_ok-from_name.from_name.now c.in_ok-name.name.now c.in_ok-from_number.from_number.now
    c.in_ok-from_name.ensures.1 c.in_ok-name.ensures.1
    (rw (take_rest c.in_ok-from_name.from_name.now (length c.in_ok-name.name.now)) at c.in_ok-from_number.ensures.1) c.in_err-value.ensures)

pub returns-clause-word : goal.returns-clause-word
returns-clause-word c =
    ap (list_all is_word_byte) c.in_ok-name.ensures.1 ∙ (run_at is_word_byte c.in_ok-from_name.from_name.now).all
