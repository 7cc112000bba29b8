use Rattle.std.proofs.Common.{◌≡◌, ◌∷◌, [], true}
use Rattle.std.proofs.lemmas.List.{take_rest}
use Rattle.flame_lex.specs.ByteRuns.{begins}
use Rattle.flame_lex.proofs.Prefixes.{begins_two}
use Rattle.flame_lex.proofs.Gaps.{close_within, comment_piece, line_comment_piece}
use Rattle.flame_lex.proofs.gap.gap.Goals as goal

pub overflow_sub-result : goal.overflow_sub-result
overflow_sub-result c =
    close_within c.args.bytes.now c.in-Some.rest.now 2 (rw (take_rest c.args.bytes.now 2) at c.in-Some.ensures)

pub returns-in-Some-clause-gap : goal.returns-in-Some-clause-gap
returns-in-Some-clause-gap c = λ site.
    let opens : begins c.args.bytes.now (47 ∷ 42 ∷ []) ≡ true =
    begins_two c.args.bytes.now 47 42 c.in-47.len_at_least (cc) (cc) in
    comment_piece site c.args.bytes.now c.in-Some.rest.now opens
    (rw (take_rest c.args.bytes.now 2) at c.in-Some.ensures)

pub returns-in-47-2-clause-gap : goal.returns-in-47-2-clause-gap
returns-in-47-2-clause-gap c = λ site.
    let opens : begins c.args.bytes.now (47 ∷ 47 ∷ []) ≡ true =
    begins_two c.args.bytes.now 47 47 c.in-47-2.len_at_least (cc) (cc) in
    rw c.line_length.ensures (line_comment_piece site c.args.bytes.now opens)
