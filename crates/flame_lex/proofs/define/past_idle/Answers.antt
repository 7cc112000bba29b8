use Rattle.std.proofs.Common.{◌≡◌, ◌∷◌, [], true}
use Rattle.std.proofs.lemmas.List.{take_rest}
use Rattle.flame_lex.specs.ByteRuns.{begins}
use Rattle.flame_lex.proofs.Idle.{idle_comment}
use Rattle.flame_lex.proofs.Prefixes.{begins_two}
use Rattle.flame_lex.proofs.define.past_idle.Goals as goal

pub returns-in_ok-behind_close-in-47-2 : goal.returns-in_ok-behind_close-in-47-2
returns-in_ok-behind_close-in-47-2 c =
    let opens : begins c.args.bytes.now (47 ∷ 42 ∷ []) ≡ true =
    begins_two c.args.bytes.now 47 42 c.in-47-2.len_at_least (cc) (cc) in
    idle_comment c.args.bytes.now c.in_ok-behind_close-in-47-2.field-0.now opens
    (rw (take_rest c.args.bytes.now 2) at c.in_ok-behind_close-in-47-2.ensures)
