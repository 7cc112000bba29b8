-- The statements that jump, by what was written of them one by one.
use Rattle.std.proofs.Common.{◌≡◌, ℕ, ◌+◌, List, [], length, refl, ap, ◌∙◌}
use Rattle.flame_body.specs.declared.slots.SlotStmt.{SlotStmt}
use Rattle.flame_code.specs.declared.instrs.Instr.{Instr}
use Rattle.flame_code.specs.declared.instrs.Instr.TheVariants.{Jump, JumpZero, JumpNotZero, Pay, Enter, Next, Leave}
use Rattle.flame_compile.specs.Pieces.{Piece, one, written, Block, going}
use Rattle.flame_compile.specs.Emit.{Arm, Head, arm_size, arms_size, arm_code, arm_piece, arms_code, if_code, while_code, for_code, do_code, loop_code}
use Rattle.flame_compile.specs.Emit.{if_block, while_block, for_block, do_block, loop_block, statements, body_code, emitted}
use Rattle.flame_compile.proofs.Writing.{two_written, wrote_4, wrote_5, wrote_7}

pub arm_written : (a : Arm) (leave again n e : ℕ) (c c1 c2 c3 c4 : List Instr)
    → n ≡ length c + arm_size a
    → c1 ≡ written a.test c
    → c2 ≡ written (one (JumpZero n)) c1
    → c3 ≡ written (going leave again a.body) c2
    → c4 ≡ written (one (Jump e)) c3
    → c4 ≡ written (arm_piece a leave again e) c
unfolding written
arm_written a leave again n e c c1 c2 c3 c4 n_is e1 e2 e3 e4 =
    wrote_4 a.test (one (JumpZero n)) (going leave again a.body) (one (Jump e)) c c1 c2 c3 c4 e1 e2 e3 e4
    ∙ ap (λ k. written (arm_code a leave again k e) c) n_is

pub if_written : (arms : List Arm) (otherwise : Block) (leave again e : ℕ) (c c1 c2 : List Instr)
    → e ≡ length c + arms_size arms + otherwise.size
    → c1 ≡ written (arms_code arms leave again e) c
    → c2 ≡ written (going leave again otherwise) c1
    → c2 ≡ written (going leave again (if_block arms otherwise)) c
unfolding written
if_written arms otherwise leave again e c c1 c2 e_is e1 e2 =
    two_written (arms_code arms leave again e) (going leave again otherwise) (if_code arms otherwise leave again e)
    c c1 c2 e1 e2 refl
    ∙ ap (λ k. written (if_code arms otherwise leave again k) c) e_is

pub while_written : (line : ℕ) (test : Piece) (body : Block) (leave again b s e : ℕ) (c c1 c2 c3 c4 c5 : List Instr)
    → b ≡ length c + 1
    → s ≡ length c + 2 + body.size
    → e ≡ length c + 3 + body.size + test.size
    → c1 ≡ written (one (Jump s)) c
    → c2 ≡ written (one (Pay line)) c1
    → c3 ≡ written (going e s body) c2
    → c4 ≡ written test c3
    → c5 ≡ written (one (JumpNotZero b)) c4
    → c5 ≡ written (going leave again (while_block line test body)) c
unfolding written
while_written line test body leave again b s e c c1 c2 c3 c4 c5 b_is s_is e_is e1 e2 e3 e4 e5 =
    wrote_5 (one (Jump s)) (one (Pay line)) (going e s body) test (one (JumpNotZero b)) c c1 c2 c3 c4 c5 e1 e2 e3 e4 e5
    ∙ ap (λ k. written (while_code line test body k s e) c) b_is
    ∙ ap (λ k. written (while_code line test body (length c + 1) k e) c) s_is
    ∙ ap (λ k. written (while_code line test body (length c + 1) (length c + 2 + body.size) k) c) e_is

pub do_written : (line : ℕ) (body : Block) (test : Piece) (leave again b s e : ℕ) (c c1 c2 c3 c4 : List Instr)
    → b ≡ length c
    → s ≡ length c + 1 + body.size
    → e ≡ length c + 2 + body.size + test.size
    → c1 ≡ written (one (Pay line)) c
    → c2 ≡ written (going e s body) c1
    → c3 ≡ written test c2
    → c4 ≡ written (one (JumpNotZero b)) c3
    → c4 ≡ written (going leave again (do_block line body test)) c
unfolding written
do_written line body test leave again b s e c c1 c2 c3 c4 b_is s_is e_is e1 e2 e3 e4 =
    wrote_4 (one (Pay line)) (going e s body) test (one (JumpNotZero b)) c c1 c2 c3 c4 e1 e2 e3 e4
    ∙ ap (λ k. written (do_code line body test k s e) c) b_is
    ∙ ap (λ k. written (do_code line body test (length c) k e) c) s_is
    ∙ ap (λ k. written (do_code line body test (length c) (length c + 1 + body.size) k) c) e_is

pub loop_written : (line input : ℕ) (body : Block) (leave again b e : ℕ) (c c1 c2 c3 c4 c5 : List Instr)
    → b ≡ length c + 1
    → e ≡ length c + 3 + body.size
    → c1 ≡ written (one (Enter input)) c
    → c2 ≡ written (one (Next line input e)) c1
    → c3 ≡ written (going e b body) c2
    → c4 ≡ written (one (Jump b)) c3
    → c5 ≡ written (one (Leave input)) c4
    → c5 ≡ written (going leave again (loop_block line input body)) c
unfolding written
loop_written line input body leave again b e c c1 c2 c3 c4 c5 b_is e_is e1 e2 e3 e4 e5 =
    wrote_5 (one (Enter input)) (one (Next line input e)) (going e b body) (one (Jump b)) (one (Leave input))
    c c1 c2 c3 c4 c5 e1 e2 e3 e4 e5
    ∙ ap (λ k. written (loop_code line input body k e) c) b_is
    ∙ ap (λ k. written (loop_code line input body (length c + 1) k) c) e_is

pub for_written : (line : ℕ) (head : Head) (body : Block) (leave again b s t e : ℕ)
    (c c1 c2 c3 c4 c5 c6 c7 : List Instr)
    → b ≡ length c + head.first.size + 1
    → s ≡ length c + head.first.size + 2 + body.size
    → t ≡ length c + head.first.size + 2 + body.size + head.step.size
    → e ≡ length c + head.first.size + 3 + body.size + head.step.size + head.test.size
    → c1 ≡ written (going leave again head.first) c
    → c2 ≡ written (one (Jump t)) c1
    → c3 ≡ written (one (Pay line)) c2
    → c4 ≡ written (going e s body) c3
    → c5 ≡ written head.step c4
    → c6 ≡ written head.test c5
    → c7 ≡ written (one (JumpNotZero b)) c6
    → c7 ≡ written (going leave again (for_block line head body)) c
unfolding written
for_written line head body leave again b s t e c c1 c2 c3 c4 c5 c6 c7 b_is s_is t_is e_is e1 e2 e3 e4 e5 e6 e7 =
    let b_at = length c + head.first.size + 1 in
    let s_at = length c + head.first.size + 2 + body.size in
    let t_at = length c + head.first.size + 2 + body.size + head.step.size in
    wrote_7 (going leave again head.first) (one (Jump t)) (one (Pay line)) (going e s body) head.step head.test
    (one (JumpNotZero b)) c c1 c2 c3 c4 c5 c6 c7 e1 e2 e3 e4 e5 e6 e7
    ∙ ap (λ k. written (for_code line head body leave again k s t e) c) b_is
    ∙ ap (λ k. written (for_code line head body leave again b_at k t e) c) s_is
    ∙ ap (λ k. written (for_code line head body leave again b_at s_at k e) c) t_is
    ∙ ap (λ k. written (for_code line head body leave again b_at s_at t_at k) c) e_is

-- a body that was written into nothing
pub emitted_whole : (l tree : List SlotStmt) (e : ℕ) (c c1 : List Instr)
    → l ≡ tree
    → e ≡ (statements l).size
    → c ≡ []
    → c1 ≡ written (body_code l e) c
    → c1 ≡ emitted tree
unfolding written
emitted_whole l tree e c c1 l_is e_is none w =
    w ∙ ap (written (body_code l e)) none ∙ ap (λ n. (body_code l n).code 0) e_is ∙ ap emitted l_is
