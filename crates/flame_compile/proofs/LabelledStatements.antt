-- The code of statements that fit has labels: the stack is empty before and behind each, and `break` and `continue` may
-- go where they go.
use Rattle.std.proofs.Common.{◌≡◌, ℕ, ◌+◌, ◌<◌, ◌≤◌, ◌==◌, ⊎_elim, true, false, not, ◌&&◌, ◌||◌, List, [], ◌∷◌, ◌++◌, length, map, Some, refl, sym, ap, ◌∙◌, subst, arith, length-append, eq-eqb, eqb-true, lt-ltb}
use Rattle.std.specs.Prelude.{slice_get, nat_lt}
use Rattle.std.specs.Option.{option_map_or}
use Rattle.std.proofs.lemmas.Bool.{and_parts, and_from, or_left, or_right, or_cases, not-true, not_from_false, false_from_ne_true, both_ways}
use Rattle.flame_body.specs.declared.slots.SlotExpr.{SlotExpr}
use Rattle.flame_body.specs.declared.slots.SlotArm.{SlotArm}
use Rattle.flame_body.specs.declared.slots.SlotHead.{SlotHead}
use Rattle.flame_body.specs.declared.slots.SlotStmt.{SlotStmt, Empty, Declare, Assign, If, While, For, Do, Loop, Break, Continue, roll-SlotStmt, ind-SlotStmt, map-SlotStmt}
use Rattle.flame_body.specs.declared.slots.SlotStmt as stmt
use Rattle.flame_body.specs.declared.slots.SlotStmt.TheVariants.{rolls-Empty, rolls-Declare, rolls-Assign, rolls-Call, rolls-Block, rolls-If, rolls-While, rolls-For, rolls-Do, rolls-Loop, rolls-Return, rolls-Break, rolls-Continue}
use Rattle.flame_body.specs.declared.slots.SlotStmt.TheOpen.{SlotStmt-F}
use Rattle.flame_body.specs.BodyFits.{Around, fits, optional_fits, step_fits, is_inside, in_plain_loop, in_input_loop, statement_fits}
use Rattle.flame_body.specs.BodyFits.{all_fit as all_statements_fit}
use Rattle.flame_body.proofs.FitForms.{arm_fits, fits-Declare, fits-Assign, fits-Call, fits-Block, fits-If, fits-While, fits-For, fits-Do, fits-Loop, fits-Return, fits-Break, fits-Continue}
use Rattle.flame_code.specs.declared.instrs.Instr.{Instr}
use Rattle.flame_code.specs.declared.instrs.Instr.TheVariants.{Jump, JumpZero, JumpNotZero, Pay, Enter, Next, Leave, Return}
use Rattle.flame_code.specs.declared.labels.Label.{Label}
use Rattle.flame_code.specs.Labels.{has_input, has_passed, spends}
use Rattle.flame_compile.specs.Pieces.{Piece, row, one, both, in_order, Block, plain as plain_block}
use Rattle.flame_compile.specs.Emit.{arguments, item, assignment, deed, expression, test_or_1, step_or_none}
use Rattle.flame_compile.specs.Emit.{arm_size, arms_size, arm_piece, arms_code, if_block, while_block, for_block, do_block, loop_block, break_block, continue_block, statement, statements, arm, head}
use Rattle.flame_compile.proofs.Forms.{statement-Empty, statement-Declare, statement-Assign, statement-Call, statement-Block, statement-If, statement-While, statement-For, statement-Do, statement-Loop, statement-Return, statement-Break, statement-Continue}
use Rattle.flame_compile.proofs.Sized.{expression_sized}
use Rattle.flame_compile.proofs.SizedBlocks.{arm_sized, test_sized, step_sized, statement_sized, statements_sized}
use Rattle.flame_compile.proofs.Labelled.{label, Labelled, no_needs, Aim, aim_forward, aimed, level, found_right, nothing, single, plain, jump, jump_zero, jump_not_zero, more, sealed, narrowed, freed, joined}
use Rattle.flame_compile.proofs.LabelledExpressions.{IsSound, value_labelled}
use Rattle.flame_compile.proofs.LabelledStores.{Level, items_labelled, assignment_labelled, deed_labelled, test_labelled, step_labelled}

-- ---- where `break` and `continue` go

-- where a loop is open, a jump from each place below the limit may go to both
abbrev pub gates : Around → ℕ → ℕ → ℕ → List Instr → List Label → Type 0
gates around leave again limit instrs all =
    around.in_loop ≡ true → (k : ℕ) → k < limit
    → Aim instrs all around.inputs k leave 0 × Aim instrs all around.inputs k again 0

-- the code of statements has labels
abbrev pub Inside : Around → ℕ → ℕ → ℕ → ℕ → List Instr → Type 0
Inside around leave again limit p is =
    Labelled (gates around leave again limit) around.widths p is (label 0 around.inputs) (label 0 around.inputs) []

-- a statement has labels wherever it fits
abbrev pub Holds : SlotStmt → Type 0
Holds s =
    (around : Around) → IsSound around → (leave again limit p : ℕ)
    → p + (statement s).size ≤ limit
    → statement_fits s around ≡ true
    → Inside around leave again limit p ((statement s).code leave again p)

-- so have statements
abbrev pub HoldsBody : List SlotStmt → Type 0
HoldsBody body =
    (around : Around) → IsSound around → (leave again limit p : ℕ)
    → p + (statements body).size ≤ limit
    → all_statements_fit around (map statement_fits body) ≡ true
    → Inside around leave again limit p ((statements body).code leave again p)

-- so has the body of a test
abbrev HoldsArm : SlotArm → Type 0
HoldsArm a = HoldsBody a.body

-- so have the first statements of a `for`
abbrev HoldsHead : SlotHead → Type 0
HoldsHead h = HoldsBody h.first

-- statements without what holds of them
abbrev bare : List ((s : SlotStmt) × Holds s) → List SlotStmt
bare ss = map (λ s. s.0) ss

-- tests without what holds of their bodies
abbrev bare_arms : List ((a : SlotArm) × HoldsArm a) → List SlotArm
bare_arms arms = map (λ a. a.0) arms

-- statements have labels where each has
body_labelled : (ss : List ((s : SlotStmt) × Holds s)) → HoldsBody (bare ss)
body_labelled [] around sound leave again limit p within all_fit_it =
    nothing (gates around leave again limit) around.widths p (label 0 around.inputs)
body_labelled (s ∷ ss) around sound leave again limit p within all_fit_it =
    let parts = and_parts (statement_fits s.0 around) (all_statements_fit around (map statement_fits (bare ss)))
    all_fit_it in
    let long = statement_sized s.0 leave again p in
    joined (s.1 around sound leave again limit p (omega arith) parts.0)
    (body_labelled ss around sound leave again limit (p + length ((statement s.0).code leave again p)) (omega arith)
    parts.1)

-- ---- loops over no message

-- where a loop over no message has its places, and what stands there
record Turns (rows : List ℕ) (line turn again check end : ℕ) (instrs : List Instr) (all : List Label) : Type 0 where
  at_turn : slice_get all turn ≡ Some (label 0 rows)
  at_again : slice_get all again ≡ Some (label 0 rows)
  at_check : slice_get all check ≡ Some (label 0 rows)
  at_end : slice_get all end ≡ Some (label 0 rows)
  pay : slice_get instrs turn ≡ Some (Pay line)

-- in the body `break` and `continue` may go forward
turn_gates :
    (around : Around) (line turn again check end limit : ℕ) (instrs : List Instr) (all : List Label)
    → limit ≤ again
    → limit ≤ end
    → Turns around.inputs line turn again check end instrs all
    → gates (in_plain_loop around) end again limit instrs all
turn_gates around line turn again check end limit instrs all le_again le_end turns open_ k lt = (
  aim_forward instrs all around.inputs k end 0 turns.at_end (omega arith),
  aim_forward instrs all around.inputs k again 0 turns.at_again (omega arith),
)

-- the jump back lands on a Pay
turn_aim :
    (rows : List ℕ) (line turn again check end p : ℕ) (instrs : List Instr) (all : List Label)
    → Turns rows line turn again check end instrs all
    → Aim instrs all rows p turn 0
turn_aim rows line turn again check end p instrs all turns = record {
  behind = rows;
  at = turns.at_turn;
  known = λ k e. e;
  pays = or_right (nat_lt p turn) (option_map_or (spends p) (slice_get instrs turn) false)
      (ap (λ o. option_map_or (spends p) o false) turns.pay);
}

-- the same at a place that is written in another way
at_place :
    {A : Type 0} (xs : List A) (x : A) (p q : ℕ) → p ≡ q → slice_get xs p ≡ Some x → slice_get xs q ≡ Some x
at_place xs x p q e at = subst (λ k. slice_get xs k ≡ Some x) e at

-- `while`
while_labelled :
    (line : ℕ) (test : SlotExpr) (body : List SlotStmt) (around : Around) (leave again limit p : ℕ)
    → IsSound around
    → HoldsBody body
    → fits around test ≡ true
    → all_statements_fit (in_plain_loop around) (map statement_fits body) ≡ true
    → Inside around leave again limit p ((while_block line (expression test) (statements body)).code leave again p)
while_labelled line test body around leave again limit p sound holds test_fits body_fits =
    let w = around.widths in
    let rows = around.inputs in
    let within : IsSound (in_plain_loop around) = record { known = sound.known } in
    let size = (statements body).size in
    let b = p + 1 in
    let c = p + 2 + size in
    let e = p + 3 + size + (expression test).size in
    let N : List Instr → List Label → Type 0 = λ instrs all. Turns rows line b c c e instrs all in
    let inner = (statements body).code e c (p + 1 + 1) in
    let body_long : length inner ≡ size = statements_sized body e c (p + 1 + 1) in
    let q = p + 1 + 1 + length inner in
    let tests = (expression test).code q in
    let test_long : length tests ≡ (expression test).size = expression_sized test q in
    let r = q + length tests in
    let first = jump N w p c 0 rows (label 0 rows)
    (λ instrs all turns. aim_forward instrs all rows p c 0 turns.at_check (omega arith)) in
    let second = plain N w (p + 1) (Pay line) 0 0 rows refl (omega arith) refl refl refl in
    let third = narrowed N (holds (in_plain_loop around) within e c c (p + 1 + 1) (omega arith) body_fits)
    (λ instrs all turns. turn_gates around line b c c e c instrs all (omega arith) (omega arith) turns) in
    let fourth = freed N (value_labelled test around q 0 sound test_fits) in
    let fifth = jump_not_zero N w r b 0 rows (λ instrs all turns. turn_aim rows line b c c e r instrs all turns) in
    let is = Jump c ∷ Pay line ∷ (inner ++ (tests ++ JumpNotZero b ∷ [])) in
    sealed (gates around leave again limit) (more first (more second (more third (more fourth fifth))))
    (λ instrs all code marks exit needs.
    let end : p + length is ≡ e =
    omega (arith, length-append inner (tests ++ JumpNotZero b ∷ []), length-append tests (JumpNotZero b ∷ [])) in
    let at_check = at_place all (label 0 rows) q c (omega arith) marks.1.1.1.0 in
    record {
      at_turn = marks.1.0;
      at_again = at_check;
      at_check = at_check;
      at_end = at_place all (label 0 rows) (p + length is) e end exit;
      pay = code.at 1 (Pay line) refl;
    })

-- `do`
do_labelled :
    (line : ℕ) (body : List SlotStmt) (test : SlotExpr) (around : Around) (leave again limit p : ℕ)
    → IsSound around
    → HoldsBody body
    → all_statements_fit (in_plain_loop around) (map statement_fits body) ≡ true
    → fits around test ≡ true
    → Inside around leave again limit p ((do_block line (statements body) (expression test)).code leave again p)
do_labelled line body test around leave again limit p sound holds body_fits test_fits =
    let w = around.widths in
    let rows = around.inputs in
    let within : IsSound (in_plain_loop around) = record { known = sound.known } in
    let size = (statements body).size in
    let c = p + 1 + size in
    let e = p + 2 + size + (expression test).size in
    let N : List Instr → List Label → Type 0 = λ instrs all. Turns rows line p c c e instrs all in
    let inner = (statements body).code e c (p + 1) in
    let body_long : length inner ≡ size = statements_sized body e c (p + 1) in
    let q = p + 1 + length inner in
    let tests = (expression test).code q in
    let test_long : length tests ≡ (expression test).size = expression_sized test q in
    let r = q + length tests in
    let first = plain N w p (Pay line) 0 0 rows refl (omega arith) refl refl refl in
    let second = narrowed N (holds (in_plain_loop around) within e c c (p + 1) (omega arith) body_fits)
    (λ instrs all turns. turn_gates around line p c c e c instrs all (omega arith) (omega arith) turns) in
    let third = freed N (value_labelled test around q 0 sound test_fits) in
    let fourth = jump_not_zero N w r p 0 rows (λ instrs all turns. turn_aim rows line p c c e r instrs all turns) in
    let is = Pay line ∷ (inner ++ (tests ++ JumpNotZero p ∷ [])) in
    sealed (gates around leave again limit) (more first (more second (more third fourth)))
    (λ instrs all code marks exit needs.
    let end : p + length is ≡ e =
    omega (arith, length-append inner (tests ++ JumpNotZero p ∷ []), length-append tests (JumpNotZero p ∷ [])) in
    let at_check = at_place all (label 0 rows) q c (omega arith) marks.1.1.0 in
    record {
      at_turn = marks.0;
      at_again = at_check;
      at_check = at_check;
      at_end = at_place all (label 0 rows) (p + length is) e end exit;
      pay = at_place instrs (Pay line) (p + 0) p (omega arith) (code.at 0 (Pay line) refl);
    })

-- `for`
for_labelled :
    (line : ℕ) (h : SlotHead) (body : List SlotStmt) (around : Around) (leave again limit p : ℕ)
    → IsSound around
    → HoldsBody h.first
    → HoldsBody body
    → p + (for_block line (head h) (statements body)).size ≤ limit
    → all_statements_fit around (map statement_fits h.first) ≡ true
    → optional_fits around h.test ≡ true
    → step_fits around h.step ≡ true
    → all_statements_fit (in_plain_loop around) (map statement_fits body) ≡ true
    → Inside around leave again limit p ((for_block line (head h) (statements body)).code leave again p)
for_labelled line h body around leave again limit p sound holds_first holds below first_fits test_fit step_fit fit_all =
    let w = around.widths in
    let rows = around.inputs in
    let within : IsSound (in_plain_loop around) = record { known = sound.known } in
    let begins = (statements h.first).size in
    let size = (statements body).size in
    let steps = (step_or_none h.step).size in
    let b = p + begins + 1 in
    let s = p + begins + 2 + size in
    let c = p + begins + 2 + size + steps in
    let e = p + begins + 3 + size + steps + (test_or_1 h.test).size in
    let N : List Instr → List Label → Type 0 =
    λ instrs all. Turns rows line b s c e instrs all × gates around leave again limit instrs all in
    let start = (statements h.first).code leave again p in
    let start_long : length start ≡ begins = statements_sized h.first leave again p in
    let o = p + length start in
    let inner = (statements body).code e s (o + 1 + 1) in
    let body_long : length inner ≡ size = statements_sized body e s (o + 1 + 1) in
    let q = o + 1 + 1 + length inner in
    let step = (step_or_none h.step).code q in
    let step_long : length step ≡ steps = step_sized h.step q in
    let r = q + length step in
    let tests = (test_or_1 h.test).code r in
    let test_long : length tests ≡ (test_or_1 h.test).size = test_sized h.test r in
    let u = r + length tests in
    let first = narrowed N (holds_first around sound leave again limit p (omega arith) first_fits)
    (λ instrs all needs. needs.1) in
    let second = jump N w o c 0 rows (label 0 rows)
    (λ instrs all needs. aim_forward instrs all rows o c 0 needs.0.at_check (omega arith)) in
    let third = plain N w (o + 1) (Pay line) 0 0 rows refl (omega arith) refl refl refl in
    let fourth = narrowed N (holds (in_plain_loop around) within e s s (o + 1 + 1) (omega arith) fit_all)
    (λ instrs all needs. turn_gates around line b s c e s instrs all (omega arith) (omega arith) needs.0) in
    let fifth = freed N (step_labelled h.step around q sound step_fit) in
    let sixth = freed N (test_labelled h.test around r sound test_fit) in
    let seventh = jump_not_zero N w u b 0 rows (λ instrs all needs. turn_aim rows line b s c e u instrs all needs.0) in
    let behind = Jump c ∷ Pay line ∷ (inner ++ (step ++ (tests ++ JumpNotZero b ∷ []))) in
    sealed (gates around leave again limit)
    (more first (more second (more third (more fourth (more fifth (more sixth seventh))))))
    (λ instrs all code marks exit needs.
    let end : p + length (start ++ behind) ≡ e = omega (
      arith,
      length-append start behind,
      length-append inner (step ++ (tests ++ JumpNotZero b ∷ [])),
      length-append step (tests ++ JumpNotZero b ∷ []),
      length-append tests (JumpNotZero b ∷ []),
    ) in (
      record {
        at_turn = at_place all (label 0 rows) (o + 1) b (omega arith) marks.1.1.0;
        at_again = at_place all (label 0 rows) q s (omega arith) marks.1.1.1.1.0;
        at_check = at_place all (label 0 rows) r c (omega arith) marks.1.1.1.1.1.0;
        at_end = at_place all (label 0 rows) (p + length (start ++ behind)) e end exit;
        pay = at_place instrs (Pay line) (p + (length start + 1)) b (omega arith)
            (code.at (length start + 1) (Pay line) (found_right start behind 1 (Pay line) refl));
      },
      needs,
    ))

-- ---- message loops

-- inputs without this one stay known where it is taken away
kept :
    (rows : List ℕ) (input : ℕ)
    → has_input rows input ≡ false
    → (k : ℕ)
    → has_input rows k ≡ true
    → (not (k == input) && has_input rows k) ≡ true
kept rows input away k there =
    let other : (k == input) ≡ false = false_from_ne_true (k == input)
    (λ same.
    both_ways (has_input rows input) away (subst (λ n. has_input rows n ≡ true) (eqb-true k input same) there)) in
    and_from (not (k == input)) (has_input rows k) (not_from_false (k == input) other) there

-- this input is known where it comes
come :
    (rows : List ℕ) (input k : ℕ) → has_input (input ∷ rows) k ≡ true → ((k == input) || has_input rows k) ≡ true
come rows input k there =
    ⊎_elim (λ same. or_left (k == input) (has_input rows k) (eq-eqb k input (sym (eqb-true input k same))))
    (λ e. or_right (k == input) (has_input rows k) e)
    (or_cases (input == k) (has_input rows k) there)

-- where a message loop has its places, and what stands there
record Messages (rows : List ℕ) (line input turn end : ℕ) (instrs : List Instr) (all : List Label) : Type 0 where
  at_turn : slice_get all turn ≡ Some (label 0 rows)
  at_end : slice_get all end ≡ Some (label 0 rows)
  next : slice_get instrs turn ≡ Some (Next line input end)

-- a jump back to the Next, which goes on behind the loop
message_turn :
    (rows : List ℕ) (line input turn end k : ℕ) (instrs : List Instr) (all : List Label)
    → k < end
    → Messages rows line input turn end instrs all
    → Aim instrs all (input ∷ rows) k turn 0
message_turn rows line input turn end k instrs all lt messages = record {
  behind = rows;
  at = messages.at_turn;
  known = λ j e. or_right (input == j) (has_input rows j) e;
  pays = or_right (nat_lt k turn) (option_map_or (spends k) (slice_get instrs turn) false)
      (ap (λ o. option_map_or (spends k) o false) messages.next ∙ lt-ltb k end lt);
}

-- a jump to the end of the loop
message_end :
    (rows : List ℕ) (line input turn end k : ℕ) (instrs : List Instr) (all : List Label)
    → k < end
    → Messages rows line input turn end instrs all
    → Aim instrs all (input ∷ rows) k end 0
message_end rows line input turn end k instrs all lt messages = record {
  behind = rows;
  at = messages.at_end;
  known = λ j e. or_right (input == j) (has_input rows j) e;
  pays = or_left (nat_lt k end) (option_map_or (spends k) (slice_get instrs end) false) (lt-ltb k end lt);
}

-- in a loop over an input that input is known too
sound_inside :
    (input : ℕ) (around : Around)
    → IsSound around
    → nat_lt input (length around.widths.inputs) ≡ true
    → IsSound (in_input_loop input around)
sound_inside input around sound there = record {
  known = λ k e.
      ⊎_elim (λ same. subst (λ n. nat_lt n (length around.widths.inputs) ≡ true) (eqb-true input k same) there)
      (λ inside. sound.known k inside) (or_cases (input == k) (is_inside k around) e);
}

-- a message loop
loop_labelled :
    (line input : ℕ) (body : List SlotStmt) (around : Around) (leave again limit p : ℕ)
    → IsSound around
    → HoldsBody body
    → nat_lt input (length around.widths.inputs) ≡ true
    → is_inside input around ≡ false
    → all_statements_fit (in_input_loop input around) (map statement_fits body) ≡ true
    → Inside around leave again limit p ((loop_block line input (statements body)).code leave again p)
loop_labelled line input body around leave again limit p sound holds there away body_fits =
    let w = around.widths in
    let rows = around.inputs in
    let size = (statements body).size in
    let b = p + 1 in
    let t = p + 3 + size in
    let N : List Instr → List Label → Type 0 = λ instrs all. Messages rows line input b t instrs all in
    let inner = (statements body).code t b (p + 1 + 1) in
    let body_long : length inner ≡ size = statements_sized body t b (p + 1 + 1) in
    let r = p + 1 + 1 + length inner in
    let first = single N w p (Enter input) (label 0 rows) (label 0 rows) (omega arith) refl there refl
    (level w (Enter input) 0 0 rows rows (has_passed (Enter input) rows) refl (kept rows input away))
    (λ instrs all needs. refl) in
    let second = single N w (p + 1) (Next line input t) (label 0 rows) (label 0 (input ∷ rows)) (omega arith) refl there
    (lt-ltb (p + 1) t (omega arith))
    (level w (Next line input t) 0 0 rows (input ∷ rows) (has_passed (Next line input t) rows) refl (come rows input))
    (λ instrs all needs.
    aimed w instrs all (Next line input t) rows (p + 1) t 0 0 refl (kept rows input away)
    (aim_forward instrs all rows (p + 1) t 0 needs.at_end (omega arith))) in
    let third = narrowed N
    (holds (in_input_loop input around) (sound_inside input around sound there) t b (p + 2 + size) (p + 1 + 1)
    (omega arith) body_fits)
    (λ instrs all needs open_ k lt. (
      message_end rows line input b t k instrs all (omega arith) needs,
      message_turn rows line input b t k instrs all (omega arith) needs,
    )) in
    let fourth = jump N w r b 0 (input ∷ rows) (label 0 rows)
    (λ instrs all needs. message_turn rows line input b t r instrs all (omega arith) needs) in
    let fifth = single N w (r + 1) (Leave input) (label 0 rows) (label 0 rows) (omega arith) refl there refl
    (level w (Leave input) 0 0 rows rows (has_passed (Leave input) rows) refl (kept rows input away))
    (λ instrs all needs. refl) in
    sealed (gates around leave again limit) (more first (more second (more third (more fourth fifth))))
    (λ instrs all code marks exit needs. record {
      at_turn = marks.1.0;
      at_end = at_place all (label 0 rows) (r + 1) t (omega arith) marks.1.1.1.1.0;
      next = code.at 1 (Next line input t) refl;
    })

-- ---- `if`

-- a jump to the end of an `if` may be needed too
abbrev ending : Around → ℕ → ℕ → ℕ → ℕ → List Instr → List Label → Type 0
ending around leave again limit e instrs all =
    (slice_get all e ≡ Some (label 0 around.inputs)) × gates around leave again limit instrs all

-- a test and its body
arm_labelled :
    (a : SlotArm) (around : Around) (leave again limit e p : ℕ)
    → IsSound around
    → HoldsBody a.body
    → p + arm_size (arm a) ≤ limit
    → p + arm_size (arm a) ≤ e
    → arm_fits a around ≡ true
    → Labelled (ending around leave again limit e) around.widths p ((arm_piece (arm a) leave again e).code p)
    (label 0 around.inputs) (label 0 around.inputs) []
arm_labelled a around leave again limit e p sound holds below before a_fits =
    let w = around.widths in
    let rows = around.inputs in
    let parts = and_parts (fits around a.test) (all_statements_fit around (map statement_fits a.body)) a_fits in
    let n = p + arm_size (arm a) in
    let N : List Instr → List Label → Type 0 =
    λ instrs all. (slice_get all n ≡ Some (label 0 rows)) × ending around leave again limit e instrs all in
    let tests = (expression a.test).code p in
    let test_long : length tests ≡ (expression a.test).size = expression_sized a.test p in
    let q = p + length tests in
    let inner = (statements a.body).code leave again (q + 1) in
    let body_long : length inner ≡ (statements a.body).size = statements_sized a.body leave again (q + 1) in
    let r = q + 1 + length inner in
    let first = freed N (value_labelled a.test around p 0 sound parts.0) in
    let second = jump_zero N w q n 0 rows
    (λ instrs all needs. aim_forward instrs all rows q n 0 needs.0 (omega arith)) in
    let third = narrowed N (holds around sound leave again limit (q + 1) (omega arith) parts.1)
    (λ instrs all needs. needs.1.1) in
    let fourth = jump N w r e 0 rows (label 0 rows)
    (λ instrs all needs. aim_forward instrs all rows r e 0 needs.1.0 (omega arith)) in
    let is = tests ++ (JumpZero n ∷ (inner ++ Jump e ∷ [])) in
    sealed (ending around leave again limit e) (more first (more second (more third fourth)))
    (λ instrs all code marks exit needs.
    let end : p + length is ≡ n =
    omega (arith, length-append tests (JumpZero n ∷ (inner ++ Jump e ∷ [])), length-append inner (Jump e ∷ [])) in
    (at_place all (label 0 rows) (p + length is) n end exit, needs))

-- an arm is as long as its size says
arm_long :
    (a : SlotArm) (leave again e p : ℕ) → length ((arm_piece (arm a) leave again e).code p) ≡ arm_size (arm a)
arm_long a leave again e p =
    arm_sized (arm a) (expression_sized a.test) (statements_sized a.body) leave again (p + arm_size (arm a)) e p

-- so are arms
pub arms_long :
    (arms : List SlotArm) (leave again e p : ℕ)
    → length ((arms_code (map arm arms) leave again e).code p) ≡ arms_size (map arm arms)
arms_long [] leave again e p = refl
arms_long (a ∷ arms) leave again e p =
    let front = (arm_piece (arm a) leave again e).code p in
    omega (
      arith,
      length-append front ((arms_code (map arm arms) leave again e).code (p + length front)),
      arm_long a leave again e p,
      arms_long arms leave again e (p + length front),
    )

-- arms, each with its jump to the end
arms_labelled :
    (arms : List ((a : SlotArm) × HoldsArm a)) (around : Around) (leave again limit e p : ℕ)
    → IsSound around
    → p + arms_size (map arm (bare_arms arms)) ≤ limit
    → p + arms_size (map arm (bare_arms arms)) ≤ e
    → all_statements_fit around (map arm_fits (bare_arms arms)) ≡ true
    → Labelled (ending around leave again limit e) around.widths p
    ((arms_code (map arm (bare_arms arms)) leave again e).code p) (label 0 around.inputs) (label 0 around.inputs) []
arms_labelled [] around leave again limit e p sound below before all_fit_it =
    nothing (ending around leave again limit e) around.widths p (label 0 around.inputs)
arms_labelled (a ∷ arms) around leave again limit e p sound below before all_fit_it =
    let parts = and_parts (arm_fits a.0 around) (all_statements_fit around (map arm_fits (bare_arms arms)))
    all_fit_it in
    let front = (arm_piece (arm a.0) leave again e).code p in
    let long : length front ≡ arm_size (arm a.0) = arm_long a.0 leave again e p in
    joined (arm_labelled a.0 around leave again limit e p sound a.1 (omega arith) (omega arith) parts.0)
    (arms_labelled arms around leave again limit e (p + length front) sound (omega arith) (omega arith) parts.1)

-- `if`
if_labelled :
    (arms : List ((a : SlotArm) × HoldsArm a)) (otherwise : List SlotStmt) (around : Around)
    (leave again limit p : ℕ)
    → IsSound around
    → HoldsBody otherwise
    → p + (arms_size (map arm (bare_arms arms)) + (statements otherwise).size) ≤ limit
    → all_statements_fit around (map arm_fits (bare_arms arms)) ≡ true
    → all_statements_fit around (map statement_fits otherwise) ≡ true
    → Inside around leave again limit p
    ((if_block (map arm (bare_arms arms)) (statements otherwise)).code leave again p)
if_labelled arms otherwise around leave again limit p sound holds below arms_fit otherwise_fits =
    let rows = around.inputs in
    let e = p + arms_size (map arm (bare_arms arms)) + (statements otherwise).size in
    let front = (arms_code (map arm (bare_arms arms)) leave again e).code p in
    let front_long : length front ≡ arms_size (map arm (bare_arms arms)) = arms_long (bare_arms arms) leave again e p in
    let q = p + length front in
    let rest = (statements otherwise).code leave again q in
    let rest_long : length rest ≡ (statements otherwise).size = statements_sized otherwise leave again q in
    let first = arms_labelled arms around leave again limit e p sound (omega arith) (omega arith) arms_fit in
    let second = narrowed (ending around leave again limit e)
    (holds around sound leave again limit q (omega arith) otherwise_fits) (λ instrs all needs. needs.1) in
    sealed (gates around leave again limit) (more first second)
    (λ instrs all code marks exit needs.
    let end : p + length (front ++ rest) ≡ e = omega (arith, length-append front rest) in
    (at_place all (label 0 rows) (p + length (front ++ rest)) e end exit, needs))

-- ---- every statement

-- by what a statement becomes
by_form :
    (s : SlotStmt) (block : Block)
    → statement s ≡ block
    → ((around : Around) → IsSound around → (leave again limit p : ℕ) → p + block.size ≤ limit
    → statement_fits s around ≡ true → Inside around leave again limit p (block.code leave again p))
    → Holds s
by_form s block is holds =
    subst
    (λ (b : Block). (around : Around) → IsSound around → (leave again limit p : ℕ) → p + b.size ≤ limit
    → statement_fits s around ≡ true → Inside around leave again limit p (b.code leave again p))
    (sym is) holds

-- of one without `break` and `continue`
by_piece :
    (s : SlotStmt) (piece : Piece)
    → statement s ≡ plain_block piece
    → ((around : Around) → IsSound around → (p : ℕ) → statement_fits s around ≡ true → Level around p piece)
    → Holds s
by_piece s piece is holds =
    by_form s (plain_block piece) is
    (λ around sound leave again limit p below s_fits.
    freed (gates around leave again limit) (holds around sound p s_fits))

-- a form with its parts alone
abbrev firsts :
    SlotStmt-F ((s : SlotStmt) × Holds s) ((a : SlotArm) × HoldsArm a) ((h : SlotHead) × HoldsHead h)
    → SlotStmt-F SlotStmt SlotArm SlotHead
firsts =
    map-SlotStmt ((s : SlotStmt) × Holds s) ((a : SlotArm) × HoldsArm a) ((h : SlotHead) × HoldsHead h)
    SlotStmt SlotArm SlotHead (λ s. s.0) (λ a. a.0) (λ h. h.0)

-- each form has labels where its parts have
layer_labelled :
    (y : SlotStmt-F ((s : SlotStmt) × Holds s) ((a : SlotArm) × HoldsArm a) ((h : SlotHead) × HoldsHead h))
    → Holds (roll-SlotStmt (firsts y))
layer_labelled SlotStmt-F.Empty =
    subst Holds (sym rolls-Empty)
    (by_piece Empty (row []) statement-Empty
    (λ around sound p s_fits. nothing no_needs around.widths p (label 0 around.inputs)))
layer_labelled (SlotStmt-F.Declare items) =
    subst Holds (sym (rolls-Declare items))
    (by_piece (Declare items) (in_order (map item items)) (statement-Declare items)
    (λ around sound p s_fits. items_labelled items around p sound (sym (fits-Declare around items) ∙ s_fits)))
layer_labelled (SlotStmt-F.Assign a) =
    subst Holds (sym (rolls-Assign a))
    (by_piece (Assign a) (assignment a) (statement-Assign a)
    (λ around sound p s_fits. assignment_labelled a around p sound (sym (fits-Assign around a) ∙ s_fits)))
layer_labelled (SlotStmt-F.Call d es) =
    subst Holds (sym (rolls-Call d es))
    (by_piece (stmt.Call d es) (both (arguments es) (deed d (length es))) (statement-Call d es)
    (λ around sound p s_fits. deed_labelled d es around p sound (sym (fits-Call around d es) ∙ s_fits)))
layer_labelled (SlotStmt-F.Block body) =
    let inner = bare body in
    subst Holds (sym (rolls-Block inner))
    (by_form (stmt.Block inner) (statements inner) (statement-Block inner)
    (λ around sound leave again limit p below s_fits.
    body_labelled body around sound leave again limit p below (sym (fits-Block around inner) ∙ s_fits)))
layer_labelled (SlotStmt-F.If tests otherwise) =
    let arms = bare_arms tests in
    let inner = bare otherwise in
    subst Holds (sym (rolls-If arms inner))
    (by_form (If arms inner) (if_block (map arm arms) (statements inner)) (statement-If arms inner)
    (λ around sound leave again limit p below s_fits.
    let parts = and_parts (all_statements_fit around (map arm_fits arms))
    (all_statements_fit around (map statement_fits inner))
    (sym (fits-If around arms inner) ∙ s_fits) in
    if_labelled tests inner around leave again limit p sound (body_labelled otherwise) below parts.0 parts.1))
layer_labelled (SlotStmt-F.While line test body) =
    let inner = bare body in
    subst Holds (sym (rolls-While line test inner))
    (by_form (While line test inner) (while_block line (expression test) (statements inner))
    (statement-While line test inner)
    (λ around sound leave again limit p below s_fits.
    let parts = and_parts (fits around test) (all_statements_fit (in_plain_loop around) (map statement_fits inner))
    (sym (fits-While around line test inner) ∙ s_fits) in
    while_labelled line test inner around leave again limit p sound (body_labelled body) parts.0 parts.1))
layer_labelled (SlotStmt-F.For line h body) =
    let inner = bare body in
    subst Holds (sym (rolls-For line h.0 inner))
    (by_form (For line h.0 inner) (for_block line (head h.0) (statements inner)) (statement-For line h.0 inner)
    (λ around sound leave again limit p below s_fits.
    let begin = all_statements_fit around (map statement_fits h.0.first) in
    let test = optional_fits around h.0.test in
    let step = step_fits around h.0.step in
    let parts = and_parts (begin && test && step) (all_statements_fit (in_plain_loop around) (map statement_fits inner))
    (sym (fits-For around line h.0 inner) ∙ s_fits) in
    let heads = and_parts (begin && test) step parts.0 in
    let both_of = and_parts begin test heads.0 in
    for_labelled line h.0 inner around leave again limit p sound h.1 (body_labelled body) below both_of.0 both_of.1
    heads.1 parts.1))
layer_labelled (SlotStmt-F.Do line body test) =
    let inner = bare body in
    subst Holds (sym (rolls-Do line inner test))
    (by_form (Do line inner test) (do_block line (statements inner) (expression test)) (statement-Do line inner test)
    (λ around sound leave again limit p below s_fits.
    let parts = and_parts (all_statements_fit (in_plain_loop around) (map statement_fits inner)) (fits around test)
    (sym (fits-Do around line inner test) ∙ s_fits) in
    do_labelled line inner test around leave again limit p sound (body_labelled body) parts.0 parts.1))
layer_labelled (SlotStmt-F.Loop line input body) =
    let inner = bare body in
    subst Holds (sym (rolls-Loop line input inner))
    (by_form (Loop line input inner) (loop_block line input (statements inner)) (statement-Loop line input inner)
    (λ around sound leave again limit p below s_fits.
    let there = nat_lt input (length around.widths.inputs) in
    let parts = and_parts (there && not (is_inside input around))
    (all_statements_fit (in_input_loop input around) (map statement_fits inner))
    (sym (fits-Loop around line input inner) ∙ s_fits) in
    let starts = and_parts there (not (is_inside input around)) parts.0 in
    loop_labelled line input inner around leave again limit p sound (body_labelled body) starts.0
    (not-true (is_inside input around) starts.1) parts.1))
layer_labelled (SlotStmt-F.Return e) =
    subst Holds (sym (rolls-Return e))
    (by_piece (stmt.Return e) (both (expression e) (one Return)) (statement-Return e)
    (λ around sound p s_fits.
    joined (value_labelled e around p 0 sound (sym (fits-Return around e) ∙ s_fits))
    (single no_needs around.widths (p + length ((expression e).code p)) Return (label (0 + 1) around.inputs)
    (label 0 around.inputs) (omega arith) refl refl refl refl (λ instrs all needs. refl))))
layer_labelled SlotStmt-F.Break =
    subst Holds (sym rolls-Break)
    (by_form Break break_block statement-Break
    (λ around sound leave again limit p below s_fits.
    jump (gates around leave again limit) around.widths p leave 0 around.inputs (label 0 around.inputs)
    (λ instrs all needs. (needs (sym (fits-Break around) ∙ s_fits) p (omega arith)).0)))
layer_labelled SlotStmt-F.Continue =
    subst Holds (sym rolls-Continue)
    (by_form Continue continue_block statement-Continue
    (λ around sound leave again limit p below s_fits.
    jump (gates around leave again limit) around.widths p again 0 around.inputs (label 0 around.inputs)
    (λ instrs all needs. (needs (sym (fits-Continue around) ∙ s_fits) p (omega arith)).1)))

-- a statement that fits has labels
pub statement_labelled : (s : SlotStmt) → Holds s
statement_labelled =
    ind-SlotStmt Holds HoldsArm HoldsHead
    (λ x y e. subst (λ z. Holds (roll-SlotStmt z)) e (layer_labelled y))
    (λ x y e. subst HoldsBody (λ i. (e i).body) (body_labelled y.body))
    (λ x y e. subst HoldsBody (λ i. (e i).first) (body_labelled y.first))

-- so have statements
pub statements_labelled : (body : List SlotStmt) → HoldsBody body
statements_labelled [] around sound leave again limit p below all_fit_it =
    nothing (gates around leave again limit) around.widths p (label 0 around.inputs)
statements_labelled (s ∷ body) around sound leave again limit p below all_fit_it =
    let parts = and_parts (statement_fits s around) (all_statements_fit around (map statement_fits body)) all_fit_it in
    let long = statement_sized s leave again p in
    joined (statement_labelled s around sound leave again limit p (omega arith) parts.0)
    (statements_labelled body around sound leave again limit (p + length ((statement s).code leave again p))
    (omega arith) parts.1)
