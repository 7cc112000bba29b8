-- How runs go on, instruction by instruction.
use Rattle.std.proofs.Common.{◌≡◌, ℕ, ◌+◌, Bool, true, false, not, cond, List, [], ◌∷◌, ◌++◌, length, Some, refl, sym, ap, ◌∙◌, subst, arith}
use Rattle.std.specs.Prelude.{ℤ, Result, Ok, Err, slice_get}
use Rattle.flame_ops.specs.declared.integers.Cause.{Cause}
use Rattle.flame_spec.specs.declared.faults.Fault.{Fault}
use Rattle.flame_code.specs.declared.instrs.Instr.{Instr}
use Rattle.flame_code.specs.Machine.{Config, faulted, on, over, push_held, act}
use Rattle.flame_code.specs.Meanings.{last, more}
use Rattle.flame_compile.proofs.Labelled.{found_left, found_right}
use Rattle.flame_meaning.specs.Expressions.{on_value, at_line, one_of, values_and}
use Rattle.flame_code_laws.specs.CodeRuns.{Running, HasAt, at, pushed, Ends, Leads, Gives}

-- ---- where parts stand

-- the first of two parts stands where both do
pub has_left :
    (run : Running) (p : ℕ) (a b : List Instr) → HasAt run p (a ++ b) → HasAt run p a
has_left run p a b has = λ k i e. has k i (found_left a b k i e)

-- the second stands behind the first
pub has_right :
    (run : Running) (p : ℕ) (a b : List Instr) → HasAt run p (a ++ b) → HasAt run (p + length a) b
has_right run p a b has = λ k i e.
    let place : p + (length a + k) ≡ p + length a + k = omega arith in
    subst (λ q. slice_get run.routine.instrs q ≡ Some i) place (has (length a + k) i (found_right a b k i e))

-- the first instruction of a part stands where the part does
pub has_first :
    (run : Running) (p : ℕ) (i : Instr) (part : List Instr)
    → HasAt run p (i ∷ part) → slice_get run.routine.instrs p ≡ Some i
has_first run p i part has =
    let place : p + 0 ≡ p = omega arith in
    subst (λ q. slice_get run.routine.instrs q ≡ Some i) place (has 0 i refl)

-- the others stand behind it
pub has_rest :
    (run : Running) (p : ℕ) (i : Instr) (part : List Instr) → HasAt run p (i ∷ part) → HasAt run (p + 1) part
has_rest run p i part has = has_right run p (i ∷ []) part has

-- ---- one behind another

-- the value on the stack, at this place
abbrev pub valued : ℕ → List ℤ → Config → ℤ → Config
valued p stack c v = at p (v ∷ stack) c

-- the numbers on the stack, at this place
abbrev pub numbered : ℕ → List ℤ → Config → List ℤ → Config
numbered p stack c vs = at p (pushed vs stack) c

-- what leads to where something is given gives it too
pub led :
    {X : Type 0} (run : Running) (c d : Config) (next : X → Config) (x : Result X Fault)
    → Leads run c d → Gives run d next x → Gives run c next x
led run c d next (Ok v) leads gives = λ e h. leads e (gives e h)
led run c d next (Err fault) leads ends = leads (faulted fault) ends

-- a value, and what is given behind it
pub valued_then :
    (run : Running) (c : Config) (middle next : ℤ → Config) (x : Result ℤ Fault) (f : ℤ → Result ℤ Fault)
    → Gives run c middle x
    → ((v : ℤ) → Gives run (middle v) next (f v))
    → Gives run c next (on_value x f)
valued_then run c middle next (Ok v) f first second = led run c (middle v) next (f v) first (second v)
valued_then run c middle next (Err fault) f first second = first

-- a value as the one number
pub one_given :
    (run : Running) (d c : Config) (p : ℕ) (stack : List ℤ) (x : Result ℤ Fault)
    → Gives run d (valued p stack c) x → Gives run d (numbered p stack c) (one_of x)
one_given run d c p stack (Ok v) gives = gives
one_given run d c p stack (Err fault) gives = gives

-- numbers behind numbers on the stack
pub pushed_append : (vs ws stack : List ℤ) → pushed ws (pushed vs stack) ≡ pushed (vs ++ ws) stack
pushed_append [] ws stack = refl
pushed_append (v ∷ vs) ws stack = pushed_append vs ws (v ∷ stack)

-- numbers, and numbers behind them
pub numbers_then :
    (run : Running) (d c : Config) (p q : ℕ) (stack : List ℤ) (x y : Result (List ℤ) Fault)
    → Gives run d (numbered p stack c) x
    → ((vs : List ℤ) → Gives run (at p (pushed vs stack) c) (numbered q (pushed vs stack) c) y)
    → Gives run d (numbered q stack c) (values_and x y)
numbers_then run d c p q stack (Err fault) y first second = first
numbers_then run d c p q stack (Ok vs) (Err fault) first second = first (faulted fault) (second vs)
numbers_then run d c p q stack (Ok vs) (Ok ws) first second = λ e h.
    first e (second vs e (subst (λ st. Ends run (at q st c) e) (sym (pushed_append vs ws stack)) h))

-- the same, where the place at the end is written in another way
pub value_moved :
    (run : Running) (d c : Config) (p q : ℕ) (stack : List ℤ) (x : Result ℤ Fault)
    → p ≡ q → Gives run d (valued p stack c) x → Gives run d (valued q stack c) x
value_moved run d c p q stack x e gives = subst (λ k. Gives run d (valued k stack c) x) e gives

-- so with numbers
pub numbers_moved :
    (run : Running) (d c : Config) (p q : ℕ) (stack : List ℤ) (x : Result (List ℤ) Fault)
    → p ≡ q → Gives run d (numbered p stack c) x → Gives run d (numbered q stack c) x
numbers_moved run d c p q stack x e gives = subst (λ k. Gives run d (numbered k stack c) x) e gives

-- ---- single steps

-- an instruction that goes on
pub performed :
    (run : Running) (c d : Config) (i : Instr)
    → slice_get run.routine.instrs c.place ≡ Some i
    → act run.given run.routine.widths (Some i) c ≡ on d
    → Leads run c d
performed run c d i there does = λ e h.
    more (ap (λ o. act run.given run.routine.widths o c) there ∙ does) h

-- an instruction that is a fault
pub failed :
    (run : Running) (c : Config) (i : Instr) (fault : Fault)
    → slice_get run.routine.instrs c.place ≡ Some i
    → act run.given run.routine.widths (Some i) c ≡ over (faulted fault)
    → Ends run c (faulted fault)
failed run c i fault there does = last (ap (λ o. act run.given run.routine.widths o c) there ∙ does)

-- an instruction that pushes a value, or whose cause is a fault of its line
pub held :
    (run : Running) (c : Config) (p : ℕ) (from stack : List ℤ) (i : Instr) (line : ℕ) (x : Result ℤ Cause)
    → slice_get run.routine.instrs p ≡ Some i
    → act run.given run.routine.widths (Some i) (at p from c) ≡ push_held line x stack (at p from c)
    → Gives run (at p from c) (valued (p + 1) stack c) (at_line line x)
held run c p from stack i line (Ok v) there does =
    performed run (at p from c) (at (p + 1) (v ∷ stack) c) i there does
held run c p from stack i line (Err cause) there does =
    failed run (at p from c) i (record { cause = cause; line = line }) there does

-- an instruction that goes on at two places by a test; where it holds the second value is given, and else the first
pub branched :
    (run : Running) (c zero_c other_c : Config) (next : ℤ → Config) (i : Instr) (b : Bool) (x y : Result ℤ Fault)
    → slice_get run.routine.instrs c.place ≡ Some i
    → act run.given run.routine.widths (Some i) c ≡ cond b (on zero_c) (on other_c)
    → Gives run other_c next x
    → Gives run zero_c next y
    → Gives run c next (cond (not b) x y)
branched run c zero_c other_c next i true x y there does other zero_gives =
    led run c zero_c next y (performed run c zero_c i there does) zero_gives
branched run c zero_c other_c next i false x y there does other zero_gives =
    led run c other_c next x (performed run c other_c i there does) other
