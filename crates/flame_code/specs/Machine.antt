-- The machine, one step at a time.
use Rattle.std.specs.Prelude.{ℕ, zero, suc, ◌+◌, ◌==◌, ℤ, pos, negsuc, List, [], ◌∷◌, ◌++◌, length, take, drop, reverse}
use Rattle.std.specs.Prelude.{nat_lt, nat_le, Bool, true, false, if◌then◌else◌, Option, Some, None, Result, Ok, Err}
use Rattle.std.specs.Prelude.{slice_get, slice_set, slice_index}
use Rattle.std.specs.Ordering.{int_eq}
use Rattle.flame_ops.specs.declared.integers.Cause.{Cause}
use Rattle.flame_ops.specs.declared.integers.Cause.TheVariants.{Fuel, BadIndex}
use Rattle.flame_ops.specs.declared.integers.Op.{Op}
use Rattle.flame_ops.specs.declared.integers.Op.TheVariants as op
use Rattle.flame_ops.specs.Integers.{applied, negated, truth}
use Rattle.flame_spec.specs.declared.faults.Fault.{Fault}
use Rattle.flame_spec.specs.declared.outcomes.Widths.{Widths}
use Rattle.flame_spec.specs.declared.outcomes.Sent.{Sent}
use Rattle.flame_spec.specs.declared.outcomes.Born.{Born}
use Rattle.flame_spec.specs.Conditions.{number_at}
use Rattle.flame_code.specs.declared.instrs.Instr.{Instr}
use Rattle.flame_code.specs.declared.instrs.Instr.TheVariants.{Push, Dup, Drop, Loc, SetLoc, Mem, SetMem, MemAt, SetMemAt}
use Rattle.flame_code.specs.declared.instrs.Instr.TheVariants.{Const, Iter, Field, FieldAt, Neg, Not, Add, Sub, Mul, Div, Rem}
use Rattle.flame_code.specs.declared.instrs.Instr.TheVariants.{Lt, Gt, Le, Ge, Eq, Ne, Jump, JumpZero, JumpNotZero, Pay}
use Rattle.flame_code.specs.declared.instrs.Instr.TheVariants.{Enter, Next, Leave, Send, Bear, Call, Return}
use Rattle.flame_code.specs.Feeds.{Fed, at_start, has_next, at_next, field}
use Rattle.flame_code.specs.Routines.{Routine}

-- ---- what a run goes through

-- the locals: one that nothing has set yet is 0 [C, 6.7.9; without a value: own]
abbrev pub Locals : Type 0
Locals = ℕ → ℤ

-- the first locals have these values [C, 6.5.2.2]
abbrev pub first_locals : List ℤ → Locals
first_locals values = λ s. number_at values s

-- the local has the value [C, 6.5.16]
abbrev pub set_local : ℕ → ℤ → Locals → Locals
set_local s v locals = λ k. if k == s then v else locals k

-- what is given for the whole of a run: the constants and the iteration's number [FLAME User Manual]
pub record Given : Type 0 where
  pub constants : List ℤ
  pub iteration : ℤ

-- where a run stands: its place in the code, its stack with the top first, its locals and memory, the messages and births
-- that were added, in order, the rows of its inputs, and the fuel that is left [own]
pub record Config : Type 0 where
  pub place : ℕ
  pub stack : List ℤ
  pub locals : Locals
  pub memory : List ℤ
  pub sent : List Sent
  pub born : List Born
  pub feeds : List Fed
  pub fuel : ℕ

-- how a run ends: it returned a value and left this, or it faulted [own]
pub data End : Type 0 where
  returned : ℤ → Config → End
  faulted : Fault → End

-- what a step comes to: it goes on, it is over, it calls a helper with arguments and goes on from there with what that
-- returns, or no step is possible [own]
pub data StepEnd : Type 0 where
  on : Config → StepEnd
  over : End → StepEnd
  calls : ℕ → List ℤ → Config → StepEnd
  stuck : StepEnd

-- ---- words for steps

-- on to the next place, with this stack [own]
abbrev pub next : List ℤ → Config → StepEnd
next stack c = on (record c { place = c.place + 1; stack = stack })

-- on to this place, with this stack [own]
abbrev pub goto : ℕ → List ℤ → Config → StepEnd
goto place stack c = on (record c { place = place; stack = stack })

-- a fault with its line [own]
abbrev pub fault : Cause → ℕ → StepEnd
fault cause line = over (faulted (record { cause = cause; line = line }))

-- one value is popped [own]
abbrev pub with_top : List ℤ → (ℤ → List ℤ → StepEnd) → StepEnd
with_top [] go = stuck
with_top (v ∷ stack) go = go v stack

-- two values are popped, of which the second was on top [own]
abbrev pub with_two : List ℤ → (ℤ → ℤ → List ℤ → StepEnd) → StepEnd
with_two [] go = stuck
with_two (w ∷ []) go = stuck
with_two (w ∷ v ∷ stack) go = go v w stack

-- so many values are popped, of which the last was on top [own]
abbrev pub with_row : ℕ → List ℤ → (List ℤ → List ℤ → StepEnd) → StepEnd
with_row n stack go = if nat_le n (length stack) then go (reverse (take n stack)) (drop n stack) else stuck

-- the value is pushed, or its cause is a fault of this line [own]
abbrev pub push_held : ℕ → Result ℤ Cause → List ℤ → Config → StepEnd
push_held line (Ok v) stack c = next (v ∷ stack) c
push_held line (Err cause) stack c = fault cause line

-- the value of an operator is pushed in place of its operands [C, 6.5]
abbrev pub operate : Op → ℕ → Config → StepEnd
operate o line c = with_two c.stack (λ v w stack. push_held line (applied o v w) stack c)

-- the truth of a comparison is pushed in place of its operands [C, 6.5.8; C, 6.5.9]
abbrev pub compare : Op → Config → StepEnd
compare o c = operate o 0 c

-- a jump for a value that is 0, and another for one that is not [own]
abbrev pub by_zero : ℤ → StepEnd → StepEnd → StepEnd
by_zero v zero_turn other_turn = if int_eq v (pos 0) then zero_turn else other_turn

-- the column of an element of the array of n columns from c on, where the index is one of its [C, 6.5.2.1]
abbrev pub element_of : ℕ → ℕ → ℤ → Option ℕ
element_of c n (pos k) = if nat_lt k n then Some (c + k) else None
element_of c n (negsuc k) = None

-- the element's column goes on; an index that is none of the array's is a fault [own]
abbrev pub with_element : ℕ → Option ℕ → (ℕ → StepEnd) → StepEnd
with_element line None go = fault BadIndex line
with_element line (Some column) go = go column

-- the number of a row that is there is pushed [own]
abbrev pub push_found : Option ℤ → List ℤ → Config → StepEnd
push_found None stack c = stuck
push_found (Some v) stack c = next (v ∷ stack) c

-- the column of the memory has the value [FLAME User Manual]
abbrev pub store : ℕ → ℤ → List ℤ → Config → StepEnd
store column v stack c =
    on (record c { place = c.place + 1; stack = stack; memory = slice_set c.memory column v })

-- one unit is paid before it goes on; without one it is a fault [own]
abbrev pub pay_from : ℕ → ℕ → Config → (Config → StepEnd) → StepEnd
pay_from zero line c go = fault Fuel line
pay_from (suc f) line c go = go (record c { fuel = f })

-- one unit is paid from the fuel that is left [own]
abbrev pub pay : ℕ → Config → (Config → StepEnd) → StepEnd
pay line c go = pay_from c.fuel line c go

-- a row that came is paid for; where none came the run goes on at the place behind the loop [libmboard; fuel: own]
abbrev pub deliver : Bool → ℕ → ℕ → Config → StepEnd
deliver true line to c = pay line c (λ d. next d.stack d)
deliver false line to c = goto to c.stack c

-- ---- the step

-- one instruction; where there is none, no step is possible [own]
-- ORDER INSTRUCTIONS
abbrev pub act : Given → Widths → Option Instr → Config → StepEnd
act g w None c = stuck
act g w (Some (Push n)) c = next (n ∷ c.stack) c
act g w (Some Dup) c = with_top c.stack (λ v stack. next (v ∷ v ∷ stack) c)
act g w (Some Drop) c = with_top c.stack (λ v stack. next stack c)
act g w (Some (Loc s)) c = next (c.locals s ∷ c.stack) c
act g w (Some (SetLoc s)) c =
    with_top c.stack (λ v stack. on (record c { place = c.place + 1; stack = stack; locals = set_local s v c.locals }))
act g w (Some (Mem v)) c = next (number_at c.memory v ∷ c.stack) c
act g w (Some (SetMem m)) c = with_top c.stack (λ v stack. store m v stack c)
act g w (Some (MemAt l b n)) c =
    with_top c.stack (λ i stack. with_element l (element_of b n i) (λ m. next (number_at c.memory m ∷ stack) c))
act g w (Some (SetMemAt l b n)) c =
    with_two c.stack (λ i v stack. with_element l (element_of b n i) (λ m. store m v stack c))
act g w (Some (Const b)) c = next (number_at g.constants b ∷ c.stack) c
act g w (Some Iter) c = next (g.iteration ∷ c.stack) c
act g w (Some (Field i v)) c = push_found (field i v c.feeds) c.stack c
act g w (Some (FieldAt l i b n)) c =
    with_top c.stack (λ k stack. with_element l (element_of b n k) (λ v. push_found (field i v c.feeds) stack c))
act g w (Some (Neg l)) c = with_top c.stack (λ v stack. push_held l (negated v) stack c)
act g w (Some Not) c = with_top c.stack (λ v stack. next (truth (int_eq v (pos 0)) ∷ stack) c)
act g w (Some (Add l)) c = operate op.Add l c
act g w (Some (Sub l)) c = operate op.Sub l c
act g w (Some (Mul l)) c = operate op.Mul l c
act g w (Some (Div l)) c = operate op.Div l c
act g w (Some (Rem l)) c = operate op.Rem l c
act g w (Some Lt) c = compare op.Lt c
act g w (Some Gt) c = compare op.Gt c
act g w (Some Le) c = compare op.Le c
act g w (Some Ge) c = compare op.Ge c
act g w (Some Eq) c = compare op.Eq c
act g w (Some Ne) c = compare op.Ne c
act g w (Some (Jump t)) c = goto t c.stack c
act g w (Some (JumpZero t)) c = with_top c.stack (λ v stack. by_zero v (goto t stack c) (next stack c))
act g w (Some (JumpNotZero t)) c = with_top c.stack (λ v stack. by_zero v (next stack c) (goto t stack c))
act g w (Some (Pay l)) c = pay l c (λ d. next d.stack d)
act g w (Some (Enter i)) c = next c.stack (record c { feeds = at_start i c.feeds })
act g w (Some (Next l i t)) c = deliver (has_next i c.feeds) l t (record c { feeds = at_next i c.feeds })
act g w (Some (Leave i)) c = next c.stack c
act g w (Some (Send m)) c =
    with_row (slice_index w.messages m) c.stack (λ row stack.
    next stack (record c { sent = c.sent ++ record { message = m; row = row } ∷ [] }))
act g w (Some (Bear a)) c =
    with_row (slice_index w.agents a) c.stack (λ row stack.
    next stack (record c { born = c.born ++ record { agent = a; row = row } ∷ [] }))
act g w (Some (Call l h n)) c =
    with_row n c.stack (λ args stack.
    pay l c (λ d. calls h args (record d { place = d.place + 1; stack = stack })))
act g w (Some Return) c = with_top c.stack (λ v stack. over (returned v (record c { stack = stack })))

-- the step of this code from where its run stands [own]
abbrev pub step : Given → Routine → Config → StepEnd
step g r c = act g r.widths (slice_get r.instrs c.place) c
