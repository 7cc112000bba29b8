-- Codes, and what each instruction does to the height of the stack and to where a run goes on.
use Rattle.std.specs.Prelude.{ℕ, ◌+◌, ◌==◌, ◌<◌, ◌≤◌, max, List, [], ◌∷◌, length, slice_index}
use Rattle.std.specs.Prelude.{Bool, true, false, Option, Some, None, if◌then◌else◌}
use Rattle.flame_spec.specs.declared.outcomes.Widths.{Widths}
use Rattle.flame_code.specs.declared.instrs.Instr.{Instr}
use Rattle.flame_code.specs.declared.instrs.Instr.TheVariants.{Push, Dup, Drop, Loc, SetLoc, Mem, SetMem, MemAt, SetMemAt}
use Rattle.flame_code.specs.declared.instrs.Instr.TheVariants.{Const, Iter, Field, FieldAt, Neg, Not, Add, Sub, Mul, Div, Rem}
use Rattle.flame_code.specs.declared.instrs.Instr.TheVariants.{Lt, Gt, Le, Ge, Eq, Ne, Jump, JumpZero, JumpNotZero, Pay}
use Rattle.flame_code.specs.declared.instrs.Instr.TheVariants.{Enter, Next, Leave, Send, Bear, Call, Return}

-- a code: its instructions, and the widths of the rows that it sees [own]
pub record Routine : Type 0 where
  pub instrs : List Instr
  pub widths : Widths

-- ---- the stack

-- how many values the instruction takes from the stack, and how many it leaves there in their place [own]
-- ORDER INSTRUCTIONS
abbrev pub takes_and_leaves : Widths → Instr → ℕ × ℕ
takes_and_leaves w (Push n) = (0, 1)
takes_and_leaves w Dup = (1, 2)
takes_and_leaves w Drop = (1, 0)
takes_and_leaves w (Loc s) = (0, 1)
takes_and_leaves w (SetLoc s) = (1, 0)
takes_and_leaves w (Mem v) = (0, 1)
takes_and_leaves w (SetMem v) = (1, 0)
takes_and_leaves w (MemAt l c n) = (1, 1)
takes_and_leaves w (SetMemAt l c n) = (2, 0)
takes_and_leaves w (Const c) = (0, 1)
takes_and_leaves w Iter = (0, 1)
takes_and_leaves w (Field i v) = (0, 1)
takes_and_leaves w (FieldAt l i c n) = (1, 1)
takes_and_leaves w (Neg l) = (1, 1)
takes_and_leaves w Not = (1, 1)
takes_and_leaves w (Add l) = (2, 1)
takes_and_leaves w (Sub l) = (2, 1)
takes_and_leaves w (Mul l) = (2, 1)
takes_and_leaves w (Div l) = (2, 1)
takes_and_leaves w (Rem l) = (2, 1)
takes_and_leaves w Lt = (2, 1)
takes_and_leaves w Gt = (2, 1)
takes_and_leaves w Le = (2, 1)
takes_and_leaves w Ge = (2, 1)
takes_and_leaves w Eq = (2, 1)
takes_and_leaves w Ne = (2, 1)
takes_and_leaves w (Jump t) = (0, 0)
takes_and_leaves w (JumpZero t) = (1, 0)
takes_and_leaves w (JumpNotZero t) = (1, 0)
takes_and_leaves w (Pay l) = (0, 0)
takes_and_leaves w (Enter i) = (0, 0)
takes_and_leaves w (Next l i t) = (0, 0)
takes_and_leaves w (Leave i) = (0, 0)
takes_and_leaves w (Send m) = (slice_index w.messages m, 0)
takes_and_leaves w (Bear a) = (slice_index w.agents a, 0)
takes_and_leaves w (Call l h n) = (n, 1)
takes_and_leaves w Return = (1, 0)

-- how many values the instruction takes from the stack [own]
abbrev pub takes : Widths → Instr → ℕ
takes w i = (takes_and_leaves w i).0

-- how many values the instruction leaves on the stack in their place [own]
abbrev pub leaves : Widths → Instr → ℕ
leaves w i = (takes_and_leaves w i).1

-- ---- where a run goes on

-- the run may go on at the next place [own]
abbrev pub goes_on : Instr → Bool
goes_on (Jump t) = false
goes_on Return = false
goes_on i = true

-- the place where else the run may go on [own]
abbrev pub target : Instr → Option ℕ
target (Jump t) = Some t
target (JumpZero t) = Some t
target (JumpNotZero t) = Some t
target (Next l i t) = Some t
target i = None

-- ---- the rows of inputs

-- for each input, whether the last `Enter`, `Next` or `Leave` of it that was met is a `Next` that delivered a row [own]
abbrev pub Delivered : Type 0
Delivered = ℕ → Bool

-- before any was met [own]
abbrev pub none_delivered : Delivered
none_delivered = λ i. false

-- a `Next` of the input delivered a row, or an `Enter`, `Next` or `Leave` of it did not [own]
abbrev pub delivery : ℕ → Bool → Delivered → Delivered
delivery input came before = λ i. if i == input then came else before i

-- behind the instruction, where the run goes on at the next place [own]
abbrev pub passed : Instr → Delivered → Delivered
passed (Enter i) before = delivery i false before
passed (Next l i t) before = delivery i true before
passed (Leave i) before = delivery i false before
passed instr before = before

-- behind the instruction, where the run goes on at its target [own]
abbrev pub jumped : Instr → Delivered → Delivered
jumped (Next l i t) before = delivery i false before
jumped instr before = before

-- the input whose current row the instruction reads [own]
abbrev pub reads : Instr → Option ℕ
reads (Field i v) = Some i
reads (FieldAt l i c n) = Some i
reads instr = None

-- ---- the names

-- the columns, constants, inputs, message types and agent types that the instruction names are within the widths [own]
abbrev pub IsWithin : Widths → Instr → Type 0
IsWithin w (Mem v) = v < w.memory
IsWithin w (SetMem v) = v < w.memory
IsWithin w (MemAt l c n) = c + n ≤ w.memory
IsWithin w (SetMemAt l c n) = c + n ≤ w.memory
IsWithin w (Const c) = c < w.constants
IsWithin w (Field i v) = (i < length w.inputs) × (v < slice_index w.inputs i)
IsWithin w (FieldAt l i c n) = (i < length w.inputs) × (c + n ≤ slice_index w.inputs i)
IsWithin w (Enter i) = i < length w.inputs
IsWithin w (Next l i t) = i < length w.inputs
IsWithin w (Leave i) = i < length w.inputs
IsWithin w (Send m) = m < length w.messages
IsWithin w (Bear a) = a < length w.agents
IsWithin w instr = Unit {0}

-- how many locals there have to be for the instruction [own]
abbrev pub locals_for : Instr → ℕ
locals_for (Loc s) = s + 1
locals_for (SetLoc s) = s + 1
locals_for instr = 0

-- how many locals there have to be for these instructions [own]
abbrev pub locals_of : List Instr → ℕ
locals_of [] = 0
locals_of (i ∷ is) = max (locals_for i) (locals_of is)
