-- Which codes are valid: those whose runs miss no operand, never leave the code, read rows in their loops alone, and
-- spend fuel in each turn. It speaks of the paths through the code, and not of runs.
use Rattle.std.specs.Prelude.{◌≡◌, ℕ, ◌+◌, ◌<◌, ◌≤◌, length, slice_get}
use Rattle.std.specs.Prelude.{true, Some}
use Rattle.flame_spec.specs.declared.outcomes.Widths.{Widths}
use Rattle.flame_code.specs.declared.instrs.Instr.{Instr}
use Rattle.flame_code.specs.declared.instrs.Instr.TheVariants.{Pay, Next, Return}
use Rattle.flame_code.specs.Routines.{Routine, takes, leaves, goes_on, target, Delivered, none_delivered, passed, jumped}
use Rattle.flame_code.specs.Routines.{reads, IsWithin}

-- ---- paths

-- a height of the stack before the instruction and one behind it [own]
abbrev pub Moves : Widths → Instr → ℕ → ℕ → Type 0
Moves w i before behind = before + leaves w i ≡ behind + takes w i

-- a path from the code's begin leads to a place, with a height of the stack and with what was delivered there [own]
pub data Path (r : Routine) : ℕ → ℕ → Delivered → Type 0 where
  starts : Path r 0 0 none_delivered
  goes : {p h k : ℕ} {d : Delivered} {i : Instr} → Path r p h d
      → slice_get r.instrs p ≡ Some i
      → goes_on i ≡ true
      → Moves r.widths i h k
      → Path r (p + 1) k (passed i d)
  jumps : {p h k t : ℕ} {d : Delivered} {i : Instr} → Path r p h d
      → slice_get r.instrs p ≡ Some i
      → target i ≡ Some t
      → Moves r.widths i h k
      → Path r t k (jumped i d)

-- ---- the parts of validity

-- a loop that jumps back from place p to the place of this instruction spends fuel in each turn: it lands on a `Pay`, or
-- on a `Next` that goes on behind p when no row is left [own]
abbrev pub SpendsFuel : ℕ → Instr → Type 0
SpendsFuel p (Pay l) = Unit {0}
SpendsFuel p (Next l i t) = p < t
SpendsFuel p instr = ⊥

-- a `Next` goes on behind itself when no row is left [own]
abbrev pub GoesForward : ℕ → Instr → Type 0
GoesForward p (Next l i t) = p < t
GoesForward p instr = Unit {0}

-- the code is valid [own]
pub record IsValid (r : Routine) : Type 0 where
  -- the last instruction is `Return`
  pub ends : (p : ℕ) → p + 1 ≡ length r.instrs → slice_get r.instrs p ≡ Some Return
  -- there is one
  pub some : 0 < length r.instrs
  -- every jump lands on a place of the code
  pub lands : (p t : ℕ) (i : Instr) → slice_get r.instrs p ≡ Some i → target i ≡ Some t → t < length r.instrs
  -- the place where a `Next` goes on when no row is left lies after it
  pub forward : (p : ℕ) (i : Instr) → slice_get r.instrs p ≡ Some i → GoesForward p i
  -- a jump to its own place or to an earlier one lands where fuel is spent
  pub spends : (p t : ℕ) (i j : Instr) → slice_get r.instrs p ≡ Some i → target i ≡ Some t → t ≤ p
      → slice_get r.instrs t ≡ Some j → SpendsFuel p j
  -- the height of the stack at a place is the same on every path
  pub level : {p h k : ℕ} {d e : Delivered} → Path r p h d → Path r p k e → h ≡ k
  -- no pop meets an empty stack
  pub pops : {p h : ℕ} {d : Delivered} {i : Instr} → Path r p h d → slice_get r.instrs p ≡ Some i
      → takes r.widths i ≤ h
  -- on every path to a `Field` or `FieldAt` the row that it reads was delivered
  pub reading : {p h : ℕ} {d : Delivered} {i : Instr} (input : ℕ) → Path r p h d → slice_get r.instrs p ≡ Some i
      → reads i ≡ Some input → d input ≡ true
  -- every column, constant, input, message and agent type that is named is within the widths
  pub within : (p : ℕ) (i : Instr) → slice_get r.instrs p ≡ Some i → IsWithin r.widths i
