-- Labels that show that a code is valid: for each place the height of the stack, and inputs of which a row was delivered.
use Rattle.std.specs.Prelude.{ℕ, ◌+◌, ◌-◌, ◌==◌, List, [], ◌∷◌, length, slice_get, slice_index, nat_lt, nat_le}
use Rattle.std.specs.Prelude.{Bool, true, false, not, ◌&&◌, ◌||◌, Option, Some, None}
use Rattle.std.specs.List.{list_all, list_any}
use Rattle.std.specs.Option.{option_map_or}
use Rattle.flame_spec.specs.declared.outcomes.Widths.{Widths}
use Rattle.flame_code.specs.declared.instrs.Instr.{Instr}
use Rattle.flame_code.specs.declared.instrs.Instr.TheVariants.{Mem, SetMem, MemAt, SetMemAt}
use Rattle.flame_code.specs.declared.instrs.Instr.TheVariants.{Const, Field, FieldAt}
use Rattle.flame_code.specs.declared.instrs.Instr.TheVariants.{Pay}
use Rattle.flame_code.specs.declared.instrs.Instr.TheVariants.{Enter, Next, Leave, Send, Bear, Return}
use Rattle.flame_code.specs.declared.labels.Label.{Label}
use Rattle.flame_code.specs.Routines.{Routine, takes, leaves, goes_on, target, reads}

-- ---- rows of inputs

-- the input is among these [own]
abbrev pub has_input : List ℕ → ℕ → Bool
has_input rows input = list_any (λ other. other == input) rows

-- of this input a row was delivered behind the instruction, where the run goes on at the next place [own]
abbrev pub has_passed : Instr → List ℕ → ℕ → Bool
has_passed (Enter i) rows input = not (input == i) && has_input rows input
has_passed (Next l i t) rows input = (input == i) || has_input rows input
has_passed (Leave i) rows input = not (input == i) && has_input rows input
has_passed instr rows input = has_input rows input

-- of this input a row was delivered behind the instruction, where the run goes on at its target [own]
abbrev pub has_jumped : Instr → List ℕ → ℕ → Bool
has_jumped (Next l i t) rows input = not (input == i) && has_input rows input
has_jumped instr rows input = has_input rows input

-- ---- one place

-- the label behind the instruction fits: its height is right, and its inputs have a row [own]
abbrev pub fits_at : Widths → Instr → Label → (ℕ → Bool) → Option Label → Bool
fits_at w i here known None = false
fits_at w i here known (Some there) =
    (there.height + takes w i == here.height + leaves w i) && list_all known there.rows

-- the label of the next place fits, where the run may go on there [own]
abbrev pub goes_fit : Widths → List Label → ℕ → Instr → Label → Bool
goes_fit w labels p i here =
    not (goes_on i) || fits_at w i here (has_passed i here.rows) (slice_get labels (p + 1))

-- a jump back from place p to this instruction spends fuel [own]
abbrev pub spends : ℕ → Instr → Bool
spends p (Pay l) = true
spends p (Next l i t) = nat_lt p t
spends p instr = false

-- a `Next` goes on behind itself when no row is left [own]
abbrev pub forward_fit : ℕ → Instr → Bool
forward_fit p (Next l i t) = nat_lt p t
forward_fit p instr = true

-- the label of the target fits, and a jump back spends fuel [own]
abbrev pub target_fit : Routine → List Label → ℕ → Instr → Label → Option ℕ → Bool
target_fit r labels p i here None = true
target_fit r labels p i here (Some t) =
    fits_at r.widths i here (has_jumped i here.rows) (slice_get labels t)
    && (nat_lt p t || option_map_or (spends p) (slice_get r.instrs t) false)

-- all that the instruction names is within the widths [own]
abbrev pub is_within : Widths → Instr → Bool
is_within w (Mem v) = nat_lt v w.memory
is_within w (SetMem v) = nat_lt v w.memory
is_within w (MemAt l c n) = nat_le (c + n) w.memory
is_within w (SetMemAt l c n) = nat_le (c + n) w.memory
is_within w (Const c) = nat_lt c w.constants
is_within w (Field i v) = nat_lt i (length w.inputs) && nat_lt v (slice_index w.inputs i)
is_within w (FieldAt l i c n) = nat_lt i (length w.inputs) && nat_le (c + n) (slice_index w.inputs i)
is_within w (Enter i) = nat_lt i (length w.inputs)
is_within w (Next l i t) = nat_lt i (length w.inputs)
is_within w (Leave i) = nat_lt i (length w.inputs)
is_within w (Send m) = nat_lt m (length w.messages)
is_within w (Bear a) = nat_lt a (length w.agents)
is_within w instr = true

-- the label of a place fits its instruction and the labels of the places behind it [own]
abbrev pub place_fits : Routine → List Label → ℕ → Instr → Label → Bool
place_fits r labels p i here =
    nat_le (takes r.widths i) here.height
    && (option_map_or (has_input here.rows) (reads i) true
    && (is_within r.widths i
    && (forward_fit p i
    && (goes_fit r.widths labels p i here
    && target_fit r labels p i here (target i)))))

-- ---- all places

-- there is a label for each instruction from place p on, and it fits [own]
abbrev pub all_fit : Routine → List Label → ℕ → List Instr → List Label → Bool
all_fit r labels p [] [] = true
all_fit r labels p [] (l ∷ ls) = false
all_fit r labels p (i ∷ is) [] = false
all_fit r labels p (i ∷ is) (l ∷ ls) = place_fits r labels p i l && all_fit r labels (p + 1) is ls

-- the stack is empty at the begin, and no row was delivered there [own]
abbrev pub starts_fit : Option Label → Bool
starts_fit None = false
starts_fit (Some l) = (l.height == 0) && (length l.rows == 0)

-- the instruction is `Return` [own]
abbrev pub is_return : Instr → Bool
is_return Return = true
is_return i = false

-- the last instruction is `Return` [own]
abbrev pub ends_fit : List Instr → Bool
ends_fit code = option_map_or is_return (slice_get code (length code - 1)) false

-- the labels show that the code is valid [own]
abbrev pub labels_fit : Routine → List Label → Bool
labels_fit r labels = starts_fit (slice_get labels 0) && (ends_fit r.instrs && all_fit r labels 0 r.instrs labels)
