-- What a body has before it where numbers stand in place of names.
use Rattle.std.specs.Prelude.{ℕ, ◌+◌, ◌==◌, ℤ, pos, negsuc, nat_lt, List, [], ◌∷◌, length, Option, Some, None}
use Rattle.std.specs.Prelude.{if◌then◌else◌}
use Rattle.flame_spec.specs.declared.outcomes.Widths.{Widths}
use Rattle.flame_spec.specs.Conditions.{number_at}
use Rattle.flame_body.specs.declared.slots.Cells.{Cells}
use Rattle.flame_body.specs.declared.slots.Slot.{Slot}
use Rattle.flame_body.specs.declared.slots.Slot.TheVariants as slot
use Rattle.flame_body.specs.declared.slots.Span.{Span}
use Rattle.flame_meaning.specs.Scenes.{Local, Progress, Gave, numbers_by}

-- how calls of helpers end, by the line of the call, the number of the helper, the values of the arguments and the fuel
-- [own]
abbrev pub Answers : Type 0
Answers = ℕ → ℕ → List ℤ → ℕ → Gave

-- what a body has before it and does not change: the widths of the rows that it sees; the constants; the number of the
-- iteration; the rows that a loop over each input gives, in order; the row at which the open loop over each input
-- stands, of none an empty one; and how calls of helpers end [FLAME User Manual; helpers: C, 6.9.1; of none: own]
pub record NumberedScene : Type 0 where
  pub widths : Widths
  pub constants : List ℤ
  pub iteration : ℤ
  pub readings : List (List (List ℤ))
  pub current_rows : ℕ → List ℤ
  pub answers : Answers

-- inside a loop over this input that stands at this row [FLAME User Manual]
abbrev pub standing_at : ℕ → List ℤ → NumberedScene → NumberedScene
standing_at input row scene =
    record scene { current_rows = λ other. if other == input then row else scene.current_rows other }

-- ---- locals

-- a local without a name [own]
abbrev pub nameless : ℤ → Local
nameless v = record { name = []; value = v }

-- the value of the local of this number: of that which has so many older ones; of none 0 [C, 6.2.1; of none: own]
abbrev pub local_at : ℕ → List Local → ℤ
local_at number [] = pos 0
local_at number (newest ∷ older) = if length older == number then newest.value else local_at number older

-- the local of this number has the value, and where there is none all is as it was [C, 6.5.16; without one: own]
abbrev pub set_local_at : ℕ → ℤ → List Local → List Local
set_local_at number v [] = []
set_local_at number v (newest ∷ older) =
    if length older == number then record newest { value = v } ∷ older else newest ∷ set_local_at number v older

-- ---- variables

-- the value of what a name stands for; of an array that of its first element
-- [C, 6.2.1; FLAME User Manual; of an array: own]
abbrev pub slot_value : Slot → NumberedScene → Progress → ℤ
slot_value (slot.Local number) scene s = local_at number s.locals
slot_value (slot.Memory span) scene s = number_at s.memory span.column
slot_value (slot.Constant number) scene s = number_at scene.constants number
slot_value slot.Iteration scene s = scene.iteration

-- the numbers of a variable of a row: of an array all in order [FLAME User Manual; own]
abbrev pub span_numbers : Span → List ℤ → List ℤ
span_numbers span row = numbers_by span.length span.column row (number_at row span.column)

-- the numbers that a name stands for as an argument [own]
abbrev pub slot_numbers : Slot → NumberedScene → Progress → List ℤ
slot_numbers (slot.Memory span) scene s = span_numbers span s.memory
slot_numbers other scene s = slot_value other scene s ∷ []

-- the column of the element of this index, where there is one [C, 6.5.2.1; bounds: own]
abbrev pub cell_column : Cells → ℤ → Option ℕ
cell_column cells (pos n) = if nat_lt n cells.length then Some (cells.column + n) else None
cell_column cells (negsuc n) = None
