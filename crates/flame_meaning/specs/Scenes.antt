-- What a function has before it while it runs, what it changes, and what the words of its body stand for. A word goes
-- by the look-up of its kind; what no accepted source has has a plain default, so that each function has an outcome.
use Rattle.std.specs.Prelude.{ℕ, zero, suc, ◌+◌, ◌==◌, ℤ, pos, negsuc, nat_lt, List, [], ◌∷◌, Option, Some, None, is_some}
use Rattle.std.specs.Prelude.{unwrap_or, if◌then◌else◌}
use Rattle.std.specs.Str.{bytes_eq}
use Rattle.flame_spec.specs.declared.faults.Fault.{Fault}
use Rattle.flame_spec.specs.declared.models.MessageType.{MessageType}
use Rattle.flame_spec.specs.declared.models.Variable.{Variable}
use Rattle.flame_spec.specs.declared.outcomes.Sent.{Sent}
use Rattle.flame_spec.specs.declared.outcomes.Born.{Born}
use Rattle.flame_spec.specs.Columns.{elements}
use Rattle.flame_spec.specs.Conditions.{number_at}
use Rattle.flame_spec.specs.Definitions.{Definition}
use Rattle.flame_spec.specs.ExpressionFaults.{member_read}
use Rattle.flame_spec.specs.LookUps.{Given, in_memory, constant, iteration, memory_named, memory_got, message_read}
use Rattle.flame_spec.specs.Scopes.{Context, memory_at, messages_at, given_at}

-- ---- what it has before it

-- where a loop over a message stands: the number of the message, and its row [FLAME User Manual]
pub record Current : Type 0 where
  pub message : ℕ
  pub row : List ℤ

-- how a call of a helper ends: with a value and the fuel that is left, or with a fault [C, 6.5.2.2; fuel: own]
pub data Gave : Type 0 where
  gave : ℤ → ℕ → Gave
  failed : Fault → Gave

-- how calls of helpers end, by the line of the call, the helper, the values of the arguments and the fuel [own]
abbrev pub Calls : Type 0
Calls = ℕ → Definition → List ℤ → ℕ → Gave

-- what a body has before it and does not change: the model, its helpers, and the function of the model whose body it
-- is, where it is not that of a helper; the constants; the number of the iteration; the rows that a loop over each
-- input gives, in order; where the open loops over messages stand, from the inside; and how calls of helpers end
-- [FLAME User Manual; helpers: C, 6.9.1]
pub record Scene : Type 0 where
  pub context : Context
  pub constants : List ℤ
  pub iteration : ℤ
  pub readings : List (List (List ℤ))
  pub open_loops : List Current
  pub answers : Calls

-- ---- what it changes

-- a local [C, 6.2.1]
pub record Local : Type 0 where
  pub name : List ℕ
  pub value : ℤ

-- the memory; the visible locals, the newest first; the messages and births in the order in which they were added; and
-- the fuel [FLAME User Manual; fuel: own]
pub record Progress : Type 0 where
  pub memory : List ℤ
  pub locals : List Local
  pub sent : List Sent
  pub born : List Born
  pub fuel : ℕ

-- ---- names

-- the value of the newest local of this name [C, 6.2.1]
abbrev pub local_value : List ℕ → List Local → Option ℤ
local_value word [] = None
local_value word (local ∷ locals) =
    if bytes_eq local.name word then Some local.value else local_value word locals

-- the value of what the model gives to a word; of nothing 0 [FLAME User Manual; of nothing: own]
abbrev pub value_given : Option Given → Scene → Progress → ℤ
value_given (Some (in_memory column variable)) scene s = number_at s.memory column
value_given (Some (constant number)) scene s = number_at scene.constants number
value_given (Some iteration) scene s = scene.iteration
value_given None scene s = pos 0

-- the value of a name: that of the newest local, or else of what the model gives to it [C, 6.2.1; FLAME User Manual]
abbrev pub named : List ℕ → Scene → Progress → ℤ
named word scene s = unwrap_or (local_value word s.locals) (value_given (given_at scene.context word) scene s)

-- the memory variable, an array or not, that a name is in capitals, where no local has the name
-- [C, 6.2.1; FLAME User Manual]
abbrev pub array_named : List ℕ → Scene → Progress → Option (ℕ × Variable)
array_named word scene s =
    if is_some (local_value word s.locals) then None else memory_named (memory_at scene.context) word

-- the number of a row in a variable's column; of no variable 0 [own]
abbrev pub value_found : Option (ℕ × Variable) → List ℤ → ℤ
value_found None row = pos 0
value_found (Some found) row = number_at row found.0

-- the value of `get_x()`: that of the memory variable x [FLAME User Manual]
abbrev pub got : List ℕ → Scene → Progress → ℤ
got word scene s = value_found (memory_got (memory_at scene.context) word) s.memory

-- ---- the message at which a loop stands

-- the row of the innermost of these loops that is over the message; of none an empty one [FLAME User Manual; own]
abbrev pub row_over : ℕ → List Current → List ℤ
row_over message [] = []
row_over message (current ∷ outer) = if current.message == message then current.row else row_over message outer

-- the row of the message that was found, if one was [own]
abbrev pub row_found : Option (ℕ × MessageType) → List Current → List ℤ
row_found None open_loops = []
row_found (Some found) open_loops = row_over found.0 open_loops

-- the row that the word `m_message` reads [FLAME User Manual]
abbrev pub row_read : List ℕ → Scene → List ℤ
row_read word scene = row_found (message_read (messages_at scene.context) word) scene.open_loops

-- the value of `m_message->x` [FLAME User Manual]
abbrev pub field_value : List ℕ → List ℕ → Scene → ℤ
field_value word variable scene = value_found (member_read scene.context word variable) (row_read word scene)

-- ---- arrays

-- the column of the element of this index, counted from 0, where the variable has one: an index is from 0 to the length
-- less 1 [C, 6.5.2.1; bounds: own]
abbrev pub element_column : Option (ℕ × Variable) → ℤ → Option ℕ
element_column None index = None
element_column (Some found) (pos n) = if nat_lt n (elements found.1.length) then Some (found.0 + n) else None
element_column (Some found) (negsuc n) = None

-- so many numbers of a row in order, from this column on [own]
abbrev pub numbers_from : ℕ → ℕ → List ℤ → List ℤ
numbers_from zero column row = []
numbers_from (suc n) column row = number_at row column ∷ numbers_from n (column + 1) row

-- the numbers of an array of this length that begins in this column; of what is no array its value [own]
abbrev pub numbers_by : Option ℕ → ℕ → List ℤ → ℤ → List ℤ
numbers_by None column row value = value ∷ []
numbers_by (Some length) column row value = numbers_from length column row

-- what an argument stands for that names this variable of a row: the numbers of an array in order, and else its value;
-- one that names no variable stands for its value too [FLAME User Manual; own]
abbrev pub numbers_of : Option (ℕ × Variable) → List ℤ → ℤ → List ℤ
numbers_of None row value = value ∷ []
numbers_of (Some found) row value = numbers_by found.1.length found.0 row value
