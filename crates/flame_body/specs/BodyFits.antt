-- When a numbered tree fits the widths of the rows that it sees. It speaks of numbers alone, and not of names.
use Rattle.std.specs.Prelude.{ℕ, ◌+◌, ◌==◌, nat_lt, nat_le, List, [], ◌∷◌, map, length, slice_index_or}
use Rattle.std.specs.Prelude.{Bool, true, false, not, ◌&&◌, Option, Some, None}
use Rattle.std.specs.List.{list_all, list_any}
use Rattle.flame_spec.specs.declared.outcomes.Widths.{Widths}
use Rattle.flame_spec.specs.CallFaults.{is_length}
use Rattle.flame_spec.specs.Columns.{width_by}
use Rattle.flame_body.specs.declared.slots.Cells.{Cells}
use Rattle.flame_body.specs.declared.slots.Slot.{Slot}
use Rattle.flame_body.specs.declared.slots.Slot.TheVariants.{Local, Memory, Constant, Iteration}
use Rattle.flame_body.specs.declared.slots.SlotDeed.{SlotDeed}
use Rattle.flame_body.specs.declared.slots.SlotDeed.TheVariants.{Sets, Sends, Bears, Calls}
use Rattle.flame_body.specs.declared.slots.Span.{Span}
use Rattle.flame_body.specs.declared.slots.SlotExpr.{SlotExpr, fold-SlotExpr}
use Rattle.flame_body.specs.declared.slots.SlotExpr.TheOpen.{SlotExpr-F, SlotLink-F, SlotSubscript-F}
use Rattle.flame_body.specs.declared.slots.SlotTarget.{SlotTarget}
use Rattle.flame_body.specs.declared.slots.SlotTarget.TheVariants as target
use Rattle.flame_body.specs.declared.slots.SlotValue.{SlotValue}
use Rattle.flame_body.specs.declared.slots.SlotValue.TheVariants.{Plain, Call}
use Rattle.flame_body.specs.declared.slots.SlotAssign.{SlotAssign}
use Rattle.flame_body.specs.declared.slots.SlotStmt.{SlotStmt, fold-SlotStmt}
use Rattle.flame_body.specs.declared.slots.SlotStmt.TheOpen.{SlotStmt-F, SlotArm-F, SlotHead-F}

-- what a place has round it: the widths of the rows, the inputs over which loops are open, and whether a loop is open
-- [own]
pub record Around : Type 0 where
  pub widths : Widths
  pub inputs : List ℕ
  pub in_loop : Bool

-- at the beginning of a body [own]
abbrev pub at_beginning : Widths → Around
at_beginning widths = record { widths = widths; inputs = []; in_loop = false }

-- in a loop over no message [own]
abbrev pub in_plain_loop : Around → Around
in_plain_loop around = record around { in_loop = true }

-- in a loop over this input [own]
abbrev pub in_input_loop : ℕ → Around → Around
in_input_loop input around = record around { inputs = input ∷ around.inputs; in_loop = true }

-- a loop over this input is open [own]
abbrev pub is_inside : ℕ → Around → Bool
is_inside input around = list_any (λ other. other == input) around.inputs

-- ---- variables

-- the variable stands within a row of this width: its column and its own width together do not pass it [own]
abbrev pub is_within : ℕ → Span → Bool
is_within width span = nat_le (span.column + width_by span.length) width

-- the array does [own]
abbrev pub are_within : ℕ → Cells → Bool
are_within width cells = nat_le (cells.column + cells.length) width

-- how an expression fits: not; as one value; or as an array of this length, which only an argument of a message or of a
-- birth may be [own]
pub data Fit : Type 0 where
  unfit : Fit
  one_value : Fit
  whole_array : ℕ → Fit

-- it is one value [own]
abbrev pub is_value : Fit → Bool
is_value one_value = true
is_value _ = false

-- one value, where the test holds [own]
abbrev pub fit_of_value : Bool → Fit
fit_of_value false = unfit
fit_of_value true = one_value

-- a variable without an index, where the test holds [own]
abbrev pub fit_of_bare : Bool → Option ℕ → Fit
fit_of_bare false length = unfit
fit_of_bare true None = one_value
fit_of_bare true (Some length) = whole_array length

-- a name without an index: a memory variable is within the memory, a constant is one of the constants [own]
abbrev pub fit_of_slot : Widths → Slot → Fit
fit_of_slot widths (Local number) = one_value
fit_of_slot widths (Memory span) = fit_of_bare (is_within widths.memory span) span.length
fit_of_slot widths (Constant number) = fit_of_value (nat_lt number widths.constants)
fit_of_slot widths Iteration = one_value

-- the width of the rows of an input [own]
abbrev pub width_of_input : Around → ℕ → ℕ
width_of_input around input = slice_index_or around.widths.inputs input 0

-- a variable of a message stands in a loop of its input, and within the message's row [own]
abbrev pub is_field : Around → ℕ → Span → Bool
is_field around input span = is_inside input around && is_within (width_of_input around input) span

-- so does an array of a message [own]
abbrev pub are_field_cells : Around → ℕ → Cells → Bool
are_field_cells around input cells = is_inside input around && are_within (width_of_input around input) cells

-- ---- expressions

-- an expression whose parts fit so [own]
abbrev pub fit_step : Around → SlotExpr-F Fit Bool Bool → Fit
fit_step around (SlotExpr-F.Number n) = one_value
fit_step around (SlotExpr-F.Name slot) = fit_of_slot around.widths slot
fit_step around (SlotExpr-F.Field input span) = fit_of_bare (is_field around input span) span.length
fit_step around (SlotExpr-F.Get column) = fit_of_value (nat_lt column around.widths.memory)
fit_step around (SlotExpr-F.At cells index) = fit_of_value (are_within around.widths.memory cells && index)
fit_step around (SlotExpr-F.FieldAt input cells index) = fit_of_value (are_field_cells around input cells && index)
fit_step around (SlotExpr-F.Unary signs e) = fit_of_value (is_value e)
fit_step around (SlotExpr-F.Chain e links) = fit_of_value (is_value e && list_all (λ link. link) links)
fit_step around (SlotExpr-F.All parts) = fit_of_value (list_all is_value parts)
fit_step around (SlotExpr-F.Any parts) = fit_of_value (list_all is_value parts)

-- an operand is one value [own]
abbrev pub link_fits : SlotLink-F Fit Bool Bool → Bool
link_fits link = is_value link.right

-- an index is one value [own]
abbrev pub index_fits : SlotSubscript-F Fit Bool Bool → Bool
index_fits subscript = is_value subscript.index

-- how an expression fits [own]
abbrev pub fit : Around → SlotExpr → Fit
fit around = fold-SlotExpr Fit Bool Bool (fit_step around) link_fits index_fits

-- the expression is one value that fits [own]
abbrev pub fits : Around → SlotExpr → Bool
fits around e = is_value (fit around e)

-- an expression that may be missing [own]
abbrev pub optional_fits : Around → Option SlotExpr → Bool
optional_fits around None = true
optional_fits around (Some e) = fits around e

-- ---- arguments

-- each argument is one value [own]
abbrev pub values_fit : Around → List SlotExpr → Bool
values_fit around arguments = list_all is_value (map (fit around) arguments)

-- how many numbers an argument stands for: an array for as many as it is long [own]
abbrev pub numbers_in : Fit → Option ℕ
numbers_in unfit = None
numbers_in one_value = Some 1
numbers_in (whole_array length) = Some length

-- both together, where both fit [own]
abbrev pub together : Option ℕ → Option ℕ → Option ℕ
together (Some one) (Some two) = Some (one + two)
together _ _ = None

-- how many numbers arguments stand for that fit so [own]
abbrev pub numbers_of : List Fit → Option ℕ
numbers_of [] = Some 0
numbers_of (argument ∷ arguments) = together (numbers_in argument) (numbers_of arguments)

-- the arguments stand for as many numbers as the row of this number is wide, where there is such a row [own]
abbrev pub row_fits : Around → List ℕ → ℕ → List SlotExpr → Bool
row_fits around rows number arguments =
    nat_lt number (length rows)
    && is_length (slice_index_or rows number 0) (numbers_of (map (fit around) arguments))

-- what a call does fits its arguments: a store has one value, a message and a birth have as many as their rows are
-- wide, and arguments of a helper are single values [own]
abbrev pub deed_fits : Around → SlotDeed → List SlotExpr → Bool
deed_fits around (Sets column) arguments =
    nat_lt column around.widths.memory && (length arguments == 1) && values_fit around arguments
deed_fits around (Sends number) arguments = row_fits around around.widths.messages number arguments
deed_fits around (Bears number) arguments = row_fits around around.widths.agents number arguments
deed_fits around (Calls line number) arguments = values_fit around arguments

-- ---- what is stored

-- what is stored is one value; so are the arguments of a helper [own]
abbrev pub stored_fits : Around → SlotValue → Bool
stored_fits around (Plain e) = fits around e
stored_fits around (Call line helper arguments) = values_fit around arguments

-- what a local begins with, if it does [own]
abbrev pub initial_fits : Around → Option SlotValue → Bool
initial_fits around None = true
initial_fits around (Some value) = stored_fits around value

-- what is assigned to is within the memory, where it is no local; an index is one value [own]
abbrev pub target_fits : Around → SlotTarget → Bool
target_fits around (target.Local number) = true
target_fits around (target.Memory column) = nat_lt column around.widths.memory
target_fits around (target.Element cells subscript) =
    are_within around.widths.memory cells && fits around subscript.index

-- an assignment [own]
abbrev pub assignment_fits : Around → SlotAssign → Bool
assignment_fits around a = target_fits around a.target && stored_fits around a.value

-- an assignment that may be missing [own]
abbrev pub step_fits : Around → Option SlotAssign → Bool
step_fits around None = true
step_fits around (Some a) = assignment_fits around a

-- ---- statements

-- each of these statements fits [own]
abbrev pub all_fit : Around → List (Around → Bool) → Bool
all_fit around statements = list_all (λ statement. statement around) statements

-- a statement whose parts tell where they fit. A loop over an input is within the inputs, and in no other loop over the
-- same input; `break` and `continue` stand in a loop [own]
abbrev pub statement_fits_step : SlotStmt-F (Around → Bool) (Around → Bool) (Around → Bool) → Around → Bool
statement_fits_step SlotStmt-F.Empty around = true
statement_fits_step (SlotStmt-F.Declare items) around = list_all (λ item. initial_fits around item.value) items
statement_fits_step (SlotStmt-F.Assign a) around = assignment_fits around a
statement_fits_step (SlotStmt-F.Call deed arguments) around = deed_fits around deed arguments
statement_fits_step (SlotStmt-F.Block body) around = all_fit around body
statement_fits_step (SlotStmt-F.If arms otherwise) around = all_fit around arms && all_fit around otherwise
statement_fits_step (SlotStmt-F.While line test body) around = fits around test && all_fit (in_plain_loop around) body
statement_fits_step (SlotStmt-F.For line head body) around = head around && all_fit (in_plain_loop around) body
statement_fits_step (SlotStmt-F.Do line body test) around = all_fit (in_plain_loop around) body && fits around test
statement_fits_step (SlotStmt-F.Loop line input body) around =
    nat_lt input (length around.widths.inputs)
    && not (is_inside input around)
    && all_fit (in_input_loop input around) body
statement_fits_step (SlotStmt-F.Return e) around = fits around e
statement_fits_step SlotStmt-F.Break around = around.in_loop
statement_fits_step SlotStmt-F.Continue around = around.in_loop

-- a test and its body [own]
abbrev pub arm_fits_step : SlotArm-F (Around → Bool) (Around → Bool) (Around → Bool) → Around → Bool
arm_fits_step arm around = fits around arm.test && all_fit around arm.body

-- the head of a `for` [own]
abbrev pub head_fits_step : SlotHead-F (Around → Bool) (Around → Bool) (Around → Bool) → Around → Bool
head_fits_step head around = all_fit around head.first && optional_fits around head.test && step_fits around head.step

-- the statement fits there [own]
abbrev pub statement_fits : SlotStmt → Around → Bool
statement_fits =
    fold-SlotStmt (Around → Bool) (Around → Bool) (Around → Bool) statement_fits_step arm_fits_step head_fits_step

-- the statements of a body fit these widths [own]
abbrev pub tree_fits : Widths → List SlotStmt → Bool
tree_fits widths tree = all_fit (at_beginning widths) (map statement_fits tree)
