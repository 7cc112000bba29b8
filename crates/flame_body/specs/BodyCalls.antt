-- When the calls of helpers in a numbered tree pass a test of the helper's number and of how many arguments it gets, and
-- when these are as many as the helper takes. It speaks of numbers alone.
use Rattle.std.specs.Prelude.{ℕ, List, map, length, Bool, true, ◌&&◌, Option, Some, None}
use Rattle.std.specs.List.{list_all}
use Rattle.flame_spec.specs.Definitions.{takes}
use Rattle.flame_body.specs.declared.slots.SlotDeed.{SlotDeed}
use Rattle.flame_body.specs.declared.slots.SlotDeed.TheVariants.{Calls}
use Rattle.flame_body.specs.declared.slots.SlotExpr.{SlotExpr}
use Rattle.flame_body.specs.declared.slots.SlotValue.{SlotValue}
use Rattle.flame_body.specs.declared.slots.SlotValue.TheVariants.{Plain, Call}
use Rattle.flame_body.specs.declared.slots.SlotAssign.{SlotAssign}
use Rattle.flame_body.specs.declared.slots.SlotStmt.{SlotStmt, fold-SlotStmt}
use Rattle.flame_body.specs.declared.slots.SlotStmt.TheOpen.{SlotStmt-F, SlotArm-F, SlotHead-F}

-- what a call statement does, where it calls a helper [C, 6.5.2.2]
abbrev pub deed_calls_pass : (ℕ → ℕ → Bool) → SlotDeed → List SlotExpr → Bool
deed_calls_pass passes (Calls line helper) arguments = passes helper (length arguments)
deed_calls_pass passes _ arguments = true

-- what is stored, where a helper returns it [C, 6.5.2.2]
abbrev pub stored_calls_pass : (ℕ → ℕ → Bool) → SlotValue → Bool
stored_calls_pass passes (Plain e) = true
stored_calls_pass passes (Call line helper arguments) = passes helper (length arguments)

-- what a local begins with, if it does [own]
abbrev pub initial_calls_pass : (ℕ → ℕ → Bool) → Option SlotValue → Bool
initial_calls_pass passes None = true
initial_calls_pass passes (Some value) = stored_calls_pass passes value

-- an assignment that may be missing [own]
abbrev pub step_calls_pass : (ℕ → ℕ → Bool) → Option SlotAssign → Bool
step_calls_pass passes None = true
step_calls_pass passes (Some a) = stored_calls_pass passes a.value

-- the calls in each of these statements pass [own]
abbrev pub all_calls_pass : List Bool → Bool
all_calls_pass statements = list_all (λ statement. statement) statements

-- a statement, of whose parts it is known whether their calls pass [own]
abbrev pub statement_calls_step : (ℕ → ℕ → Bool) → SlotStmt-F Bool Bool Bool → Bool
statement_calls_step passes SlotStmt-F.Empty = true
statement_calls_step passes (SlotStmt-F.Declare items) = list_all (λ item. initial_calls_pass passes item.value) items
statement_calls_step passes (SlotStmt-F.Assign a) = stored_calls_pass passes a.value
statement_calls_step passes (SlotStmt-F.Call deed arguments) = deed_calls_pass passes deed arguments
statement_calls_step passes (SlotStmt-F.Block body) = all_calls_pass body
statement_calls_step passes (SlotStmt-F.If arms otherwise) = all_calls_pass arms && all_calls_pass otherwise
statement_calls_step passes (SlotStmt-F.While line test body) = all_calls_pass body
statement_calls_step passes (SlotStmt-F.For line head body) = head && all_calls_pass body
statement_calls_step passes (SlotStmt-F.Do line body test) = all_calls_pass body
statement_calls_step passes (SlotStmt-F.Loop line input body) = all_calls_pass body
statement_calls_step passes (SlotStmt-F.Return e) = true
statement_calls_step passes SlotStmt-F.Break = true
statement_calls_step passes SlotStmt-F.Continue = true

-- the body of a test [own]
abbrev pub arm_calls_step : SlotArm-F Bool Bool Bool → Bool
arm_calls_step arm = all_calls_pass arm.body

-- the head of a `for` [own]
abbrev pub head_calls_step : (ℕ → ℕ → Bool) → SlotHead-F Bool Bool Bool → Bool
head_calls_step passes head = all_calls_pass head.first && step_calls_pass passes head.step

-- the calls of helpers in a statement pass [own]
abbrev pub statement_calls_pass : (ℕ → ℕ → Bool) → SlotStmt → Bool
statement_calls_pass passes =
    fold-SlotStmt Bool Bool Bool (statement_calls_step passes) arm_calls_step (head_calls_step passes)

-- the calls of helpers in the statements of a body pass [own]
abbrev pub tree_calls_pass : (ℕ → ℕ → Bool) → List SlotStmt → Bool
tree_calls_pass passes tree = all_calls_pass (map (statement_calls_pass passes) tree)

-- the calls of helpers in the statements of a body fit, where the helpers take these numbers of arguments [C, 6.5.2.2]
abbrev pub tree_calls_fit : List ℕ → List SlotStmt → Bool
tree_calls_fit counts tree = tree_calls_pass (takes counts) tree
