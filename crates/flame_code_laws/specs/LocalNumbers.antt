-- When the locals of a numbered body have the numbers that their places give: each is declared with the number of those
-- declared before it that are still open, and each that is named is one of them.
use Rattle.std.specs.Prelude.{ℕ, ◌+◌, ◌==◌, nat_lt, List, [], ◌∷◌, length, Bool, true, ◌&&◌, map, Option, Some, None}
use Rattle.std.specs.List.{list_all}
use Rattle.flame_body.specs.declared.slots.SlotExpr.{SlotExpr}
use Rattle.flame_body.specs.declared.slots.SlotValue.{SlotValue}
use Rattle.flame_body.specs.declared.slots.SlotValue.TheVariants as stored
use Rattle.flame_body.specs.declared.slots.SlotItem.{SlotItem}
use Rattle.flame_body.specs.declared.slots.SlotTarget.{SlotTarget}
use Rattle.flame_body.specs.declared.slots.SlotTarget.TheVariants as target
use Rattle.flame_body.specs.declared.slots.SlotAssign.{SlotAssign}
use Rattle.flame_body.specs.declared.slots.SlotStmt.{SlotStmt, fold-SlotStmt}
use Rattle.flame_body.specs.declared.slots.SlotStmt.TheOpen.{SlotStmt-F, SlotArm-F, SlotHead-F}
use Rattle.flame_code_laws.specs.NamedLocals.{names_below, all_below}

-- ---- values and assignments

-- what is stored names none but the first so many locals [C, 6.2.1]
abbrev pub stored_below : ℕ → SlotValue → Bool
stored_below count (stored.Plain e) = names_below count e
stored_below count (stored.Call line helper arguments) = all_below count arguments

-- so does what a local begins with, if it does [C, 6.2.1]
abbrev pub initial_below : ℕ → Option SlotValue → Bool
initial_below count None = true
initial_below count (Some value) = stored_below count value

-- the items are declared behind so many locals, each with the next number [C, 6.2.1]
abbrev pub items_numbered : List SlotItem → ℕ → Bool
items_numbered [] count = true
items_numbered (item ∷ items) count =
    (item.local == count) && (initial_below count item.value && items_numbered items (count + 1))

-- what is assigned to is one of the first so many locals, where it is a local [C, 6.2.1]
abbrev pub target_below : ℕ → SlotTarget → Bool
target_below count (target.Local number) = nat_lt number count
target_below count (target.Memory column) = true
target_below count (target.Element cells subscript) = names_below count subscript.index

-- an assignment names none but the first so many locals [C, 6.2.1]
abbrev pub assignment_below : ℕ → SlotAssign → Bool
assignment_below count a = target_below count a.target && stored_below count a.value

-- a test that may be missing does [C, 6.2.1]
abbrev pub test_below : ℕ → Option SlotExpr → Bool
test_below count None = true
test_below count (Some e) = names_below count e

-- so does a step [C, 6.2.1]
abbrev pub step_below : ℕ → Option SlotAssign → Bool
step_below count None = true
step_below count (Some a) = assignment_below count a

-- ---- statements

-- how many locals a statement declares for what stands behind it, and whether its locals are numbered rightly behind so
-- many [own]
pub record Numbering : Type 0 where
  pub adds : ℕ
  pub suits : ℕ → Bool

-- one that declares none for what stands behind it [own]
abbrev pub adding_none : (ℕ → Bool) → Numbering
adding_none suits = record { adds = 0; suits = suits }

-- how many locals statements declare together [own]
abbrev pub all_add : List Numbering → ℕ
all_add [] = 0
all_add (statement ∷ statements) = statement.adds + all_add statements

-- statements one behind another [C, 6.2.1]
abbrev pub all_suit : List Numbering → ℕ → Bool
all_suit [] count = true
all_suit (statement ∷ statements) count = statement.suits count && all_suit statements (count + statement.adds)

-- a statement, whose parts are numbered so [C, 6.2.1]
abbrev pub numbering_step : SlotStmt-F Numbering (ℕ → Bool) Numbering → Numbering
numbering_step SlotStmt-F.Empty = adding_none (λ count. true)
numbering_step (SlotStmt-F.Declare items) = record { adds = length items; suits = items_numbered items }
numbering_step (SlotStmt-F.Assign a) = adding_none (λ count. assignment_below count a)
numbering_step (SlotStmt-F.Call deed arguments) = adding_none (λ count. all_below count arguments)
numbering_step (SlotStmt-F.Block body) = adding_none (all_suit body)
numbering_step (SlotStmt-F.If arms otherwise) =
    adding_none (λ count. list_all (λ arm. arm count) arms && all_suit otherwise count)
numbering_step (SlotStmt-F.While line test body) = adding_none (λ count. names_below count test && all_suit body count)
numbering_step (SlotStmt-F.For line head body) =
    adding_none (λ count. head.suits count && all_suit body (count + head.adds))
numbering_step (SlotStmt-F.Do line body test) = adding_none (λ count. all_suit body count && names_below count test)
numbering_step (SlotStmt-F.Loop line input body) = adding_none (all_suit body)
numbering_step (SlotStmt-F.Return e) = adding_none (λ count. names_below count e)
numbering_step SlotStmt-F.Break = adding_none (λ count. true)
numbering_step SlotStmt-F.Continue = adding_none (λ count. true)

-- a test and its body [C, 6.2.1]
abbrev pub arm_numbering_step : SlotArm-F Numbering (ℕ → Bool) Numbering → ℕ → Bool
arm_numbering_step arm count = names_below count arm.test && all_suit arm.body count

-- the head of a `for`: what its first statements declare is seen in its test, its step and the body [C, 6.8.5.3]
abbrev pub head_numbering_step : SlotHead-F Numbering (ℕ → Bool) Numbering → Numbering
head_numbering_step head = record {
  adds = all_add head.first;
  suits = λ count. all_suit head.first count
      && (test_below (count + all_add head.first) head.test && step_below (count + all_add head.first) head.step);
}

-- how the locals of a statement are numbered [C, 6.2.1]
abbrev pub numbering : SlotStmt → Numbering
numbering =
    fold-SlotStmt Numbering (ℕ → Bool) Numbering numbering_step arm_numbering_step head_numbering_step

-- the locals of a body are numbered rightly, which begins with so many [C, 6.2.1]
abbrev pub tree_numbered : ℕ → List SlotStmt → Bool
tree_numbered count tree = all_suit (map numbering tree) count
