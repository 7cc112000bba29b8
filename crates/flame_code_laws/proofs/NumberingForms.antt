-- How the locals of each form of a numbered statement are numbered.
use Rattle.std.proofs.Common.{◌≡◌, ℕ, ◌+◌, List, map, rules}
use Rattle.std.specs.Prelude.{length, Bool, ◌&&◌, true}
use Rattle.std.specs.List.{list_all}
use Rattle.flame_body.specs.declared.slots.SlotDeed.{SlotDeed}
use Rattle.flame_body.specs.declared.slots.SlotExpr.{SlotExpr}
use Rattle.flame_body.specs.declared.slots.SlotItem.{SlotItem}
use Rattle.flame_body.specs.declared.slots.SlotAssign.{SlotAssign}
use Rattle.flame_body.specs.declared.slots.SlotStmt.{SlotStmt, Empty, Declare, Assign, Call, Block, If, While, For, Do}
use Rattle.flame_body.specs.declared.slots.SlotStmt.{Loop, Return, Break, Continue, the_lemmas as stmt_lemmas}
use Rattle.flame_body.specs.declared.slots.SlotArm.{SlotArm}
use Rattle.flame_body.specs.declared.slots.SlotHead.{SlotHead}
use Rattle.flame_code_laws.specs.NamedLocals.{names_below, all_below}
use Rattle.flame_code_laws.specs.LocalNumbers.{items_numbered, assignment_below, test_below, step_below, adding_none, all_add, all_suit, numbering}

pub numbering-Empty : numbering Empty ≡ adding_none (λ count. true)
numbering-Empty = search (rules, stmt_lemmas)

pub numbering-Declare :
    (items : List SlotItem)
    → numbering (Declare items) ≡ record { adds = length items; suits = items_numbered items }
numbering-Declare items = search (rules, stmt_lemmas)

pub numbering-Assign : (a : SlotAssign) → numbering (Assign a) ≡ adding_none (λ count. assignment_below count a)
numbering-Assign a = search (rules, stmt_lemmas)

pub numbering-Call :
    (deed : SlotDeed) (arguments : List SlotExpr)
    → numbering (Call deed arguments) ≡ adding_none (λ count. all_below count arguments)
numbering-Call deed arguments = search (rules, stmt_lemmas)

pub numbering-Block :
    (body : List SlotStmt) → numbering (Block body) ≡ adding_none (all_suit (map numbering body))
numbering-Block body = search (rules, stmt_lemmas)

-- a test and its body
abbrev pub arm_numbered : SlotArm → ℕ → Bool
arm_numbered arm count = names_below count arm.test && all_suit (map numbering arm.body) count

pub adds-If : (arms : List SlotArm) (otherwise : List SlotStmt) → (numbering (If arms otherwise)).adds ≡ 0
adds-If arms otherwise = search (rules, stmt_lemmas)

pub suits-If :
    (arms : List SlotArm) (otherwise : List SlotStmt) (count : ℕ)
    → (numbering (If arms otherwise)).suits count
    ≡ (list_all (λ arm. arm count) (map arm_numbered arms) && all_suit (map numbering otherwise) count)
suits-If arms otherwise count = search (rules, stmt_lemmas)

pub numbering-While :
    (line : ℕ) (test : SlotExpr) (body : List SlotStmt)
    → numbering (While line test body)
    ≡ adding_none (λ count. names_below count test && all_suit (map numbering body) count)
numbering-While line test body = search (rules, stmt_lemmas)

-- the head of a `for`
abbrev pub head_numbered : SlotHead → ℕ → Bool
head_numbered head count =
    all_suit (map numbering head.first) count
    && (test_below (count + all_add (map numbering head.first)) head.test
    && step_below (count + all_add (map numbering head.first)) head.step)

pub numbering-For :
    (line : ℕ) (head : SlotHead) (body : List SlotStmt)
    → numbering (For line head body)
    ≡ adding_none (λ count. head_numbered head count
    && all_suit (map numbering body) (count + all_add (map numbering head.first)))
numbering-For line head body = search (rules, stmt_lemmas)

pub numbering-Do :
    (line : ℕ) (body : List SlotStmt) (test : SlotExpr)
    → numbering (Do line body test)
    ≡ adding_none (λ count. all_suit (map numbering body) count && names_below count test)
numbering-Do line body test = search (rules, stmt_lemmas)

pub numbering-Loop :
    (line input : ℕ) (body : List SlotStmt)
    → numbering (Loop line input body) ≡ adding_none (all_suit (map numbering body))
numbering-Loop line input body = search (rules, stmt_lemmas)

pub numbering-Return : (e : SlotExpr) → numbering (Return e) ≡ adding_none (λ count. names_below count e)
numbering-Return e = search (rules, stmt_lemmas)

pub numbering-Break : numbering Break ≡ adding_none (λ count. true)
numbering-Break = search (rules, stmt_lemmas)

pub numbering-Continue : numbering Continue ≡ adding_none (λ count. true)
numbering-Continue = search (rules, stmt_lemmas)
