-- What the calls of helpers in each form of a numbered statement are.
use Rattle.std.proofs.Common.{◌≡◌, ℕ, List, map, rules}
use Rattle.std.specs.Prelude.{Bool, ◌&&◌, true}
use Rattle.std.specs.List.{list_all}
use Rattle.flame_body.specs.declared.slots.SlotDeed.{SlotDeed}
use Rattle.flame_body.specs.declared.slots.SlotExpr.{SlotExpr}
use Rattle.flame_body.specs.declared.slots.SlotItem.{SlotItem}
use Rattle.flame_body.specs.declared.slots.SlotAssign.{SlotAssign}
use Rattle.flame_body.specs.declared.slots.SlotStmt.{SlotStmt, Empty, Declare, Assign, Call, Block, If, While, For, Do}
use Rattle.flame_body.specs.declared.slots.SlotStmt.{Loop, Return, Break, Continue, the_lemmas}
use Rattle.flame_body.specs.declared.slots.SlotArm.{SlotArm}
use Rattle.flame_body.specs.declared.slots.SlotHead.{SlotHead}
use Rattle.flame_body.specs.BodyCalls.{initial_calls_pass, stored_calls_pass, step_calls_pass, deed_calls_pass}
use Rattle.flame_body.specs.BodyCalls.{all_calls_pass, statement_calls_pass, tree_calls_pass}

pub calls-Empty : (passes : ℕ → ℕ → Bool) → statement_calls_pass passes Empty ≡ true
calls-Empty passes = search (rules, the_lemmas)

pub calls-Declare :
    (passes : ℕ → ℕ → Bool) (items : List SlotItem)
    → statement_calls_pass passes (Declare items) ≡ list_all (λ item. initial_calls_pass passes item.value) items
calls-Declare passes items = search (rules, the_lemmas)

pub calls-Assign :
    (passes : ℕ → ℕ → Bool) (a : SlotAssign) → statement_calls_pass passes (Assign a) ≡ stored_calls_pass passes a.value
calls-Assign passes a = search (rules, the_lemmas)

pub calls-Call :
    (passes : ℕ → ℕ → Bool) (deed : SlotDeed) (arguments : List SlotExpr)
    → statement_calls_pass passes (Call deed arguments) ≡ deed_calls_pass passes deed arguments
calls-Call passes deed arguments = search (rules, the_lemmas)

pub calls-Block :
    (passes : ℕ → ℕ → Bool) (body : List SlotStmt)
    → statement_calls_pass passes (Block body) ≡ tree_calls_pass passes body
calls-Block passes body = search (rules, the_lemmas)

-- the calls in the body of a test pass
abbrev pub arm_calls_pass : (ℕ → ℕ → Bool) → SlotArm → Bool
arm_calls_pass passes arm = tree_calls_pass passes arm.body

pub calls-If :
    (passes : ℕ → ℕ → Bool) (arms : List SlotArm) (otherwise : List SlotStmt)
    → statement_calls_pass passes (If arms otherwise)
    ≡ (all_calls_pass (map (arm_calls_pass passes) arms) && tree_calls_pass passes otherwise)
calls-If passes arms otherwise = search (rules, the_lemmas)

pub calls-While :
    (passes : ℕ → ℕ → Bool) (line : ℕ) (test : SlotExpr) (body : List SlotStmt)
    → statement_calls_pass passes (While line test body) ≡ tree_calls_pass passes body
calls-While passes line test body = search (rules, the_lemmas)

pub calls-For :
    (passes : ℕ → ℕ → Bool) (line : ℕ) (head : SlotHead) (body : List SlotStmt)
    → statement_calls_pass passes (For line head body)
    ≡ ((tree_calls_pass passes head.first && step_calls_pass passes head.step) && tree_calls_pass passes body)
calls-For passes line head body = search (rules, the_lemmas)

pub calls-Do :
    (passes : ℕ → ℕ → Bool) (line : ℕ) (body : List SlotStmt) (test : SlotExpr)
    → statement_calls_pass passes (Do line body test) ≡ tree_calls_pass passes body
calls-Do passes line body test = search (rules, the_lemmas)

pub calls-Loop :
    (passes : ℕ → ℕ → Bool) (line input : ℕ) (body : List SlotStmt)
    → statement_calls_pass passes (Loop line input body) ≡ tree_calls_pass passes body
calls-Loop passes line input body = search (rules, the_lemmas)

pub calls-Return : (passes : ℕ → ℕ → Bool) (e : SlotExpr) → statement_calls_pass passes (Return e) ≡ true
calls-Return passes e = search (rules, the_lemmas)

pub calls-Break : (passes : ℕ → ℕ → Bool) → statement_calls_pass passes Break ≡ true
calls-Break passes = search (rules, the_lemmas)

pub calls-Continue : (passes : ℕ → ℕ → Bool) → statement_calls_pass passes Continue ≡ true
calls-Continue passes = search (rules, the_lemmas)
