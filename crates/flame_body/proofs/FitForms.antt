-- How each form of a numbered expression and statement fits.
use Rattle.std.proofs.Common.{◌≡◌, ℕ, List, map, rules}
use Rattle.std.specs.Prelude.{ℤ, length, nat_lt, Bool, not, ◌&&◌, true}
use Rattle.std.specs.List.{list_all}
use Rattle.flame_spec.specs.declared.trees.Sign.{Sign}
use Rattle.flame_body.specs.declared.slots.Cells.{Cells}
use Rattle.flame_body.specs.declared.slots.Slot.{Slot}
use Rattle.flame_body.specs.declared.slots.SlotDeed.{SlotDeed}
use Rattle.flame_body.specs.declared.slots.Span.{Span}
use Rattle.flame_body.specs.declared.slots.SlotExpr.{SlotExpr, Number, Name, Field, Get, At, FieldAt, Unary, Chain, All}
use Rattle.flame_body.specs.declared.slots.SlotExpr.{Any, the_lemmas}
use Rattle.flame_body.specs.declared.slots.SlotLink.{SlotLink}
use Rattle.flame_body.specs.declared.slots.SlotSubscript.{SlotSubscript}
use Rattle.flame_body.specs.declared.slots.SlotItem.{SlotItem}
use Rattle.flame_body.specs.declared.slots.SlotAssign.{SlotAssign}
use Rattle.flame_body.specs.declared.slots.SlotStmt.{SlotStmt, Empty, Declare, Assign, Call, Block, If, While, For, Do}
use Rattle.flame_body.specs.declared.slots.SlotStmt.{Loop, Return, Break, Continue, the_lemmas as stmt_lemmas}
use Rattle.flame_body.specs.declared.slots.SlotArm.{SlotArm}
use Rattle.flame_body.specs.declared.slots.SlotHead.{SlotHead}
use Rattle.flame_body.specs.BodyFits.{Around, fit, fits, fit_of_value, fit_of_bare, fit_of_slot, are_within}
use Rattle.flame_body.specs.BodyFits.{are_field_cells, is_field, one_value}
use Rattle.flame_body.specs.BodyFits.{values_fit, optional_fits, initial_fits, assignment_fits, step_fits, deed_fits}
use Rattle.flame_body.specs.BodyFits.{all_fit, statement_fits}
use Rattle.flame_body.specs.BodyFits.{in_plain_loop, in_input_loop, is_inside}

pub fit-Number : (around : Around) (n : ℤ) → fit around (Number n) ≡ one_value
fit-Number around n = search (rules, the_lemmas)

pub fit-Name : (around : Around) (slot : Slot) → fit around (Name slot) ≡ fit_of_slot around.widths slot
fit-Name around slot = search (rules, the_lemmas)

pub fit-Field :
    (around : Around) (input : ℕ) (span : Span)
    → fit around (Field input span) ≡ fit_of_bare (is_field around input span) span.length
fit-Field around input span = search (rules, the_lemmas)

pub fit-Get :
    (around : Around) (column : ℕ)
    → fit around (Get column) ≡ fit_of_value (nat_lt column around.widths.memory)
fit-Get around column = search (rules, the_lemmas)

pub fit-At :
    (around : Around) (cells : Cells) (s : SlotSubscript)
    → fit around (At cells s) ≡ fit_of_value (are_within around.widths.memory cells && fits around s.index)
fit-At around cells s = search (rules, the_lemmas)

pub fit-FieldAt :
    (around : Around) (input : ℕ) (cells : Cells) (s : SlotSubscript)
    → fit around (FieldAt input cells s) ≡ fit_of_value (are_field_cells around input cells && fits around s.index)
fit-FieldAt around input cells s = search (rules, the_lemmas)

pub fit-Unary :
    (around : Around) (signs : List Sign) (e : SlotExpr)
    → fit around (Unary signs e) ≡ fit_of_value (fits around e)
fit-Unary around signs e = search (rules, the_lemmas)

pub fit-Chain :
    (around : Around) (e : SlotExpr) (links : List SlotLink)
    → fit around (Chain e links)
    ≡ fit_of_value (fits around e && list_all (λ link. link) (map (λ link. fits around link.right) links))
fit-Chain around e links = search (rules, the_lemmas)

pub fit-All :
    (around : Around) (parts : List SlotExpr)
    → fit around (All parts) ≡ fit_of_value (values_fit around parts)
fit-All around parts = search (rules, the_lemmas)

pub fit-Any :
    (around : Around) (parts : List SlotExpr)
    → fit around (Any parts) ≡ fit_of_value (values_fit around parts)
fit-Any around parts = search (rules, the_lemmas)

pub fits-Empty : (around : Around) → statement_fits Empty around ≡ true
fits-Empty around = search (rules, stmt_lemmas)

pub fits-Declare :
    (around : Around) (items : List SlotItem)
    → statement_fits (Declare items) around ≡ list_all (λ item. initial_fits around item.value) items
fits-Declare around items = search (rules, stmt_lemmas)

pub fits-Assign : (around : Around) (a : SlotAssign) → statement_fits (Assign a) around ≡ assignment_fits around a
fits-Assign around a = search (rules, stmt_lemmas)

pub fits-Call :
    (around : Around) (deed : SlotDeed) (arguments : List SlotExpr)
    → statement_fits (Call deed arguments) around ≡ deed_fits around deed arguments
fits-Call around deed arguments = search (rules, stmt_lemmas)

pub fits-Block :
    (around : Around) (body : List SlotStmt)
    → statement_fits (Block body) around ≡ all_fit around (map statement_fits body)
fits-Block around body = search (rules, stmt_lemmas)

-- a test and its body fit
abbrev pub arm_fits : SlotArm → Around → Bool
arm_fits arm around = fits around arm.test && all_fit around (map statement_fits arm.body)

pub fits-If :
    (around : Around) (arms : List SlotArm) (otherwise : List SlotStmt)
    → statement_fits (If arms otherwise) around
    ≡ (all_fit around (map arm_fits arms) && all_fit around (map statement_fits otherwise))
fits-If around arms otherwise = search (rules, stmt_lemmas)

pub fits-While :
    (around : Around) (line : ℕ) (test : SlotExpr) (body : List SlotStmt)
    → statement_fits (While line test body) around
    ≡ (fits around test && all_fit (in_plain_loop around) (map statement_fits body))
fits-While around line test body = search (rules, stmt_lemmas)

pub fits-For :
    (around : Around) (line : ℕ) (head : SlotHead) (body : List SlotStmt)
    → statement_fits (For line head body) around
    ≡ (all_fit around (map statement_fits head.first) && optional_fits around head.test && step_fits around head.step
    && all_fit (in_plain_loop around) (map statement_fits body))
fits-For around line head body = search (rules, stmt_lemmas)

pub fits-Do :
    (around : Around) (line : ℕ) (body : List SlotStmt) (test : SlotExpr)
    → statement_fits (Do line body test) around
    ≡ (all_fit (in_plain_loop around) (map statement_fits body) && fits around test)
fits-Do around line body test = search (rules, stmt_lemmas)

pub fits-Loop :
    (around : Around) (line input : ℕ) (body : List SlotStmt)
    → statement_fits (Loop line input body) around
    ≡ (nat_lt input (length around.widths.inputs) && not (is_inside input around)
    && all_fit (in_input_loop input around) (map statement_fits body))
fits-Loop around line input body = search (rules, stmt_lemmas)

pub fits-Return : (around : Around) (e : SlotExpr) → statement_fits (Return e) around ≡ fits around e
fits-Return around e = search (rules, stmt_lemmas)

pub fits-Break : (around : Around) → statement_fits Break around ≡ around.in_loop
fits-Break around = search (rules, stmt_lemmas)

pub fits-Continue : (around : Around) → statement_fits Continue around ≡ around.in_loop
fits-Continue around = search (rules, stmt_lemmas)
