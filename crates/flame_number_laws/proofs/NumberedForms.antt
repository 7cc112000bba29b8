-- What each form of a numbered tree gives and does.
use Rattle.std.proofs.Common.{◌≡◌, ℕ, List, [], map, rules}
use Rattle.std.specs.Prelude.{ℤ, Ok, slice_index_or}
use Rattle.flame_spec.specs.declared.trees.Sign.{Sign}
use Rattle.flame_spec.specs.Conditions.{number_at}
use Rattle.flame_body.specs.declared.slots.Cells.{Cells}
use Rattle.flame_body.specs.declared.slots.Slot.{Slot}
use Rattle.flame_body.specs.declared.slots.SlotDeed.{SlotDeed}
use Rattle.flame_body.specs.declared.slots.Span.{Span}
use Rattle.flame_body.specs.declared.slots.SlotExpr.{SlotExpr, Number, Name, Field, Get, At, FieldAt, Unary, Chain, All, Any, the_lemmas}
use Rattle.flame_body.specs.declared.slots.SlotLink.{SlotLink}
use Rattle.flame_body.specs.declared.slots.SlotSubscript.{SlotSubscript}
use Rattle.flame_body.specs.declared.slots.SlotItem.{SlotItem}
use Rattle.flame_body.specs.declared.slots.SlotAssign.{SlotAssign}
use Rattle.flame_body.specs.declared.slots.SlotStmt.{SlotStmt, Empty, Declare, Assign, Call, Block, If, While, For, Do, Loop, Return, Break, Continue, the_lemmas as stmt_lemmas}
use Rattle.flame_body.specs.declared.slots.SlotArm.{SlotArm}
use Rattle.flame_body.specs.declared.slots.SlotHead.{SlotHead}
use Rattle.flame_meaning.specs.Scenes.{Progress}
use Rattle.flame_meaning.specs.Expressions.{on_value, signs_value}
use Rattle.flame_meaning.specs.Ends.{went_on, broke, continued, returned, with_value, with_values, on_to, as_scope}
use Rattle.flame_meaning.specs.Loops.{turn, loop}
use Rattle.flame_number_laws.specs.NumberedScenes.{NumberedScene, standing_at, slot_value, slot_numbers, span_numbers}
use Rattle.flame_number_laws.specs.NumberedMeaning.{ExpressionMeaning, Indexing, one_value, chained, all_value, any_value, element_of, meaning_of, value_of}
use Rattle.flame_number_laws.specs.NumberedMeaning.{link_of, argument_numbers, declarations, assignment, done, scope, first_arm, test_value, step_of}
use Rattle.flame_number_laws.specs.NumberedMeaning.{nothing, each_row, run_of, arm_of, runs_of}

pub meaning-Number : (n : ℤ) → meaning_of (Number n) ≡ one_value (λ before s. Ok n)
meaning-Number n = search (rules, the_lemmas)

-- a name
abbrev pub name_meaning : Slot → ExpressionMeaning
name_meaning slot = record {
  value = λ before s. Ok (slot_value slot before s);
  numbers = λ before s. Ok (slot_numbers slot before s);
}

pub meaning-Name : (slot : Slot) → meaning_of (Name slot) ≡ name_meaning slot
meaning-Name slot = search (rules, the_lemmas)

-- a variable of a row
abbrev pub field_meaning : ℕ → Span → ExpressionMeaning
field_meaning input span = record {
  value = λ before s. Ok (number_at (before.current_rows input) span.column);
  numbers = λ before s. Ok (span_numbers span (before.current_rows input));
}

pub meaning-Field : (input : ℕ) (span : Span) → meaning_of (Field input span) ≡ field_meaning input span
meaning-Field input span = search (rules, the_lemmas)

pub meaning-Get : (column : ℕ) → meaning_of (Get column) ≡ one_value (λ before s. Ok (number_at s.memory column))
meaning-Get column = search (rules, the_lemmas)

-- an index and its line
abbrev pub element : SlotSubscript → Indexing
element subscript = record { line = subscript.line; index = value_of subscript.index }

pub meaning-At :
    (cells : Cells) (subscript : SlotSubscript)
    → meaning_of (At cells subscript) ≡ one_value (element_of cells (element subscript) (λ before s. s.memory))
meaning-At cells subscript = search (rules, the_lemmas)

pub meaning-FieldAt :
    (input : ℕ) (cells : Cells) (subscript : SlotSubscript)
    → meaning_of (FieldAt input cells subscript)
    ≡ one_value (element_of cells (element subscript) (λ before s. before.current_rows input))
meaning-FieldAt input cells subscript = search (rules, the_lemmas)

pub meaning-Unary :
    (signs : List Sign) (e : SlotExpr)
    → meaning_of (Unary signs e) ≡ one_value (λ before s. on_value (value_of e before s) (signs_value signs))
meaning-Unary signs e = search (rules, the_lemmas)

pub meaning-Chain :
    (e : SlotExpr) (links : List SlotLink)
    → meaning_of (Chain e links)
    ≡ one_value (chained (value_of e) (map link_of links))
meaning-Chain e links = search (rules, the_lemmas)

pub meaning-All : (parts : List SlotExpr) → meaning_of (All parts) ≡ one_value (all_value (map meaning_of parts))
meaning-All parts = search (rules, the_lemmas)

pub meaning-Any : (parts : List SlotExpr) → meaning_of (Any parts) ≡ one_value (any_value (map meaning_of parts))
meaning-Any parts = search (rules, the_lemmas)

-- ---- statements

pub run-Empty : (before : NumberedScene) (s : Progress) → run_of Empty before s ≡ went_on s
run-Empty before s = search (rules, stmt_lemmas)

pub run-Declare :
    (items : List SlotItem) (before : NumberedScene) (s : Progress)
    → run_of (Declare items) before s ≡ declarations items before s
run-Declare items before s = search (rules, stmt_lemmas)

pub run-Assign :
    (a : SlotAssign) (before : NumberedScene) (s : Progress) → run_of (Assign a) before s ≡ assignment a before s
run-Assign a before s = search (rules, stmt_lemmas)

pub run-Call :
    (deed : SlotDeed) (arguments : List SlotExpr) (before : NumberedScene) (s : Progress)
    → run_of (Call deed arguments) before s
    ≡ with_values (argument_numbers arguments before s) (λ values. done deed values before s)
run-Call deed arguments before s = search (rules, stmt_lemmas)

pub run-Block :
    (body : List SlotStmt) (before : NumberedScene) (s : Progress)
    → run_of (Block body) before s ≡ scope (map run_of body) before s
run-Block body before s = search (rules, stmt_lemmas)

pub run-If :
    (arms : List SlotArm) (otherwise : List SlotStmt) (before : NumberedScene) (s : Progress)
    → run_of (If arms otherwise) before s ≡ first_arm (map arm_of arms) (scope (map run_of otherwise)) before s
run-If arms otherwise before s = search (rules, stmt_lemmas)

pub run-While :
    (line : ℕ) (test : SlotExpr) (body : List SlotStmt) (before : NumberedScene) (s : Progress)
    → run_of (While line test body) before s
    ≡ loop line (value_of test before) (scope (map run_of body) before) (nothing before) s
run-While line test body before s = search (rules, stmt_lemmas)

pub run-For :
    (line : ℕ) (head : SlotHead) (body : List SlotStmt) (before : NumberedScene) (s : Progress)
    → run_of (For line head body) before s
    ≡ as_scope (λ t.
    on_to (runs_of head.first before t)
    (loop line (test_value head.test before) (scope (map run_of body) before) (step_of head.step before))) s
run-For line head body before s = search (rules, stmt_lemmas)

pub run-Do :
    (line : ℕ) (body : List SlotStmt) (test : SlotExpr) (before : NumberedScene) (s : Progress)
    → run_of (Do line body test) before s
    ≡ turn line (scope (map run_of body) before)
    (loop line (value_of test before) (scope (map run_of body) before) (nothing before)) s
run-Do line body test before s = search (rules, stmt_lemmas)

pub run-Loop :
    (line input : ℕ) (body : List SlotStmt) (before : NumberedScene) (s : Progress)
    → run_of (Loop line input body) before s
    ≡ each_row line (λ row. scope (map run_of body) (standing_at input row before))
    (slice_index_or before.readings input []) s
run-Loop line input body before s = search (rules, stmt_lemmas)

pub run-Return :
    (e : SlotExpr) (before : NumberedScene) (s : Progress)
    → run_of (Return e) before s ≡ with_value (value_of e before s) (λ v. returned v s)
run-Return e before s = search (rules, stmt_lemmas)

pub run-Break : (before : NumberedScene) (s : Progress) → run_of Break before s ≡ broke s
run-Break before s = search (rules, stmt_lemmas)

pub run-Continue : (before : NumberedScene) (s : Progress) → run_of Continue before s ≡ continued s
run-Continue before s = search (rules, stmt_lemmas)
