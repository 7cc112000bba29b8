-- That the code of expressions and statements does what they do.
use Rattle.std.specs.Prelude.{◌≡◌, ℕ, ◌+◌, ℤ, List, ◌∷◌, length, map, true, Some}
use Rattle.std.specs.List.{list_all}
use Rattle.flame_body.specs.declared.slots.SlotAssign.{SlotAssign}
use Rattle.flame_body.specs.declared.slots.SlotDeed.{SlotDeed}
use Rattle.flame_body.specs.declared.slots.SlotExpr.{SlotExpr}
use Rattle.flame_body.specs.declared.slots.SlotItem.{SlotItem}
use Rattle.flame_body.specs.declared.slots.SlotStmt.{SlotStmt}
use Rattle.flame_body.specs.BodyFits.{Around, fit, fits, numbers_of as count_of}
use Rattle.flame_body.specs.BodyFits.{initial_fits, assignment_fits, deed_fits, all_fit, statement_fits}
use Rattle.flame_code.specs.Machine.{Config}
use Rattle.flame_compile.specs.Pieces.{both, in_order}
use Rattle.flame_compile.specs.Emit.{expression, arguments, item, assignment, deed, statements}
use Rattle.flame_meaning.specs.Ends.{with_values}
use Rattle.flame_meaning.specs.Scenes.{Progress}
use Rattle.flame_number_laws.specs.NumberedScenes.{NumberedScene}
use Rattle.flame_number_laws.specs.NumberedMeaning.{value_of, argument_numbers, declarations, done, assignment as assigned, runs_of}
use Rattle.flame_code_laws.specs.CodeRuns.{Running, HasAt, at, pushed, Gives}
use Rattle.flame_code_laws.specs.Likeness.{Alike}
use Rattle.flame_code_laws.specs.NamedLocals.{names_below, all_below}
use Rattle.flame_code_laws.specs.LocalNumbers.{items_numbered, assignment_below, all_add, numbering, tree_numbered}
use Rattle.flame_code_laws.specs.Standings.{Frame, IsSound, Follows, Comes}

-- the code of an expression that fits comes to its end with the expression's value on the stack, or ends in its fault,
-- wherever it stands and whatever is on the stack [C, 6.5]
abbrev pub ExpressionsRun : Type 0
ExpressionsRun =
    (run : Running) (around : Around) (before : NumberedScene) (s : Progress) (c : Config)
    → Alike run around before s c
    → (e : SlotExpr) → fits around e ≡ true → names_below (length s.locals) e ≡ true
    → (p : ℕ) (stack : List ℤ) → HasAt run p ((expression e).code p)
    → Gives run (at p stack c) (λ v. at (p + (expression e).size) (v ∷ stack) c) (value_of e before s)

-- the code of arguments that fit comes to its end with their numbers on the stack, in order, or ends in their first
-- fault [C, 6.5.2.2]
abbrev pub ArgumentsRun : Type 0
ArgumentsRun =
    (run : Running) (around : Around) (before : NumberedScene) (s : Progress) (c : Config)
    → Alike run around before s c
    → (es : List SlotExpr) (count : ℕ) → count_of (map (fit around) es) ≡ Some count
    → all_below (length s.locals) es ≡ true
    → (p : ℕ) (stack : List ℤ) → HasAt run p ((arguments es).code p)
    → Gives run (at p stack c) (λ vs. at (p + (arguments es).size) (pushed vs stack) c) (argument_numbers es before s)

-- the code of a declaration that fits comes to what the declaration comes to, with one local more for each item, where
-- calls of helpers end as they have to [C, 6.7]
abbrev pub DeclarationsRun : Type 0
DeclarationsRun =
    (run : Running) (f : Frame) → IsSound run f
    → (items : List SlotItem) (s : Progress) (c : Config) (p : ℕ)
    → Follows f s c
    → list_all (λ (item : SlotItem). initial_fits f.around item.value) items ≡ true
    → items_numbered items (length s.locals) ≡ true
    → HasAt run p ((in_order (map item items)).code p)
    → Comes run f (at p f.stack c) (length s.locals + length items)
    (p + length ((in_order (map item items)).code p)) (declarations items f.before s)

-- the code of an assignment that fits comes to what the assignment comes to [C, 6.5.16]
abbrev pub AssignmentsRun : Type 0
AssignmentsRun =
    (run : Running) (f : Frame) → IsSound run f
    → (a : SlotAssign) (s : Progress) (c : Config) (p : ℕ)
    → Follows f s c
    → assignment_fits f.around a ≡ true
    → assignment_below (length s.locals) a ≡ true
    → HasAt run p ((assignment a).code p)
    → Comes run f (at p f.stack c) (length s.locals) (p + length ((assignment a).code p)) (assigned a f.before s)

-- the code of a call statement that fits comes to what the statement comes to [FLAME User Manual; C, 6.8.3]
abbrev pub CallStatementsRun : Type 0
CallStatementsRun =
    (run : Running) (f : Frame) → IsSound run f
    → (d : SlotDeed) (es : List SlotExpr) (s : Progress) (c : Config) (p : ℕ)
    → Follows f s c
    → deed_fits f.around d es ≡ true
    → all_below (length s.locals) es ≡ true
    → HasAt run p ((both (arguments es) (deed d (length es))).code p)
    → Comes run f (at p f.stack c) (length s.locals) (p + length ((both (arguments es) (deed d (length es))).code p))
    (with_values (argument_numbers es f.before s) (λ vs. done d vs f.before s))

-- the code of statements that fit, whose locals are numbered rightly, comes to what the statements come to, where calls
-- of helpers end as they have to [C, 6.8]
abbrev pub StatementsRun : Type 0
StatementsRun =
    (run : Running) (f : Frame) → IsSound run f
    → (body : List SlotStmt) (s : Progress) (c : Config) (p : ℕ)
    → Follows f s c
    → all_fit f.around (map statement_fits body) ≡ true
    → tree_numbered (length s.locals) body ≡ true
    → HasAt run p ((statements body).code f.leave f.again p)
    → Comes run f (at p f.stack c) (length s.locals + all_add (map numbering body)) (p + (statements body).size)
    (runs_of body f.before s)
