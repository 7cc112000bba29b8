-- What is stored without faults fits, with numbers in place of names: assignments and declarations.
use Rattle.std.proofs.Common.{◌≡◌, ℕ, ◌+◌, ◌≤◌, List, [], ◌∷◌, ◌++◌, Option, Some, None, true, false, refl, ap}
use Rattle.std.proofs.Common.{◌∙◌, arith}
use Rattle.std.specs.Prelude.{not, ◌||◌, option_map, is_some}
use Rattle.std.specs.List.{list_all}
use Rattle.std.proofs.lemmas.Bool.{lt-ltb, and_parts, and_from, not-false}
use Rattle.flame_rows.proofs.Lists.{append-is_nil_left, append-is_nil_right}
use Rattle.flame_rows.proofs.Truths.{or-true_left, is_some-false}
use Rattle.flame_spec.specs.Columns.{width, width_by, width_of}
use Rattle.flame_spec.specs.Definitions.{helper_named}
use Rattle.flame_spec.specs.ExpressionFaults.{gives_array, names_array, fault_where, unknown_faults, indexed_faults}
use Rattle.flame_spec.specs.ExpressionFaults.{expression_faults, optional_faults}
use Rattle.flame_spec.specs.LookUps.{Given, in_memory, constant, iteration}
use Rattle.flame_spec.specs.Scopes.{Context, Sight, names_seen, memory_at, given_at, is_local, is_visible, is_name_of}
use Rattle.flame_spec.specs.Scopes.{in_value_of, after_name}
use Rattle.flame_spec.specs.StatementFaults.{stored_faults, is_only_read, is_read_only, subscript_faults}
use Rattle.flame_spec.specs.StatementFaults.{assignment_faults}
use Rattle.flame_spec.specs.StatementFaults.{optional_assignment_faults, optional_stored_faults, declared_faults}
use Rattle.flame_spec.specs.StatementFaults.{item_faults, items_faults}
use Rattle.flame_spec.specs.Trees.{Expression, Stored, plain, called, Indexed, Assigned, Declared}
use Rattle.flame_spec.proofs.FaultTests.{fault_where-none}
use Rattle.flame_body.specs.declared.slots.SlotItem.{SlotItem}
use Rattle.flame_body.specs.WordSlots.{local_number, target_or_given, target_at, cells_at}
use Rattle.flame_body.specs.NumberedTrees.{numbered, numbered_stored, numbered_target, numbered_assignment}
use Rattle.flame_body.specs.NumberedTrees.{numbered_items}
use Rattle.flame_body.specs.FunctionBodies.{widths_in}
use Rattle.flame_body.specs.FitLaws.{Suits, unfiled}
use Rattle.flame_body.specs.BodyFits.{Around, fits, optional_fits, are_within, stored_fits, initial_fits, target_fits}
use Rattle.flame_body.specs.BodyFits.{assignment_fits, step_fits}
use Rattle.flame_body.proofs.FittedWords.{memory-width, given-within, local-seen}
use Rattle.flame_body.proofs.FittedExpressions.{expression-fits, cells-fit}
use Rattle.flame_body.proofs.FittedCalls.{helper-values}
use Rattle.flame_body.proofs.KeptSuits.{suits-in-value, suits-after, name-declared}

-- ---- values

-- an expression that may be missing
pub optional-fits :
    (context : Context) (sight : Sight) (around : Around) (test : Option Expression)
    → Suits context sight around
    → optional_faults context sight test ≡ []
    → optional_fits around (option_map (numbered (unfiled context) sight) test) ≡ true
optional-fits context sight around None suits none = refl
optional-fits context sight around (Some e) suits none = expression-fits context sight around e suits none

-- what is stored
stored-fits :
    (context : Context) (sight : Sight) (around : Around) (stored : Stored)
    → Suits context sight around
    → stored_faults context sight stored ≡ []
    → stored_fits around (numbered_stored (unfiled context) sight stored) ≡ true
stored-fits context sight around (plain e) suits none = expression-fits context sight around e suits none
stored-fits context sight around (called line word arguments) suits none =
    helper-values context sight around (helper_named context.helpers word) line word arguments suits none

-- what a local begins with, if it does
initial-fits :
    (context : Context) (sight : Sight) (around : Around) (value : Option Stored)
    → Suits context sight around
    → optional_stored_faults context sight value ≡ []
    → initial_fits around (option_map (numbered_stored (unfiled context) sight) value) ≡ true
initial-fits context sight around None suits none = refl
initial-fits context sight around (Some stored) suits none = stored-fits context sight around stored suits none

-- ---- assignments

-- what the model gives and is not only read is a memory variable, which stands within the memory
given-target :
    (context : Context) (around : Around) (word : List ℕ) (found : Option Given)
    → around.widths ≡ widths_in context.model context.runs
    → given_at context word ≡ found
    → is_some found ≡ true
    → is_only_read found ≡ false
    → gives_array found ≡ false
    → target_fits around (target_or_given None found) ≡ true
given-target context around word None w is there writable single = absurd (cc)
given-target context around word (Some (in_memory c v)) w is there writable single =
    let one : width_of v ≡ 1 = ap width_by (is_some-false v.length single) in
    let within : c + width_of v ≤ width (memory_at context) = given-within context word c v is in
    let wide : around.widths.memory ≡ width (memory_at context) =
    ap (λ x. x.memory) w ∙ memory-width context.model context.runs in
    lt-ltb _ _ (omega arith)
given-target context around word (Some (constant k)) w is there writable single = absurd (cc)
given-target context around word (Some iteration) w is there writable single = absurd (cc)

-- a name that is assigned to without an index
name-target :
    (context : Context) (sight : Sight) (around : Around) (word : List ℕ)
    → Suits context sight around
    → is_visible context sight word ≡ true
    → is_read_only context word ≡ false
    → names_array context word ≡ false
    → target_fits around (target_at (unfiled context) sight word) ≡ true
name-target context sight around word suits visible writable single =
    by_number (local_number (names_seen sight) word) refl
    (and_parts (not (is_name_of sight.own word)) (is_some (given_at context word) || is_local sight word) visible).1
  where
    by_number :
        (number : Option ℕ)
        → local_number (names_seen sight) word ≡ number
        → (is_some (given_at context word) || is_local sight word) ≡ true
        → target_fits around (target_or_given number (given_at context word)) ≡ true
    by_number (Some n) is there = refl
    by_number None is there =
        given-target context around word (given_at context word) suits.widths refl
        (or-true_left (is_some (given_at context word)) (is_local sight word) there (local-seen sight word ∙ ap is_some is))
        writable single

-- what is assigned to
target-fits :
    (context : Context) (sight : Sight) (around : Around) (line : ℕ) (word : List ℕ) (subscript : Option Indexed)
    → Suits context sight around
    → unknown_faults context sight line word ≡ []
    → is_read_only context word ≡ false
    → subscript_faults context sight line word subscript ≡ []
    → target_fits around (numbered_target (unfiled context) sight word subscript) ≡ true
target-fits context sight around line word None suits known writable none =
    name-target context sight around word suits
    (not-false (is_visible context sight word)
    (fault_where-none (not (is_visible context sight word)) context _ line word known))
    writable
    (fault_where-none (names_array context word) context _ line word none)
target-fits context sight around line word (Some s) suits known writable none =
    let front = indexed_faults context line word in
    let inner = expression_faults context sight s.index in
    and_from (are_within around.widths.memory (cells_at context word))
    (fits around (numbered (unfiled context) sight s.index))
    (cells-fit context around word (given_at context word) suits.widths refl
    (not-false (names_array context word)
    (fault_where-none (not (names_array context word)) context _ line word (append-is_nil_left front inner none))))
    (expression-fits context sight around s.index suits (append-is_nil_right front inner none))

-- an assignment
pub assignment-fits :
    (context : Context) (sight : Sight) (around : Around) (a : Assigned)
    → Suits context sight around
    → assignment_faults context sight a ≡ []
    → assignment_fits around (numbered_assignment (unfiled context) sight a) ≡ true
assignment-fits context sight around a suits none =
    let known = unknown_faults context sight a.line a.name in
    let writable = fault_where (is_read_only context a.name) context _ a.line a.name in
    let place = subscript_faults context sight a.line a.name a.subscript in
    let value = stored_faults context sight a.value in
    let front = append-is_nil_left (known ++ writable ++ place) value none in
    let name = append-is_nil_left (known ++ writable) place front in
    and_from (target_fits around (numbered_target (unfiled context) sight a.name a.subscript))
    (stored_fits around (numbered_stored (unfiled context) sight a.value))
    (target-fits context sight around a.line a.name a.subscript suits
    (append-is_nil_left known writable name)
    (fault_where-none (is_read_only context a.name) context _ a.line a.name (append-is_nil_right known writable name))
    (append-is_nil_right (known ++ writable) place front))
    (stored-fits context sight around a.value suits (append-is_nil_right (known ++ writable ++ place) value none))

-- an assignment that may be missing
pub step-fits :
    (context : Context) (sight : Sight) (around : Around) (step : Option Assigned)
    → Suits context sight around
    → optional_assignment_faults context sight step ≡ []
    → step_fits around (option_map (numbered_assignment (unfiled context) sight) step) ≡ true
step-fits context sight around None suits none = refl
step-fits context sight around (Some a) suits none = assignment-fits context sight around a suits none

-- ---- declarations

-- the items of a declaration
pub items-fit :
    (context : Context) (sight : Sight) (around : Around) (items : List Declared)
    → Suits context sight around
    → items_faults context sight items ≡ []
    → list_all (λ (item : SlotItem). initial_fits around item.value) (numbered_items (unfiled context) sight items)
    ≡ true
items-fit context sight around [] suits none = refl
items-fit context sight around (item ∷ items) suits none =
    let name = declared_faults context sight item.line item.name in
    let value = optional_stored_faults context (in_value_of item.name sight) item.value in
    let behind = items_faults context (after_name sight item.name) items in
    and_from
    (initial_fits around (option_map (numbered_stored (unfiled context) (in_value_of item.name sight)) item.value))
    (list_all (λ (i : SlotItem). initial_fits around i.value)
    (numbered_items (unfiled context) (after_name sight item.name) items))
    (initial-fits context (in_value_of item.name sight) around item.value
    (suits-in-value context sight around item.name suits)
    (append-is_nil_right name value (append-is_nil_left (item_faults context sight item) behind none)))
    (items-fit context (after_name sight item.name) around items
    (suits-after context sight around item.line item.name (name-declared context sight item items none) suits)
    (append-is_nil_right (item_faults context sight item) behind none))
