-- The code of what is stored, sent, born and called has labels.
use Rattle.std.proofs.Common.{◌≡◌, ℕ, ◌+◌, ◌==◌, true, ◌&&◌, List, [], ◌∷◌, ◌++◌, length, map, Option, Some, None, refl, arith, eqb-true}
use Rattle.std.specs.Prelude.{pos, slice_index_or, nat_lt}
use Rattle.std.specs.List.{list_all}
use Rattle.std.proofs.lemmas.Bool.{and_parts}
use Rattle.flame_ops.specs.declared.integers.Op.{Op}
use Rattle.flame_spec.specs.CallFaults.{is_length}
use Rattle.flame_spec.proofs.FaultTests.{is_length-true}
use Rattle.flame_body.specs.declared.slots.SlotAssign.{SlotAssign}
use Rattle.flame_body.specs.declared.slots.SlotDeed.{SlotDeed}
use Rattle.flame_body.specs.declared.slots.SlotDeed.TheVariants.{Sets, Sends, Bears, Calls}
use Rattle.flame_body.specs.declared.slots.SlotExpr.{SlotExpr}
use Rattle.flame_body.specs.declared.slots.SlotItem.{SlotItem}
use Rattle.flame_body.specs.declared.slots.SlotTarget.{SlotTarget}
use Rattle.flame_body.specs.declared.slots.SlotTarget.TheVariants as set
use Rattle.flame_body.specs.declared.slots.SlotValue.{SlotValue}
use Rattle.flame_body.specs.declared.slots.SlotValue.TheVariants as stored
use Rattle.flame_body.specs.BodyFits.{Around, fit, fits, are_within, values_fit, optional_fits, numbers_of, deed_fits, stored_fits, initial_fits, target_fits, assignment_fits, step_fits}
use Rattle.flame_code.specs.declared.instrs.Instr.{Instr}
use Rattle.flame_code.specs.declared.instrs.Instr.TheVariants.{Push, Dup, Drop, Loc, SetLoc, Mem, SetMem, MemAt, SetMemAt, Send, Bear, Call}
use Rattle.flame_compile.specs.Pieces.{Piece, one, both, in_order}
use Rattle.flame_compile.specs.Emit.{arguments, value, initial, item, index, loaded, store, assign, assignment, deed, test_or_1, step_or_none}
use Rattle.flame_compile.proofs.Labelled.{label, Labelled, no_needs, nothing, plain, joined, raised}
use Rattle.flame_compile.proofs.LabelledExpressions.{IsSound, Leaving, value_labelled, operator_labelled, arguments_labelled, values_labelled}

-- ---- values

-- what is stored is one value
pub stored_labelled :
    (v : SlotValue) (around : Around) (p h : ℕ)
    → IsSound around → stored_fits around v ≡ true → Leaving around p h 1 (value v)
stored_labelled (stored.Plain e) around p h sound e_fits = value_labelled e around p h sound e_fits
stored_labelled (stored.Call line helper es) around p h sound all_fit_it =
    joined (values_labelled es around p h sound all_fit_it)
    (plain no_needs around.widths (p + length ((arguments es).code p)) (Call line helper (length es)) (h + length es)
    (h + 1) around.inputs refl (omega arith) (omega arith) refl refl)

-- so is what a local begins with
pub initial_labelled :
    (v : Option SlotValue) (around : Around) (p h : ℕ)
    → IsSound around → initial_fits around v ≡ true → Leaving around p h 1 (initial v)
initial_labelled None around p h sound e =
    plain no_needs around.widths p (Push (pos 0)) h (h + 1) around.inputs refl (omega arith) (omega arith) refl refl
initial_labelled (Some v) around p h sound e = stored_labelled v around p h sound e

-- the piece has labels, and the stack is empty before and behind it
abbrev pub Level : Around → ℕ → Piece → Type 0
Level around p piece =
    Labelled no_needs around.widths p (piece.code p) (label 0 around.inputs) (label 0 around.inputs) []

-- the locals of a declaration
pub items_labelled :
    (items : List SlotItem) (around : Around) (p : ℕ)
    → IsSound around
    → list_all (λ (i : SlotItem). initial_fits around i.value) items ≡ true
    → Level around p (in_order (map item items))
items_labelled [] around p sound e = nothing no_needs around.widths p (label 0 around.inputs)
items_labelled (i ∷ items) around p sound e =
    let parts = and_parts (initial_fits around i.value)
    (list_all (λ (i : SlotItem). initial_fits around i.value) items) e in
    let first = (initial i.value).code p in
    let stores = plain no_needs around.widths (p + length first) (SetLoc i.local) (0 + 1) 0 around.inputs refl
    (omega arith) (omega arith) refl refl in
    joined (joined (initial_labelled i.value around p 0 sound parts.0) stores)
    (items_labelled items around (p + length (first ++ SetLoc i.local ∷ [])) sound parts.1)

-- ---- assignments

-- how many values the index of what is set takes
abbrev deep : SlotTarget → ℕ
deep (set.Local number) = 0
deep (set.Memory column) = 0
deep (set.Element cells e) = 1

-- the index of what is set
index_labelled :
    (target : SlotTarget) (around : Around) (p : ℕ)
    → IsSound around
    → target_fits around target ≡ true
    → Labelled no_needs around.widths p ((index target).code p) (label 0 around.inputs)
    (label (deep target) around.inputs) []
index_labelled (set.Local number) around p sound e = nothing no_needs around.widths p (label 0 around.inputs)
index_labelled (set.Memory column) around p sound e = nothing no_needs around.widths p (label 0 around.inputs)
index_labelled (set.Element cells s) around p sound e =
    let parts = and_parts (are_within around.widths.memory cells) (fits around s.index) e in
    raised around.inputs (0 + 1) 1 (omega arith) (value_labelled s.index around p 0 sound parts.1)

-- what is set is read, and its index stays
loaded_labelled :
    (target : SlotTarget) (around : Around) (p : ℕ)
    → target_fits around target ≡ true
    → Labelled no_needs around.widths p ((loaded target).code p) (label (deep target) around.inputs)
    (label (deep target + 1) around.inputs) []
loaded_labelled (set.Local number) around p e =
    plain no_needs around.widths p (Loc number) 0 (0 + 1) around.inputs refl (omega arith) (omega arith) refl refl
loaded_labelled (set.Memory column) around p e =
    plain no_needs around.widths p (Mem column) 0 (0 + 1) around.inputs refl (omega arith) (omega arith) refl e
loaded_labelled (set.Element cells s) around p e =
    let parts = and_parts (are_within around.widths.memory cells) (fits around s.index) e in
    joined
    (plain no_needs around.widths p Dup 1 (1 + 1) around.inputs refl (omega arith) (omega arith) refl refl)
    (plain no_needs around.widths (p + 1) (MemAt s.line cells.column cells.length) (1 + 1) (1 + 1) around.inputs refl
    (omega arith) (omega arith) refl parts.0)

-- the value on the stack is stored
store_labelled :
    (target : SlotTarget) (around : Around) (p : ℕ)
    → target_fits around target ≡ true
    → Labelled no_needs around.widths p (store target ∷ []) (label (deep target + 1) around.inputs)
    (label 0 around.inputs) []
store_labelled (set.Local number) around p e =
    plain no_needs around.widths p (SetLoc number) (0 + 1) 0 around.inputs refl (omega arith) (omega arith) refl refl
store_labelled (set.Memory column) around p e =
    plain no_needs around.widths p (SetMem column) (0 + 1) 0 around.inputs refl (omega arith) (omega arith) refl e
store_labelled (set.Element cells s) around p e =
    let parts = and_parts (are_within around.widths.memory cells) (fits around s.index) e in
    plain no_needs around.widths p (SetMemAt s.line cells.column cells.length) (1 + 1) 0 around.inputs refl
    (omega arith) (omega arith) refl parts.0

-- an assignment, by its parts
assign_labelled :
    (target : SlotTarget) (o : Option Op) (line : ℕ) (v : SlotValue) (around : Around) (p : ℕ)
    → IsSound around
    → target_fits around target ≡ true
    → stored_fits around v ≡ true
    → Level around p (assign target o line v)
assign_labelled target None line v around p sound t s =
    let q = p + length ((index target).code p) in
    joined (index_labelled target around p sound t)
    (joined (stored_labelled v around q (deep target) sound s)
    (store_labelled target around (q + length ((value v).code q)) t))
assign_labelled target (Some o) line v around p sound t s =
    let d = deep target in
    let rows = around.inputs in
    let q = p + length ((index target).code p) in
    let r = q + length ((loaded target).code q) in
    let u = r + length ((value v).code r) in
    joined (index_labelled target around p sound t)
    (joined (loaded_labelled target around q t)
    (joined (raised rows (d + 1 + 1) (d + 2) (omega arith) (stored_labelled v around r (d + 1) sound s))
    (joined (operator_labelled around.widths rows o line u d) (store_labelled target around (u + 1) t))))

-- an assignment
pub assignment_labelled :
    (a : SlotAssign) (around : Around) (p : ℕ)
    → IsSound around → assignment_fits around a ≡ true → Level around p (assignment a)
assignment_labelled a around p sound e =
    let parts = and_parts (target_fits around a.target) (stored_fits around a.value) e in
    assign_labelled a.target a.op a.op_line a.value around p sound parts.0 parts.1

-- ---- call statements

-- arguments, and an instruction that takes so many values
row_labelled :
    (i : Instr) (es : List SlotExpr) (around : Around) (p n : ℕ)
    → IsSound around
    → numbers_of (map (fit around) es) ≡ Some n
    → Labelled no_needs around.widths (p + length ((arguments es).code p)) (i ∷ []) (label (0 + n) around.inputs)
    (label 0 around.inputs) []
    → Level around p (both (arguments es) (one i))
row_labelled i es around p n sound number last = joined (arguments_labelled es around p 0 n sound number) last

-- a call statement
pub deed_labelled :
    (d : SlotDeed) (es : List SlotExpr) (around : Around) (p : ℕ)
    → IsSound around
    → deed_fits around d es ≡ true
    → Level around p (both (arguments es) (deed d (length es)))
deed_labelled (Sets column) es around p sound e =
    let parts = and_parts (nat_lt column around.widths.memory && (length es == 1)) (values_fit around es) e in
    let column_fits = and_parts (nat_lt column around.widths.memory) (length es == 1) parts.0 in
    let single : length es ≡ 1 = eqb-true (length es) 1 column_fits.1 in
    joined (values_labelled es around p 0 sound parts.1)
    (plain no_needs around.widths (p + length ((arguments es).code p)) (SetMem column) (0 + length es) 0 around.inputs
    refl (omega arith) (omega arith) refl column_fits.0)
deed_labelled (Sends number) es around p sound e =
    let w = around.widths in
    let width = slice_index_or w.messages number 0 in
    let parts = and_parts (nat_lt number (length w.messages)) (is_length width (numbers_of (map (fit around) es))) e in
    row_labelled (Send number) es around p width sound (is_length-true width (numbers_of (map (fit around) es)) parts.1)
    (plain no_needs w (p + length ((arguments es).code p)) (Send number) (0 + width) 0 around.inputs refl (omega arith)
    (omega arith) refl parts.0)
deed_labelled (Bears number) es around p sound e =
    let w = around.widths in
    let width = slice_index_or w.agents number 0 in
    let parts = and_parts (nat_lt number (length w.agents)) (is_length width (numbers_of (map (fit around) es))) e in
    row_labelled (Bear number) es around p width sound (is_length-true width (numbers_of (map (fit around) es)) parts.1)
    (plain no_needs w (p + length ((arguments es).code p)) (Bear number) (0 + width) 0 around.inputs refl (omega arith)
    (omega arith) refl parts.0)
deed_labelled (Calls line helper) es around p sound e =
    let w = around.widths in
    let q = p + length ((arguments es).code p) in
    joined (values_labelled es around p 0 sound e)
    (joined
    (plain no_needs w q (Call line helper (length es)) (0 + length es) 1 around.inputs refl (omega arith) (omega arith)
    refl refl)
    (plain no_needs w (q + 1) Drop 1 0 around.inputs refl (omega arith) (omega arith) refl refl))

-- ---- heads of loops

-- a test of a loop is one value
pub test_labelled :
    (test : Option SlotExpr) (around : Around) (p : ℕ)
    → IsSound around → optional_fits around test ≡ true → Leaving around p 0 1 (test_or_1 test)
test_labelled None around p sound e =
    plain no_needs around.widths p (Push (pos 1)) 0 (0 + 1) around.inputs refl (omega arith) (omega arith) refl refl
test_labelled (Some e) around p sound e_fits = value_labelled e around p 0 sound e_fits

-- the step of a `for`
pub step_labelled :
    (step : Option SlotAssign) (around : Around) (p : ℕ)
    → IsSound around → step_fits around step ≡ true → Level around p (step_or_none step)
step_labelled None around p sound e = nothing no_needs around.widths p (label 0 around.inputs)
step_labelled (Some a) around p sound e = assignment_labelled a around p sound e
