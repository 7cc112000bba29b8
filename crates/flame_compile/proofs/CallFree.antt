-- Expressions call no helper: their code has no call, and so none that does not pass.
use Rattle.std.proofs.Common.{◌≡◌, ℕ, zero, suc, ◌+◌, Bool, true, List, [], ◌∷◌, ◌++◌, length, map, Some, None, refl, sym, subst}
use Rattle.std.specs.Prelude.{pos}
use Rattle.std.specs.List.{list_all}
use Rattle.std.proofs.lemmas.Bool.{and_parts, and_from}
use Rattle.flame_ops.specs.declared.integers.Op.{Op}
use Rattle.flame_ops.specs.declared.integers.Op.TheVariants as op
use Rattle.flame_spec.specs.declared.trees.Sign.{Sign}
use Rattle.flame_spec.specs.declared.trees.SignKind.{SignKind}
use Rattle.flame_spec.specs.declared.trees.SignKind.TheVariants.{Minus, Plus, Bang}
use Rattle.flame_spec.specs.Columns.{width_by}
use Rattle.flame_body.specs.declared.slots.Slot.{Slot}
use Rattle.flame_body.specs.declared.slots.Slot.TheVariants.{Local, Memory, Constant, Iteration}
use Rattle.flame_body.specs.declared.slots.SlotExpr.{SlotExpr, Number, Name, Field, Get, At, FieldAt, Unary, Chain, All, Any, roll-SlotExpr, ind-SlotExpr, map-SlotExpr}
use Rattle.flame_body.specs.declared.slots.SlotExpr.TheVariants.{rolls-Number, rolls-Name, rolls-Field, rolls-Get, rolls-At, rolls-FieldAt, rolls-Unary, rolls-Chain, rolls-All, rolls-Any}
use Rattle.flame_body.specs.declared.slots.SlotExpr.TheOpen.{SlotExpr-F}
use Rattle.flame_body.specs.declared.slots.SlotLink.{SlotLink}
use Rattle.flame_body.specs.declared.slots.SlotSubscript.{SlotSubscript}
use Rattle.flame_code.specs.declared.instrs.Instr.{Instr}
use Rattle.flame_code.specs.declared.instrs.Instr.TheVariants.{Push, Jump, JumpZero, JumpNotZero}
use Rattle.flame_code.specs.declared.instrs.Instr.TheVariants as instr
use Rattle.flame_code.specs.HelperCodes.{call_passes}
use Rattle.flame_compile.specs.Pieces.{Piece, row, one, both, in_order}
use Rattle.flame_compile.specs.Emit.{operator, sign_code, signs_code, column_of, each_column, columns, load, tested_size, tested, expression, link, arguments}
use Rattle.flame_compile.proofs.Forms.{expression-Number, expression-Name, expression-Field, expression-Get, expression-At, expression-FieldAt, expression-Unary, expression-Chain, expression-All, expression-Any, all_piece, any_piece}

-- the calls among these instructions pass
abbrev pub AllPass : (ℕ → ℕ → Bool) → List Instr → Type 0
AllPass passes is = list_all (call_passes passes) is ≡ true

-- those of a piece pass, wherever it begins
abbrev pub PiecePasses : (ℕ → ℕ → Bool) → Piece → Type 0
PiecePasses passes piece = (p : ℕ) → list_all (call_passes passes) (piece.code p) ≡ true

-- two parts together
pub append_fits : (passes : ℕ → ℕ → Bool) (a b : List Instr) → AllPass passes a → AllPass passes b → AllPass passes (a ++ b)
append_fits passes [] b ha hb = hb
append_fits passes (i ∷ a) b ha hb =
    let parts = and_parts (call_passes passes i) (list_all (call_passes passes) a) ha in
    and_from (call_passes passes i) (list_all (call_passes passes) (a ++ b)) parts.0 (append_fits passes a b parts.1 hb)

-- a piece behind another
pub both_fit : (passes : ℕ → ℕ → Bool) (a b : Piece) → PiecePasses passes a → PiecePasses passes b → PiecePasses passes (both a b)
both_fit passes a b ha hb = λ p.
    append_fits passes (a.code p) (b.code (p + length (a.code p))) (ha p) (hb (p + length (a.code p)))

-- columns in order
columns_fit :
    (passes : ℕ → ℕ → Bool) (read : ℕ → Instr) → ((c : ℕ) → call_passes passes (read c) ≡ true)
    → (column count : ℕ) → AllPass passes (each_column read column count)
columns_fit passes read reads_fit column zero = refl
columns_fit passes read reads_fit column (suc count) =
    and_from (call_passes passes (read column)) (list_all (call_passes passes) (each_column read (column + 1) count))
    (reads_fit column) (columns_fit passes read reads_fit (column + 1) count)

-- a name that is read
load_fits : (passes : ℕ → ℕ → Bool) (slot : Slot) → AllPass passes (load slot)
load_fits passes (Local number) = refl
load_fits passes (Memory span) =
    columns_fit passes (column_of None) (λ c. refl) span.column (width_by span.length)
load_fits passes (Constant number) = refl
load_fits passes Iteration = refl

-- a sign
sign_fits : (passes : ℕ → ℕ → Bool) (kind : SignKind) (line : ℕ) → AllPass passes (sign_code kind line)
sign_fits passes Minus line = refl
sign_fits passes Plus line = refl
sign_fits passes Bang line = refl

-- signs
signs_fit : (passes : ℕ → ℕ → Bool) (signs : List Sign) → AllPass passes (signs_code signs)
signs_fit passes [] = refl
signs_fit passes (sign ∷ signs) =
    append_fits passes (signs_code signs) (sign_code sign.kind sign.line) (signs_fit passes signs)
    (sign_fits passes sign.kind sign.line)

-- an operator
pub operator_fits : (passes : ℕ → ℕ → Bool) (o : Op) (line : ℕ) → AllPass passes (operator o line ∷ [])
operator_fits passes op.Add line = refl
operator_fits passes op.Sub line = refl
operator_fits passes op.Mul line = refl
operator_fits passes op.Div line = refl
operator_fits passes op.Rem line = refl
operator_fits passes o line = refl

-- ---- every expression

-- an expression calls no helper
abbrev pub Holds : (ℕ → ℕ → Bool) → SlotExpr → Type 0
Holds passes e = (p : ℕ) → list_all (call_passes passes) ((expression e).code p) ≡ true

-- nor does an operand
abbrev HoldsLink : (ℕ → ℕ → Bool) → SlotLink → Type 0
HoldsLink passes l = Holds passes l.right

-- nor does an index
abbrev HoldsIndex : (ℕ → ℕ → Bool) → SlotSubscript → Type 0
HoldsIndex passes s = Holds passes s.index

-- operands with their operators
links_fit :
    (passes : ℕ → ℕ → Bool) (ls : List ((l : SlotLink) × HoldsLink passes l))
    → PiecePasses passes (in_order (map link (map (λ l. l.0) ls)))
links_fit passes [] = λ p. refl
links_fit passes (l ∷ ls) =
    both_fit passes (link l.0) (in_order (map link (map (λ l. l.0) ls)))
    (both_fit passes (expression l.0.right) (one (operator l.0.op l.0.line)) l.1
    (λ p. operator_fits passes l.0.op l.0.line))
    (links_fit passes ls)

-- parts with jumps
tested_fits :
    (passes : ℕ → ℕ → Bool) (jump : Instr) → call_passes passes jump ≡ true
    → (es : List ((e : SlotExpr) × Holds passes e))
    → PiecePasses passes (tested jump (map expression (map (λ e. e.0) es)))
tested_fits passes jump jump_fits [] = λ p. refl
tested_fits passes jump jump_fits (e ∷ es) =
    both_fit passes (both (expression e.0) (one jump)) (tested jump (map expression (map (λ e. e.0) es)))
    (both_fit passes (expression e.0) (one jump) e.1 (λ p. and_from (call_passes passes jump) true jump_fits refl))
    (tested_fits passes jump jump_fits es)

-- a form with its parts alone
abbrev firsts :
    (passes : ℕ → ℕ → Bool)
    → SlotExpr-F ((e : SlotExpr) × Holds passes e) ((l : SlotLink) × HoldsLink passes l)
    ((s : SlotSubscript) × HoldsIndex passes s)
    → SlotExpr-F SlotExpr SlotLink SlotSubscript
firsts passes =
    map-SlotExpr ((e : SlotExpr) × Holds passes e) ((l : SlotLink) × HoldsLink passes l)
    ((s : SlotSubscript) × HoldsIndex passes s)
    SlotExpr SlotLink SlotSubscript (λ p. p.0) (λ l. l.0) (λ s. s.0)

-- by what an expression becomes
by_form :
    (passes : ℕ → ℕ → Bool) (e : SlotExpr) (piece : Piece)
    → expression e ≡ piece → PiecePasses passes piece → Holds passes e
by_form passes e piece is h = subst (PiecePasses passes) (sym is) h

-- each form
layer_fits :
    (passes : ℕ → ℕ → Bool)
    (y : SlotExpr-F ((e : SlotExpr) × Holds passes e) ((l : SlotLink) × HoldsLink passes l)
    ((s : SlotSubscript) × HoldsIndex passes s))
    → Holds passes (roll-SlotExpr (firsts passes y))
layer_fits passes (SlotExpr-F.Number n) =
    subst (Holds passes) (sym (rolls-Number n))
    (by_form passes (Number n) (one (Push n)) (expression-Number n) (λ p. refl))
layer_fits passes (SlotExpr-F.Name slot) =
    subst (Holds passes) (sym (rolls-Name slot))
    (by_form passes (Name slot) (row (load slot)) (expression-Name slot) (λ p. load_fits passes slot))
layer_fits passes (SlotExpr-F.Field input span) =
    subst (Holds passes) (sym (rolls-Field input span))
    (by_form passes (Field input span) (row (columns (column_of (Some input)) span)) (expression-Field input span)
    (λ p. columns_fit passes (column_of (Some input)) (λ c. refl) span.column (width_by span.length)))
layer_fits passes (SlotExpr-F.Get column) =
    subst (Holds passes) (sym (rolls-Get column))
    (by_form passes (Get column) (one (instr.Mem column)) (expression-Get column) (λ p. refl))
layer_fits passes (SlotExpr-F.At cells s) =
    let last = one (instr.MemAt s.0.line cells.column cells.length) in
    subst (Holds passes) (sym (rolls-At cells s.0))
    (by_form passes (At cells s.0) (both (expression s.0.index) last) (expression-At cells s.0)
    (both_fit passes (expression s.0.index) last s.1 (λ p. refl)))
layer_fits passes (SlotExpr-F.FieldAt input cells s) =
    let last = one (instr.FieldAt s.0.line input cells.column cells.length) in
    subst (Holds passes) (sym (rolls-FieldAt input cells s.0))
    (by_form passes (FieldAt input cells s.0) (both (expression s.0.index) last) (expression-FieldAt input cells s.0)
    (both_fit passes (expression s.0.index) last s.1 (λ p. refl)))
layer_fits passes (SlotExpr-F.Unary signs e) =
    subst (Holds passes) (sym (rolls-Unary signs e.0))
    (by_form passes (Unary signs e.0) (both (expression e.0) (row (signs_code signs))) (expression-Unary signs e.0)
    (both_fit passes (expression e.0) (row (signs_code signs)) e.1 (λ p. signs_fit passes signs)))
layer_fits passes (SlotExpr-F.Chain e ls) =
    let links = map (λ l. l.0) ls in
    subst (Holds passes) (sym (rolls-Chain e.0 links))
    (by_form passes (Chain e.0 links) (both (expression e.0) (in_order (map link links))) (expression-Chain e.0 links)
    (both_fit passes (expression e.0) (in_order (map link links)) e.1 (links_fit passes ls)))
layer_fits passes (SlotExpr-F.All es) =
    let parts = map (λ e. e.0) es in
    let size = tested_size (map expression parts) in
    subst (Holds passes) (sym (rolls-All parts))
    (by_form passes (All parts) (all_piece (map expression parts)) (expression-All parts)
    (λ p.
    append_fits passes ((tested (JumpZero (p + size + 2)) (map expression parts)).code p)
    (Push (pos 1) ∷ Jump (p + size + 3) ∷ Push (pos 0) ∷ [])
    (tested_fits passes (JumpZero (p + size + 2)) refl es p) refl))
layer_fits passes (SlotExpr-F.Any es) =
    let parts = map (λ e. e.0) es in
    let size = tested_size (map expression parts) in
    subst (Holds passes) (sym (rolls-Any parts))
    (by_form passes (Any parts) (any_piece (map expression parts)) (expression-Any parts)
    (λ p.
    append_fits passes ((tested (JumpNotZero (p + size + 2)) (map expression parts)).code p)
    (Push (pos 0) ∷ Jump (p + size + 3) ∷ Push (pos 1) ∷ [])
    (tested_fits passes (JumpNotZero (p + size + 2)) refl es p) refl))

-- every expression
pub expression_calls : (passes : ℕ → ℕ → Bool) (e : SlotExpr) → PiecePasses passes (expression e)
expression_calls passes =
    ind-SlotExpr (Holds passes) (HoldsLink passes) (HoldsIndex passes)
    (λ x y e. subst (λ z. Holds passes (roll-SlotExpr z)) e (layer_fits passes y))
    (λ x y e. subst (Holds passes) (λ i. (e i).right) y.right.1)
    (λ x y e. subst (Holds passes) (λ i. (e i).index) y.index.1)

-- arguments
pub arguments_calls : (passes : ℕ → ℕ → Bool) (es : List SlotExpr) → PiecePasses passes (arguments es)
arguments_calls passes [] = λ p. refl
arguments_calls passes (e ∷ es) =
    both_fit passes (expression e) (arguments es) (expression_calls passes e) (arguments_calls passes es)
