-- Every piece is as long as its size says, wherever it begins.
use Rattle.std.proofs.Common.{◌≡◌, ℕ, ◌+◌, List, [], ◌∷◌, length, map, refl, sym, subst, length-append, arith, Some}
use Rattle.std.specs.Prelude.{pos}
use Rattle.flame_body.specs.declared.slots.SlotExpr.{SlotExpr, Number, Name, Field, Get, At, FieldAt, Unary, Chain, All, Any, roll-SlotExpr, ind-SlotExpr, map-SlotExpr}
use Rattle.flame_body.specs.declared.slots.SlotExpr.TheVariants.{rolls-Number, rolls-Name, rolls-Field, rolls-Get, rolls-At, rolls-FieldAt, rolls-Unary, rolls-Chain, rolls-All, rolls-Any}
use Rattle.flame_body.specs.declared.slots.SlotExpr.TheOpen.{SlotExpr-F}
use Rattle.flame_body.specs.declared.slots.SlotLink.{SlotLink}
use Rattle.flame_body.specs.declared.slots.SlotSubscript.{SlotSubscript}
use Rattle.flame_code.specs.declared.instrs.Instr.{Instr}
use Rattle.flame_code.specs.declared.instrs.Instr.TheVariants.{Push, Jump, JumpZero, JumpNotZero}
use Rattle.flame_code.specs.declared.instrs.Instr.TheVariants as instr
use Rattle.flame_compile.specs.Pieces.{Piece, row, one, both, in_order}
use Rattle.flame_compile.specs.Emit.{operator, signs_code, column_of, columns, load, tested_size, tested, expression, link, arguments}
use Rattle.flame_compile.specs.Sizes.{IsSized}
use Rattle.flame_compile.proofs.Forms.{expression-Number, expression-Name, expression-Field, expression-Get, expression-At, expression-FieldAt, expression-Unary, expression-Chain, expression-All, expression-Any, all_piece, any_piece}

pub row_sized : (instrs : List Instr) → IsSized (row instrs)
row_sized instrs = λ p. refl

pub both_sized : (a b : Piece) → IsSized a → IsSized b → IsSized (both a b)
both_sized a b ha hb = λ p.
    let front = a.code p in
    omega (arith, length-append front (b.code (p + length front)), ha p, hb (p + length front))

abbrev Sized : SlotExpr → Type 0
Sized e = (p : ℕ) → length ((expression e).code p) ≡ (expression e).size

abbrev SizedLink : SlotLink → Type 0
SizedLink l = Sized l.right

abbrev SizedIndex : SlotSubscript → Type 0
SizedIndex s = Sized s.index

links_sized : (ls : List ((l : SlotLink) × SizedLink l)) → IsSized (in_order (map link (map (λ l. l.0) ls)))
links_sized [] = row_sized []
links_sized (l ∷ ls) =
    both_sized (link l.0) (in_order (map link (map (λ l. l.0) ls)))
    (both_sized (expression l.0.right) (one (operator l.0.op l.0.line)) l.1 (row_sized (operator l.0.op l.0.line ∷ [])))
    (links_sized ls)

tested_sized : (jump : Instr) (es : List ((e : SlotExpr) × Sized e)) (p : ℕ)
    → length ((tested jump (map expression (map (λ e. e.0) es))).code p)
    ≡ tested_size (map expression (map (λ e. e.0) es))
tested_sized jump [] p = refl
tested_sized jump (e ∷ es) p =
    let part = both (expression e.0) (one jump) in
    let front = part.code p in
    let rest = tested jump (map expression (map (λ e. e.0) es)) in
    omega (
      arith,
      length-append front (rest.code (p + length front)),
      both_sized (expression e.0) (one jump) e.1 (row_sized (jump ∷ [])) p,
      tested_sized jump es (p + length front),
    )

choice_sized : (jump i j k : Instr) (es : List ((e : SlotExpr) × Sized e)) (p : ℕ)
    → length ((in_order (tested jump (map expression (map (λ e. e.0) es)) ∷ one i ∷ one j ∷ one k ∷ [])).code p)
    ≡ tested_size (map expression (map (λ e. e.0) es)) + 3
choice_sized jump i j k es p =
    let tests = (tested jump (map expression (map (λ e. e.0) es))).code p in
    omega (arith, length-append tests (i ∷ j ∷ k ∷ []), tested_sized jump es p)

abbrev firsts :
    SlotExpr-F ((e : SlotExpr) × Sized e) ((l : SlotLink) × SizedLink l) ((s : SlotSubscript) × SizedIndex s)
    → SlotExpr-F SlotExpr SlotLink SlotSubscript
firsts =
    map-SlotExpr ((e : SlotExpr) × Sized e) ((l : SlotLink) × SizedLink l) ((s : SlotSubscript) × SizedIndex s)
    SlotExpr SlotLink SlotSubscript (λ p. p.0) (λ l. l.0) (λ s. s.0)

by_form : (e : SlotExpr) (piece : Piece) → expression e ≡ piece → IsSized piece → Sized e
by_form e piece is h = subst IsSized (sym is) h

layer_sized :
    (y : SlotExpr-F ((e : SlotExpr) × Sized e) ((l : SlotLink) × SizedLink l) ((s : SlotSubscript) × SizedIndex s))
    → Sized (roll-SlotExpr (firsts y))
layer_sized (SlotExpr-F.Number n) =
    subst Sized (sym (rolls-Number n))
    (by_form (Number n) (one (Push n)) (expression-Number n) (row_sized (Push n ∷ [])))
layer_sized (SlotExpr-F.Name slot) =
    subst Sized (sym (rolls-Name slot))
    (by_form (Name slot) (row (load slot)) (expression-Name slot) (row_sized (load slot)))
layer_sized (SlotExpr-F.Field input span) =
    let instrs = columns (column_of (Some input)) span in
    subst Sized (sym (rolls-Field input span))
    (by_form (Field input span) (row instrs) (expression-Field input span) (row_sized instrs))
layer_sized (SlotExpr-F.Get column) =
    subst Sized (sym (rolls-Get column))
    (by_form (Get column) (one (instr.Mem column)) (expression-Get column) (row_sized (instr.Mem column ∷ [])))
layer_sized (SlotExpr-F.At cells s) =
    let last = instr.MemAt s.0.line cells.column cells.length in
    subst Sized (sym (rolls-At cells s.0))
    (by_form (At cells s.0) (both (expression s.0.index) (one last)) (expression-At cells s.0)
    (both_sized (expression s.0.index) (one last) s.1 (row_sized (last ∷ []))))
layer_sized (SlotExpr-F.FieldAt input cells s) =
    let last = instr.FieldAt s.0.line input cells.column cells.length in
    subst Sized (sym (rolls-FieldAt input cells s.0))
    (by_form (FieldAt input cells s.0) (both (expression s.0.index) (one last)) (expression-FieldAt input cells s.0)
    (both_sized (expression s.0.index) (one last) s.1 (row_sized (last ∷ []))))
layer_sized (SlotExpr-F.Unary signs e) =
    let last = signs_code signs in
    subst Sized (sym (rolls-Unary signs e.0))
    (by_form (Unary signs e.0) (both (expression e.0) (row last)) (expression-Unary signs e.0)
    (both_sized (expression e.0) (row last) e.1 (row_sized last)))
layer_sized (SlotExpr-F.Chain e ls) =
    let links = map (λ l. l.0) ls in
    subst Sized (sym (rolls-Chain e.0 links))
    (by_form (Chain e.0 links) (both (expression e.0) (in_order (map link links))) (expression-Chain e.0 links)
    (both_sized (expression e.0) (in_order (map link links)) e.1 (links_sized ls)))
layer_sized (SlotExpr-F.All es) =
    let parts = map (λ e. e.0) es in
    let size = tested_size (map expression parts) in
    subst Sized (sym (rolls-All parts))
    (by_form (All parts) (all_piece (map expression parts)) (expression-All parts)
    (λ p. choice_sized (JumpZero (p + size + 2)) (Push (pos 1)) (Jump (p + size + 3)) (Push (pos 0)) es p))
layer_sized (SlotExpr-F.Any es) =
    let parts = map (λ e. e.0) es in
    let size = tested_size (map expression parts) in
    subst Sized (sym (rolls-Any parts))
    (by_form (Any parts) (any_piece (map expression parts)) (expression-Any parts)
    (λ p. choice_sized (JumpNotZero (p + size + 2)) (Push (pos 0)) (Jump (p + size + 3)) (Push (pos 1)) es p))

-- an expression is as long as its size says
pub expression_sized : (e : SlotExpr) → IsSized (expression e)
expression_sized =
    ind-SlotExpr Sized SizedLink SizedIndex
    (λ x y e. subst (λ z. Sized (roll-SlotExpr z)) e (layer_sized y))
    (λ x y e. subst Sized (λ i. (e i).right) y.right.1)
    (λ x y e. subst Sized (λ i. (e i).index) y.index.1)

pub arguments_sized : (es : List SlotExpr) → IsSized (arguments es)
arguments_sized [] = row_sized []
arguments_sized (e ∷ es) = both_sized (expression e) (arguments es) (expression_sized e) (arguments_sized es)
