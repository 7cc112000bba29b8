-- The code of an expression that fits has labels: it leaves as many values on the stack as the expression stands for.
use Rattle.std.proofs.Common.{◌≡◌, ℕ, zero, suc, ◌+◌, ◌<◌, ◌≤◌, Bool, true, false, ◌&&◌, List, [], ◌∷◌, ◌++◌, length, map, Option, Some, None, refl, sym, ap, ◌∙◌, subst, arith, length-append, lt-ltb, leb-true}
use Rattle.std.specs.Prelude.{ℤ, pos, slice_get, nat_lt}
use Rattle.std.specs.List.{list_all}
use Rattle.std.specs.Option.{option_map_or}
use Rattle.std.proofs.lemmas.Bool.{and_parts, and_from}
use Rattle.std.proofs.lemmas.Option.{same_Some}
use Rattle.flame_ops.specs.declared.integers.Op.{Op}
use Rattle.flame_ops.specs.declared.integers.Op.TheVariants as op
use Rattle.flame_spec.specs.declared.outcomes.Widths.{Widths}
use Rattle.flame_spec.specs.declared.trees.Sign.{Sign}
use Rattle.flame_spec.specs.declared.trees.SignKind.{SignKind}
use Rattle.flame_spec.specs.declared.trees.SignKind.TheVariants.{Minus, Plus, Bang}
use Rattle.flame_spec.specs.Columns.{width_by}
use Rattle.flame_body.specs.declared.slots.Span.{Span}
use Rattle.flame_body.specs.declared.slots.Slot.{Slot}
use Rattle.flame_body.specs.declared.slots.Slot.TheVariants.{Local, Memory, Constant, Iteration}
use Rattle.flame_body.specs.declared.slots.SlotExpr.{SlotExpr, Number, Name, Field, Get, At, FieldAt, Unary, Chain, All, Any, roll-SlotExpr, ind-SlotExpr, map-SlotExpr}
use Rattle.flame_body.specs.declared.slots.SlotExpr.TheVariants.{rolls-Number, rolls-Name, rolls-Field, rolls-Get, rolls-At, rolls-FieldAt, rolls-Unary, rolls-Chain, rolls-All, rolls-Any}
use Rattle.flame_body.specs.declared.slots.SlotExpr.TheOpen.{SlotExpr-F}
use Rattle.flame_body.specs.declared.slots.SlotLink.{SlotLink}
use Rattle.flame_body.specs.declared.slots.SlotSubscript.{SlotSubscript}
use Rattle.flame_body.specs.BodyFits.{Around, Fit, is_value, fit, fits, fit_of_value, fit_of_bare, fit_of_slot, are_within, are_field_cells, is_field, is_within as stands_within, is_inside, width_of_input, values_fit, numbers_in, numbers_of, together}
use Rattle.flame_body.proofs.FitForms.{fit-Number, fit-Name, fit-Field, fit-Get, fit-At, fit-FieldAt, fit-Unary, fit-Chain, fit-All, fit-Any}
use Rattle.flame_code.specs.declared.instrs.Instr.{Instr}
use Rattle.flame_code.specs.declared.instrs.Instr.TheVariants.{Push, Loc, Const, Iter, Neg, Not, Jump, JumpZero, JumpNotZero}
use Rattle.flame_code.specs.declared.instrs.Instr.TheVariants as instr
use Rattle.flame_code.specs.declared.labels.Label.{Label}
use Rattle.flame_code.specs.Labels.{has_input, is_within}
use Rattle.flame_code.specs.Routines.{takes, leaves, reads}
use Rattle.flame_compile.specs.Pieces.{Piece, row, one, both, in_order}
use Rattle.flame_compile.specs.Emit.{operator, sign_code, signs_code, column_of, each_column, columns, load, tested_size, tested, expression, link, arguments}
use Rattle.flame_compile.proofs.Forms.{expression-Number, expression-Name, expression-Field, expression-Get, expression-At, expression-FieldAt, expression-Unary, expression-Chain, expression-All, expression-Any, all_piece, any_piece}
use Rattle.flame_compile.proofs.Sized.{expression_sized}
use Rattle.flame_compile.proofs.Labelled.{label, Labelled, no_needs, Aim, aim_forward, nothing, is_plain, plain, jump, jump_zero, jump_not_zero, more, sealed, freed, joined, raised}
use Rattle.flame_body.proofs.FittedCalls.{value-number}

-- ---- how many values

-- every input over which a loop is open is one of the inputs
pub record IsSound (around : Around) : Type 0 where
  pub known : (k : ℕ) → is_inside k around ≡ true → nat_lt k (length around.widths.inputs) ≡ true

-- what fits as a value where a test holds is one number
value_of : (b : Bool) (n : ℕ) → numbers_in (fit_of_value b) ≡ Some n → (b ≡ true) × (n ≡ 1)
value_of false n e = absurd (let bad : None ≡ Some n = e in cc)
value_of true n e = (refl, sym (same_Some 1 n e))

-- what fits as a variable without an index is as many numbers as it is wide
bare_of :
    (b : Bool) (size : Option ℕ) (n : ℕ)
    → numbers_in (fit_of_bare b size) ≡ Some n → (b ≡ true) × (n ≡ width_by size)
bare_of false size n e = absurd (let bad : None ≡ Some n = e in cc)
bare_of true None n e = (refl, sym (same_Some 1 n e))
bare_of true (Some size) n e = (refl, sym (same_Some size n e))

-- ---- rows of instructions

-- an instruction that pushes a value
record Pushes (w : Widths) (rows : List ℕ) (i : Instr) : Type 0 where
  is : is_plain i ≡ true
  pops : takes w i ≡ 0
  leaves_one : leaves w i ≡ 1
  row : option_map_or (has_input rows) (reads i) true ≡ true
  within : is_within w i ≡ true

-- one such instruction
pushed :
    (w : Widths) (rows : List ℕ) (i : Instr) (p h : ℕ)
    → Pushes w rows i → Labelled no_needs w p (i ∷ []) (label h rows) (label (h + 1) rows) []
pushed w rows i p h x =
    plain no_needs w p i h (h + 1) rows x.is (omega (arith, x.pops)) (omega (arith, x.pops, x.leaves_one)) x.row
    x.within

-- columns in order, each by its own instruction
columns_labelled :
    (w : Widths) (rows : List ℕ) (read : ℕ → Instr) (top : ℕ)
    → ((c : ℕ) → c < top → Pushes w rows (read c))
    → (count column p h : ℕ)
    → column + count ≤ top
    → Labelled no_needs w p (each_column read column count) (label h rows) (label (h + count) rows) []
columns_labelled w rows read top reads_all zero column p h le =
    raised rows h (h + 0) (omega arith) (nothing no_needs w p (label h rows))
columns_labelled w rows read top reads_all (suc count) column p h le =
    let first = pushed w rows (read column) p h (reads_all column (omega arith)) in
    let rest = columns_labelled w rows read top reads_all count (column + 1) (p + 1) (h + 1) (omega arith) in
    raised rows (h + 1 + count) (h + suc count) (omega arith) (joined first rest)

-- a sign takes a value and leaves one
sign_labelled :
    (w : Widths) (rows : List ℕ) (kind : SignKind) (line p h : ℕ)
    → Labelled no_needs w p (sign_code kind line) (label (h + 1) rows) (label (h + 1) rows) []
sign_labelled w rows Minus line p h =
    plain no_needs w p (Neg line) (h + 1) (h + 1) rows refl (omega arith) refl refl refl
sign_labelled w rows Plus line p h = nothing no_needs w p (label (h + 1) rows)
sign_labelled w rows Bang line p h = plain no_needs w p Not (h + 1) (h + 1) rows refl (omega arith) refl refl refl

-- so do signs
signs_labelled :
    (w : Widths) (rows : List ℕ) (signs : List Sign) (p h : ℕ)
    → Labelled no_needs w p (signs_code signs) (label (h + 1) rows) (label (h + 1) rows) []
signs_labelled w rows [] p h = nothing no_needs w p (label (h + 1) rows)
signs_labelled w rows (sign ∷ signs) p h =
    joined (signs_labelled w rows signs p h)
    (sign_labelled w rows sign.kind sign.line (p + length (signs_code signs)) h)

-- an instruction that takes two values and leaves one
record Operates (w : Widths) (rows : List ℕ) (i : Instr) : Type 0 where
  is : is_plain i ≡ true
  pops : takes w i ≡ 2
  leaves_one : leaves w i ≡ 1
  row : option_map_or (has_input rows) (reads i) true ≡ true
  within : is_within w i ≡ true

-- every operator does
operates : (w : Widths) (rows : List ℕ) (o : Op) (line : ℕ) → Operates w rows (operator o line)
operates w rows op.Add line = record { is = refl; pops = refl; leaves_one = refl; row = refl; within = refl }
operates w rows op.Sub line = record { is = refl; pops = refl; leaves_one = refl; row = refl; within = refl }
operates w rows op.Mul line = record { is = refl; pops = refl; leaves_one = refl; row = refl; within = refl }
operates w rows op.Div line = record { is = refl; pops = refl; leaves_one = refl; row = refl; within = refl }
operates w rows op.Rem line = record { is = refl; pops = refl; leaves_one = refl; row = refl; within = refl }
operates w rows o line = record { is = refl; pops = refl; leaves_one = refl; row = refl; within = refl }

-- an operator takes two values and leaves one
pub operator_labelled :
    (w : Widths) (rows : List ℕ) (o : Op) (line p h : ℕ)
    → Labelled no_needs w p (operator o line ∷ []) (label (h + 2) rows) (label (h + 1) rows) []
operator_labelled w rows o line p h =
    let x = operates w rows o line in
    plain no_needs w p (operator o line) (h + 2) (h + 1) rows x.is (omega (arith, x.pops))
    (omega (arith, x.pops, x.leaves_one)) x.row x.within

-- ---- forms

-- the piece has labels where it begins with height h, and leaves n values
abbrev pub Leaving : Around → ℕ → ℕ → ℕ → Piece → Type 0
Leaving around p h n piece =
    Labelled no_needs around.widths p (piece.code p) (label h around.inputs) (label (h + n) around.inputs) []

-- an expression has labels wherever it fits
abbrev pub Holds : SlotExpr → Type 0
Holds e =
    (around : Around) → IsSound around → (p h n : ℕ) → numbers_in (fit around e) ≡ Some n
    → Leaving around p h n (expression e)

-- expressions without what holds of them
abbrev exprs : List ((e : SlotExpr) × Holds e) → List SlotExpr
exprs es = map (λ e. e.0) es

-- so has an operand
abbrev HoldsLink : SlotLink → Type 0
HoldsLink l = Holds l.right

-- so has an index
abbrev HoldsIndex : SlotSubscript → Type 0
HoldsIndex s = Holds s.index

-- links without what holds of them
abbrev bare_links : List ((l : SlotLink) × HoldsLink l) → List SlotLink
bare_links ls = map (λ l. l.0) ls

-- by what an expression becomes, and how it fits
by_form :
    (e : SlotExpr) (piece : Piece) (fitting : Around → Fit)
    → expression e ≡ piece
    → ((around : Around) → fit around e ≡ fitting around)
    → ((around : Around) → IsSound around → (p h n : ℕ) → numbers_in (fitting around) ≡ Some n
    → Leaving around p h n piece)
    → Holds e
by_form e piece fitting is fit_is holds around sound p h n number =
    subst (λ x. Leaving around p h n x) (sym is)
    (holds around sound p h n (sym (ap numbers_in (fit_is around)) ∙ number))

-- of one that fits as a value where a test holds
by_value :
    (e : SlotExpr) (piece : Piece) (test : Around → Bool)
    → expression e ≡ piece
    → ((around : Around) → fit around e ≡ fit_of_value (test around))
    → ((around : Around) → IsSound around → (p h : ℕ) → test around ≡ true → Leaving around p h 1 piece)
    → Holds e
by_value e piece test is fit_is holds around sound p h n number =
    let value = value_of (test around) n (sym (ap numbers_in (fit_is around)) ∙ number) in
    subst (λ k. Leaving around p h k (expression e)) (sym value.1)
    (subst (λ x. Leaving around p h 1 x) (sym is) (holds around sound p h value.0))

-- an expression that is a value leaves one value
one_number :
    (e : SlotExpr) → Holds e → (around : Around) → IsSound around → (p h : ℕ)
    → fits around e ≡ true → Leaving around p h 1 (expression e)
one_number e holds around sound p h fit_it = holds around sound p h 1 (value-number (fit around e) fit_it)

-- columns of the memory
memory_labelled :
    (w : Widths) (rows : List ℕ) (span : Span) (p h : ℕ)
    → stands_within w.memory span ≡ true
    → Labelled no_needs w p (columns (column_of None) span) (label h rows) (label (h + width_by span.length) rows) []
memory_labelled w rows span p h within =
    columns_labelled w rows (column_of None) w.memory
    (λ c lt. record { is = refl; pops = refl; leaves_one = refl; row = refl; within = lt-ltb c w.memory lt })
    (width_by span.length) span.column p h (leb-true (span.column + width_by span.length) w.memory within)

-- columns of a row
field_labelled :
    (around : Around) (input : ℕ) (span : Span) (p h : ℕ)
    → IsSound around
    → is_field around input span ≡ true
    → Labelled no_needs around.widths p (columns (column_of (Some input)) span) (label h around.inputs)
    (label (h + width_by span.length) around.inputs) []
field_labelled around input span p h sound is =
    let w = around.widths in
    let width = width_of_input around input in
    let parts = and_parts (is_inside input around) (stands_within width span) is in
    columns_labelled w around.inputs (column_of (Some input)) width
    (λ c lt. record {
      is = refl;
      pops = refl;
      leaves_one = refl;
      row = parts.0;
      within = and_from (nat_lt input (length w.inputs)) (nat_lt c width) (sound.known input parts.0)
          (lt-ltb c width lt);
    })
    (width_by span.length) span.column p h (leb-true (span.column + width_by span.length) width parts.1)

-- a name that is read
name_labelled :
    (slot : Slot) (around : Around) (p h n : ℕ)
    → numbers_in (fit_of_slot around.widths slot) ≡ Some n
    → Leaving around p h n (row (load slot))
name_labelled (Local number) around p h n e =
    let one : 1 ≡ n = same_Some 1 n e in
    plain no_needs around.widths p (Loc number) h (h + n) around.inputs refl (omega arith) (omega arith) refl refl
name_labelled (Memory span) around p h n e =
    let bare = bare_of (stands_within around.widths.memory span) span.length n e in
    raised around.inputs (h + width_by span.length) (h + n) (omega (arith, bare.1))
    (memory_labelled around.widths around.inputs span p h bare.0)
name_labelled (Constant number) around p h n e =
    let value = value_of (nat_lt number around.widths.constants) n e in
    plain no_needs around.widths p (Const number) h (h + n) around.inputs refl (omega arith) (omega (arith, value.1))
    refl value.0
name_labelled Iteration around p h n e =
    let one : 1 ≡ n = same_Some 1 n e in
    plain no_needs around.widths p Iter h (h + n) around.inputs refl (omega arith) (omega arith) refl refl

-- an index, and an instruction that takes it and leaves the element
element_labelled :
    (around : Around) (index : SlotExpr) (i : Instr) (p h : ℕ)
    → Leaving around p h 1 (expression index)
    → is_plain i ≡ true
    → takes around.widths i ≡ 1
    → leaves around.widths i ≡ 1
    → option_map_or (has_input around.inputs) (reads i) true ≡ true
    → is_within around.widths i ≡ true
    → Leaving around p h 1 (both (expression index) (one i))
element_labelled around index i p h x is pops leaves_one row within =
    joined x
    (plain no_needs around.widths (p + length ((expression index).code p)) i (h + 1) (h + 1) around.inputs is
    (omega (arith, pops)) (omega (arith, pops, leaves_one)) row within)

-- operands with their operators
links_labelled :
    (ls : List ((l : SlotLink) × HoldsLink l)) (around : Around) (p h : ℕ)
    → IsSound around
    → list_all (λ (link : Bool). link) (map (λ (l : SlotLink). fits around l.right) (bare_links ls)) ≡ true
    → Labelled no_needs around.widths p ((in_order (map link (bare_links ls))).code p)
    (label (h + 1) around.inputs) (label (h + 1) around.inputs) []
links_labelled [] around p h sound e = nothing no_needs around.widths p (label (h + 1) around.inputs)
links_labelled (l ∷ ls) around p h sound e =
    let w = around.widths in
    let rows = around.inputs in
    let parts = and_parts (fits around l.0.right) _ e in
    let right = raised rows (h + 1 + 1) (h + 2) (omega arith)
    (one_number l.0.right l.1 around sound p (h + 1) parts.0) in
    let q = p + length ((expression l.0.right).code p) in
    let first = joined right (operator_labelled w rows l.0.op l.0.line q h) in
    joined first (links_labelled ls around (p + length ((link l.0).code p)) h sound parts.1)

-- ---- `&&` and `||`

-- parts with jumps are as long as their size says
pub tested_long :
    (jump_out : Instr) (es : List SlotExpr) (p : ℕ)
    → length ((tested jump_out (map expression es)).code p) ≡ tested_size (map expression es)
tested_long jump_out [] p = refl
tested_long jump_out (e ∷ es) p =
    let value = (expression e).code p in
    let front = value ++ jump_out ∷ [] in
    omega (
      arith,
      length-append front ((tested jump_out (map expression es)).code (p + length front)),
      length-append value (jump_out ∷ []),
      expression_sized e p,
      tested_long jump_out es (p + length front),
    )

-- parts with jumps to the same place
tested_labelled :
    (N : List Instr → List Label → Type 0) (around : Around) (jump_out : Instr) (t h : ℕ)
    → IsSound around
    → ((q : ℕ) → q < t
    → Labelled N around.widths q (jump_out ∷ []) (label (h + 1) around.inputs) (label h around.inputs) [])
    → (es : List ((e : SlotExpr) × Holds e)) (p : ℕ)
    → list_all is_value (map (fit around) (exprs es)) ≡ true
    → p + tested_size (map expression (exprs es)) ≤ t
    → Labelled N around.widths p
    ((tested jump_out (map expression (exprs es))).code p)
    (label h around.inputs) (label h around.inputs) []
tested_labelled N around jump_out t h sound jumps [] p e le = nothing N around.widths p (label h around.inputs)
tested_labelled N around jump_out t h sound jumps (x ∷ es) p e le =
    let parts = and_parts (fits around x.0) _ e in
    let value = (expression x.0).code p in
    let front = value ++ jump_out ∷ [] in
    let part = freed N (one_number x.0 x.1 around sound p h parts.0) in
    let first = joined part (jumps (p + length value) (omega (arith, expression_sized x.0 p))) in
    joined first
    (tested_labelled N around jump_out t h sound jumps es (p + length front) parts.1
    (omega (arith, length-append value (jump_out ∷ []), expression_sized x.0 p)))

-- parts with jumps to the last of three further instructions
choice_labelled :
    (around : Around) (jump_out : ℕ → Instr) (a b : ℤ)
    → ((N : List Instr → List Label → Type 0) (w : Widths) (q t h : ℕ) (rows : List ℕ)
    → ((instrs : List Instr) (all : List Label) → N instrs all → Aim instrs all rows q t h)
    → Labelled N w q (jump_out t ∷ []) (label (h + 1) rows) (label h rows) [])
    → (es : List ((e : SlotExpr) × Holds e)) (p h : ℕ)
    → IsSound around
    → values_fit around (exprs es) ≡ true
    → Labelled no_needs around.widths p
    ((in_order (tested (jump_out (p + tested_size (map expression (exprs es)) + 2)) (map expression (exprs es))
    ∷ one (Push a) ∷ one (Jump (p + tested_size (map expression (exprs es)) + 3)) ∷ one (Push b) ∷ [])).code p)
    (label h around.inputs) (label (h + 1) around.inputs) []
choice_labelled around jump_out a b jumps es p h sound fit_all =
    let w = around.widths in
    let rows = around.inputs in
    let parts = map expression (exprs es) in
    let f = p + tested_size parts + 2 in
    let e = p + tested_size parts + 3 in
    let N : List Instr → List Label → Type 0 =
    λ instrs all. (slice_get all f ≡ Some (label h rows)) × (slice_get all e ≡ Some (label (h + 1) rows)) in
    let tests = (tested (jump_out f) parts).code p in
    let long : length tests ≡ tested_size parts = tested_long (jump_out f) (exprs es) p in
    let q = p + length tests in
    let first = tested_labelled N around (jump_out f) f h sound
    (λ k lt. jumps N w k f h rows (λ instrs all needs. aim_forward instrs all rows k f h needs.0 lt)) es p fit_all
    (omega arith) in
    let second = plain N w q (Push a) h (h + 1) rows refl (omega arith) (omega arith) refl refl in
    let third = jump N w (q + 1) e (h + 1) rows (label h rows)
    (λ instrs all needs. aim_forward instrs all rows (q + 1) e (h + 1) needs.1 (omega arith)) in
    let fourth = plain N w (q + 1 + 1) (Push b) h (h + 1) rows refl (omega arith) (omega arith) refl refl in
    sealed no_needs (more first (more second (more third fourth)))
    (λ instrs all code marks exit needs.
    let at_f : q + 1 + 1 ≡ f = omega arith in
    let at_e : p + length (tests ++ (Push a ∷ Jump e ∷ Push b ∷ [])) ≡ e =
    omega (arith, length-append tests (Push a ∷ Jump e ∷ Push b ∷ [])) in (
      subst (λ k. slice_get all k ≡ Some (label h rows)) at_f marks.1.1.1.0,
      subst (λ k. slice_get all k ≡ Some (label (h + 1) rows)) at_e exit,
    ))

-- ---- every expression

-- a form with its parts alone
abbrev firsts :
    SlotExpr-F ((e : SlotExpr) × Holds e) ((l : SlotLink) × HoldsLink l) ((s : SlotSubscript) × HoldsIndex s)
    → SlotExpr-F SlotExpr SlotLink SlotSubscript
firsts =
    map-SlotExpr ((e : SlotExpr) × Holds e) ((l : SlotLink) × HoldsLink l) ((s : SlotSubscript) × HoldsIndex s)
    SlotExpr SlotLink SlotSubscript (λ p. p.0) (λ l. l.0) (λ s. s.0)

-- each form has labels where its parts have
layer_labelled :
    (y : SlotExpr-F ((e : SlotExpr) × Holds e) ((l : SlotLink) × HoldsLink l) ((s : SlotSubscript) × HoldsIndex s))
    → Holds (roll-SlotExpr (firsts y))
layer_labelled (SlotExpr-F.Number n) =
    subst Holds (sym (rolls-Number n))
    (by_value (Number n) (one (Push n)) (λ around. true) (expression-Number n) (λ around. fit-Number around n)
    (λ around sound p h fit_it.
    plain no_needs around.widths p (Push n) h (h + 1) around.inputs refl (omega arith) (omega arith) refl refl))
layer_labelled (SlotExpr-F.Name slot) =
    subst Holds (sym (rolls-Name slot))
    (by_form (Name slot) (row (load slot)) (λ around. fit_of_slot around.widths slot) (expression-Name slot)
    (λ around. fit-Name around slot) (λ around sound p h n number. name_labelled slot around p h n number))
layer_labelled (SlotExpr-F.Field input span) =
    subst Holds (sym (rolls-Field input span))
    (by_form (Field input span) (row (columns (column_of (Some input)) span))
    (λ around. fit_of_bare (is_field around input span) span.length) (expression-Field input span)
    (λ around. fit-Field around input span)
    (λ around sound p h n number.
    let bare = bare_of (is_field around input span) span.length n number in
    raised around.inputs (h + width_by span.length) (h + n) (omega (arith, bare.1))
    (field_labelled around input span p h sound bare.0)))
layer_labelled (SlotExpr-F.Get column) =
    subst Holds (sym (rolls-Get column))
    (by_value (Get column) (one (instr.Mem column)) (λ around. nat_lt column around.widths.memory)
    (expression-Get column) (λ around. fit-Get around column)
    (λ around sound p h fit_it.
    plain no_needs around.widths p (instr.Mem column) h (h + 1) around.inputs refl (omega arith) (omega arith) refl
    fit_it))
layer_labelled (SlotExpr-F.At cells s) =
    let last = instr.MemAt s.0.line cells.column cells.length in
    subst Holds (sym (rolls-At cells s.0))
    (by_value (At cells s.0) (both (expression s.0.index) (one last))
    (λ around. are_within around.widths.memory cells && fits around s.0.index) (expression-At cells s.0)
    (λ around. fit-At around cells s.0)
    (λ around sound p h fit_it.
    let parts = and_parts (are_within around.widths.memory cells) (fits around s.0.index) fit_it in
    element_labelled around s.0.index last p h (one_number s.0.index s.1 around sound p h parts.1) refl refl refl refl
    parts.0))
layer_labelled (SlotExpr-F.FieldAt input cells s) =
    let last = instr.FieldAt s.0.line input cells.column cells.length in
    subst Holds (sym (rolls-FieldAt input cells s.0))
    (by_value (FieldAt input cells s.0) (both (expression s.0.index) (one last))
    (λ around. are_field_cells around input cells && fits around s.0.index) (expression-FieldAt input cells s.0)
    (λ around. fit-FieldAt around input cells s.0)
    (λ around sound p h fit_it.
    let parts = and_parts (are_field_cells around input cells) (fits around s.0.index) fit_it in
    let width = width_of_input around input in
    let stands = and_parts (is_inside input around) (are_within width cells) parts.0 in
    element_labelled around s.0.index last p h (one_number s.0.index s.1 around sound p h parts.1) refl refl refl
    stands.0
    (and_from (nat_lt input (length around.widths.inputs)) (are_within width cells) (sound.known input stands.0)
    stands.1)))
layer_labelled (SlotExpr-F.Unary signs e) =
    subst Holds (sym (rolls-Unary signs e.0))
    (by_value (Unary signs e.0) (both (expression e.0) (row (signs_code signs))) (λ around. fits around e.0)
    (expression-Unary signs e.0) (λ around. fit-Unary around signs e.0)
    (λ around sound p h fit_it.
    joined (one_number e.0 e.1 around sound p h fit_it)
    (signs_labelled around.widths around.inputs signs (p + length ((expression e.0).code p)) h)))
layer_labelled (SlotExpr-F.Chain e ls) =
    let links = bare_links ls in
    subst Holds (sym (rolls-Chain e.0 links))
    (by_value (Chain e.0 links) (both (expression e.0) (in_order (map link links)))
    (λ around. fits around e.0 && list_all (λ link. link) (map (λ l. fits around l.right) links))
    (expression-Chain e.0 links) (λ around. fit-Chain around e.0 links)
    (λ around sound p h fit_it.
    let parts = and_parts (fits around e.0) (list_all (λ link. link) (map (λ l. fits around l.right) links)) fit_it in
    joined (one_number e.0 e.1 around sound p h parts.0)
    (links_labelled ls around (p + length ((expression e.0).code p)) h sound parts.1)))
layer_labelled (SlotExpr-F.All es) =
    let parts = exprs es in
    subst Holds (sym (rolls-All parts))
    (by_value (All parts) (all_piece (map expression parts)) (λ around. values_fit around parts)
    (expression-All parts) (λ around. fit-All around parts)
    (λ around sound p h fit_it. choice_labelled around JumpZero (pos 1) (pos 0) jump_zero es p h sound fit_it))
layer_labelled (SlotExpr-F.Any es) =
    let parts = exprs es in
    subst Holds (sym (rolls-Any parts))
    (by_value (Any parts) (any_piece (map expression parts)) (λ around. values_fit around parts)
    (expression-Any parts) (λ around. fit-Any around parts)
    (λ around sound p h fit_it. choice_labelled around JumpNotZero (pos 0) (pos 1) jump_not_zero es p h sound fit_it))

-- an expression that fits has labels
pub expression_labelled : (e : SlotExpr) → Holds e
expression_labelled =
    ind-SlotExpr Holds HoldsLink HoldsIndex
    (λ x y e. subst (λ z. Holds (roll-SlotExpr z)) e (layer_labelled y))
    (λ x y e. subst Holds (λ i. (e i).right) y.right.1)
    (λ x y e. subst Holds (λ i. (e i).index) y.index.1)

-- one that is a single value leaves one value
pub value_labelled :
    (e : SlotExpr) (around : Around) (p h : ℕ)
    → IsSound around
    → fits around e ≡ true
    → Leaving around p h 1 (expression e)
value_labelled e around p h sound fit_it = one_number e (expression_labelled e) around sound p h fit_it

-- ---- arguments

-- both are numbers, and this is their sum
pub record Together (x y : Option ℕ) (n : ℕ) : Type 0 where
  pub left : ℕ
  pub right : ℕ
  pub left_is : x ≡ Some left
  pub right_is : y ≡ Some right
  pub sum : left + right ≡ n

-- where there is a sum
pub together_of : (x y : Option ℕ) (n : ℕ) → together x y ≡ Some n → Together x y n
together_of (Some a) (Some b) n e =
    record { left = a; right = b; left_is = refl; right_is = refl; sum = same_Some (a + b) n e }
together_of (Some a) None n e = absurd (let bad : None ≡ Some n = e in cc)
together_of None y n e = absurd (let bad : None ≡ Some n = e in cc)

-- arguments leave as many values as they stand for
pub arguments_labelled :
    (es : List SlotExpr) (around : Around) (p h n : ℕ)
    → IsSound around
    → numbers_of (map (fit around) es) ≡ Some n
    → Leaving around p h n (arguments es)
arguments_labelled [] around p h n sound e =
    let none : 0 ≡ n = same_Some 0 n e in
    raised around.inputs h (h + n) (omega arith) (nothing no_needs around.widths p (label h around.inputs))
arguments_labelled (e ∷ es) around p h n sound number =
    let sums = together_of (numbers_in (fit around e)) (numbers_of (map (fit around) es)) n number in
    raised around.inputs (h + sums.left + sums.right) (h + n) (omega (arith, sums.sum))
    (joined (expression_labelled e around sound p h sums.left sums.left_is)
    (arguments_labelled es around (p + length ((expression e).code p)) (h + sums.left) sums.right sound sums.right_is))

-- single values are as many numbers as there are values
pub values_counted :
    (es : List SlotExpr) (around : Around)
    → values_fit around es ≡ true
    → numbers_of (map (fit around) es) ≡ Some (length es)
values_counted [] around e = refl
values_counted (e ∷ es) around all_fit_it =
    let parts = and_parts (fits around e) (values_fit around es) all_fit_it in
    let count : 1 + length es ≡ suc (length es) = omega arith in
    ap (λ o. together o (numbers_of (map (fit around) es))) (value-number (fit around e) parts.0)
    ∙ ap (together (Some 1)) (values_counted es around parts.1)
    ∙ ap Some count

-- single values leave as many
pub values_labelled :
    (es : List SlotExpr) (around : Around) (p h : ℕ)
    → IsSound around
    → values_fit around es ≡ true
    → Leaving around p h (length es) (arguments es)
values_labelled es around p h sound e = arguments_labelled es around p h (length es) sound (values_counted es around e)
