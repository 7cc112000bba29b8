-- The code of an expression that fits gives the expression's value, and that of arguments their numbers.
use Rattle.std.proofs.Common.{◌≡◌, ℕ, zero, suc, ◌+◌, ◌<◌, ◌≤◌, Bool, true, not, ◌&&◌, cond, List, [], ◌∷◌, ◌++◌, length, map, Option, Some, None, refl, sym, ap, ◌∙◌, subst, arith, length-append, leb-true}
use Rattle.std.specs.Prelude.{ℤ, pos, Result, Ok, slice_get, nat_lt, option_and_then, int_lt, int_le}
use Rattle.std.specs.Ordering.{int_eq}
use Rattle.std.specs.List.{list_all}
use Rattle.std.proofs.lemmas.Bool.{and_parts}
use Rattle.std.proofs.lemmas.Option.{same_Some, slice_get-get_or}
use Rattle.flame_ops.specs.declared.integers.Op.{Op}
use Rattle.flame_ops.specs.declared.integers.Op.TheVariants as op
use Rattle.flame_ops.specs.Integers.{applied, negated, truth}
use Rattle.flame_spec.specs.declared.faults.Fault.{Fault}
use Rattle.flame_spec.specs.declared.trees.Sign.{Sign}
use Rattle.flame_spec.specs.declared.trees.SignKind.{SignKind}
use Rattle.flame_spec.specs.declared.trees.SignKind.TheVariants.{Minus, Plus, Bang}
use Rattle.flame_spec.specs.Columns.{width_by}
use Rattle.flame_spec.specs.Conditions.{number_at}
use Rattle.flame_body.specs.declared.slots.Cells.{Cells}
use Rattle.flame_body.specs.declared.slots.Span.{Span}
use Rattle.flame_body.specs.declared.slots.Slot.{Slot}
use Rattle.flame_body.specs.declared.slots.Slot.TheVariants.{Local, Memory, Constant, Iteration}
use Rattle.flame_body.specs.declared.slots.SlotExpr.{SlotExpr, Number, Name, Field, Get, At, FieldAt, Unary, Chain, All, Any, roll-SlotExpr, ind-SlotExpr, map-SlotExpr}
use Rattle.flame_body.specs.declared.slots.SlotExpr.TheVariants.{rolls-Number, rolls-Name, rolls-Field, rolls-Get, rolls-At, rolls-FieldAt, rolls-Unary, rolls-Chain, rolls-All, rolls-Any}
use Rattle.flame_body.specs.declared.slots.SlotExpr.TheOpen.{SlotExpr-F}
use Rattle.flame_body.specs.declared.slots.SlotLink.{SlotLink}
use Rattle.flame_body.specs.declared.slots.SlotSubscript.{SlotSubscript}
use Rattle.flame_body.specs.BodyFits.{Around, Fit, is_value, fit, fits, fit_of_value, fit_of_bare, fit_of_slot, are_within, are_field_cells, is_field, is_within, is_inside, width_of_input, values_fit, numbers_in, numbers_of as count_of}
use Rattle.flame_body.proofs.FitForms.{fit-Number, fit-Name, fit-Field, fit-Get, fit-At, fit-FieldAt, fit-Unary, fit-Chain, fit-All, fit-Any}
use Rattle.flame_code.specs.declared.instrs.Instr.{Instr}
use Rattle.flame_code.specs.declared.instrs.Instr.TheVariants.{Push, Loc, Const, Iter, Mem, Neg, Not, Add, Sub, Mul, Div, Rem, Lt, Gt, Le, Ge, Eq, Ne, MemAt, Jump, JumpZero, JumpNotZero}
use Rattle.flame_code.specs.declared.instrs.Instr.TheVariants as instr
use Rattle.flame_code.specs.Feeds.{field}
use Rattle.flame_code.specs.Machine.{Config, StepEnd, on, act, next, with_element, push_found}
use Rattle.flame_compile.specs.Pieces.{Piece, row, one, both, in_order}
use Rattle.flame_compile.specs.Emit.{operator, sign_code, signs_code, column_of, each_column, columns, load, tested_size, tested, expression, link, arguments}
use Rattle.flame_compile.proofs.Forms.{expression-Number, expression-Name, expression-Field, expression-Get, expression-At, expression-FieldAt, expression-Unary, expression-Chain, expression-All, expression-Any, all_piece, any_piece}
use Rattle.flame_compile.proofs.Sized.{expression_sized, arguments_sized}
use Rattle.flame_meaning.specs.Scenes.{Progress, numbers_from}
use Rattle.flame_meaning.specs.Expressions.{on_value, at_line, holds, signed_by, signs_value, bad_index, element_value}
use Rattle.flame_number_laws.specs.NumberedScenes.{NumberedScene, local_at, slot_value, span_numbers, cell_column}
use Rattle.flame_number_laws.specs.NumberedMeaning.{ExpressionMeaning, Valued, one_value, chain_value, chained, all_value, any_value, element_of as element_read, meaning_of, value_of, link_of, argument_numbers}
use Rattle.flame_number_laws.proofs.NumberedForms.{name_meaning, field_meaning, element, meaning-Number, meaning-Name, meaning-Field, meaning-Get, meaning-At, meaning-FieldAt, meaning-Unary, meaning-Chain}
use Rattle.flame_number_laws.proofs.NumberedForms.{meaning-All, meaning-Any}
use Rattle.flame_code_laws.specs.FaithfulLaws.{ExpressionsRun, ArgumentsRun}
use Rattle.flame_code_laws.specs.CodeRuns.{Running, HasAt, at, pushed, Ends, Leads, Gives}
use Rattle.flame_code_laws.specs.Likeness.{Alike}
use Rattle.flame_code_laws.specs.NamedLocals.{slot_below, names_below, all_below, links_below}
use Rattle.flame_code_laws.proofs.BelowForms.{below-Number, below-Name, below-Field, below-Get, below-At, below-FieldAt, below-Unary, below-Chain, below-All, below-Any}
use Rattle.flame_code_laws.proofs.Going.{has_left, has_right, has_first, has_rest, valued, numbered, valued_then, one_given, numbers_then, value_moved, numbers_moved, performed, failed, held, branched}
use Rattle.flame_compile.proofs.LabelledExpressions.{tested_long, together_of}
use Rattle.flame_code_laws.proofs.FormNumbers.{same_Ok, compared, twice_not, tested_value, tested_numbers, tested_bare, one_long, bare_long, single_bare, cell_within, spanned, same_column, choice_end, both_long}

module _ (run : Running) (around : Around) (before : NumberedScene) (s : Progress) (c : Config) (a : Alike run around before s
    c) where
  -- ---- rows of instructions

  -- an instruction that pushes a value
  pushes :
      (i : Instr) (v w : ℤ) (p : ℕ) (stack : List ℤ)
      → HasAt run p (i ∷ [])
      → act run.given run.routine.widths (Some i) (at p stack c) ≡ on (at (p + 1) (w ∷ stack) c)
      → w ≡ v
      → Gives run (at p stack c) (valued (p + 1) stack c) (Ok v)
  pushes i v w p stack has does same =
      subst (λ x. Gives run (at p stack c) (valued (p + 1) stack c) (Ok x)) same
      (performed run (at p stack c) (at (p + 1) (w ∷ stack) c) i (has_first run p i [] has) does)

  -- an instruction reads the columns of this row below a top
  abbrev Reads : (ℕ → Instr) → List ℤ → ℕ → Type 0
  Reads read row top =
      (m : ℕ) → m < top → (p : ℕ) (stack : List ℤ) → HasAt run p (read m ∷ [])
      → Leads run (at p stack c) (at (p + 1) (number_at row m ∷ stack) c)

  -- columns in order, each by its own instruction
  columns_run :
      (read : ℕ → Instr) (row : List ℤ) (top : ℕ)
      → Reads read row top
      → (count column p : ℕ) (stack : List ℤ)
      → column + count ≤ top
      → HasAt run p (each_column read column count)
      → Leads run (at p stack c)
      (at (p + length (each_column read column count)) (pushed (numbers_from count column row) stack) c)
  columns_run read row top reads zero column p stack le has = λ e h.
      let place : p + 0 ≡ p = omega arith in
      subst (λ q. Ends run (at q stack c) e) place h
  columns_run read row top reads (suc count) column p stack le has = λ e h.
      let rest = each_column read (column + 1) count in
      let place : p + suc (length rest) ≡ p + 1 + length rest = omega arith in
      reads column (omega arith) p stack (has_left run p (read column ∷ []) rest has) e
      (columns_run read row top reads count (column + 1) (p + 1) (number_at row column ∷ stack) (omega arith)
      (has_right run p (read column ∷ []) rest has) e
      (subst (λ q. Ends run (at q (pushed (numbers_from (suc count) column row) stack) c) e) place h))

  -- columns of the memory
  memory_reads : (top : ℕ) → Reads (column_of None) s.memory top
  memory_reads top m lt p stack has =
      pushes (Mem m) (number_at s.memory m) (number_at c.memory m) p stack has refl
      (ap (λ memory. number_at memory m) a.memory)

  -- the number of a column of a row
  field_found :
      (input m : ℕ) → is_inside input around ≡ true → m < width_of_input around input
      → field input m c.feeds ≡ Some (number_at (before.current_rows input) m)
  field_found input m inside lt =
      let current = a.rows input inside in
      ap (option_and_then (λ row. slice_get row m)) current.last
      ∙ slice_get-get_or (before.current_rows input) m (pos 0) (omega (arith, current.wide, lt))

  -- columns of a row
  row_reads :
      (input : ℕ) → is_inside input around ≡ true
      → Reads (column_of (Some input)) (before.current_rows input) (width_of_input around input)
  row_reads input inside m lt p stack has =
      performed run (at p stack c) (at (p + 1) (number_at (before.current_rows input) m ∷ stack) c) (instr.Field input m)
      (has_first run p (instr.Field input m) [] has)
      (ap (λ o. push_found o stack (at p stack c)) (field_found input m inside lt))

  -- ---- signs and operators

  -- a sign
  sign_runs :
      (kind : SignKind) (line : ℕ) (v : ℤ) (p : ℕ) (stack : List ℤ)
      → HasAt run p (sign_code kind line)
      → Gives run (at p (v ∷ stack) c) (valued (p + length (sign_code kind line)) stack c)
      (on_value (Ok v) (signed_by kind line))
  sign_runs Minus line v p stack has =
      held run c p (v ∷ stack) stack (Neg line) line (negated v) (has_first run p (Neg line) [] has) refl
  sign_runs Plus line v p stack has = λ e h.
      let place : p + 0 ≡ p = omega arith in
      subst (λ q. Ends run (at q (v ∷ stack) c) e) place h
  sign_runs Bang line v p stack has =
      subst (λ b. Gives run (at p (v ∷ stack) c) (valued (p + 1) stack c) (Ok (truth b)))
      (twice_not (int_eq v (pos 0)))
      (performed run (at p (v ∷ stack) c) (at (p + 1) (truth (int_eq v (pos 0)) ∷ stack) c) Not
      (has_first run p Not [] has) refl)

  -- the place behind two parts
  behind : (p : ℕ) (x y : List Instr) → p + length x + length y ≡ p + length (x ++ y)
  behind p x y = let long = length-append x y in omega (arith, long)

  -- signs
  signs_run :
      (signs : List Sign) (v : ℤ) (p : ℕ) (stack : List ℤ)
      → HasAt run p (signs_code signs)
      → Gives run (at p (v ∷ stack) c) (valued (p + length (signs_code signs)) stack c) (signs_value signs v)
  signs_run [] v p stack has = λ e h.
      let place : p + 0 ≡ p = omega arith in
      subst (λ q. Ends run (at q (v ∷ stack) c) e) place h
  signs_run (sign ∷ signs) v p stack has =
      let inner = signs_code signs in
      let outer = sign_code sign.kind sign.line in
      value_moved run (at p (v ∷ stack) c) c (p + length inner + length outer) (p + length (inner ++ outer)) stack
      (signs_value (sign ∷ signs) v) (behind p inner outer)
      (valued_then run (at p (v ∷ stack) c) (valued (p + length inner) stack c)
      (valued (p + length inner + length outer) stack c) (signs_value signs v) (signed_by sign.kind sign.line)
      (signs_run signs v p stack (has_left run p inner outer has))
      (λ w. sign_runs sign.kind sign.line w (p + length inner) stack (has_right run p inner outer has)))

  -- an operator
  pub operator_runs :
      (o : Op) (line : ℕ) (v w : ℤ) (p : ℕ) (stack : List ℤ)
      → HasAt run p (operator o line ∷ [])
      → Gives run (at p (w ∷ v ∷ stack) c) (valued (p + 1) stack c) (at_line line (applied o v w))
  operator_runs op.Add line v w p stack has =
      held run c p (w ∷ v ∷ stack) stack (Add line) line (applied op.Add v w) (has_first run p (Add line) [] has) refl
  operator_runs op.Sub line v w p stack has =
      held run c p (w ∷ v ∷ stack) stack (Sub line) line (applied op.Sub v w) (has_first run p (Sub line) [] has) refl
  operator_runs op.Mul line v w p stack has =
      held run c p (w ∷ v ∷ stack) stack (Mul line) line (applied op.Mul v w) (has_first run p (Mul line) [] has) refl
  operator_runs op.Div line v w p stack has =
      held run c p (w ∷ v ∷ stack) stack (Div line) line (applied op.Div v w) (has_first run p (Div line) [] has) refl
  operator_runs op.Rem line v w p stack has =
      held run c p (w ∷ v ∷ stack) stack (Rem line) line (applied op.Rem v w) (has_first run p (Rem line) [] has) refl
  operator_runs op.Lt line v w p stack has =
      subst (Gives run (at p (w ∷ v ∷ stack) c) (valued (p + 1) stack c)) (compared (int_lt v w) line)
      (held run c p (w ∷ v ∷ stack) stack Lt 0 (applied op.Lt v w) (has_first run p Lt [] has) refl)
  operator_runs op.Gt line v w p stack has =
      subst (Gives run (at p (w ∷ v ∷ stack) c) (valued (p + 1) stack c)) (compared (int_lt w v) line)
      (held run c p (w ∷ v ∷ stack) stack Gt 0 (applied op.Gt v w) (has_first run p Gt [] has) refl)
  operator_runs op.Le line v w p stack has =
      subst (Gives run (at p (w ∷ v ∷ stack) c) (valued (p + 1) stack c)) (compared (int_le v w) line)
      (held run c p (w ∷ v ∷ stack) stack Le 0 (applied op.Le v w) (has_first run p Le [] has) refl)
  operator_runs op.Ge line v w p stack has =
      subst (Gives run (at p (w ∷ v ∷ stack) c) (valued (p + 1) stack c)) (compared (int_le w v) line)
      (held run c p (w ∷ v ∷ stack) stack Ge 0 (applied op.Ge v w) (has_first run p Ge [] has) refl)
  operator_runs op.Eq line v w p stack has =
      subst (Gives run (at p (w ∷ v ∷ stack) c) (valued (p + 1) stack c)) (compared (int_eq v w) line)
      (held run c p (w ∷ v ∷ stack) stack Eq 0 (applied op.Eq v w) (has_first run p Eq [] has) refl)
  operator_runs op.Ne line v w p stack has =
      subst (Gives run (at p (w ∷ v ∷ stack) c) (valued (p + 1) stack c)) (compared (not (int_eq v w)) line)
      (held run c p (w ∷ v ∷ stack) stack Ne 0 (applied op.Ne v w) (has_first run p Ne [] has) refl)

  -- ---- elements

  -- an element by its column, where the machine finds its number
  element_runs :
      (i : Instr) (line : ℕ) (row : List ℤ) (v : ℤ) (p : ℕ) (stack : List ℤ) (o : Option ℕ) (found : ℕ → StepEnd)
      → HasAt run p (i ∷ [])
      → act run.given run.routine.widths (Some i) (at p (v ∷ stack) c) ≡ with_element line o found
      → ((m : ℕ) → o ≡ Some m → found m ≡ on (at (p + 1) (number_at row m ∷ stack) c))
      → Gives run (at p (v ∷ stack) c) (valued (p + 1) stack c) (element_value line o row)
  element_runs i line row v p stack None found has does is =
      failed run (at p (v ∷ stack) c) i (bad_index line) (has_first run p i [] has) does
  element_runs i line row v p stack (Some m) found has does is =
      performed run (at p (v ∷ stack) c) (at (p + 1) (number_at row m ∷ stack) c) i (has_first run p i [] has)
      (does ∙ is m refl)

  -- an element of the memory
  pub cell_runs :
      (line : ℕ) (cells : Cells) (v : ℤ) (p : ℕ) (stack : List ℤ)
      → HasAt run p (MemAt line cells.column cells.length ∷ [])
      → Gives run (at p (v ∷ stack) c) (valued (p + 1) stack c) (element_value line (cell_column cells v) s.memory)
  cell_runs line cells v p stack has =
      let found : ℕ → StepEnd = λ m. next (number_at c.memory m ∷ stack) (at p (v ∷ stack) c) in
      element_runs (MemAt line cells.column cells.length) line s.memory v p stack (cell_column cells v) found has
      (ap (λ o. with_element line o found) (same_column cells v))
      (λ m is. ap (λ memory. on (at (p + 1) (number_at memory m ∷ stack) c)) a.memory)

  -- an element of a row
  field_cell_runs :
      (line input : ℕ) (cells : Cells) (v : ℤ) (p : ℕ) (stack : List ℤ)
      → are_field_cells around input cells ≡ true
      → HasAt run p (instr.FieldAt line input cells.column cells.length ∷ [])
      → Gives run (at p (v ∷ stack) c) (valued (p + 1) stack c)
      (element_value line (cell_column cells v) (before.current_rows input))
  field_cell_runs line input cells v p stack fit_it has =
      let width = width_of_input around input in
      let parts = and_parts (is_inside input around) (are_within width cells) fit_it in
      let top : cells.column + cells.length ≤ width = leb-true (cells.column + cells.length) width parts.1 in
      let found : ℕ → StepEnd = λ m. push_found (field input m c.feeds) stack (at p (v ∷ stack) c) in
      element_runs (instr.FieldAt line input cells.column cells.length) line (before.current_rows input) v p stack
      (cell_column cells v) found has
      (ap (λ o. with_element line o found) (same_column cells v))
      (λ m is.
      let lt = cell_within cells v m is in
      ap (λ o. push_found o stack (at p (v ∷ stack) c)) (field_found input m parts.0 (omega (arith, lt, top))))

  -- ---- what a form gives

  -- a piece gives what this is: its value where it fits as a value, and its numbers where it fits
  pub record Does (piece : Piece) (given : ExpressionMeaning) (fitting : Fit) (low : Bool) : Type 0 where
    pub value : (p : ℕ) (stack : List ℤ) → HasAt run p (piece.code p) → is_value fitting ≡ true → low ≡ true
        → Gives run (at p stack c) (valued (p + length (piece.code p)) stack c) (given.value before s)
    pub numbers : (p : ℕ) (stack : List ℤ) (n : ℕ)
        → HasAt run p (piece.code p) → numbers_in fitting ≡ Some n → low ≡ true
        → Gives run (at p stack c) (numbered (p + length (piece.code p)) stack c) (given.numbers before s)
    pub long : (n : ℕ) (vs : List ℤ) → numbers_in fitting ≡ Some n → given.numbers before s ≡ Ok vs → length vs ≡ n

  -- an expression does
  abbrev pub Holds : SlotExpr → Type 0
  Holds e = Does (expression e) (meaning_of e) (fit around e) (names_below (length s.locals) e)

  -- so does an operand
  abbrev HoldsLink : SlotLink → Type 0
  HoldsLink l = Holds l.right

  -- so does an index
  abbrev HoldsIndex : SlotSubscript → Type 0
  HoldsIndex l = Holds l.index

  -- by what a form becomes, gives, fits and names
  by_form :
      (e : SlotExpr) (piece : Piece) (given : ExpressionMeaning) (fitting : Fit) (low : Bool)
      → expression e ≡ piece
      → meaning_of e ≡ given
      → fit around e ≡ fitting
      → names_below (length s.locals) e ≡ low
      → Does piece given fitting low
      → Holds e
  by_form e piece given fitting low is gives fit_is low_is does =
      subst (λ x. Does x (meaning_of e) (fit around e) (names_below (length s.locals) e)) (sym is)
      (subst (λ x. Does piece x (fit around e) (names_below (length s.locals) e)) (sym gives)
      (subst (λ x. Does piece given x (names_below (length s.locals) e)) (sym fit_is)
      (subst (λ x. Does piece given fitting x) (sym low_is) does)))

  -- a form that is a value where a test holds
  by_value :
      (piece : Piece) (reading : Valued) (test low : Bool)
      → ((p : ℕ) (stack : List ℤ) → HasAt run p (piece.code p) → test ≡ true → low ≡ true
      → Gives run (at p stack c) (valued (p + length (piece.code p)) stack c) (reading before s))
      → Does piece (one_value reading) (fit_of_value test) low
  by_value piece reading test low gives = record {
    value = λ p stack has fit_it low_it. gives p stack has (tested_value test fit_it) low_it;
    numbers = λ p stack n has fit_it low_it.
        one_given run (at p stack c) c (p + length (piece.code p)) stack (reading before s)
        (gives p stack has (tested_numbers test n fit_it) low_it);
    long = λ n vs fit_it is. one_long test (reading before s) n vs fit_it is;
  }

  -- a variable of a row without an index
  by_bare :
      (read : ℕ → Instr) (numbers_of_row : List ℤ) (top : ℕ) (span : Span) (given : ExpressionMeaning) (test low : Bool)
      → (test ≡ true → Reads read numbers_of_row top)
      → (test ≡ true → span.column + width_by span.length ≤ top)
      → given.value before s ≡ Ok (number_at numbers_of_row span.column)
      → given.numbers before s ≡ Ok (span_numbers span numbers_of_row)
      → Does (row (columns read span)) given (fit_of_bare test span.length) low
  by_bare read numbers_of_row top span given test low reads within value_is numbers_is =
      let several :
      (size : Option ℕ) (p : ℕ) (stack : List ℤ) → test ≡ true → span.column + width_by size ≤ top
      → HasAt run p (each_column read span.column (width_by size))
      → Leads run (at p stack c)
      (at (p + length (each_column read span.column (width_by size)))
      (pushed (numbers_from (width_by size) span.column numbers_of_row) stack) c) =
      λ size p stack test_it within_it has.
      columns_run read numbers_of_row top (reads test_it) (width_by size) span.column p stack within_it has in
      record {
        value = λ p stack has fit_it low_it.
            let single = single_bare test span.length fit_it in
            subst (Gives run (at p stack c) (valued (p + length (columns read span)) stack c)) (sym value_is)
            (subst (λ size. HasAt run p (each_column read span.column (width_by size))
            → Leads run (at p stack c)
            (valued (p + length (each_column read span.column (width_by size))) stack c (number_at numbers_of_row
            span.column)))
            (sym single.1)
            (λ there. several None p stack single.0
            (subst (λ size. span.column + width_by size ≤ top) single.1 (within single.0)) there)
            has);
        numbers = λ p stack n has fit_it low_it.
            let test_it = tested_bare test span.length n fit_it in
            subst (Gives run (at p stack c) (numbered (p + length (columns read span)) stack c)) (sym numbers_is)
            (subst (λ vs. Leads run (at p stack c) (numbered (p + length (columns read span)) stack c vs))
            (spanned span.length span.column numbers_of_row)
            (several span.length p stack test_it (within test_it) has));
        long = λ n vs fit_it is. bare_long test span.length span.column numbers_of_row n vs fit_it (sym numbers_is ∙
            is);
      }

  -- expressions without what holds of them
  abbrev exprs : List ((e : SlotExpr) × Holds e) → List SlotExpr
  exprs es = map (λ e. e.0) es

  -- links without what holds of them
  abbrev bare_links : List ((l : SlotLink) × HoldsLink l) → List SlotLink
  bare_links ls = map (λ l. l.0) ls

  -- ---- operands

  -- operands with their operators
  links_run :
      (ls : List ((l : SlotLink) × HoldsLink l)) (v : ℤ) (p : ℕ) (stack : List ℤ)
      → list_all (λ (link : Bool). link) (map (λ (l : SlotLink). fits around l.right) (bare_links ls)) ≡ true
      → links_below (length s.locals) (bare_links ls) ≡ true
      → HasAt run p ((in_order (map link (bare_links ls))).code p)
      → Gives run (at p (v ∷ stack) c)
      (valued (p + length ((in_order (map link (bare_links ls))).code p)) stack c)
      (chain_value (map link_of (bare_links ls)) before s v)
  links_run [] v p stack fit_all low_all has = λ e h.
      let place : p + 0 ≡ p = omega arith in
      subst (λ q. Ends run (at q (v ∷ stack) c) e) place h
  links_run (l ∷ ls) v p stack fit_all low_all has =
      let fitting = and_parts (fits around l.0.right) _ fit_all in
      let low = and_parts (names_below (length s.locals) l.0.right) _ low_all in
      let right = (expression l.0.right).code p in
      let first = (link l.0).code p in
      let rest = (in_order (map link (bare_links ls))).code (p + length first) in
      let has_link = has_left run p first rest has in
      let operand = l.1.value p (v ∷ stack)
      (has_left run p right (operator l.0.op l.0.line ∷ []) has_link) fitting.0 low.0 in
      let operated : (w : ℤ) → Gives run (at (p + length right) (w ∷ v ∷ stack) c)
      (valued (p + length first) stack c) (at_line l.0.line (applied l.0.op v w)) =
      λ w. value_moved run (at (p + length right) (w ∷ v ∷ stack) c) c (p + length right + 1) (p + length first) stack
      (at_line l.0.line (applied l.0.op v w)) (behind p right (operator l.0.op l.0.line ∷ []))
      (operator_runs l.0.op l.0.line v w (p + length right) stack
      (has_right run p right (operator l.0.op l.0.line ∷ []) has_link)) in
      value_moved run (at p (v ∷ stack) c) c (p + length first + length rest) (p + length (first ++ rest)) stack
      (chain_value (map link_of (bare_links (l ∷ ls))) before s v) (behind p first rest)
      (valued_then run (at p (v ∷ stack) c) (valued (p + length first) stack c)
      (valued (p + length first + length rest) stack c) (link_of l.0 before s v)
      (chain_value (map link_of (bare_links ls)) before s)
      (valued_then run (at p (v ∷ stack) c) (valued (p + length right) (v ∷ stack) c)
      (valued (p + length first) stack c) (value_of l.0.right before s)
      (λ w. at_line l.0.line (applied l.0.op v w)) operand operated)
      (λ w. links_run ls w (p + length first) stack fitting.1 low.1 (has_right run p first rest has)))

  -- ---- `&&` and `||`

  -- parts with jumps, behind which the run comes to a last place
  tested_run :
      (jump : Instr) (value : List ExpressionMeaning → Valued) (last : ℕ) (stack : List ℤ)
      → ((given : ExpressionMeaning) (parts : List ExpressionMeaning) (p q : ℕ)
      → HasAt run q (jump ∷ [])
      → Gives run (at p stack c) (valued q stack c) (given.value before s)
      → Gives run (at (q + 1) stack c) (valued last stack c) (value parts before s)
      → Gives run (at p stack c) (valued last stack c) (value (given ∷ parts) before s))
      → (es : List ((e : SlotExpr) × Holds e)) (p : ℕ)
      → list_all is_value (map (fit around) (exprs es)) ≡ true
      → all_below (length s.locals) (exprs es) ≡ true
      → HasAt run p ((tested jump (map expression (exprs es))).code p)
      → Gives run (at (p + length ((tested jump (map expression (exprs es))).code p)) stack c) (valued last stack c)
      (value [] before s)
      → Gives run (at p stack c) (valued last stack c) (value (map meaning_of (exprs es)) before s)
  tested_run jump value last stack each [] p fit_all low_all has end =
      let place : p + 0 ≡ p = omega arith in
      subst (λ q. Gives run (at q stack c) (valued last stack c) (value [] before s)) place end
  tested_run jump value last stack each (e ∷ es) p fit_all low_all has end =
      let fitting = and_parts (fits around e.0) _ fit_all in
      let low = and_parts (names_below (length s.locals) e.0) _ low_all in
      let part = (expression e.0).code p in
      let first = part ++ jump ∷ [] in
      let rest = (tested jump (map expression (exprs es))).code (p + length first) in
      let has_part = has_left run p first rest has in
      let behind_jump : p + length part + 1 ≡ p + length first = behind p part (jump ∷ []) in
      let behind_all : p + length first + length rest ≡ p + length (first ++ rest) = behind p first rest in
      each (meaning_of e.0) (map meaning_of (exprs es)) p (p + length part)
      (has_right run p part (jump ∷ []) has_part)
      (e.1.value p stack (has_left run p part (jump ∷ []) has_part) fitting.0 low.0)
      (subst (λ q. Gives run (at q stack c) (valued last stack c) (value (map meaning_of (exprs es)) before s))
      (sym behind_jump)
      (tested_run jump value last stack each es (p + length first) fitting.1 low.1 (has_right run p first rest has)
      (subst (λ q. Gives run (at q stack c) (valued last stack c) (value [] before s)) (sym behind_all) end)))

  -- three instructions behind them: the last place, where no part decides
  undecided :
      (u v : ℤ) (q e : ℕ) (stack : List ℤ)
      → HasAt run q (Push u ∷ Jump e ∷ Push v ∷ [])
      → Leads run (at q stack c) (at e (u ∷ stack) c)
  undecided u v q e stack has = λ end h.
      performed run (at q stack c) (at (q + 1) (u ∷ stack) c) (Push u)
      (has_first run q (Push u) (Jump e ∷ Push v ∷ []) has) refl end
      (performed run (at (q + 1) (u ∷ stack) c) (at e (u ∷ stack) c) (Jump e)
      (has_first run (q + 1) (Jump e) (Push v ∷ []) (has_rest run q (Push u) (Jump e ∷ Push v ∷ []) has)) refl end h)

  -- and where one does
  decided :
      (u v : ℤ) (q e : ℕ) (stack : List ℤ)
      → HasAt run q (Push u ∷ Jump e ∷ Push v ∷ [])
      → Leads run (at (q + 2) stack c) (at (q + 3) (v ∷ stack) c)
  decided u v q e stack has =
      let two : q + 1 + 1 ≡ q + 2 = omega arith in
      let three : q + 2 + 1 ≡ q + 3 = omega arith in
      let last = has_rest run (q + 1) (Jump e) (Push v ∷ []) (has_rest run q (Push u) (Jump e ∷ Push v ∷ []) has) in
      subst (λ k. Leads run (at (q + 2) stack c) (at k (v ∷ stack) c)) three
      (performed run (at (q + 2) stack c) (at (q + 2 + 1) (v ∷ stack) c) (Push v)
      (subst (λ k. slice_get run.routine.instrs k ≡ Some (Push v)) two (has_first run (q + 1 + 1) (Push v) [] last))
      refl)

  -- parts of `&&`
  all_each :
      (f last : ℕ) (stack : List ℤ)
      → Leads run (at f stack c) (at last (pos 0 ∷ stack) c)
      → (given : ExpressionMeaning) (parts : List ExpressionMeaning) (p q : ℕ)
      → HasAt run q (JumpZero f ∷ [])
      → Gives run (at p stack c) (valued q stack c) (given.value before s)
      → Gives run (at (q + 1) stack c) (valued last stack c) (all_value parts before s)
      → Gives run (at p stack c) (valued last stack c) (all_value (given ∷ parts) before s)
  all_each f last stack out given parts p q has part more_parts =
      valued_then run (at p stack c) (valued q stack c) (valued last stack c) (given.value before s)
      (λ v. cond (holds v) (all_value parts before s) (Ok (pos 0))) part
      (λ v. branched run (at q (v ∷ stack) c) (at f stack c) (at (q + 1) stack c) (valued last stack c) (JumpZero f)
      (int_eq v (pos 0)) (all_value parts before s) (Ok (pos 0)) (has_first run q (JumpZero f) [] has) refl more_parts
      out)

  -- parts of `||`
  any_each :
      (t last : ℕ) (stack : List ℤ)
      → Leads run (at t stack c) (at last (pos 1 ∷ stack) c)
      → (given : ExpressionMeaning) (parts : List ExpressionMeaning) (p q : ℕ)
      → HasAt run q (JumpNotZero t ∷ [])
      → Gives run (at p stack c) (valued q stack c) (given.value before s)
      → Gives run (at (q + 1) stack c) (valued last stack c) (any_value parts before s)
      → Gives run (at p stack c) (valued last stack c) (any_value (given ∷ parts) before s)
  any_each t last stack out given parts p q has part more_parts =
      valued_then run (at p stack c) (valued q stack c) (valued last stack c) (given.value before s)
      (λ v. cond (holds v) (Ok (pos 1)) (any_value parts before s)) part
      (λ v. branched run (at q (v ∷ stack) c) (at (q + 1) stack c) (at t stack c) (valued last stack c) (JumpNotZero t)
      (int_eq v (pos 0)) (Ok (pos 1)) (any_value parts before s) (has_first run q (JumpNotZero t) [] has) refl out
      more_parts)

  -- parts with jumps to the last of three further instructions
  choice_runs :
      (jump : ℕ → Instr) (value : List ExpressionMeaning → Valued) (u v : ℤ)
      → value [] before s ≡ Ok u
      → ((f last : ℕ) (stack : List ℤ)
      → Leads run (at f stack c) (at last (v ∷ stack) c)
      → (given : ExpressionMeaning) (parts : List ExpressionMeaning) (p q : ℕ)
      → HasAt run q (jump f ∷ [])
      → Gives run (at p stack c) (valued q stack c) (given.value before s)
      → Gives run (at (q + 1) stack c) (valued last stack c) (value parts before s)
      → Gives run (at p stack c) (valued last stack c) (value (given ∷ parts) before s))
      → (es : List ((e : SlotExpr) × Holds e)) (p : ℕ) (stack : List ℤ)
      → list_all is_value (map (fit around) (exprs es)) ≡ true
      → all_below (length s.locals) (exprs es) ≡ true
      → HasAt run p
      ((in_order (tested (jump (p + tested_size (map expression (exprs es)) + 2)) (map expression (exprs es))
      ∷ one (Push u) ∷ one (Jump (p + tested_size (map expression (exprs es)) + 3)) ∷ one (Push v) ∷ [])).code p)
      → Gives run (at p stack c) (valued (p + tested_size (map expression (exprs es)) + 3) stack c)
      (value (map meaning_of (exprs es)) before s)
  choice_runs jump value u v none each es p stack fit_all low_all has =
      let parts = map expression (exprs es) in
      let size = tested_size parts in
      let f = p + size + 2 in
      let e = p + size + 3 in
      let tests = (tested (jump f) parts).code p in
      let long : length tests ≡ size = tested_long (jump f) (exprs es) p in
      let at_f : p + length tests + 2 ≡ f = omega (arith, long) in
      let at_e : p + length tests + 3 ≡ e = omega (arith, long) in
      let ending = Push u ∷ Jump e ∷ Push v ∷ [] in
      let has_ending = has_right run p tests ending has in
      let out : Leads run (at f stack c) (at e (v ∷ stack) c) =
      subst (λ k. Leads run (at f stack c) (at k (v ∷ stack) c)) at_e
      (subst (λ k. Leads run (at k stack c) (at (p + length tests + 3) (v ∷ stack) c)) at_f
      (decided u v (p + length tests) e stack has_ending)) in
      tested_run (jump f) value e stack (each f e stack out) es p fit_all low_all (has_left run p tests ending has)
      (subst (Gives run (at (p + length tests) stack c) (valued e stack c)) (sym none)
      (undecided u v (p + length tests) e stack has_ending))

  -- an expression, and code behind it that goes on with its value
  followed :
      (e : SlotExpr) (code : ℕ → List Instr) (f : ℤ → Result ℤ Fault)
      → Holds e
      → (p : ℕ) (stack : List ℤ)
      → HasAt run p ((expression e).code p ++ code (p + length ((expression e).code p)))
      → fits around e ≡ true
      → names_below (length s.locals) e ≡ true
      → ((v : ℤ) (q : ℕ) → HasAt run q (code q)
      → Gives run (at q (v ∷ stack) c) (valued (q + length (code q)) stack c) (f v))
      → Gives run (at p stack c)
      (valued (p + length ((expression e).code p ++ code (p + length ((expression e).code p)))) stack c)
      (on_value (value_of e before s) f)
  followed e code f holds_e p stack has fit_it low_it goes =
      let first = (expression e).code p in
      let rest = code (p + length first) in
      value_moved run (at p stack c) c (p + length first + length rest) (p + length (first ++ rest)) stack
      (on_value (value_of e before s) f) (behind p first rest)
      (valued_then run (at p stack c) (valued (p + length first) stack c)
      (valued (p + length first + length rest) stack c) (value_of e before s) f
      (holds_e.value p stack (has_left run p first rest has) fit_it low_it)
      (λ v. goes v (p + length first) (has_right run p first rest has)))

  -- an index, and an instruction behind it
  indexed :
      (e : SlotExpr) (i : Instr) (f : ℤ → Result ℤ Fault)
      → Holds e
      → (p : ℕ) (stack : List ℤ)
      → HasAt run p ((expression e).code p ++ i ∷ [])
      → fits around e ≡ true
      → names_below (length s.locals) e ≡ true
      → ((v : ℤ) (q : ℕ) → HasAt run q (i ∷ []) → Gives run (at q (v ∷ stack) c) (valued (q + 1) stack c) (f v))
      → Gives run (at p stack c) (valued (p + length ((expression e).code p ++ i ∷ [])) stack c)
      (on_value (value_of e before s) f)
  indexed e i f holds_e p stack has fit_it low_it goes = followed e (λ q. i ∷ []) f holds_e p stack has fit_it low_it
      goes

  -- ---- every expression

  -- a form with its parts alone
  abbrev firsts :
      SlotExpr-F ((e : SlotExpr) × Holds e) ((l : SlotLink) × HoldsLink l) ((i : SlotSubscript) × HoldsIndex i)
      → SlotExpr-F SlotExpr SlotLink SlotSubscript
  firsts =
      map-SlotExpr ((e : SlotExpr) × Holds e) ((l : SlotLink) × HoldsLink l) ((i : SlotSubscript) × HoldsIndex i)
      SlotExpr SlotLink SlotSubscript (λ e. e.0) (λ l. l.0) (λ i. i.0)

  -- a name
  name_does :
      (slot : Slot)
      → Does (row (load slot)) (name_meaning slot) (fit_of_slot around.widths slot) (slot_below (length s.locals) slot)
  name_does (Local number) =
      by_value (row (load (Local number))) (λ b t. Ok (slot_value (Local number) b t)) true
      (nat_lt number (length s.locals)) (λ p stack has fit_it low_it.
      pushes (Loc number) (local_at number s.locals) (c.locals number) p stack has refl (a.locals number low_it))
  name_does (Memory span) =
      by_bare (column_of None) s.memory around.widths.memory span (name_meaning (Memory span))
      (is_within around.widths.memory span) true (λ test. memory_reads around.widths.memory)
      (λ test. leb-true (span.column + width_by span.length) around.widths.memory test) refl refl
  name_does (Constant number) =
      by_value (row (load (Constant number))) (λ b t. Ok (slot_value (Constant number) b t))
      (nat_lt number around.widths.constants) true (λ p stack has fit_it low_it.
      pushes (Const number) (number_at before.constants number) (number_at run.given.constants number) p stack has refl
      (ap (λ constants. number_at constants number) a.constants))
  name_does Iteration =
      by_value (row (load Iteration)) (λ b t. Ok (slot_value Iteration b t)) true true (λ p stack has fit_it low_it.
      pushes Iter before.iteration run.given.iteration p stack has refl a.iteration)

  -- each form does where its parts do
  layer_does :
      (y : SlotExpr-F ((e : SlotExpr) × Holds e) ((l : SlotLink) × HoldsLink l) ((i : SlotSubscript) × HoldsIndex i))
      → Holds (roll-SlotExpr (firsts y))
  layer_does (SlotExpr-F.Number n) =
      subst Holds (sym (rolls-Number n))
      (by_form (Number n) (one (Push n)) (one_value (λ b t. Ok n)) (fit_of_value true) true (expression-Number n)
      (meaning-Number n) (fit-Number around n) (below-Number (length s.locals) n)
      (by_value (one (Push n)) (λ b t. Ok n) true true (λ p stack has fit_it low_it.
      pushes (Push n) n n p stack has refl refl)))
  layer_does (SlotExpr-F.Name slot) =
      subst Holds (sym (rolls-Name slot))
      (by_form (Name slot) (row (load slot)) (name_meaning slot) (fit_of_slot around.widths slot)
      (slot_below (length s.locals) slot) (expression-Name slot) (meaning-Name slot) (fit-Name around slot)
      (below-Name (length s.locals) slot) (name_does slot))
  layer_does (SlotExpr-F.Field input span) =
      let test = is_field around input span in
      let width = width_of_input around input in
      subst Holds (sym (rolls-Field input span))
      (by_form (Field input span) (row (columns (column_of (Some input)) span)) (field_meaning input span)
      (fit_of_bare test span.length) true (expression-Field input span) (meaning-Field input span)
      (fit-Field around input span) (below-Field (length s.locals) input span)
      (by_bare (column_of (Some input)) (before.current_rows input) width span (field_meaning input span) test true
      (λ fit_it. row_reads input (and_parts (is_inside input around) (is_within width span) fit_it).0)
      (λ fit_it. leb-true (span.column + width_by span.length) width
      (and_parts (is_inside input around) (is_within width span) fit_it).1) refl refl))
  layer_does (SlotExpr-F.Get column) =
      let reading : Valued = λ b t. Ok (number_at t.memory column) in
      let test = nat_lt column around.widths.memory in
      subst Holds (sym (rolls-Get column))
      (by_form (Get column) (one (Mem column)) (one_value reading) (fit_of_value test) true (expression-Get column)
      (meaning-Get column) (fit-Get around column) (below-Get (length s.locals) column)
      (by_value (one (Mem column)) reading test true (λ p stack has fit_it low_it.
      pushes (Mem column) (number_at s.memory column) (number_at c.memory column) p stack has refl
      (ap (λ memory. number_at memory column) a.memory))))
  layer_does (SlotExpr-F.At cells i) =
      let index = i.0.index in
      let last = MemAt i.0.line cells.column cells.length in
      let piece = both (expression index) (one last) in
      let reading : Valued = element_read cells (element i.0) (λ b t. t.memory) in
      let test = are_within around.widths.memory cells && fits around index in
      subst Holds (sym (rolls-At cells i.0))
      (by_form (At cells i.0) piece (one_value reading) (fit_of_value test) (names_below (length s.locals) index)
      (expression-At cells i.0) (meaning-At cells i.0) (fit-At around cells i.0) (below-At (length s.locals) cells i.0)
      (by_value piece reading test (names_below (length s.locals) index) (λ p stack has fit_it low_it.
      indexed index last (λ v. element_value i.0.line (cell_column cells v) s.memory) i.1 p stack has
      (and_parts (are_within around.widths.memory cells) (fits around index) fit_it).1 low_it
      (λ v q has_last. cell_runs i.0.line cells v q stack has_last))))
  layer_does (SlotExpr-F.FieldAt input cells i) =
      let index = i.0.index in
      let last = instr.FieldAt i.0.line input cells.column cells.length in
      let piece = both (expression index) (one last) in
      let reading : Valued = element_read cells (element i.0) (λ b t. b.current_rows input) in
      let test = are_field_cells around input cells && fits around index in
      subst Holds (sym (rolls-FieldAt input cells i.0))
      (by_form (FieldAt input cells i.0) piece (one_value reading) (fit_of_value test)
      (names_below (length s.locals) index) (expression-FieldAt input cells i.0) (meaning-FieldAt input cells i.0)
      (fit-FieldAt around input cells i.0) (below-FieldAt (length s.locals) input cells i.0)
      (by_value piece reading test (names_below (length s.locals) index) (λ p stack has fit_it low_it.
      let parts = and_parts (are_field_cells around input cells) (fits around index) fit_it in
      indexed index last (λ v. element_value i.0.line (cell_column cells v) (before.current_rows input)) i.1 p stack has
      parts.1 low_it (λ v q has_last. field_cell_runs i.0.line input cells v q stack parts.0 has_last))))
  layer_does (SlotExpr-F.Unary signs e) =
      let piece = both (expression e.0) (row (signs_code signs)) in
      let reading : Valued = λ b t. on_value (value_of e.0 b t) (signs_value signs) in
      subst Holds (sym (rolls-Unary signs e.0))
      (by_form (Unary signs e.0) piece (one_value reading) (fit_of_value (fits around e.0))
      (names_below (length s.locals) e.0) (expression-Unary signs e.0) (meaning-Unary signs e.0)
      (fit-Unary around signs e.0) (below-Unary (length s.locals) signs e.0)
      (by_value piece reading (fits around e.0) (names_below (length s.locals) e.0) (λ p stack has fit_it low_it.
      followed e.0 (λ q. signs_code signs) (signs_value signs) e.1 p stack has fit_it low_it
      (λ v q has_last. signs_run signs v q stack has_last))))
  layer_does (SlotExpr-F.Chain e ls) =
      let links = bare_links ls in
      let piece = both (expression e.0) (in_order (map link links)) in
      let reading : Valued = chained (value_of e.0) (map link_of links) in
      let links_fit = list_all (λ link. link) (map (λ l. fits around l.right) links) in
      let test = fits around e.0 && links_fit in
      let low = names_below (length s.locals) e.0 && links_below (length s.locals) links in
      subst Holds (sym (rolls-Chain e.0 links))
      (by_form (Chain e.0 links) piece (one_value reading) (fit_of_value test) low (expression-Chain e.0 links)
      (meaning-Chain e.0 links) (fit-Chain around e.0 links) (below-Chain (length s.locals) e.0 links)
      (by_value piece reading test low (λ p stack has fit_it low_it.
      let fitting = and_parts (fits around e.0) links_fit fit_it in
      let lows = and_parts (names_below (length s.locals) e.0) (links_below (length s.locals) links) low_it in
      followed e.0 (in_order (map link links)).code (chain_value (map link_of links) before s) e.1 p stack has fitting.0
      lows.0 (λ v q has_last. links_run ls v q stack fitting.1 lows.1 has_last))))
  layer_does (SlotExpr-F.All es) =
      let parts = exprs es in
      let piece = all_piece (map expression parts) in
      let reading : Valued = all_value (map meaning_of parts) in
      subst Holds (sym (rolls-All parts))
      (by_form (All parts) piece (one_value reading) (fit_of_value (values_fit around parts))
      (all_below (length s.locals) parts) (expression-All parts) (meaning-All parts) (fit-All around parts)
      (below-All (length s.locals) parts)
      (by_value piece reading (values_fit around parts) (all_below (length s.locals) parts)
      (λ p stack has fit_it low_it.
      value_moved run (at p stack c) c (p + tested_size (map expression parts) + 3) (p + length (piece.code p)) stack
      (reading before s) (choice_end JumpZero (pos 1) (pos 0) parts p)
      (choice_runs JumpZero all_value (pos 1) (pos 0) refl all_each es p stack fit_it low_it has))))
  layer_does (SlotExpr-F.Any es) =
      let parts = exprs es in
      let piece = any_piece (map expression parts) in
      let reading : Valued = any_value (map meaning_of parts) in
      subst Holds (sym (rolls-Any parts))
      (by_form (Any parts) piece (one_value reading) (fit_of_value (values_fit around parts))
      (all_below (length s.locals) parts) (expression-Any parts) (meaning-Any parts) (fit-Any around parts)
      (below-Any (length s.locals) parts)
      (by_value piece reading (values_fit around parts) (all_below (length s.locals) parts)
      (λ p stack has fit_it low_it.
      value_moved run (at p stack c) c (p + tested_size (map expression parts) + 3) (p + length (piece.code p)) stack
      (reading before s) (choice_end JumpNotZero (pos 0) (pos 1) parts p)
      (choice_runs JumpNotZero any_value (pos 0) (pos 1) refl any_each es p stack fit_it low_it has))))

  -- every expression does
  pub expression_does : (e : SlotExpr) → Holds e
  expression_does =
      ind-SlotExpr Holds HoldsLink HoldsIndex
      (λ x y e. subst (λ z. Holds (roll-SlotExpr z)) e (layer_does y))
      (λ x y e. subst Holds (λ i. (e i).right) y.right.1)
      (λ x y e. subst Holds (λ i. (e i).index) y.index.1)

  -- its value
  pub value_runs :
      (e : SlotExpr) → fits around e ≡ true → names_below (length s.locals) e ≡ true
      → (p : ℕ) (stack : List ℤ) → HasAt run p ((expression e).code p)
      → Gives run (at p stack c) (valued (p + (expression e).size) stack c) (value_of e before s)
  value_runs e fit_it low_it p stack has =
      value_moved run (at p stack c) c (p + length ((expression e).code p)) (p + (expression e).size) stack
      (value_of e before s) (ap (λ n. p + n) (expression_sized e p))
      ((expression_does e).value p stack has fit_it low_it)

  -- the numbers of an argument
  pub argument_runs :
      (e : SlotExpr) (n : ℕ) → numbers_in (fit around e) ≡ Some n → names_below (length s.locals) e ≡ true
      → (p : ℕ) (stack : List ℤ) → HasAt run p ((expression e).code p)
      → Gives run (at p stack c) (numbered (p + length ((expression e).code p)) stack c)
      ((meaning_of e).numbers before s)
  argument_runs e n fit_it low_it p stack has = (expression_does e).numbers p stack n has fit_it low_it

  -- the numbers of arguments
  pub arguments_give :
      (es : List SlotExpr) (n : ℕ) → count_of (map (fit around) es) ≡ Some n
      → all_below (length s.locals) es ≡ true
      → (p : ℕ) (stack : List ℤ) → HasAt run p ((arguments es).code p)
      → Gives run (at p stack c) (numbered (p + length ((arguments es).code p)) stack c) (argument_numbers es before s)
  arguments_give [] n fit_all low_all p stack has = λ e h.
      let place : p + 0 ≡ p = omega arith in
      subst (λ q. Ends run (at q stack c) e) place h
  arguments_give (e ∷ es) n fit_all low_all p stack has =
      let counts = together_of (numbers_in (fit around e)) (count_of (map (fit around) es)) n fit_all in
      let low = and_parts (names_below (length s.locals) e) _ low_all in
      let first = (expression e).code p in
      let rest = (arguments es).code (p + length first) in
      numbers_moved run (at p stack c) c (p + length first + length rest) (p + length (first ++ rest)) stack
      (argument_numbers (e ∷ es) before s) (behind p first rest)
      (numbers_then run (at p stack c) c (p + length first) (p + length first + length rest) stack
      ((meaning_of e).numbers before s) (argument_numbers es before s)
      (argument_runs e counts.left counts.left_is low.0 p stack (has_left run p first rest has))
      (λ vs. arguments_give es counts.right counts.right_is low.1 (p + length first) (pushed vs stack)
      (has_right run p first rest has)))

  -- they are as many as the arguments stand for
  pub numbers_long :
      (es : List SlotExpr) (n : ℕ) (vs : List ℤ)
      → count_of (map (fit around) es) ≡ Some n → argument_numbers es before s ≡ Ok vs → length vs ≡ n
  numbers_long [] n vs fit_all is = sym (ap length (same_Ok [] vs is)) ∙ same_Some 0 n fit_all
  numbers_long (e ∷ es) n vs fit_all is =
      let counts = together_of (numbers_in (fit around e)) (count_of (map (fit around) es)) n fit_all in
      both_long ((meaning_of e).numbers before s) (argument_numbers es before s) vs counts.left counts.right n is counts.sum
      (λ us there. (expression_does e).long counts.left us counts.left_is there)
      (λ us there. numbers_long es counts.right us counts.right_is there)

  -- so by the size of their code
  pub numbers_run :
      (es : List SlotExpr) (n : ℕ) → count_of (map (fit around) es) ≡ Some n
      → all_below (length s.locals) es ≡ true
      → (p : ℕ) (stack : List ℤ) → HasAt run p ((arguments es).code p)
      → Gives run (at p stack c) (numbered (p + (arguments es).size) stack c) (argument_numbers es before s)
  numbers_run es n fit_all low_all p stack has =
      numbers_moved run (at p stack c) c (p + length ((arguments es).code p)) (p + (arguments es).size) stack
      (argument_numbers es before s) (ap (λ k. p + k) (arguments_sized es p))
      (arguments_give es n fit_all low_all p stack has)

pub expressions-run : ExpressionsRun
expressions-run run around before s c a e fit_it low_it p stack has =
    value_runs run around before s c a e fit_it low_it p stack has

pub arguments-run : ArgumentsRun
arguments-run run around before s c a es n fit_all low_all p stack has =
    numbers_run run around before s c a es n fit_all low_all p stack has
