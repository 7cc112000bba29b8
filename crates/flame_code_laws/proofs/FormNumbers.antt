-- What forms that fit say of their values and numbers.
use Rattle.std.proofs.Common.{◌≡◌, ℕ, suc, ◌+◌, ◌<◌, Bool, true, false, not, cond, List, [], ◌∷◌, ◌++◌, length, map, Option, Some, None, refl, sym, ap, ◌∙◌, arith, length-append, leb-true}
use Rattle.std.specs.Prelude.{ℤ, pos, negsuc, Result, Ok, Err, nat_lt}
use Rattle.std.proofs.lemmas.Option.{same_Some}
use Rattle.flame_ops.specs.declared.integers.Cause.TheVariants.{Overflow}
use Rattle.flame_ops.specs.Integers.{truth, is_int}
use Rattle.flame_spec.specs.declared.faults.Fault.{Fault}
use Rattle.flame_spec.specs.Columns.{width_by}
use Rattle.flame_spec.specs.Conditions.{number_at}
use Rattle.flame_body.specs.declared.slots.Cells.{Cells}
use Rattle.flame_body.specs.declared.slots.SlotExpr.{SlotExpr}
use Rattle.flame_body.specs.BodyFits.{is_value, fit_of_value, fit_of_bare, numbers_in}
use Rattle.flame_code.specs.declared.instrs.Instr.{Instr}
use Rattle.flame_code.specs.declared.instrs.Instr.TheVariants.{Push, Jump}
use Rattle.flame_code.specs.Machine.{element_of}
use Rattle.flame_compile.specs.Pieces.{one, in_order}
use Rattle.flame_compile.specs.Emit.{tested_size, tested, expression}
use Rattle.flame_meaning.specs.Scenes.{numbers_from, numbers_by}
use Rattle.flame_meaning.specs.Expressions.{at_line, one_of, values_and}
use Rattle.flame_number_laws.specs.NumberedScenes.{cell_column}
use Rattle.flame_compile.proofs.LabelledExpressions.{tested_long}
use Rattle.flame_meaning.proofs.Fitting.{length-numbers}

-- the result is these numbers
abbrev Are : Result (List ℤ) Fault → List ℤ → Type 0
Are x vs = x ≡ Ok vs

-- equal results have equal numbers
pub same_Ok : (vs ws : List ℤ) → Are (Ok vs) ws → vs ≡ ws
same_Ok vs ws e = cc

-- the value of a comparison is a number of int, so its line tells nothing
pub compared :
    (b : Bool) (line : ℕ)
    → at_line 0 (cond (is_int (truth b)) (Ok (truth b)) (Err Overflow))
    ≡ at_line line (cond (is_int (truth b)) (Ok (truth b)) (Err Overflow))
compared true line = refl
compared false line = refl

-- a test holds twice refused where it holds
pub twice_not : (b : Bool) → b ≡ not (not b)
twice_not true = refl
twice_not false = refl

-- a value fits where a test holds
pub tested_value : (b : Bool) → is_value (fit_of_value b) ≡ true → b ≡ true
tested_value false e = e
tested_value true e = refl

-- so do the numbers of a value
pub tested_numbers : (b : Bool) (n : ℕ) → numbers_in (fit_of_value b) ≡ Some n → b ≡ true
tested_numbers false n e = absurd (let bad : None ≡ Some n = e in cc)
tested_numbers true n e = refl

-- so do the numbers of a variable without an index
pub tested_bare : (b : Bool) (size : Option ℕ) (n : ℕ) → numbers_in (fit_of_bare b size) ≡ Some n → b ≡ true
tested_bare false size n e = absurd (let bad : None ≡ Some n = e in cc)
tested_bare true size n e = refl

-- a value has one number
pub one_long :
    (b : Bool) (x : Result ℤ Fault) (n : ℕ) (vs : List ℤ)
    → numbers_in (fit_of_value b) ≡ Some n → one_of x ≡ Ok vs → length vs ≡ n
one_long false x n vs e is = absurd (let bad : None ≡ Some n = e in cc)
one_long true (Ok v) n vs e is = sym (ap length (same_Ok (v ∷ []) vs is)) ∙ same_Some 1 n e
one_long true (Err fault) n vs e is = absurd (let bad : Are (Err fault) vs = is in cc)

-- a variable has as many numbers as it is wide
pub bare_long :
    (b : Bool) (size : Option ℕ) (column : ℕ) (numbers : List ℤ) (n : ℕ) (vs : List ℤ)
    → numbers_in (fit_of_bare b size) ≡ Some n
    → Are (Ok (numbers_by size column numbers (number_at numbers column))) vs
    → length vs ≡ n
bare_long false size column numbers n vs e is = absurd (let bad : None ≡ Some n = e in cc)
bare_long true None column numbers n vs e is =
    sym (ap length (same_Ok (number_at numbers column ∷ []) vs is)) ∙ same_Some 1 n e
bare_long true (Some size) column numbers n vs e is =
    sym (ap length (same_Ok (numbers_from size column numbers) vs is)) ∙ length-numbers size column numbers
    ∙ same_Some size n e

-- a variable without an index that is one value is no array
pub single_bare :
    (b : Bool) (size : Option ℕ) → is_value (fit_of_bare b size) ≡ true → (b ≡ true) × (size ≡ None)
single_bare false size e = absurd (let bad : false ≡ true = e in cc)
single_bare true None e = (refl, refl)
single_bare true (Some n) e = absurd (let bad : false ≡ true = e in cc)

-- the column of an element is within its array
pub cell_within :
    (cells : Cells) (i : ℤ) (m : ℕ) → cell_column cells i ≡ Some m → m < cells.column + cells.length
cell_within cells (negsuc n) m e = absurd (let bad : None ≡ Some m = e in cc)
cell_within cells (pos n) m e =
    let go :
    (b : Bool) → nat_lt n cells.length ≡ b
    → cond b (Some (cells.column + n)) None ≡ Some m → m < cells.column + cells.length =
    λ b. elim b as (λ b. nat_lt n cells.length ≡ b
    → cond b (Some (cells.column + n)) None ≡ Some m → m < cells.column + cells.length) [
      | true ↦ λ lt is. let same : cells.column + n ≡ m = same_Some (cells.column + n) m is in
          let less : n < cells.length = leb-true (suc n) cells.length lt in omega (arith, same, less)
      | false ↦ λ lt is. absurd (let bad : None ≡ Some m = is in cc)
    ] in
    go (nat_lt n cells.length) refl e

-- the numbers of a variable are as many from its column on as it is wide
pub spanned :
    (size : Option ℕ) (column : ℕ) (numbers : List ℤ)
    → numbers_from (width_by size) column numbers
    ≡ numbers_by size column numbers (number_at numbers column)
spanned None column numbers = refl
spanned (Some n) column numbers = refl

-- the machine finds the same column
pub same_column : (cells : Cells) (i : ℤ) → element_of cells.column cells.length i ≡ cell_column cells i
same_column cells (pos n) = refl
same_column cells (negsuc n) = refl

-- the place behind parts with jumps and three further instructions
pub choice_end :
    (jump : ℕ → Instr) (u v : ℤ) (es : List SlotExpr) (p : ℕ)
    → p + tested_size (map expression es) + 3
    ≡ p + length ((in_order (tested (jump (p + tested_size (map expression es) + 2)) (map expression es)
    ∷ one (Push u) ∷ one (Jump (p + tested_size (map expression es) + 3)) ∷ one (Push v) ∷ [])).code p)
choice_end jump u v es p =
    let size = tested_size (map expression es) in
    let f = p + size + 2 in
    let tests = (tested (jump f) (map expression es)).code p in
    omega (
      arith,
      length-append tests (Push u ∷ Jump (p + size + 3) ∷ Push v ∷ []),
      tested_long (jump f) es p,
    )

-- numbers and numbers behind them are as many as both
pub both_long :
    (x y : Result (List ℤ) Fault) (vs : List ℤ) (a b n : ℕ)
    → values_and x y ≡ Ok vs
    → a + b ≡ n
    → ((us : List ℤ) → x ≡ Ok us → length us ≡ a)
    → ((us : List ℤ) → y ≡ Ok us → length us ≡ b)
    → length vs ≡ n
both_long (Err fault) y vs a b n is sum left right = absurd (let bad : Are (Err fault) vs = is in cc)
both_long (Ok us) (Err fault) vs a b n is sum left right = absurd (let bad : Are (Err fault) vs = is in cc)
both_long (Ok us) (Ok ws) vs a b n is sum left right =
    let one = left us refl in
    let two = right ws refl in
    let long = length-append us ws in
    sym (ap length (same_Ok (us ++ ws) vs is)) ∙ omega (arith, one, two, long, sum)
