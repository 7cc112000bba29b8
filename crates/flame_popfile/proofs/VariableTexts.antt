-- The texts of variables, one variable more.
use Rattle.std.proofs.Common.{◌≡◌, ℕ, ◌+◌, ◌<◌, ◌≤◌, List, ◌∷◌, ◌++◌, Bool, true, false, length, take, drop, get_or, codes, sym, ap, ◌∙◌, arith}
use Rattle.std.proofs.Common.{append_assoc, append-nil, length-drop, Option, Some, None}
use Rattle.std.specs.Prelude.{ℤ, min, is_some, if◌then◌else◌}
use Rattle.std.proofs.lemmas.List.{at_drop_more, drop_all, drop-drop, take_min, drop_min}
use Rattle.flame_spec.specs.declared.models.Variable.{Variable}
use Rattle.flame_spec.specs.Columns.{width_by, width_of}
use Rattle.flame_popfile.specs.RowTexts.{with_commas, numbers_text, row_text, named_text, value_text, variable_texts}
use Rattle.flame_popfile.specs.CommaTexts.{comma_where, behind, name_text}
use Rattle.flame_popfile.proofs.CommaLists.{one_more, behind_nothing}

-- a value was written behind its name
pub pushed_named :
    (before named valued name value : List ℕ)
    → named ≡ before ++ name_text name
    → valued ≡ named ++ value
    → valued ≡ before ++ named_text name value
pushed_named before named valued name value n v =
    v
    ∙ ap (λ l. l ++ value) n
    ∙ append_assoc before (name_text name) value
    ∙ ap (λ l. before ++ (codes "\"" ++ l))
    (append_assoc name (codes "\":") value ∙ ap (λ l. name ++ (codes "\":" ++ l)) (sym (append-nil value)))

-- the numbers that a variable takes are those of its value
pub value_taken :
    (wide : Option ℕ) (row numbers : List ℤ) (taken : ℕ) (is_array : Bool)
    → is_array ≡ is_some wide
    → taken ≡ min (width_by wide) (length row)
    → numbers ≡ take taken row
    → (if is_array then row_text numbers else numbers_text numbers) ≡ value_text wide row
value_taken None row numbers taken is_array is few numbered =
    ap (λ b. if b then row_text numbers else numbers_text numbers) is
    ∙ ap numbers_text (numbered ∙ ap (λ n. take n row) few ∙ take_min 1 row)
value_taken (Some wide) row numbers taken is_array is few numbered =
    ap (λ b. if b then row_text numbers else numbers_text numbers) is
    ∙ ap row_text (numbered ∙ ap (λ n. take n row) few ∙ take_min wide row)

-- what a variable takes is there
pub within_row :
    (row : List ℤ) (at wide taken : ℕ)
    → at ≤ length row → taken ≡ min wide (length (drop at row)) → at + taken ≤ length row
within_row row at wide taken h is = omega (arith, length-drop at row)

-- a comma and a variable were added, and those behind it are left
pub variables_more :
    (before commad written : List ℕ) (more : Bool) (variables : List Variable) (i : ℕ) (variable : Variable)
    (row : List ℤ) (at taken : ℕ)
    → i < length variables
    → variable ≡ get_or variables i variable
    → taken ≡ min (width_of variable) (length (drop at row))
    → commad ≡ before ++ comma_where more
    → written ≡ commad ++ named_text variable.name (value_text variable.length (drop at row))
    → written ++ behind true (variable_texts (drop (i + 1) variables) (drop (at + taken) row))
    ≡ before ++ behind more (variable_texts (drop i variables) (drop at row))
variables_more before commad written more variables i variable row at taken h is takes comma item =
    let left = drop at row in
    let text = named_text variable.name (value_text variable.length left) in
    let later = drop (i + 1) variables in
    let passed : drop (at + taken) row ≡ drop (width_of variable) left =
    sym (drop-drop taken at row) ∙ ap (λ n. drop n left) takes ∙ drop_min (width_of variable) left in
    ap (λ l. written ++ behind true (variable_texts later l)) passed
    ∙ ap (λ l. l ++ behind true (variable_texts later (drop (width_of variable) left)))
    (item ∙ ap (λ l. l ++ text) comma)
    ∙ one_more before more text (variable_texts later (drop (width_of variable) left))
    ∙ ap (λ v. before ++ behind more (variable_texts (v ∷ later) left)) is
    ∙ sym (at_drop_more (λ vs. before ++ behind more (variable_texts vs left)) variables i variable h)

-- all variables were written
pub variables_all :
    (before written : List ℕ) (more : Bool) (variables : List Variable) (i : ℕ) (row left : List ℤ)
    → length variables ≤ i
    → written ++ behind more (variable_texts (drop i variables) left) ≡ before ++ behind false (variable_texts variables row)
    → written ≡ before ++ with_commas (variable_texts variables row)
variables_all before written more variables i row left h is =
    sym (append-nil written)
    ∙ ap (λ vs. written ++ behind more (variable_texts vs left)) (sym (drop_all i variables h))
    ∙ is
    ∙ ap (λ l. before ++ l) (behind_nothing (variable_texts variables row))
