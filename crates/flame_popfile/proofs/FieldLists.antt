-- The texts of variables, written from the last.
use Rattle.std.proofs.Common.{◌≡◌, ℕ, ◌+◌, ◌-◌, ◌<◌, List, [], ◌∷◌, ◌++◌, true, length, take, drop, get_or, refl, sym, subst, ap, ◌∙◌, arith, inl, inr, eq-zero-or-pos, length-append}
use Rattle.std.proofs.Common.{append_assoc}
use Rattle.std.specs.Prelude.{ℤ, nat_lt}
use Rattle.std.proofs.lemmas.List.{at_drop_more, drop-drop, get_or_append_left}
use Rattle.std.proofs.Math.Seq.{get_or-append_seam}
use Rattle.flame_spec.specs.declared.models.Variable.{Variable}
use Rattle.flame_spec.specs.Columns.{width, width_of}
use Rattle.flame_spec.proofs.VariableWidths.{width_more}
use Rattle.flame_popfile.specs.RowTexts.{named_text, value_text, variable_texts}
use Rattle.flame_popfile.specs.CommaTexts.{comma_where, behind}
use Rattle.flame_popfile.specs.FieldTexts.{IsField}
use Rattle.flame_popfile.specs.declared.fields.Field.{Field}
use Rattle.flame_popfile.proofs.CommaLists.{one_more}
use Rattle.flame_popfile.proofs.VariableTexts.{pushed_named}

-- a field more
pub fields_more :
    (variables : List Variable) (fields : List Field) (field : Field)
    → IsField variables (length fields) field
    → ((i : ℕ) (other : Field) → i < length fields → IsField variables i (get_or fields i other))
    → (i : ℕ) (other : Field) → i < length (fields ++ field ∷ [])
    → IsField variables i (get_or (fields ++ field ∷ []) i other)
fields_more variables fields field is each i other h =
    elim (eq-zero-or-pos (length fields - i)) [
      | inr some ↦
          let less : i < length fields = omega (arith, some) in
          subst (IsField variables i) (sym (get_or_append_left fields (field ∷ []) other i less)) (each i other less)
      | inl none ↦
          let at : length fields ≡ i = omega (arith, h, none, length-append fields (field ∷ [])) in
          subst (λ n. IsField variables n (get_or (fields ++ field ∷ []) n other)) at
          (subst (IsField variables (length fields)) (sym (get_or-append_seam fields field [] other)) is)
    ]

-- a variable was put before those behind it
pub field_before :
    (variables : List Variable) (i : ℕ) (field : Field) (row : List ℤ) (after : List ℕ)
    → i < length variables
    → IsField variables i field
    → field.key.items
    ++ (value_text field.variable.now.length (drop field.column row)
    ++ (behind true (variable_texts (drop (i + 1) variables) (drop (width (take (i + 1) variables)) row)) ++ after))
    ≡ behind (nat_lt 0 i) (variable_texts (drop i variables) (drop (width (take i variables)) row)) ++ after
field_before variables i field row after h is =
    let more = nat_lt 0 i in
    let variable = field.variable.now in
    let left = drop (width (take i variables)) row in
    let key = field.key.items in
    let value = value_text variable.length left in
    let later = drop (i + 1) variables in
    let texts = variable_texts later (drop (width_of variable) left) in
    ap (λ n. key
    ++ (value_text variable.length (drop n row)
    ++ (behind true (variable_texts later (drop (width (take (i + 1) variables)) row)) ++ after))) is.column
    ∙ ap (λ l. key ++ (value ++ (behind true (variable_texts later l) ++ after)))
    (ap (λ n. drop n row) (width_more variables i variable h (sym is.variable))
    ∙ sym (drop-drop (width_of variable) (width (take i variables)) row))
    ∙ sym (append_assoc key value (behind true texts ++ after))
    ∙ ap (λ l. l ++ (behind true texts ++ after))
    (pushed_named (comma_where more) key (key ++ value) variable.name value is.key refl)
    ∙ sym (append_assoc (comma_where more ++ named_text variable.name value) (behind true texts) after)
    ∙ ap (λ l. l ++ after) (one_more [] more (named_text variable.name value) texts)
    ∙ ap (λ v. behind more (variable_texts (v ∷ later) left) ++ after) (sym is.variable)
    ∙ sym (at_drop_more (λ vs. behind more (variable_texts vs left) ++ after) variables i variable h)
