use Rattle.std.proofs.Common.{◌≡◌, ℕ, ◌+◌, ◌<◌, ◌++◌, ◌∙◌, length, take, get_or, sym, ap, ap₂, subst, rules, length-append}
use Rattle.std.specs.Prelude.{nat_lt}
use Rattle.flame_spec.specs.Columns.{width}
use Rattle.flame_spec.proofs.VariableWidths.{width_more}
use Rattle.flame_popfile.specs.CommaTexts.{comma_where, name_text}
use Rattle.flame_popfile.specs.FieldTexts.{IsField}
use Rattle.flame_popfile.specs.declared.fields.Field.{Field}
use Rattle.flame_popfile.proofs.FieldLists.{fields_more}
use Rattle.flame_popfile.proofs.fields.fields.Goals as goal

pub loop-variable-preserved : goal.loop-variable-preserved
loop-variable-preserved c =
    let variables = c.args.variables.now in
    let fields = c.loop-variable.fields.items in
    let at = c.loop-variable.variable-index in
    let kept = c.loop-variable.invariant in
    let variable = c.variable-item.result in
    let sum : c.in-Some.next ≡ c.loop-variable.column + c.width.result = search rules in
    record {
      count =
          ap length c.in_ok-push.ensures.items ∙ length-append fields _ ∙ ap (λ n. n + 1) kept.count;
      column =
          sum
          ∙ ap₂ (λ m n. m + n) kept.column c.width.ensures
          ∙ sym (width_more variables at variable c.loop-variable-test.true (sym (sym c.variable-item.is)));
      each =
          subst (λ l. (i : ℕ) (other : Field) → i < length l → IsField variables i (get_or l i other))
          (sym c.in_ok-push.ensures.items)
          (fields_more variables fields _
          record {
            variable = ap (λ n. get_or variables n variable) kept.count ∙ sym c.variable-item.is;
            key =
                c.in_ok-key.ensures
                ∙ ap₂ (λ n name. comma_where (nat_lt 0 n) ++ name_text name)
                (c.len.ensures ∙ c.loop-variable.fields.ok.0) c.as_str.ensures;
            column = kept.column ∙ ap (λ n. width (take n variables)) (sym kept.count);
          }
          kept.each);
    }
