use Rattle.std.proofs.Common.{◌≡◌, ◌+◌, ◌-◌, ◌<◌, ◌++◌, ◌∙◌, true, length, take, drop, get_or, sym, ap, ap₂, subst, arith}
use Rattle.std.specs.Prelude.{nat_lt}
use Rattle.std.proofs.lemmas.Bool.{lt-ltb}
use Rattle.flame_spec.specs.Columns.{width}
use Rattle.flame_popfile.specs.RowTexts.{value_text, variable_texts}
use Rattle.flame_popfile.specs.CommaTexts.{behind}
use Rattle.flame_popfile.specs.TailTexts.{held}
use Rattle.flame_popfile.specs.FieldTexts.{IsField}
use Rattle.flame_popfile.proofs.CommaLists.{behind_nothing}
use Rattle.flame_popfile.proofs.FieldLists.{field_before}
use Rattle.flame_popfile.proofs.values.put_variables.Goals as goal

pub loop-left-preserved : goal.loop-left-preserved
loop-left-preserved c =
    let variables = c.args.object.now.variables.now in
    let row = c.args.row.now in
    let left = c.loop-left.left in
    let after = held c.args.tail.now in
    let kept = c.loop-left.invariant in
    let field = c.index-fields-left.result in
    let are = c.args.object.now.are in
    let some : left - 1 < length variables = omega (arith, c.loop-left-test.true, kept.within) in
    let next : left - 1 + 1 ≡ left = omega (arith, c.loop-left-test.true) in
    let more : nat_lt 0 left ≡ true = lt-ltb 0 left c.loop-left-test.true in
    let is : IsField variables (left - 1) field =
    subst (IsField variables (left - 1))
    (ap (λ fields. get_or fields (left - 1) field) (sym c.as_slice-fields.ensures.value) ∙ sym c.index-fields-left.is)
    (are.each (left - 1) field (omega (arith, some, are.count))) in
    record {
      within = omega (arith, some);
      written =
          c.in_ok-put_field.ensures
          ∙ ap (λ l. field.key.items ++ (value_text field.variable.now.length (drop field.column row) ++ l))
          (kept.written
          ∙ ap₂
          (λ b n. behind b (variable_texts (drop n variables) (drop (width (take n variables)) row)) ++ after)
          more (sym next))
          ∙ field_before variables (left - 1) field row after some is;
    }

pub returns : goal.returns
returns c =
    let variables = c.args.object.now.variables.now in
    let row = c.args.row.now in
    let after = held c.args.tail.now in
    let none : c.loop-left.left ≡ 0 = omega (arith, c.loop-left-test.false) in
    c.loop-left.invariant.written
    ∙ ap (λ n. behind (nat_lt 0 n) (variable_texts (drop n variables) (drop (width (take n variables)) row)) ++ after) none
    ∙ ap (λ l. l ++ after) (behind_nothing (variable_texts variables row))
