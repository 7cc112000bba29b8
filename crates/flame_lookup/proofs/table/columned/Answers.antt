use Rattle.std.proofs.Common.{◌≡◌, ◌<◌, ◌+◌, ◌-◌, ◌∙◌, ℕ, sym, ap, arith, cond, Some, length, take, drop, option_map, string_bytes, refl}
use Rattle.std.specs.HashMap.{get_by_text}
use Rattle.std.specs.Str.{bytes_eq}
use Rattle.flame_rows.proofs.Truths.{option_map-cond}
use Rattle.flame_spec.specs.Columns.{width, width_of, columned_from}
use Rattle.flame_spec.proofs.VariableWidths.{width_more}
use Rattle.flame_lookup.specs.WordsFound.{item_found}
use Rattle.flame_lookup.specs.WrittenForms.{written}
use Rattle.flame_lookup.proofs.Columns.{columned_before}
use Rattle.flame_lookup.proofs.table.columned.Goals as goal

-- the widths of those before are that of the last of them and of the others
pub overflow_sub-at : goal.overflow_sub-at
overflow_sub-at c =
    let left : ℕ = c.loop-left.left in
    let same : left - 1 + 1 ≡ left = omega arith in
    let within : left - 1 < length c.args.variables.now = omega (arith, c.loop-left.invariant.within) in
    let more = width_more c.args.variables.now (left - 1) c.index-variables-left.result within c.index-variables-left.is in
    let before = ap (λ n. width (take n c.args.variables.now)) same in
    omega (arith, more, before, c.width-at.ensures, c.loop-left.invariant.column)

pub loop-left-preserved : goal.loop-left-preserved
loop-left-preserved c =
    let variables = c.args.variables.now in
    let item = c.index-variables-left.result in
    let left : ℕ = c.loop-left.left in
    let at : ℕ = c.loop-left.at - c.width-at.result in
    let same : left - 1 + 1 ≡ left = omega arith in
    let within : left - 1 < length variables = omega (arith, c.loop-left.invariant.within) in
    let more = width_more variables (left - 1) item within c.index-variables-left.is in
    let before = ap (λ n. width (take n variables)) same in
    let next : c.loop-left.at ≡ at + width_of item =
    omega (arith, more, before, c.width-at.ensures, c.loop-left.invariant.column) in
    record {
      within = omega (arith, c.loop-left.invariant.within);
      column = omega (arith, more, before, c.width-at.ensures, c.loop-left.invariant.column);
      found = λ word.
          let rest = get_by_text c.loop-left.table word in
          ap (option_map item_found) (c.in_ok-put.ensures word)
          ∙ (sym (option_map-cond item_found (bytes_eq (string_bytes c.in_ok-word.word) word) _ (option_map item_found rest) rest refl))
          ∙ ap (λ text. cond (bytes_eq text word) (Some (at, item)) (option_map item_found rest))
          (c.in_ok-word.ensures ∙ ap (written c.args.form) c.as_str.ensures)
          ∙ columned_before (λ variable. bytes_eq (written c.args.form variable.name) word) variables (left - 1) item at
          c.loop-left.at (option_map item_found rest) within c.index-variables-left.is next
          (c.loop-left.invariant.found word
          ∙ ap (λ n. columned_from (λ variable. bytes_eq (written c.args.form variable.name) word) c.loop-left.at (drop n variables)) (sym same));
    }
