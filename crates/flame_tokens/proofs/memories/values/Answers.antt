-- A variable more.
use Rattle.std.proofs.Common.{◌+◌, ◌++◌, ◌∷◌, List, drop, length, take, sym, ap, ap₂, ◌∙◌}
use Rattle.std.specs.Prelude.{ℤ}
use Rattle.json.specs.Token.{Token, key}
use Rattle.flame_spec.specs.Columns.{width_of}
use Rattle.flame_spec.proofs.VariableWidths.{width_more}
use Rattle.flame_tokens.specs.MemberTrees.{keyed, variable_trees}
use Rattle.flame_tokens.proofs.MoreValues.{more_values}
use Rattle.flame_tokens.proofs.memories.values.Goals as goal

pub loop-variable-preserved : goal.loop-variable-preserved
loop-variable-preserved c =
    let variables = c.args.variables.now in
    let i = c.loop-variable.variable-index in
    let variable = c.variable-item.result in
    let row = c.loop-variable.row.items in
    let new = c.add_value.new.row.items in
    let more = drop (length row) new in
    let so_far = keyed (variable_trees (take i variables) row) in
    record {
      tokens =
          c.loop-variable.invariant.tokens
          ∙ ap (λ (ts : List Token). so_far ++ ts)
          (c.in_ok-passes.ensures
          ∙ ap₂ (λ name (ts : List Token). key name ∷ ts) c.as_str.ensures c.in_ok-add_value.ensures.tokens)
          ∙ sym
          (more_values variables i variable row more c.add_value.new.reader c.loop-variable-test.true c.variable-item.is
          c.loop-variable.invariant.wide.count)
          ∙ ap
          (λ (r : List ℤ). keyed (variable_trees (take (i + 1) variables) r) ++ c.add_value.new.reader)
          (sym c.in_ok-add_value.ensures.added);
      wide = record {
        count =
            c.in_ok-add_value.ensures.count
            ∙ ap (λ n. n + width_of variable) c.loop-variable.invariant.wide.count
            ∙ sym (width_more variables i variable c.loop-variable-test.true c.variable-item.is);
        ints = c.in_ok-add_value.ensures.ints c.loop-variable.invariant.wide.ints;
      };
    }
