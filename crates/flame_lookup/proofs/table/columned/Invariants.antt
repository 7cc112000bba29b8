use Rattle.std.proofs.Common.{◌≡◌, ◌≤◌, ℕ, List, take, drop, length, option_map}
use Rattle.std.specs.HashMap.{get_by_text}
use Rattle.std.specs.Str.{bytes_eq}
use Rattle.flame_spec.specs.Columns.{width, columned_from}
use Rattle.flame_lookup.specs.WordsFound.{item_found}
use Rattle.flame_lookup.specs.WrittenForms.{written}
use Rattle.flame_lookup.proofs.table.columned.Given as goal

abbrev pub invariant-loop-left : goal.invariant-loop-left
invariant-loop-left l = record {
  within : l.left ≤ length l.variables;
  column : l.at ≡ width (take l.left l.variables);
  found : (word : List ℕ) → option_map item_found (get_by_text l.table word)
      ≡ columned_from (λ variable. bytes_eq (written l.form variable.name) word) l.at (drop l.left l.variables);
}

abbrev pub decreases-loop-left : goal.decreases-loop-left
decreases-loop-left l = l.left
