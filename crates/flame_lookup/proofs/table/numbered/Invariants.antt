use Rattle.std.proofs.Common.{◌≡◌, ◌≤◌, ℕ, List, drop, length, option_map}
use Rattle.std.specs.HashMap.{get_by_text}
use Rattle.std.specs.Str.{bytes_eq}
use Rattle.flame_spec.specs.Lists.{numbered_from}
use Rattle.flame_lookup.specs.WordsFound.{item_found}
use Rattle.flame_lookup.specs.WrittenForms.{written}
use Rattle.flame_lookup.proofs.table.numbered.Given as goal

abbrev pub invariant-loop-left : goal.invariant-loop-left
invariant-loop-left g l = record {
  within : l.left ≤ length l.items;
  found : (word : List ℕ) → option_map item_found (get_by_text l.table word)
      ≡ numbered_from (λ item. bytes_eq (written l.form (g.T.Named.name item)) word) l.left (drop l.left l.items);
}

abbrev pub decreases-loop-left : goal.decreases-loop-left
decreases-loop-left g l = l.left
