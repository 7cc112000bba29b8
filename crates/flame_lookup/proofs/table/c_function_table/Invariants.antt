use Rattle.std.proofs.Common.{◌≡◌, ◌≤◌, ℕ, List, drop, length, map, option_map}
use Rattle.std.specs.HashMap.{get_by_text}
use Rattle.std.specs.Str.{bytes_eq}
use Rattle.flame_spec.specs.Lists.{numbered_from}
use Rattle.flame_lookup.specs.WordsFound.{helper_found, definition_found}
use Rattle.flame_lookup.proofs.table.c_function_table.Given as goal

abbrev pub invariant-loop-left : goal.invariant-loop-left
invariant-loop-left l = record {
  within : l.left ≤ length l.functions;
  found : (word : List ℕ) → option_map helper_found (get_by_text l.table word)
      ≡ numbered_from (λ d. bytes_eq d.name word) l.left (map definition_found (drop l.left l.functions));
}

abbrev pub decreases-loop-left : goal.decreases-loop-left
decreases-loop-left l = l.left
