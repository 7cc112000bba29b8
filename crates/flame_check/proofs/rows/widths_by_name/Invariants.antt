use Rattle.std.proofs.Common.{◌≡◌, ◌≤◌, ℕ, List, drop, length, unwrap_or}
use Rattle.std.specs.HashMap.{get_by_text}
use Rattle.flame_spec.specs.Columns.{width}
use Rattle.flame_spec.specs.KnownNames.{variables_in}
use Rattle.flame_check.proofs.rows.widths_by_name.Given as goal

abbrev pub invariant-loop-left : goal.invariant-loop-left
invariant-loop-left l = record {
  within : l.left ≤ length l.messages;
  found : (name : List ℕ) → unwrap_or (get_by_text l.table name) 0
      ≡ width (variables_in (drop l.left l.messages) name);
}

abbrev pub decreases-loop-left : goal.decreases-loop-left
decreases-loop-left l = l.left
