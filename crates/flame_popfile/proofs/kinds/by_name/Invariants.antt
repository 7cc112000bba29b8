-- The table has the types from here on.
use Rattle.std.proofs.Common.{◌≡◌, ◌≤◌, ℕ, List, drop, length}
use Rattle.std.specs.HashMap.{get_by_text}
use Rattle.std.specs.Str.{bytes_eq}
use Rattle.flame_spec.specs.declared.models.AgentType.{AgentType}
use Rattle.flame_spec.specs.Lists.{numbered_from}
use Rattle.flame_popfile.proofs.kinds.by_name.Given as goal

abbrev pub invariant-loop-left : goal.invariant-loop-left
invariant-loop-left l = record {
  within : l.left ≤ length l.types;
  found : (name : List ℕ)
      → get_by_text l.table name
      ≡ numbered_from (λ (type : AgentType). bytes_eq type.name name) l.left (drop l.left l.types);
}

abbrev pub decreases-loop-left : goal.decreases-loop-left
decreases-loop-left l = l.left
