-- The table has the items from here on.
use Rattle.std.proofs.Common.{◌≡◌, ◌≤◌, ℕ, List, drop, length, option_map}
use Rattle.std.specs.HashMap.{get_by_text}
use Rattle.flame_popfile.specs.PopulationParts.{called}
use Rattle.flame_popfile.proofs.tables.lengths_of.Given as goal

abbrev pub invariant-loop-left : goal.invariant-loop-left
invariant-loop-left g l = record {
  within : l.left ≤ length l.items;
  found : (name : List ℕ)
      → get_by_text l.table name
      ≡ option_map g.T.Named.length (called g.T.Named.name (drop l.left l.items) name);
}

abbrev pub decreases-loop-left : goal.decreases-loop-left
decreases-loop-left g l = l.left
