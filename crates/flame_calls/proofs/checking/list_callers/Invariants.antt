use Rattle.std.proofs.Common.{◌≡◌, ℕ, [], length, slice_index_or}
use Rattle.flame_spec.specs.Below.{all_below}
use Rattle.flame_spec.specs.Definitions.{helpers}
use Rattle.flame_spec.specs.HelperFaults.{is_called_by}
use Rattle.flame_calls.proofs.checking.list_callers.Given as goal

abbrev pub invariant-loop-i : goal.invariant-loop-i
invariant-loop-i l = record {
  len : length l.lists.items ≡ length (helpers l.tables.model l.tables.units);
  at : (f : ℕ) → slice_index_or l.lists.items f [] ≡ all_below (is_called_by l.tables.model (helpers l.tables.model l.tables.units) f) l.i;
}
