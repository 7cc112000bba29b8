use Rattle.std.proofs.Common.{◌≡◌, ℕ, ◌<◌, length}
use Rattle.std.specs.Prelude.{slice_index}
use Rattle.flame_spec.specs.Before.{function_count}
use Rattle.flame_flow.proofs.ways.ranks_of.Given as goal

abbrev pub invariant-loop-rank : goal.invariant-loop-rank
invariant-loop-rank l = record {
  long : length l.ranks.items ≡ function_count l.program.model;
  are : (j : ℕ) → j < l.rank → slice_index l.ranks.items (slice_index l.order j) ≡ j;
}
