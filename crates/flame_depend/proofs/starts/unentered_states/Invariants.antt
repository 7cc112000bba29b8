use Rattle.std.proofs.Common.{◌≡◌, ℕ, List, ◌++◌, drop}
use Rattle.std.specs.Prelude.{◌||◌, filter}
use Rattle.std.specs.HashSet.{contains_text}
use Rattle.flame_spec.specs.KnownNames.{is_among}
use Rattle.flame_spec.specs.States.{distinct_after, ends, is_entered, start_states}
use Rattle.flame_depend.proofs.Distinct.{unentered}
use Rattle.flame_depend.proofs.starts.unentered_states.Given as goal

abbrev pub invariant-loop-function : goal.invariant-loop-function
invariant-loop-function l = record {
  passed : (q : List ℕ) → contains_text l.passed q ≡ (is_entered l.functions q || is_among q l.states.items);
  rest : start_states l.functions ≡ l.states.items ++ distinct_after l.states.items (filter (unentered l.functions) (ends (drop l.function-index l.functions)));
}
