use Rattle.std.proofs.Common.{◌≡◌, ℕ, List, take}
use Rattle.std.specs.HashSet.{contains_text}
use Rattle.flame_spec.specs.States.{is_entered}
use Rattle.flame_depend.proofs.starts.entered_states.Given as goal

abbrev pub invariant-loop-function : goal.invariant-loop-function
invariant-loop-function l = (q : List ℕ) → contains_text l.texts q ≡ is_entered (take l.function-index l.functions) q
