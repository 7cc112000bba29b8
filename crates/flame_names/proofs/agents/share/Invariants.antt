use Rattle.std.proofs.Common.{◌≡◌, take, List, ℕ}
use Rattle.std.specs.Prelude.{◌||◌}
use Rattle.flame_spec.specs.KnownNames.{is_among}
use Rattle.flame_spec.specs.NameFaults.{function_names}
use Rattle.flame_names.proofs.agents.share.Given as goal

abbrev pub invariant-loop-function : goal.invariant-loop-function
invariant-loop-function l =
    (name : List ℕ)
    → is_among name l.shared
    ≡ (is_among name l.initial.shared || is_among name (function_names (take l.function-index l.functions)))
