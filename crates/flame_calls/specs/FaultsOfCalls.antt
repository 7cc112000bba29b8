-- The faults of calls of helpers, in the order in which they count.
use Rattle.std.specs.Prelude.{ℕ, ◌+◌, ◌++◌, List, Bool, nat_lt, length}
use Rattle.flame_spec.specs.declared.models.Model.{Model}
use Rattle.flame_spec.specs.declared.faults.CheckFault.{CheckFault}
use Rattle.flame_spec.specs.Below.{first_below}
use Rattle.flame_spec.specs.Definitions.{Definition}
use Rattle.flame_spec.specs.HelperFaults.{call_cycle, recursive_at, recursive_faults}
use Rattle.flame_spec.specs.HelperFaults.{deepest_calls, deep_at, deep_faults}
use Rattle.flame_spec.specs.Layers.{layer}

-- a cycle of calls, then calls that are too deep [own]
abbrev pub call_faults : Model → List Definition → List CheckFault
call_faults model hs = recursive_faults model hs ++ deep_faults model hs

-- ---- the same, of helpers of which `before h g` tells whether h is called by g

-- the first helper whose calls are too deep [own]
abbrev pub first_deep_among : List Definition → (ℕ → ℕ → Bool) → List CheckFault
first_deep_among hs before =
    deep_at hs (first_below (λ h. nat_lt deepest_calls (layer (length hs) before h + 1)) (length hs))

-- a cycle of calls, then calls that are too deep [own]
abbrev pub faults_among : List Definition → (ℕ → ℕ → Bool) → List CheckFault
faults_among hs before = recursive_at hs (call_cycle (length hs) before) ++ first_deep_among hs before
