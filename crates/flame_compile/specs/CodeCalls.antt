-- That what holds of the calls of helpers in the tree of a body holds of those in its code.
use Rattle.std.specs.Prelude.{◌≡◌, ℕ, List, Bool, true}
use Rattle.std.specs.List.{list_all}
use Rattle.flame_spec.specs.declared.outcomes.Widths.{Widths}
use Rattle.flame_body.specs.declared.slots.SlotStmt.{SlotStmt}
use Rattle.flame_body.specs.BodyCalls.{tree_calls_pass, tree_calls_fit}
use Rattle.flame_code.specs.HelperCodes.{call_passes, calls_fit}
use Rattle.flame_compile.specs.Emit.{emitted}

-- where the calls of a body pass a test of the number of the helper and of how many arguments it gets, those of its code
-- do [own]
abbrev pub CodeCallsPass : Type 0
CodeCallsPass =
    (passes : ℕ → ℕ → Bool) (tree : List SlotStmt)
    → tree_calls_pass passes tree ≡ true
    → list_all (call_passes passes) (emitted tree) ≡ true

-- where the calls of a body fit the numbers of parameters of the helpers, those of its code do [C, 6.5.2.2]
abbrev pub CodeCallsFit : Type 0
CodeCallsFit =
    (parameters : List ℕ) (widths : Widths) (tree : List SlotStmt)
    → tree_calls_fit parameters tree ≡ true
    → calls_fit parameters (record { instrs = emitted tree; widths = widths }) ≡ true
