-- How the run of a code goes from one configuration to another.
use Rattle.std.specs.Prelude.{◌≡◌, ℕ, ◌+◌, ℤ, List, [], ◌∷◌, Some, Result, Ok, Err, slice_get}
use Rattle.flame_spec.specs.declared.faults.Fault.{Fault}
use Rattle.flame_code.specs.declared.instrs.Instr.{Instr}
use Rattle.flame_code.specs.Machine.{Given, Config, End, faulted}
use Rattle.flame_code.specs.Meanings.{Runs}
use Rattle.flame_code.specs.Routines.{Routine}

-- what stays as it is while a code runs: what is given to it, the codes of the helpers, and the code itself [own]
pub record Running : Type 0 where
  pub given : Given
  pub helpers : List Routine
  pub routine : Routine

-- the instructions stand in the code from this place on [own]
abbrev pub HasAt : Running → ℕ → List Instr → Type 0
HasAt run place part =
    (k : ℕ) (i : Instr) → slice_get part k ≡ Some i → slice_get run.routine.instrs (place + k) ≡ Some i

-- the configuration at this place, with this stack [own]
abbrev pub at : ℕ → List ℤ → Config → Config
at place stack c = record c { place = place; stack = stack }

-- the values in order on the stack, the last on top [own]
abbrev pub pushed : List ℤ → List ℤ → List ℤ
pushed [] stack = stack
pushed (v ∷ vs) stack = pushed vs (v ∷ stack)

-- the run from this configuration ends so [own]
abbrev pub Ends : Running → Config → End → Type 0
Ends run c e = Runs run.given run.helpers run.routine c e

-- however the run from the second configuration ends, the run from the first ends so [own]
abbrev pub Leads : Running → Config → Config → Type 0
Leads run c d = (e : End) → Ends run d e → Ends run c e

-- where there is a result, the run comes to its configuration, and where there is a fault, it ends in that [own]
abbrev pub Gives : {X : Type 0} → Running → Config → (X → Config) → Result X Fault → Type 0
Gives run c next (Ok x) = Leads run c (next x)
Gives run c next (Err fault) = Ends run c (faulted fault)
