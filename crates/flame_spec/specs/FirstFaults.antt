-- How a reader fails, by a fault that it was told of or for want of memory; and what it answers by the list of faults.
use Rattle.std.specs.Prelude.{◌≡◌, List, [], Some, Result, MatchResult}
use Rattle.flame_rows.specs.declared.fails.Fail.{Fail}
use Rattle.flame_rows.specs.declared.fails.Fail.TheVariants.{Fault, NoMemory}
use Rattle.flame_spec.specs.Lists.{first}

-- it is this fault, or want of memory [own]
abbrev pub FailsBy : {F : Type 0} → F → Fail F → Type 0
FailsBy fault (Fault other) = other ≡ fault
FailsBy fault NoMemory = Unit {0}

-- it is the first of these faults, or want of memory [own]
abbrev pub FailsFirst : {F : Type 0} → List F → Fail F → Type 0
FailsFirst faults (Fault fault) = first faults ≡ Some fault
FailsFirst faults NoMemory = Unit {0}

-- there is no fault and the answer is what was read, or the answer is the first fault [own]
abbrev pub Reads : {F X : Type 0} → List F → X → Result X (Fail F) → Type 0
Reads faults value result =
    MatchResult result (λ answer. (faults ≡ []) × (answer ≡ value)) (λ fail. FailsFirst faults fail)

-- there is no fault, or the answer is the first fault [own]
abbrev pub Passes : {F X : Type 0} → List F → Result X (Fail F) → Type 0
Passes faults result = MatchResult result (λ answer. faults ≡ []) (λ fail. FailsFirst faults fail)
