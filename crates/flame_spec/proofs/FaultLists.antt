-- The first fault of lists of faults that are laid end to end, or walked.
use Rattle.std.proofs.Common.{◌≡◌, ℕ, ◌+◌, ◌<◌, List, [], ◌++◌, length, drop, get_or, sym, ap, ◌∙◌, Result, Ok, Err}
use Rattle.std.proofs.lemmas.List.{at_drop_more}
use Rattle.std.specs.Result.{IsErrAnd}
use Rattle.std.specs.Prelude.{IfErr}
use Rattle.flame_rows.specs.declared.fails.Fail.{Fail}
use Rattle.flame_rows.specs.declared.fails.Fail.TheVariants.{Fault, NoMemory}
use Rattle.flame_spec.specs.FirstFaults.{FailsFirst, Reads, Passes}
use Rattle.flame_spec.specs.Lists.{each_from, first}
use Rattle.flame_spec.proofs.Numbered.{first-append}

-- the first of some faults is the first of these and more
pub FailsFirst-append : {F : Type 0} (fail : Fail F) (xs ys : List F) → FailsFirst xs fail → FailsFirst (xs ++ ys) fail
FailsFirst-append (Fault fault) xs ys h = first-append xs ys fault h
FailsFirst-append NoMemory xs ys h = tt

-- the first of some faults behind none
pub FailsFirst-behind : {F : Type 0} (fail : Fail F) (xs ys : List F) → xs ≡ [] → FailsFirst ys fail → FailsFirst (xs ++ ys) fail
FailsFirst-behind (Fault fault) xs ys e h = ap (λ l. first (l ++ ys)) e ∙ h
FailsFirst-behind NoMemory xs ys e h = tt

-- equal faults have the same first
pub FailsFirst-same : {F : Type 0} (fail : Fail F) (xs ys : List F) → xs ≡ ys → FailsFirst xs fail → FailsFirst ys fail
FailsFirst-same (Fault fault) xs ys e h = ap first (sym e) ∙ h
FailsFirst-same NoMemory xs ys e h = tt

-- the first of some faults is the first of these and more
pub FailsFirst-front : {F : Type 0} (fail : Fail F) (whole xs ys : List F)
    → whole ≡ xs ++ ys → FailsFirst xs fail → FailsFirst whole fail
FailsFirst-front (Fault fault) whole xs ys e h = ap first e ∙ first-append xs ys fault h
FailsFirst-front NoMemory whole xs ys e h = tt

-- the first fault of a member is the first of the rest of the list
pub FailsFirst-member : {X F : Type 0} (fail : Fail F) (f : ℕ → X → List F) (xs : List X) (i : ℕ) (d : X) (whole member : List F)
    → i < length xs
    → whole ≡ each_from f i (drop i xs)
    → member ≡ f i (get_or xs i d)
    → FailsFirst member fail
    → FailsFirst whole fail
FailsFirst-member fail f xs i d whole member inside rest e h =
    FailsFirst-same
    fail
    (member ++ each_from f (i + 1) (drop (i + 1) xs))
    whole
    (sym
    (rest
    ∙ at_drop_more (each_from f i) xs i d inside
    ∙ ap (λ l. l ++ each_from f (i + 1) (drop (i + 1) xs)) (sym e)))
    (FailsFirst-append fail member (each_from f (i + 1) (drop (i + 1) xs)) h)

-- what is read along equations
pub Reads-same :
    {F X : Type 0} {faults faults' : List F} {value value' : X} (result : Result X (Fail F))
    → faults ≡ faults'
    → value ≡ value'
    → Reads faults' value' result
    → Reads faults value result
Reads-same result same_faults same_value reads = rw (same_faults, same_value) reads

-- a first fault that is passed on where a value is read
pub Reads-passed :
    {F X : Type 0} (faults : List F) (value : X) (fail : Fail F) (result : Result X (Fail F))
    → IsErrAnd result (λ passed. passed ≡ fail)
    → FailsFirst faults fail
    → Reads faults value result
Reads-passed faults value fail (Ok answer) passed first = absurd passed
Reads-passed faults value fail (Err passed) same first = rw same first

-- what passes along an equation
pub Passes-same :
    {F X : Type 0} {faults faults' : List F} (result : Result X (Fail F))
    → faults ≡ faults'
    → Passes faults' result
    → Passes faults result
Passes-same result same passes = rw same passes

-- a first fault that is passed on
pub Passes-passed :
    {F X : Type 0} (faults : List F) (fail : Fail F) (result : Result X (Fail F))
    → IsErrAnd result (λ passed. passed ≡ fail)
    → FailsFirst faults fail
    → Passes faults result
Passes-passed faults fail (Ok answer) passed first = absurd passed
Passes-passed faults fail (Err passed) same first = rw same first

-- a first fault that is passed on, alone
pub FailsFirst-passed :
    {F X : Type 0} (faults : List F) (fail : Fail F) (result : Result X (Fail F))
    → IsErrAnd result (λ passed. passed ≡ fail)
    → FailsFirst faults fail
    → IfErr result (λ passed. FailsFirst faults passed)
FailsFirst-passed faults fail (Ok answer) passed first = absurd passed
FailsFirst-passed faults fail (Err passed) same first = rw same first
