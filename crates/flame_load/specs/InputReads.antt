-- Inputs that are read one after another, up to the first that is refused. R has the refusals.
use Rattle.std.specs.Prelude.{ℕ, List, [], ◌∷◌, ◌++◌, Option, Some, None, Result, Ok, Err}
use Rattle.flame_load.specs.declared.faults.FileFault.{FileFault}

-- the names of the inputs that are read, in their order, with the first that is refused; and what they give, or why it is
-- refused [own]
pub record Reading (R X : Type 0) : Type 0 where
  pub inputs : List (List ℕ)
  pub answer : Result X R

-- ---- where nothing is read

-- this is known [own]
abbrev pub known : {R X : Type 0} → X → Reading R X
known x = record { inputs = []; answer = Ok x }

-- this is the refusal [own]
abbrev pub refused : {R X : Type 0} → R → Reading R X
refused refusal = record { inputs = []; answer = Err refusal }

-- this is known, where there is no fault; else the refusal of the fault [own]
unfoldable pub unless : {R F X : Type 0} → (F → R) → Option F → X → Reading R X
unless refusal_of None x = known x
unless refusal_of (Some fault) x = refused (refusal_of fault)

-- ---- one input

-- what was found, or the refusal of the file [own]
abbrev pub found_or : {R X : Type 0} → (FileFault → R) → Result X FileFault → Result X R
found_or refusal_of (Ok x) = Ok x
found_or refusal_of (Err fault) = Err (refusal_of fault)

-- the input of this name is read, and this is found in it [own]
abbrev pub input : {R X : Type 0} → (FileFault → R) → List ℕ → Result X FileFault → Reading R X
input refusal_of name found = record { inputs = name ∷ []; answer = found_or refusal_of found }

-- ---- one after another

-- the inputs that are read behind an answer: none, where it is a refusal [own]
abbrev pub inputs_behind : {R X Y : Type 0} → Result X R → (X → Reading R Y) → List (List ℕ)
inputs_behind (Ok x) next = (next x).inputs
inputs_behind (Err refusal) next = []

-- the answer behind an answer: the same refusal, where it is one [own]
abbrev pub answer_behind : {R X Y : Type 0} → Result X R → (X → Reading R Y) → Result Y R
answer_behind (Ok x) next = (next x).answer
answer_behind (Err refusal) next = Err refusal

infixl 10 ◌>>=◌
-- go on with what is given [own]
unfoldable pub ◌>>=◌ : {R X Y : Type 0} → Reading R X → (X → Reading R Y) → Reading R Y
reading >>= next = record {
  inputs = reading.inputs ++ inputs_behind reading.answer next;
  answer = answer_behind reading.answer next;
}
