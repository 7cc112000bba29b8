-- What the steps of the runner on one thread come to.
use Rattle.std.specs.Prelude.{ℕ, ℤ, List, Result, Ok, Err}
use Rattle.flame_world.specs.declared.faults.SimFault.{SimFault}
use Rattle.flame_world.specs.Fields.{Field}
use Rattle.flame_field.specs.KeptFields.{field_of}
use Rattle.flame_field.specs.KeptPools.{AreDealt}
use Rattle.flame_runner.specs.declared.steps.Stepped.{Stepped}
use Rattle.flame_runner.specs.declared.steps.Stepped.TheVariants.{On, Faulted}

-- the field, or the fault [own]
abbrev pub result_of : Stepped → Result Field SimFault
result_of (On field) = Ok (field_of field)
result_of (Faulted fault) = Err fault

-- where it goes on, each agent that chose is where its choice is: what this tells by its memory [own]
abbrev pub IsOnDealt : (ℕ → ℕ → List ℤ → ℕ) → Stepped → Type 0
IsOnDealt choose (On field) = AreDealt choose field.pools
IsOnDealt choose (Faulted fault) = Unit {0}
