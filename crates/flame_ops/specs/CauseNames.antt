-- The names of causes, as they are printed. [own]
use Rattle.std.specs.Prelude.{ℕ, List, codes}
use Rattle.flame_ops.specs.declared.integers.Cause.{Cause}
use Rattle.flame_ops.specs.declared.integers.Cause.TheVariants.{Overflow, DivideByZero, Fuel, BadIndex}

-- the name of a cause
abbrev pub name_of_cause : Cause → List ℕ
name_of_cause Overflow = codes "Overflow"
name_of_cause DivideByZero = codes "DivideByZero"
name_of_cause Fuel = codes "Fuel"
name_of_cause BadIndex = codes "BadIndex"
