-- Whole numbers, read as numbers of int or refused.
use Rattle.std.specs.Prelude.{ℤ, if◌then◌else◌, Option, Some, None, Result, Ok, Err}
use Rattle.serde_json.specs.Data.{Data}
use Rattle.flame_ops.specs.Integers.{is_int}
use Rattle.flame_xmml.specs.Wants.{whole_of}
use Rattle.flame_popfile.specs.declared.faults.PopKind.{PopKind}
use Rattle.flame_popfile.specs.declared.faults.PopKind.TheVariants.{Shape, OutOfInt}

-- the whole number, where there is one and int holds it, or what is wrong with it [own]
abbrev pub int_read_of : Option ℤ → Result ℤ PopKind
int_read_of None = Err Shape
int_read_of (Some number) = if is_int number then Ok number else Err OutOfInt

-- the whole number of int that the value is, or what is wrong with it [own]
abbrev pub int_read : Data → Result ℤ PopKind
int_read value = int_read_of (whole_of value)
