-- The names of wants, as they are printed.
use Rattle.std.specs.Prelude.{ℕ, List as Items, codes}
use Rattle.flame_xmml.specs.declared.faults.Want.{Want}
use Rattle.flame_xmml.specs.declared.faults.Want.TheVariants.{Object, List, Empty, Name, State, FileName, Int, Positive}
use Rattle.flame_xmml.specs.declared.faults.Want.TheVariants.{Truth, Order, Condition, Op, Operand, Phase, Length}

-- the name of what is wanted [own]
abbrev pub name_of_want : Want → Items ℕ
name_of_want Object = codes "Object"
name_of_want List = codes "List"
name_of_want Empty = codes "Empty"
name_of_want Name = codes "Name"
name_of_want State = codes "State"
name_of_want FileName = codes "FileName"
name_of_want Int = codes "Int"
name_of_want Positive = codes "Positive"
name_of_want Truth = codes "Truth"
name_of_want Order = codes "Order"
name_of_want Condition = codes "Condition"
name_of_want Op = codes "Op"
name_of_want Operand = codes "Operand"
name_of_want Phase = codes "Phase"
name_of_want Length = codes "Length"
