-- The names of the kinds of faults, as they are printed.
use Rattle.std.specs.Prelude.{ℕ, List, codes}
use Rattle.flame_popfile.specs.declared.faults.PopKind.{PopKind}
use Rattle.flame_popfile.specs.declared.faults.PopKind.TheVariants.{Shape, UnknownAgent, UnknownVariable, OutOfInt}
use Rattle.flame_popfile.specs.declared.faults.PopKind.TheVariants.{UnknownConstant, IterationLimit, Duplicate}

-- the name of a kind [own]
abbrev pub name_of_pop_kind : PopKind → List ℕ
name_of_pop_kind Shape = codes "Shape"
name_of_pop_kind UnknownAgent = codes "UnknownAgent"
name_of_pop_kind UnknownVariable = codes "UnknownVariable"
name_of_pop_kind OutOfInt = codes "OutOfInt"
name_of_pop_kind UnknownConstant = codes "UnknownConstant"
name_of_pop_kind IterationLimit = codes "IterationLimit"
name_of_pop_kind Duplicate = codes "Duplicate"
