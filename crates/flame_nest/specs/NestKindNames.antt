-- The names of kinds of faults of data types and nested files, as they are printed.
use Rattle.std.specs.Prelude.{ℕ, List, codes}
use Rattle.flame_nest.specs.declared.faults.NestKind.{NestKind}
use Rattle.flame_nest.specs.declared.faults.NestKind.TheVariants.{Differs, TwiceType, UnknownType, TypedArray, TooWide, LongName}

-- the name of a kind [own]
abbrev pub name_of_nest_kind : NestKind → List ℕ
name_of_nest_kind Differs = codes "Differs"
name_of_nest_kind TwiceType = codes "TwiceType"
name_of_nest_kind UnknownType = codes "UnknownType"
name_of_nest_kind TypedArray = codes "TypedArray"
name_of_nest_kind TooWide = codes "TooWide"
name_of_nest_kind LongName = codes "LongName"
