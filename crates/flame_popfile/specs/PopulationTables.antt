-- Tables from names to the lengths of what has them.
use Rattle.std.specs.Prelude.{ℕ, List, Option, String, option_map}
use Rattle.std.specs.Global.{Global}
use Rattle.std.specs.HashMap.{HashMap, get_by_text}
use Rattle.std.specs.declared.hash.FoldHasher.{FoldHasher}
use Rattle.std.specs.declared.hash.BuildHasherDefault.{BuildHasherDefault}
use Rattle.flame_popfile.specs.declared.faults.PopKind.{PopKind}
use Rattle.flame_popfile.specs.PopulationParts.{Faults, known_faults, variable_faults}

-- a table from names to lengths [own]
abbrev pub LengthTable : Type 0
LengthTable = HashMap (String Global) (Option ℕ) (BuildHasherDefault FoldHasher)

-- what a name asks for by the table [own]
abbrev pub asked_by : PopKind → LengthTable → List ℕ → Faults
asked_by unknown lengths name = known_faults unknown (option_map variable_faults (get_by_text lengths name))
