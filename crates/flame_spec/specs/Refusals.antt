-- Single faults of names.
use Rattle.std.specs.Prelude.{ℕ, List, [], ◌∷◌, Bool, if◌then◌else◌}
use Rattle.flame_spec.specs.declared.faults.NameFault.{NameFault}
use Rattle.flame_spec.specs.declared.faults.NameKind.{NameKind}

-- the fault of this kind of the name at this path [own]
abbrev pub name_fault : NameKind → List ℕ → List ℕ → NameFault
name_fault kind path name = record { kind = kind; path = path; name = name }

-- that fault, where the test finds it [own]
abbrev pub fault_where : Bool → NameKind → List ℕ → List ℕ → List NameFault
fault_where test kind path name = if test then name_fault kind path name ∷ [] else []
