-- What is known of a source that was found.
use Rattle.std.specs.Prelude.{IsTrue}
use Rattle.flame_spec.specs.WellFormed.{is_well_formed}
use Rattle.flame_case_programs.specs.declared.sources.Sourced.{Sourced}
use Rattle.flame_case_programs.specs.declared.sources.Sourced.TheVariants.{Source, Told}

-- the model of a source that was found is well formed [own]
abbrev pub IsFormed : Sourced → Type 0
IsFormed (Source source) = IsTrue (is_well_formed source.model)
IsFormed (Told told) = Unit {0}
