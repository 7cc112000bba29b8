-- What is known of a model that was found.
use Rattle.std.specs.Prelude.{IsTrue}
use Rattle.flame_spec.specs.WellFormed.{is_well_formed}
use Rattle.flame_case_models.specs.declared.modeling.Found.{Found}
use Rattle.flame_case_models.specs.declared.modeling.Found.TheVariants.{Model, Told}

-- a model that was found is well formed [own]
abbrev pub IsFormed : Found → Type 0
IsFormed (Model model) = IsTrue (is_well_formed model)
IsFormed (Told told) = Unit {0}
