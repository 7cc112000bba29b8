-- A plain model file stands for its model as it is.
use Rattle.std.proofs.Common.{◌≡◌, ℕ, true, false, List, [], ◌∷◌, Ok, refl, ap, ◌∙◌, subst}
use Rattle.std.specs.Prelude.{nat_le}
use Rattle.serde_json.specs.Data.{Data}
use Rattle.flame_outside.specs.Files.{Files}
use Rattle.flame_spec.specs.declared.wide.Wide.{Wide}
use Rattle.flame_spec.specs.WideModels.{is_well_formed_wide}
use Rattle.flame_xmml.specs.Models.{model_of}
use Rattle.flame_xmml.specs.ShapeFaults.{wide_faults}
use Rattle.flame_xmml.specs.ShapeLaws.{FaultlessIsWellFormedWide, PlainIsWide}
use Rattle.flame_xmml.specs.WideValues.{wide_of}
use Rattle.flame_nest.specs.FlatLaws.{PlainHasNoFaults, ModelsArePlain, ModelsAreFlat}
use Rattle.flame_spec.specs.PlainFiles.{as_file}
use Rattle.flame_nest.specs.FlatModels.{flat}
use Rattle.flame_nest.specs.NestFaults.{nest_faults}
use Rattle.flame_load.specs.declared.faults.FileFault.{FileFault}
use Rattle.flame_load.specs.declared.faults.LoadFault.TheVariants.{Shape, Nest}
use Rattle.flame_load.specs.FileReads.{source_limit, value_in}
use Rattle.flame_load.specs.InputReads.{Reading, input, found_or}
use Rattle.flame_load.specs.LoadRefusals.{Refusal, of_files, file_refusal}
use Rattle.flame_load.specs.LoadLaws.{PlainFilesAreRead}
use Rattle.flame_load.specs.ModelFileReads.{ModelFiles, no_files, and_file, most_files, with_all, with_name, wide_of_value, wide_in, model_files, flat_model}
use Rattle.flame_load.proofs.FileSteps.{is_read}
use Rattle.flame_load.proofs.KnownOrRefused.{faultless}
use Rattle.flame_load.proofs.Leftovers.{rest_behind}

room : nat_le most_files 0 ≡ false
unfolding most_files
room = refl

-- the model file in the file of that name, where its value has no fault
whole_file :
    (told : Files) (name : List ℕ) (value : Data)
    → value_in told source_limit name ≡ Ok value
    → wide_faults value ≡ []
    → (wide_in told name).answer ≡ Ok (wide_of value)
whole_file told name value held none =
    let refusal_of : FileFault → Refusal = λ fault. of_files (file_refusal name fault) in
    (rest_behind (input refusal_of name (value_in told source_limit name)) (wide_of_value name) value
    (ap (found_or refusal_of) held)).answer
    ∙ faultless (λ shape. of_files (Shape name shape)) (wide_faults value) (wide_of value) none

-- a file that nests none is the only one
only_file :
    (told : Files) (name : List ℕ) (wide : Wide)
    → (wide_in told name).answer ≡ Ok wide
    → wide.nested ≡ []
    → (model_files told name).answer ≡ Ok (and_file name wide no_files)
only_file told name wide given none =
    let behind : Wide → Reading Refusal ModelFiles = λ w. with_all (with_name most_files told) (and_file name w no_files) w.nested in
    ap (λ r. r.answer) (is_read most_files told no_files name refl room)
    ∙ ((rest_behind (wide_in told name) behind wide given).answer
    ∙ ap (λ names. (with_all (with_name most_files told) (and_file name wide no_files) names).answer) none)

pub plain_files_are_read :
    PlainIsWide → FaultlessIsWellFormedWide → PlainHasNoFaults → ModelsArePlain → ModelsAreFlat → PlainFilesAreRead
plain_files_are_read plain formed nest_none models_plain models_flat told name value files held none filed =
    let model = model_of value in
    let file = as_file model in
    let wide = plain value none in
    let given : (wide_in told name).answer ≡ Ok file = whole_file told name value held wide.0 ∙ ap Ok wide.1 in
    let is_formed = subst (λ w. is_well_formed_wide w ≡ true) wide.1 (formed value wide.0) in
    let faults = nest_none name file (models_plain model) is_formed in
    let only = only_file told name file given refl in
    let same : and_file name file no_files ≡ files = cc in
    subst (λ fs. (flat_model fs).answer ≡ Ok model) same
    (faultless (λ fault. of_files (Nest fault)) (nest_faults (name ∷ []) (file ∷ [])) (flat (file ∷ [])) faults
    ∙ ap Ok (models_flat model))
