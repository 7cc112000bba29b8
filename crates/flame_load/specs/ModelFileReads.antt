-- The model files: the root, each file's nested files right behind it, and the flat model that they mean together.
use Rattle.std.specs.Prelude.{ℕ, zero, suc, List, [], ◌∷◌, ◌++◌, length, nat_le, if◌then◌else◌}
use Rattle.serde_json.specs.Data.{Data}
use Rattle.flame_outside.specs.Files.{Files}
use Rattle.flame_spec.specs.declared.models.Model.{Model}
use Rattle.flame_spec.specs.declared.wide.Wide.{Wide}
use Rattle.flame_spec.specs.KnownNames.{is_among}
use Rattle.flame_spec.specs.Lists.{first}
use Rattle.flame_spec.specs.NameFaults.{name_faults}
use Rattle.flame_xmml.specs.ShapeFaults.{wide_faults}
use Rattle.flame_xmml.specs.WideValues.{wide_of}
use Rattle.flame_nest.specs.FlatModels.{flat}
use Rattle.flame_nest.specs.NestFaults.{nest_faults}
use Rattle.flame_load.specs.declared.faults.LoadFault.TheVariants.{Shape, Name, Nest, TooMany}
use Rattle.flame_load.specs.FileReads.{source_limit, value_in}
use Rattle.flame_load.specs.InputReads.{Reading, known, refused, unless, input, ◌>>=◌}
use Rattle.flame_load.specs.LoadRefusals.{Refusal, of_files, file_refusal}

-- ---- one file

-- the model file that the value in the file of that name stands for [XMML]
abbrev pub wide_of_value : List ℕ → Data → Reading Refusal Wide
wide_of_value name value = unless (λ shape. of_files (Shape name shape)) (first (wide_faults value)) (wide_of value)

-- the model file of that name [XMML]
abbrev pub wide_in : Files → List ℕ → Reading Refusal Wide
wide_in told name = do
  value ← input (λ fault. of_files (file_refusal name fault)) name (value_in told source_limit name)
  wide_of_value name value

-- ---- all files

-- model files that were read, with their names, in the order of their reading [own]
pub record ModelFiles : Type 0 where
  pub names : List (List ℕ)
  pub wides : List Wide

-- no file was read [own]
abbrev pub no_files : ModelFiles
no_files = record { names = []; wides = [] }

-- one file more [own]
abbrev pub and_file : List ℕ → Wide → ModelFiles → ModelFiles
and_file name wide files = record { names = files.names ++ name ∷ []; wides = files.wides ++ wide ∷ [] }

-- the most model files of a model [own]
unfoldable pub most_files : ℕ
most_files = 64

-- the files with those of each of these names, one after another, where `with_one` says what comes with one name [XMML]
abbrev pub with_all :
    (ModelFiles → List ℕ → Reading Refusal ModelFiles) → ModelFiles → List (List ℕ) → Reading Refusal ModelFiles
with_all with_one files [] = known files
with_all with_one files (name ∷ names) = do
  more ← with_one files name
  with_all with_one more names

-- the files with that of a name: it is passed over where a file was read by it; it is one too many where the most were
-- read; else it is read, and then its nested files. From one nested file to the next one more was read, so none nests
-- deeper than `deep`, which begins with one more than the most [XMML]
abbrev pub with_name : ℕ → Files → ModelFiles → List ℕ → Reading Refusal ModelFiles
with_name zero told files name = refused (of_files (TooMany name))
with_name (suc deep) told files name =
    if is_among name files.names then known files
    else if nat_le most_files (length files.names) then refused (of_files (TooMany name))
    else wide_in told name >>= (λ wide. with_all (with_name deep told) (and_file name wide files) wide.nested)

-- the model files from the root of that name on [XMML]
abbrev pub model_files : Files → List ℕ → Reading Refusal ModelFiles
model_files told name = with_name (suc most_files) told no_files name

-- ---- the flat model

-- the model that the files mean together [XMML]
abbrev pub flat_model : ModelFiles → Reading Refusal Model
flat_model files =
    unless (λ fault. of_files (Nest fault)) (first (nest_faults files.names files.wides)) (flat files.wides)

-- the model, whose names have no fault [XMML]
abbrev pub named_model : Model → Reading Refusal Model
named_model model = unless (λ fault. of_files (Name fault)) (first (name_faults model)) model

-- the model that the files mean together, whose names have no fault [XMML]
abbrev pub model_of_files : ModelFiles → Reading Refusal Model
model_of_files files = do
  model ← flat_model files
  named_model model

-- the model of the files from the root of that name on [XMML]
abbrev pub model_in : Files → List ℕ → Reading Refusal Model
model_in told name = do
  files ← model_files told name
  model_of_files files
