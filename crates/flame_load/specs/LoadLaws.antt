-- What holds of loading. [own]
use Rattle.std.specs.Prelude.{◌≡◌, ℕ, List, [], ◌++◌, Result, Ok, Contains}
use Rattle.std.specs.FinMap.{get}
use Rattle.serde_json.specs.Data.{Data}
use Rattle.flame_outside.specs.Files.{Files}
use Rattle.flame_spec.specs.declared.outcomes.Source.{Source}
use Rattle.flame_spec.specs.declared.trees.Unit as file
use Rattle.flame_spec.specs.Accepted.{IsAccepted}
use Rattle.flame_spec.specs.Definitions.{definitions}
use Rattle.flame_meaning.specs.RangeLaws.{AllWriteInts}
use Rattle.flame_xmml.specs.Models.{model_of}
use Rattle.flame_xmml.specs.ShapeFaults.{shape_faults}
use Rattle.flame_nest.specs.FlatModels.{flat}
use Rattle.flame_nest.specs.NestFaults.{nest_faults}
use Rattle.flame_load.specs.declared.faults.TextFault.{TextFault}
use Rattle.flame_load.specs.FileReads.{source_limit, value_in}
use Rattle.flame_load.specs.FunctionFileReads.{units_in}
use Rattle.flame_load.specs.LoadedSources.{loading}
use Rattle.flame_load.specs.ModelFileReads.{ModelFiles, model_files, flat_model}
use Rattle.flame_load.specs.TextReads.{Reader, ReadsTexts, IsReadAs}

-- ---- texts

-- there is a reader that gives for each text what the text is read as
abbrev pub ThereIsAReader : Type 0
ThereIsAReader = (read : Reader) × ReadsTexts read

-- a text is read as one thing
abbrev pub TextsAreReadOnce : Type 0
TextsAreReadOnce = (bytes : List ℕ) (one other : Result file.Unit TextFault) → IsReadAs bytes one → IsReadAs bytes other → one ≡ other

-- ---- sources

-- the source that files stand for is accepted
abbrev pub LoadedAreAccepted : Type 0
LoadedAreAccepted =
    (read : Reader) (told : Files) (name : List ℕ) (source : Source)
    → (loading read told name).answer ≡ Ok source
    → IsAccepted source

-- each number that the function files of such a source write is within int
abbrev pub LoadedWriteInts : Type 0
LoadedWriteInts =
    (read : Reader) (told : Files) (name : List ℕ) (source : Source)
    → ReadsTexts read
    → (loading read told name).answer ≡ Ok source
    → AllWriteInts (definitions source.units)

-- model files without a fault of their own, and function files that are read, stand for their source where it is accepted
abbrev pub AcceptedAreLoaded : Type 0
AcceptedAreLoaded =
    (read : Reader) (told : Files) (name : List ℕ) (files : ModelFiles) (units : List file.Unit)
    → (model_files told name).answer ≡ Ok files
    → nest_faults files.names files.wides ≡ []
    → (units_in read told (flat files.wides).files).answer ≡ Ok units
    → IsAccepted (record { model = flat files.wides; units = units })
    → (loading read told name).answer ≡ Ok (record { model = flat files.wides; units = units })

-- where files stand for a source, the inputs that are read are its model files, and then its function files
abbrev pub AllInputsAreRead : Type 0
AllInputsAreRead =
    (read : Reader) (told : Files) (name : List ℕ) (files : ModelFiles) (source : Source)
    → (model_files told name).answer ≡ Ok files
    → (loading read told name).answer ≡ Ok source
    → (loading read told name).inputs ≡ files.names ++ source.model.files

-- where the model files are read, whatever is refused then, the inputs that are read are a front of the model files and the
-- function files of their flat model
abbrev pub InputsAreAFront : Type 0
InputsAreAFront =
    (read : Reader) (told : Files) (name : List ℕ) (files : ModelFiles)
    → (model_files told name).answer ≡ Ok files
    → (rest : List (List ℕ)) × ((loading read told name).inputs ++ rest ≡ files.names ++ (flat files.wides).files)

-- files hold the same under each of these names
abbrev pub Agree : Files → Files → List (List ℕ) → Type 0
Agree told others names = (name : List ℕ) → Contains names name → get told name ≡ get others name

-- nothing counts but what is read: files that agree on all inputs are read alike, and stand for the same or are refused alike
abbrev pub OnlyInputsCount : Type 0
OnlyInputsCount =
    (read : Reader) (told others : Files) (name : List ℕ)
    → Agree told others (loading read told name).inputs
    → loading read told name ≡ loading read others name

-- a model file without data types and nested files, whose variables are of `int`, stands for its model as it is
abbrev pub PlainFilesAreRead : Type 0
PlainFilesAreRead =
    (told : Files) (name : List ℕ) (value : Data) (files : ModelFiles)
    → value_in told source_limit name ≡ Ok value
    → shape_faults value ≡ []
    → (model_files told name).answer ≡ Ok files
    → (flat_model files).answer ≡ Ok (model_of value)
