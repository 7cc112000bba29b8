-- The inputs up to the first refusal.
use Rattle.std.proofs.Common.{◌≡◌, ℕ, List, [], ◌∷◌, ◌++◌, Result, Ok, Err, refl, sym, ap, ◌∙◌, subst, append-nil, append_assoc}
use Rattle.flame_outside.specs.Files.{Files}
use Rattle.flame_spec.specs.declared.models.Model.{Model}
use Rattle.flame_spec.specs.declared.outcomes.Source.{Source}
use Rattle.flame_spec.specs.declared.trees.Unit as file
use Rattle.flame_spec.specs.CheckFaults.{check_faults}
use Rattle.flame_spec.specs.Lists.{first}
use Rattle.flame_spec.specs.NameFaults.{name_faults}
use Rattle.flame_nest.specs.FlatModels.{flat}
use Rattle.flame_nest.specs.NestFaults.{nest_faults}
use Rattle.flame_load.specs.declared.faults.LoadFault.TheVariants.{Name, Nest, Check, Depend}
use Rattle.flame_load.specs.declared.faults.TextFault.{TextFault}
use Rattle.flame_load.specs.FileReads.{source_limit, file_in}
use Rattle.flame_load.specs.InputReads.{Reading, known, input, inputs_behind, ◌>>=◌}
use Rattle.flame_load.specs.LoadRefusals.{Refusal, of_files, of_model, file_refusal}
use Rattle.flame_load.specs.FunctionFileReads.{spelled_in, unit_in, units_in}
use Rattle.flame_load.specs.LoadLaws.{InputsAreAFront}
use Rattle.flame_load.specs.LoadedSources.{depend_fault, checked_source, planned_source, sound_source, source_of}
use Rattle.flame_load.specs.ModelFileReads.{ModelFiles, model_files, flat_model, named_model, model_of_files, model_in}
use Rattle.flame_load.specs.TextReads.{Reader}
use Rattle.flame_load.proofs.AllInputs.{none_read, files_inputs}
use Rattle.flame_load.proofs.KnownOrRefused.{was_faultless}
use Rattle.flame_load.proofs.Leftovers.{given_by_both}

-- a list goes on to another
abbrev GoesOn : List (List ℕ) → List (List ℕ) → Type 0
GoesOn some all = (rest : List (List ℕ)) × (some ++ rest ≡ all)

-- where nothing is read behind it, the inputs of a reading are those of the whole
only_first :
    {R X Y : Type 0} (reading : Reading R X) (next : X → Reading R Y)
    → ((x : X) → (next x).inputs ≡ [])
    → (reading >>= next).inputs ≡ reading.inputs
unfolding ◌>>=◌
only_first {R = R} {X = X} reading next none =
    ap (λ more. reading.inputs ++ more) (go reading.answer) ∙ append-nil reading.inputs
  where
    go : (answer : Result X R) → inputs_behind answer next ≡ []
    go (Ok x) = none x
    go (Err refusal) = refl

-- inputs that go on to a list, and behind them inputs that go on to another, go on to both
both_go_on :
    {R X Y : Type 0} (reading : Reading R X) (next : X → Reading R Y) (all more : List (List ℕ))
    → reading.inputs ≡ all
    → ((x : X) → reading.answer ≡ Ok x → GoesOn (next x).inputs more)
    → GoesOn (reading >>= next).inputs (all ++ more)
unfolding ◌>>=◌
both_go_on {R = R} {X = X} reading next all more read behind = go reading.answer refl
  where
    go : (answer : Result X R) → reading.answer ≡ answer → GoesOn (reading.inputs ++ inputs_behind answer next) (all ++ more)
    go (Ok x) is =
        let rest = behind x is in
        (rest.0, append_assoc reading.inputs (next x).inputs rest.0 ∙ (λ i. read i ++ rest.1 i))
    go (Err refusal) is = (more, ap (λ inputs. inputs ++ more) (append-nil reading.inputs ∙ read))

-- ---- function files

unit_input : (read : Reader) (told : Files) (name : List ℕ) → (unit_in read told name).inputs ≡ name ∷ []
unit_input read told name =
    only_first (input (λ fault. of_files (file_refusal name fault)) name (file_in told source_limit name))
    (λ bytes. spelled_in name (read bytes)) (λ bytes. none (read bytes))
  where
    none : (found : Result file.Unit TextFault) → (spelled_in name found).inputs ≡ []
    none (Ok unit) = refl
    none (Err fault) = refl

units_go_on : (read : Reader) (told : Files) (names : List (List ℕ)) → GoesOn (units_in read told names).inputs names
units_go_on read told [] = ([], refl)
units_go_on read told (name ∷ names) =
    let behind : file.Unit → Reading Refusal (List file.Unit) = λ unit. units_in read told names >>= (λ us. known (unit ∷ us)) in
    let rest = units_go_on read told names in
    both_go_on (unit_in read told name) behind (name ∷ []) names (unit_input read told name)
    (λ unit is. (
      rest.0,
      ap (λ inputs. inputs ++ rest.0) (only_first (units_in read told names) (λ us. known (unit ∷ us)) (λ us. refl)) ∙ rest.1,
    ))

-- ---- sources

sound_inputs : (source : Source) → (sound_source source).inputs ≡ []
sound_inputs source =
    only_first (checked_source source) planned_source
    (λ s. none_read (λ fault. of_model (Depend fault) s.model) (depend_fault s.model) s)
    ∙ none_read (λ fault. of_model (Check fault) source.model) (first (check_faults source.model source.units)) source

source_goes_on : (read : Reader) (told : Files) (model : Model) → GoesOn (source_of read told model).inputs model.files
source_goes_on read told model =
    let sound : List file.Unit → Reading Refusal Source = λ units. sound_source (record { model = model; units = units }) in
    let rest = units_go_on read told model.files in (
      rest.0,
      ap (λ inputs. inputs ++ rest.0)
          (only_first (units_in read told model.files) sound (λ units. sound_inputs (record { model = model; units = units })))
          ∙ rest.1,
    )

flat_inputs : (files : ModelFiles) → (model_of_files files).inputs ≡ []
flat_inputs files =
    only_first (flat_model files) named_model
    (λ model. none_read (λ fault. of_files (Name fault)) (first (name_faults model)) model)
    ∙ none_read (λ fault. of_files (Nest fault)) (first (nest_faults files.names files.wides)) (flat files.wides)

-- the model of these files is their flat one
is_flat : (files : ModelFiles) (model : Model) → (model_of_files files).answer ≡ Ok model → flat files.wides ≡ model
is_flat files model given =
    let both = given_by_both (flat_model files) named_model model given in
    let nested = was_faultless (λ fault. of_files (Nest fault)) (first (nest_faults files.names files.wides)) (flat files.wides) both.0 both.1 in
    let named = was_faultless (λ fault. of_files (Name fault)) (first (name_faults both.0)) both.0 model both.2 in
    nested.1 ∙ named.1

pub inputs_are_a_front : InputsAreAFront
inputs_are_a_front read told name files filed =
    both_go_on (model_in told name) (source_of read told) files.names (flat files.wides).files
    (only_first (model_files told name) model_of_files flat_inputs ∙ files_inputs told name files filed)
    (λ model given.
    let both = given_by_both (model_files told name) model_of_files model given in
    let same : both.0 ≡ files = cc in
    let is = is_flat files model (subst (λ (fs : ModelFiles). (model_of_files fs).answer ≡ Ok model) same both.2) in
    subst (λ (m : Model). GoesOn (source_of read told model).inputs m.files) (sym is) (source_goes_on read told model))
