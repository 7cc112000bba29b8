-- Loading by files that agree on all inputs.
use Rattle.std.proofs.Common.{◌≡◌, ℕ, zero, suc, Bool, true, false, List, [], ◌∷◌, ◌++◌, length, Result, Ok, Err, refl, ap, ◌∙◌, cond}
use Rattle.std.specs.Prelude.{nat_le, Contains}
use Rattle.std.proofs.lemmas.List.Elements.{Contains-append_left, Contains-push}
use Rattle.flame_outside.specs.Files.{Files}
use Rattle.flame_spec.specs.declared.models.Model.{Model}
use Rattle.flame_spec.specs.declared.outcomes.Source.{Source}
use Rattle.flame_spec.specs.declared.trees.Unit as file
use Rattle.flame_spec.specs.KnownNames.{is_among}
use Rattle.flame_load.specs.declared.faults.FileFault.{FileFault}
use Rattle.flame_load.specs.declared.faults.LoadFault.TheVariants.{TooMany}
use Rattle.flame_load.specs.FileReads.{source_limit, within, value_of, file_in, value_in}
use Rattle.flame_load.specs.InputReads.{Reading, known, refused, input, inputs_behind, answer_behind, ◌>>=◌}
use Rattle.flame_load.specs.LoadRefusals.{Refusal, of_files, file_refusal}
use Rattle.flame_load.specs.FunctionFileReads.{spelled_in, unit_in, units_in}
use Rattle.flame_load.specs.LoadLaws.{Agree, OnlyInputsCount}
use Rattle.flame_load.specs.LoadedSources.{sound_source, source_of}
use Rattle.flame_load.specs.ModelFileReads.{ModelFiles, no_files, and_file, most_files, with_all, with_name, wide_of_value, wide_in, model_files, model_of_files, model_in}
use Rattle.flame_load.specs.TextReads.{Reader}
use Rattle.flame_load.proofs.FileSteps.{With}
use Rattle.flame_load.proofs.Leftovers.{rest_behind}

-- the first inputs are among those of both
first_inputs :
    {R X Y : Type 0} (reading : Reading R X) (next : X → Reading R Y) (name : List ℕ)
    → Contains reading.inputs name
    → Contains (reading >>= next).inputs name
unfolding ◌>>=◌
first_inputs reading next name there = Contains-append_left reading.inputs (inputs_behind reading.answer next) name there

-- readings that go on alike are the same
goes_on_alike :
    {R X Y : Type 0} (reading : Reading R X) (next other : X → Reading R Y)
    → ((x : X) → reading.answer ≡ Ok x → next x ≡ other x)
    → reading >>= next ≡ reading >>= other
unfolding ◌>>=◌
goes_on_alike {R = R} {X = X} reading next other alike =
    let both = go reading.answer refl in
    λ i. record { inputs = reading.inputs ++ both.0 i; answer = both.1 i }
  where
    go :
        (answer : Result X R)
        → reading.answer ≡ answer
        → (inputs_behind answer next ≡ inputs_behind answer other) × (answer_behind answer next ≡ answer_behind answer other)
    go (Ok x) is = (ap (λ r. r.inputs) (alike x is), ap (λ r. r.answer) (alike x is))
    go (Err refusal) is = (refl, refl)

module _ (told others : Files) where
  -- two readings one after the other are the same by both files, where each is
  both_same :
      {R X Y : Type 0} (here there : Reading R X) (next other : X → Reading R Y)
      → (Agree told others here.inputs → here ≡ there)
      → ((x : X) → here.answer ≡ Ok x → Agree told others (next x).inputs → next x ≡ other x)
      → Agree told others (here >>= next).inputs
      → here >>= next ≡ there >>= other
  both_same here there next other first behind agree =
      let same = first (λ name among. agree name (first_inputs here next name among)) in
      goes_on_alike here next other
      (λ x is. behind x is (λ name among. agree name ((rest_behind here next x is).inputs name among)))
      ∙ ap (λ r. r >>= other) same

  -- ---- files

  file_same : (name : List ℕ) (most : ℕ) → Agree told others (name ∷ []) → file_in told most name ≡ file_in others most name
  file_same name most agree = ap (within most) (agree name (Contains-push [] name))

  wide_same : (name : List ℕ) → Agree told others (wide_in told name).inputs → wide_in told name ≡ wide_in others name
  wide_same name =
      let refusal_of : FileFault → Refusal = λ fault. of_files (file_refusal name fault) in
      both_same (input refusal_of name (value_in told source_limit name)) (input refusal_of name (value_in others source_limit name))
      (wide_of_value name) (wide_of_value name)
      (λ agree. ap (λ found. input refusal_of name (value_of found)) (file_same name source_limit agree))
      (λ value is agree. refl)

  unit_same :
      (read : Reader) (name : List ℕ)
      → Agree told others (unit_in read told name).inputs
      → unit_in read told name ≡ unit_in read others name
  unit_same read name =
      let refusal_of : FileFault → Refusal = λ fault. of_files (file_refusal name fault) in
      both_same (input refusal_of name (file_in told source_limit name)) (input refusal_of name (file_in others source_limit name))
      (λ bytes. spelled_in name (read bytes)) (λ bytes. spelled_in name (read bytes))
      (λ agree. ap (λ found. input refusal_of name found) (file_same name source_limit agree))
      (λ bytes is agree. refl)

  -- ---- model files

  all_same :
      (with_one with_other : With)
      → ((files : ModelFiles) (name : List ℕ)
      → Agree told others (with_one files name).inputs
      → with_one files name ≡ with_other files name)
      → (names : List (List ℕ)) (files : ModelFiles)
      → Agree told others (with_all with_one files names).inputs
      → with_all with_one files names ≡ with_all with_other files names
  all_same with_one with_other one [] files agree = refl
  all_same with_one with_other one (name ∷ names) files agree =
      both_same (with_one files name) (with_other files name)
      (λ more. with_all with_one more names) (λ more. with_all with_other more names)
      (one files name)
      (λ more is. all_same with_one with_other one names more)
      agree

  step_same :
      (with_one with_other : With) (files : ModelFiles) (name : List ℕ) (b c : Bool)
      → ((fs : ModelFiles) (n : List ℕ) → Agree told others (with_one fs n).inputs → with_one fs n ≡ with_other fs n)
      → Agree told others
      (cond b (known files)
      (cond c (refused (of_files (TooMany name)))
      (wide_in told name >>= (λ wide. with_all with_one (and_file name wide files) wide.nested)))).inputs
      → cond b (known files)
      (cond c (refused (of_files (TooMany name)))
      (wide_in told name >>= (λ wide. with_all with_one (and_file name wide files) wide.nested)))
      ≡ cond b (known files)
      (cond c (refused (of_files (TooMany name)))
      (wide_in others name >>= (λ wide. with_all with_other (and_file name wide files) wide.nested)))
  step_same with_one with_other files name true c deeper agree = refl
  step_same with_one with_other files name false true deeper agree = refl
  step_same with_one with_other files name false false deeper agree =
      both_same (wide_in told name) (wide_in others name)
      (λ wide. with_all with_one (and_file name wide files) wide.nested)
      (λ wide. with_all with_other (and_file name wide files) wide.nested)
      (wide_same name)
      (λ wide is. all_same with_one with_other deeper wide.nested (and_file name wide files))
      agree

  name_same :
      (deep : ℕ) (files : ModelFiles) (name : List ℕ)
      → Agree told others (with_name deep told files name).inputs
      → with_name deep told files name ≡ with_name deep others files name
  name_same zero files name agree = refl
  name_same (suc deep) files name agree =
      step_same (with_name deep told) (with_name deep others) files name (is_among name files.names)
      (nat_le most_files (length files.names)) (name_same deep) agree

  model_same : (name : List ℕ) → Agree told others (model_in told name).inputs → model_in told name ≡ model_in others name
  model_same name =
      both_same (model_files told name) (model_files others name) model_of_files model_of_files
      (name_same (suc most_files) no_files name)
      (λ files is agree. refl)

  -- ---- function files

  units_same :
      (read : Reader) (names : List (List ℕ))
      → Agree told others (units_in read told names).inputs
      → units_in read told names ≡ units_in read others names
  units_same read [] agree = refl
  units_same read (name ∷ names) agree =
      both_same (unit_in read told name) (unit_in read others name)
      (λ unit. units_in read told names >>= (λ units. known (unit ∷ units)))
      (λ unit. units_in read others names >>= (λ units. known (unit ∷ units)))
      (unit_same read name)
      (λ unit is. both_same (units_in read told names) (units_in read others names)
      (λ units. known (unit ∷ units)) (λ units. known (unit ∷ units))
      (units_same read names)
      (λ units known_is more. refl))
      agree

  source_same :
      (read : Reader) (model : Model)
      → Agree told others (source_of read told model).inputs
      → source_of read told model ≡ source_of read others model
  source_same read model =
      let sound : List file.Unit → Reading Refusal Source = λ units. sound_source (record { model = model; units = units }) in
      both_same (units_in read told model.files) (units_in read others model.files) sound sound
      (units_same read model.files)
      (λ units is agree. refl)

pub only_inputs_count : OnlyInputsCount
only_inputs_count read told others name =
    both_same told others (model_in told name) (model_in others name) (source_of read told) (source_of read others)
    (model_same told others name)
    (λ model is. source_same told others read model)
