-- The inputs that are read where files stand for a source.
use Rattle.std.proofs.Common.{◌≡◌, ℕ, zero, suc, Bool, true, false, List, [], ◌∷◌, ◌++◌, length, Option, Some, None, Result, Ok, Err, refl, sym, ap, ◌∙◌, cond, append-nil, append_assoc}
use Rattle.std.specs.Prelude.{nat_le}
use Rattle.flame_outside.specs.Files.{Files}
use Rattle.flame_spec.specs.declared.models.Model.{Model}
use Rattle.flame_spec.specs.declared.outcomes.Source.{Source}
use Rattle.flame_spec.specs.declared.trees.Unit as file
use Rattle.flame_spec.specs.declared.wide.Wide.{Wide}
use Rattle.flame_spec.specs.CheckFaults.{check_faults}
use Rattle.flame_spec.specs.KnownNames.{is_among}
use Rattle.flame_spec.specs.Lists.{first}
use Rattle.flame_spec.specs.NameFaults.{name_faults}
use Rattle.flame_xmml.specs.ShapeFaults.{wide_faults}
use Rattle.flame_xmml.specs.WideValues.{wide_of}
use Rattle.flame_nest.specs.FlatModels.{flat}
use Rattle.flame_nest.specs.NestFaults.{nest_faults}
use Rattle.flame_load.specs.declared.faults.LoadFault.TheVariants.{Shape, Name, Nest, Check, Depend, TooMany}
use Rattle.flame_load.specs.declared.faults.TextFault.{TextFault}
use Rattle.flame_load.specs.FileReads.{source_limit, file_in, value_in}
use Rattle.flame_load.specs.InputReads.{Reading, known, refused, unless, input, inputs_behind, ◌>>=◌}
use Rattle.flame_load.specs.LoadRefusals.{Refusal, of_files, of_model, file_refusal}
use Rattle.flame_load.specs.FunctionFileReads.{spelled_in, unit_in, units_in}
use Rattle.flame_load.specs.LoadLaws.{AllInputsAreRead}
use Rattle.flame_load.specs.LoadedSources.{depend_fault, checked_source, planned_source, sound_source, source_of}
use Rattle.flame_load.specs.ModelFileReads.{ModelFiles, no_files, and_file, most_files, with_all, with_name, wide_of_value, wide_in, model_files, flat_model, named_model, model_of_files, model_in}
use Rattle.flame_load.specs.TextReads.{Reader}
use Rattle.flame_load.proofs.FileSteps.{With}
use Rattle.flame_load.proofs.KnownOrRefused.{was_faultless}
use Rattle.flame_load.proofs.Leftovers.{given_by_both}

-- the inputs of two readings after one another
both_inputs :
    {R X Y : Type 0} (reading : Reading R X) (next : X → Reading R Y) (x : X)
    → reading.answer ≡ Ok x
    → (reading >>= next).inputs ≡ reading.inputs ++ (next x).inputs
unfolding ◌>>=◌
both_inputs reading next x given = ap (λ answer. reading.inputs ++ inputs_behind answer next) given

-- a fault is looked for where nothing is read
pub none_read : {R F X : Type 0} (refusal_of : F → R) (fault : Option F) (x : X) → (unless refusal_of fault x).inputs ≡ []
unfolding unless
none_read refusal_of None x = refl
none_read refusal_of (Some f) x = refl

-- ---- model files

one_file : (told : Files) (name : List ℕ) (wide : Wide) → (wide_in told name).answer ≡ Ok wide → (wide_in told name).inputs ≡ name ∷ []
one_file told name wide given =
    let first_input = input (λ fault. of_files (file_refusal name fault)) name (value_in told source_limit name) in
    let both = given_by_both first_input (wide_of_value name) wide given in
    both_inputs first_input (wide_of_value name) both.0 both.1
    ∙ ap (λ more. (name ∷ []) ++ more)
    (none_read (λ shape. of_files (Shape name shape)) (first (wide_faults both.0)) (wide_of both.0))

all_grow :
    (with_one : With)
    → ((files : ModelFiles) (name : List ℕ) (more : ModelFiles)
    → (with_one files name).answer ≡ Ok more
    → files.names ++ (with_one files name).inputs ≡ more.names)
    → (names : List (List ℕ)) (files more : ModelFiles)
    → (with_all with_one files names).answer ≡ Ok more
    → files.names ++ (with_all with_one files names).inputs ≡ more.names
all_grow with_one step [] files more given =
    let same : files ≡ more = cc in
    append-nil files.names ∙ ap (λ (fs : ModelFiles). fs.names) same
all_grow with_one step (name ∷ names) files more given =
    let rest : ModelFiles → Reading Refusal ModelFiles = λ fs. with_all with_one fs names in
    let both = given_by_both (with_one files name) rest more given in
    let here = (with_one files name).inputs in
    let there = (rest both.0).inputs in
    ap (λ inputs. files.names ++ inputs) (both_inputs (with_one files name) rest both.0 both.1)
    ∙ (sym (append_assoc files.names here there)
    ∙ (ap (λ names. names ++ there) (step files name both.0 both.1)
    ∙ all_grow with_one step names both.0 more both.2))

step_grows :
    (with_one : With) (told : Files) (files : ModelFiles) (name : List ℕ) (more : ModelFiles) (b c : Bool)
    → ((fs : ModelFiles) (n : List ℕ) (m : ModelFiles) → (with_one fs n).answer ≡ Ok m → fs.names ++ (with_one fs n).inputs ≡ m.names)
    → (cond b (known files)
    (cond c (refused (of_files (TooMany name)))
    (wide_in told name >>= (λ wide. with_all with_one (and_file name wide files) wide.nested)))).answer ≡ Ok more
    → files.names
    ++ (cond b (known files)
    (cond c (refused (of_files (TooMany name)))
    (wide_in told name >>= (λ wide. with_all with_one (and_file name wide files) wide.nested)))).inputs
    ≡ more.names
step_grows with_one told files name more true c deeper is =
    let same : files ≡ more = cc in
    append-nil files.names ∙ ap (λ (fs : ModelFiles). fs.names) same
step_grows with_one told files name more false true deeper is = absurd (cc)
step_grows with_one told files name more false false deeper is =
    let behind : Wide → Reading Refusal ModelFiles = λ wide. with_all with_one (and_file name wide files) wide.nested in
    let both = given_by_both (wide_in told name) behind more is in
    let there = (behind both.0).inputs in
    ap (λ inputs. files.names ++ inputs)
    (both_inputs (wide_in told name) behind both.0 both.1 ∙ ap (λ inputs. inputs ++ there) (one_file told name both.0 both.1))
    ∙ (sym (append_assoc files.names (name ∷ []) there)
    ∙ all_grow with_one deeper both.0.nested (and_file name both.0 files) more both.2)

name_grows :
    (deep : ℕ) (told : Files) (files : ModelFiles) (name : List ℕ) (more : ModelFiles)
    → (with_name deep told files name).answer ≡ Ok more
    → files.names ++ (with_name deep told files name).inputs ≡ more.names
name_grows zero told files name more given = absurd (cc)
name_grows (suc deep) told files name more given =
    step_grows (with_name deep told) told files name more (is_among name files.names)
    (nat_le most_files (length files.names)) (name_grows deep told) given

-- the names of the model files are the inputs that are read for them
pub files_inputs :
    (told : Files) (name : List ℕ) (files : ModelFiles)
    → (model_files told name).answer ≡ Ok files
    → (model_files told name).inputs ≡ files.names
files_inputs told name files given = name_grows (suc most_files) told no_files name files given

-- and the inputs of the model
model_inputs :
    (told : Files) (name : List ℕ) (files : ModelFiles) (model : Model)
    → (model_files told name).answer ≡ Ok files
    → (model_in told name).answer ≡ Ok model
    → (model_in told name).inputs ≡ files.names
model_inputs told name files model filed given =
    let read = given_by_both (model_files told name) model_of_files model given in
    let same : read.0 ≡ files = cc in
    let both = given_by_both (flat_model read.0) named_model model read.2 in
    let none : (model_of_files read.0).inputs ≡ [] =
    both_inputs (flat_model read.0) named_model both.0 both.1
    ∙ ((λ i. none_read (λ fault. of_files (Nest fault)) (first (nest_faults read.0.names read.0.wides)) (flat read.0.wides) i
    ++ none_read (λ fault. of_files (Name fault)) (first (name_faults both.0)) both.0 i)) in
    both_inputs (model_files told name) model_of_files read.0 read.1
    ∙ (ap (λ more. (model_files told name).inputs ++ more) none
    ∙ (append-nil (model_files told name).inputs
    ∙ (name_grows (suc most_files) told no_files name read.0 read.1 ∙ ap (λ (fs : ModelFiles). fs.names) same)))

-- ---- function files

one_unit :
    (read : Reader) (told : Files) (name : List ℕ) (unit : file.Unit)
    → (unit_in read told name).answer ≡ Ok unit
    → (unit_in read told name).inputs ≡ name ∷ []
one_unit read told name unit given =
    let first_input = input (λ fault. of_files (file_refusal name fault)) name (file_in told source_limit name) in
    let spelled : List ℕ → Reading Refusal file.Unit = λ bytes. spelled_in name (read bytes) in
    let both = given_by_both first_input spelled unit given in
    both_inputs first_input spelled both.0 both.1 ∙ ap (λ more. (name ∷ []) ++ more) (none (read both.0))
  where
    none : (found : Result file.Unit TextFault) → (spelled_in name found).inputs ≡ []
    none (Ok unit) = refl
    none (Err fault) = refl

unit_inputs :
    (read : Reader) (told : Files) (names : List (List ℕ)) (units : List file.Unit)
    → (units_in read told names).answer ≡ Ok units
    → (units_in read told names).inputs ≡ names
unit_inputs read told [] units given = refl
unit_inputs read told (name ∷ names) units given =
    let behind : file.Unit → Reading Refusal (List file.Unit) = λ unit. units_in read told names >>= (λ us. known (unit ∷ us)) in
    let both = given_by_both (unit_in read told name) behind units given in
    let rest = given_by_both (units_in read told names) (λ us. known (both.0 ∷ us)) units both.2 in
    both_inputs (unit_in read told name) behind both.0 both.1
    ∙ (λ i. one_unit read told name both.0 both.1 i
    ++ (both_inputs (units_in read told names) (λ us. known (both.0 ∷ us)) rest.0 rest.1
    ∙ (append-nil (units_in read told names).inputs ∙ unit_inputs read told names rest.0 rest.1)) i)

pub all_inputs_are_read : AllInputsAreRead
all_inputs_are_read read told name files source filed given =
    let whole = given_by_both (model_in told name) (source_of read told) source given in
    let model = whole.0 in
    let sound : List file.Unit → Reading Refusal Source = λ units. sound_source (record { model = model; units = units }) in
    let read_units = given_by_both (units_in read told model.files) sound source whole.2 in
    let written : Source = record { model = model; units = read_units.0 } in
    let both = given_by_both (checked_source written) planned_source source read_units.2 in
    let checked = was_faultless (λ fault. of_model (Check fault) model) (first (check_faults model read_units.0)) written both.0 both.1 in
    let planned = was_faultless (λ fault. of_model (Depend fault) both.0.model) (depend_fault both.0.model) both.0 source both.2 in
    let none : (sound read_units.0).inputs ≡ [] =
    both_inputs (checked_source written) planned_source both.0 both.1
    ∙ (λ i. none_read (λ fault. of_model (Check fault) model) (first (check_faults model read_units.0)) written i
    ++ none_read (λ fault. of_model (Depend fault) both.0.model) (depend_fault both.0.model) both.0 i) in
    let behind : (source_of read told model).inputs ≡ model.files =
    both_inputs (units_in read told model.files) sound read_units.0 read_units.1
    ∙ (ap (λ more. (units_in read told model.files).inputs ++ more) none
    ∙ (append-nil (units_in read told model.files).inputs
    ∙ unit_inputs read told model.files read_units.0 read_units.1)) in
    both_inputs (model_in told name) (source_of read told) model whole.1
    ∙ (λ i. model_inputs told name files model filed whole.1 i
    ++ (behind ∙ ap (λ (s : Source). s.model.files) (checked.1 ∙ planned.1)) i)
