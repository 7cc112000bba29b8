-- The source that files stand for is accepted, and accepted sources of files are those that they stand for.
use Rattle.std.proofs.Common.{◌≡◌, ℕ, zero, suc, ◌+◌, Bool, true, false, List, [], ◌∷◌, ◌++◌, length, Option, Some, None, Ok, refl, sym, ap, ◌∙◌, subst, cond}
use Rattle.std.specs.Prelude.{nat_le, nat_lt, option_map}
use Rattle.std.specs.List.{list_all}
use Rattle.std.proofs.lemmas.Bool.{and_parts, and_from, eqb-true}
use Rattle.flame_outside.specs.Files.{Files}
use Rattle.flame_spec.specs.declared.models.AgentType.{AgentType}
use Rattle.flame_spec.specs.declared.models.Model.{Model}
use Rattle.flame_spec.specs.declared.outcomes.Source.{Source}
use Rattle.flame_spec.specs.declared.wide.Wide.{Wide}
use Rattle.flame_spec.specs.Accepted.{IsAccepted, has_one_start}
use Rattle.flame_spec.specs.CheckFaults.{check_faults}
use Rattle.flame_spec.specs.KnownNames.{is_among}
use Rattle.flame_spec.specs.Lists.{first}
use Rattle.flame_spec.specs.ModelOrder.{left_over}
use Rattle.flame_spec.specs.NameFaults.{name_faults}
use Rattle.flame_spec.specs.States.{start_states, many_from, many_starts}
use Rattle.flame_spec.specs.WellFormed.{is_well_formed}
use Rattle.flame_spec.specs.WideModels.{is_well_formed_wide}
use Rattle.flame_spec_laws.specs.StateLaws.{PlansHaveOneStart}
use Rattle.flame_xmml.specs.ShapeFaults.{wide_faults}
use Rattle.flame_xmml.specs.ShapeLaws.{FaultlessIsWellFormedWide}
use Rattle.flame_xmml.specs.WideValues.{wide_of}
use Rattle.flame_nest.specs.FlatLaws.{FlatIsWellFormed}
use Rattle.flame_nest.specs.FlatModels.{flat}
use Rattle.flame_nest.specs.NestFaults.{nest_faults}
use Rattle.flame_load.specs.declared.faults.LoadFault.TheVariants.{Shape, Name, Nest, Check, Depend, TooMany}
use Rattle.flame_load.specs.FileReads.{source_limit, value_in}
use Rattle.flame_load.specs.InputReads.{Reading, known, refused, input, ◌>>=◌}
use Rattle.flame_load.specs.LoadRefusals.{Refusal, of_files, of_model, file_refusal}
use Rattle.flame_load.specs.FunctionFileReads.{units_in}
use Rattle.flame_load.specs.LoadLaws.{LoadedAreAccepted, AcceptedAreLoaded}
use Rattle.flame_load.specs.LoadedSources.{starts_fault, fault_of_order, depend_fault, checked_source, planned_source, sound_source, source_of}
use Rattle.flame_load.specs.ModelFileReads.{ModelFiles, no_files, and_file, most_files, with_all, with_name, wide_of_value, wide_in, model_files, flat_model, named_model, model_of_files, model_in}
use Rattle.flame_load.proofs.FileSteps.{With}
use Rattle.flame_load.proofs.KnownOrRefused.{none_refuses, faultless, was_faultless, none_first}
use Rattle.flame_load.proofs.Leftovers.{rest_behind, given_by_both}

-- ---- start states and order

no_order_fault : (model : Model) (left : Option ℕ) → fault_of_order model left ≡ None → (left ≡ None) × (many_starts model ≡ None)
no_order_fault model (Some function) none = absurd (cc)
no_order_fault model None none = (refl, go (many_starts model) none)
  where
    go : (many : Option (ℕ × List (List ℕ))) → option_map starts_fault many ≡ None → many ≡ None
    go None is = refl
    go (Some type) is = absurd (cc)

-- types with one start state each have none with two
none_of_ones : (i : ℕ) (types : List AgentType) → list_all has_one_start types ≡ true → many_from i types ≡ None
none_of_ones i [] ones = refl
none_of_ones i (type ∷ types) ones =
    let both = and_parts (has_one_start type) (list_all has_one_start types) ones in
    let one : length (start_states type.functions) ≡ 1 = eqb-true (length (start_states type.functions)) 1 both.0 in
    ap (λ n. cond (nat_lt 1 n) (Some (i, start_states type.functions)) (many_from (i + 1) types)) one
    ∙ none_of_ones (i + 1) types both.1

-- ---- well formed files

abbrev AreFormed : ModelFiles → Type 0
AreFormed files = list_all is_well_formed_wide files.wides ≡ true

formed_with : (wides : List Wide) (wide : Wide) → list_all is_well_formed_wide wides ≡ true → is_well_formed_wide wide ≡ true → list_all is_well_formed_wide (wides ++ wide ∷ []) ≡ true
formed_with [] wide all one = and_from (is_well_formed_wide wide) true one refl
formed_with (w ∷ wides) wide all one =
    let both = and_parts (is_well_formed_wide w) (list_all is_well_formed_wide wides) all in
    and_from (is_well_formed_wide w) (list_all is_well_formed_wide (wides ++ wide ∷ [])) both.0
    (formed_with wides wide both.1 one)

all_formed :
    (with_one : With)
    → ((files : ModelFiles) (name : List ℕ) (more : ModelFiles) → AreFormed files → (with_one files name).answer ≡ Ok more → AreFormed more)
    → (names : List (List ℕ)) (files more : ModelFiles)
    → AreFormed files
    → (with_all with_one files names).answer ≡ Ok more
    → AreFormed more
all_formed with_one step [] files more formed given =
    let same : files ≡ more = cc in
    subst AreFormed same formed
all_formed with_one step (name ∷ names) files more formed given =
    let both = given_by_both (with_one files name) (λ fs. with_all with_one fs names) more given in
    all_formed with_one step names both.0 more (step files name both.0 formed both.1) both.2

module _ (shapes : FaultlessIsWellFormedWide) where
  formed_file : (told : Files) (name : List ℕ) (wide : Wide) → (wide_in told name).answer ≡ Ok wide → is_well_formed_wide wide ≡ true
  formed_file told name wide given =
      let both =
      given_by_both (input (λ fault. of_files (file_refusal name fault)) name (value_in told source_limit name))
      (wide_of_value name) wide given in
      let is = was_faultless (λ shape. of_files (Shape name shape)) (first (wide_faults both.0)) (wide_of both.0) wide both.2 in
      subst (λ w. is_well_formed_wide w ≡ true) is.1 (shapes both.0 (none_first (wide_faults both.0) is.0))

  -- so is each that comes with a name, where those that come with a deeper one are
  step_formed :
      (with_one : With) (told : Files) (files : ModelFiles) (name : List ℕ) (more : ModelFiles) (b c : Bool)
      → ((fs : ModelFiles) (n : List ℕ) (m : ModelFiles) → AreFormed fs → (with_one fs n).answer ≡ Ok m → AreFormed m)
      → AreFormed files
      → (cond b (known files)
      (cond c (refused (of_files (TooMany name)))
      (wide_in told name >>= (λ wide. with_all with_one (and_file name wide files) wide.nested)))).answer ≡ Ok more
      → AreFormed more
  step_formed with_one told files name more true c deeper formed is =
      let same : files ≡ more = cc in
      subst AreFormed same formed
  step_formed with_one told files name more false true deeper formed is = absurd (cc)
  step_formed with_one told files name more false false deeper formed is =
      let behind : Wide → Reading Refusal ModelFiles = λ wide. with_all with_one (and_file name wide files) wide.nested in
      let both = given_by_both (wide_in told name) behind more is in
      all_formed with_one deeper both.0.nested (and_file name both.0 files) more
      (formed_with files.wides both.0 formed (formed_file told name both.0 both.1)) both.2

  name_formed :
      (deep : ℕ) (told : Files) (files : ModelFiles) (name : List ℕ) (more : ModelFiles)
      → AreFormed files
      → (with_name deep told files name).answer ≡ Ok more
      → AreFormed more
  name_formed zero told files name more formed given = absurd (cc)
  name_formed (suc deep) told files name more formed given =
      step_formed (with_name deep told) told files name more (is_among name files.names)
      (nat_le most_files (length files.names)) (name_formed deep told) formed given

-- ---- sources

module _ (shapes : FaultlessIsWellFormedWide) (flats : FlatIsWellFormed) (starts : PlansHaveOneStart) where
  -- the model of files is well formed, and its names have no fault
  sound_model : (told : Files) (name : List ℕ) (model : Model) → (model_in told name).answer ≡ Ok model → (is_well_formed model ≡ true) × (name_faults model ≡ [])
  sound_model told name model given =
      let read = given_by_both (model_files told name) model_of_files model given in
      let files = read.0 in
      let both = given_by_both (flat_model files) named_model model read.2 in
      let nested = was_faultless (λ fault. of_files (Nest fault)) (first (nest_faults files.names files.wides)) (flat files.wides) both.0 both.1 in
      let named = was_faultless (λ fault. of_files (Name fault)) (first (name_faults both.0)) both.0 model both.2 in
      let formed = name_formed shapes (suc most_files) told no_files name files refl read.1 in
      let whole = flats files.names files.wides formed (none_first (nest_faults files.names files.wides) nested.0) in (
        subst (λ m. is_well_formed m ≡ true) (nested.1 ∙ named.1) whole,
        subst (λ m. name_faults m ≡ []) named.1 (none_first (name_faults both.0) named.0),
      )

  pub loaded_are_accepted : LoadedAreAccepted
  loaded_are_accepted read told name source given =
      let whole = given_by_both (model_in told name) (source_of read told) source given in
      let model = whole.0 in
      let filed = given_by_both (units_in read told model.files) (λ units. sound_source (record { model = model; units = units })) source whole.2 in
      let written : Source = record { model = model; units = filed.0 } in
      let both = given_by_both (checked_source written) planned_source source filed.2 in
      let checked = was_faultless (λ fault. of_model (Check fault) model) (first (check_faults model filed.0)) written both.0 both.1 in
      let planned = was_faultless (λ fault. of_model (Depend fault) both.0.model) (depend_fault both.0.model) both.0 source both.2 in
      let sound = sound_model told name model whole.1 in
      let ordered = no_order_fault model (left_over model) (subst (λ (s : Source). depend_fault s.model ≡ None) (sym checked.1) planned.0) in
      subst IsAccepted (checked.1 ∙ planned.1) (record {
        formed = sound.0;
        named = sound.1;
        checked = none_first (check_faults model filed.0) checked.0;
        ordered = ordered.0;
        started = starts model ordered.0 ordered.1;
      })

pub accepted_are_loaded : AcceptedAreLoaded
accepted_are_loaded read told name files units filed faultless_files read_units accepted =
    let model = flat files.wides in
    let source : Source = record { model = model; units = units } in
    let nested = faultless (λ fault. of_files (Nest fault)) (nest_faults files.names files.wides) model faultless_files in
    let named = faultless (λ fault. of_files (Name fault)) (name_faults model) model accepted.named in
    let checked = faultless (λ fault. of_model (Check fault) model) (check_faults model units) source accepted.checked in
    let planned =
    none_refuses (λ fault. of_model (Depend fault) model) (depend_fault model) source
    (ap (fault_of_order model) accepted.ordered
    ∙ ap (option_map starts_fault) (none_of_ones 0 model.agents accepted.started)) in
    let whole_model = (rest_behind (model_files told name) model_of_files files filed).answer
    ∙ ((rest_behind (flat_model files) named_model model nested).answer ∙ named) in
    let sound = (rest_behind (checked_source source) planned_source source checked).answer ∙ planned in
    let behind = (rest_behind (units_in read told model.files) (λ us. sound_source (record { model = model; units = us })) units read_units).answer ∙ sound in
    (rest_behind (model_in told name) (source_of read told) model whole_model).answer ∙ behind
