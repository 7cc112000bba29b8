-- The function files of loaded sources write numbers of int alone.
use Rattle.std.proofs.Common.{◌≡◌, ℕ, ◌+◌, List, [], ◌∷◌, ◌++◌, map, Result, Ok, Err, ap, ◌∙◌, subst}
use Rattle.flame_outside.specs.Files.{Files}
use Rattle.flame_spec.specs.declared.outcomes.Source.{Source}
use Rattle.flame_spec.specs.declared.trees.Def.{Def}
use Rattle.flame_spec.specs.declared.trees.Unit as file
use Rattle.flame_spec.specs.CheckFaults.{check_faults}
use Rattle.flame_spec.specs.Definitions.{Definition, definition, definitions_of, definitions}
use Rattle.flame_spec.specs.Lists.{first, each_from}
use Rattle.flame_meaning.specs.RangeLaws.{Each, BodyWritesInts, AllWriteInts}
use Rattle.flame_parse.specs.Parsing.{defined}
use Rattle.flame_parse.specs.StatementGrammar.{Defined}
use Rattle.flame_load.specs.declared.faults.LoadFault.TheVariants.{Check, Depend}
use Rattle.flame_load.specs.declared.faults.TextFault.{TextFault}
use Rattle.flame_load.specs.FileReads.{source_limit, file_in}
use Rattle.flame_load.specs.FunctionFileReads.{spelled_in, unit_in, units_in}
use Rattle.flame_load.specs.InputReads.{Reading, known, input, ◌>>=◌}
use Rattle.flame_load.specs.LoadLaws.{LoadedWriteInts}
use Rattle.flame_load.specs.LoadRefusals.{Refusal, of_files, of_model, file_refusal}
use Rattle.flame_load.specs.LoadedSources.{depend_fault, checked_source, planned_source, sound_source, source_of}
use Rattle.flame_load.specs.ModelFileReads.{model_in}
use Rattle.flame_load.specs.TextReads.{Reader, ReadsTexts, IsReadAs}
use Rattle.flame_load.proofs.KnownOrRefused.{was_faultless}
use Rattle.flame_load.proofs.Leftovers.{given_by_both}
use Rattle.flame_load.proofs.WrittenTokens.{lexed_ints}
use Rattle.flame_load.proofs.WrittenTrees.{unit_ints}

-- each function of the file
abbrev UnitWritesInts : file.Unit → Type 0
UnitWritesInts unit = Each (λ (d : Defined). BodyWritesInts d.body) (map defined unit.functions)

-- ---- definitions

functions_write : (number : ℕ) (functions : List Def) → Each (λ (d : Defined). BodyWritesInts d.body) (map defined functions) → AllWriteInts (map (definition number) functions)
functions_write number [] are = tt
functions_write number (f ∷ functions) are = (are.0, functions_write number functions are.1)

joined_write : (ds more : List Definition) → AllWriteInts ds → AllWriteInts more → AllWriteInts (ds ++ more)
joined_write [] more are others = others
joined_write (d ∷ ds) more are others = (are.0, joined_write ds more are.1 others)

units_write : (number : ℕ) (units : List file.Unit) → Each UnitWritesInts units → AllWriteInts (each_from definitions_of number units)
units_write number [] are = tt
units_write number (unit ∷ units) are =
    joined_write (definitions_of number unit) (each_from definitions_of (number + 1) units)
    (functions_write number unit.functions are.0)
    (units_write (number + 1) units are.1)

-- ---- texts

spelled_was_read : (name : List ℕ) (found : Result file.Unit TextFault) (unit : file.Unit) → (spelled_in name found).answer ≡ Ok unit → found ≡ Ok unit
spelled_was_read name (Ok other) unit given = let same : other ≡ unit = cc in ap Ok same
spelled_was_read name (Err fault) unit given = absurd (cc)

module _ (read : Reader) (reads : ReadsTexts read) (told : Files) where
  text_writes : (bytes : List ℕ) (unit : file.Unit) → read bytes ≡ Ok unit → UnitWritesInts unit
  text_writes bytes unit is =
      let spelled : IsReadAs bytes (Ok unit) = subst (IsReadAs bytes) is (reads bytes) in
      unit_ints spelled.0 (map defined unit.functions) (lexed_ints bytes spelled.0 spelled.1) spelled.2.tree

  file_writes : (name : List ℕ) (unit : file.Unit) → (unit_in read told name).answer ≡ Ok unit → UnitWritesInts unit
  file_writes name unit given =
      let first_input = input (λ fault. of_files (file_refusal name fault)) name (file_in told source_limit name) in
      let spelled : List ℕ → Reading Refusal file.Unit = λ bytes. spelled_in name (read bytes) in
      let both = given_by_both first_input spelled unit given in
      text_writes both.0 unit (spelled_was_read name (read both.0) unit both.2)

  files_write : (names : List (List ℕ)) (units : List file.Unit) → (units_in read told names).answer ≡ Ok units → Each UnitWritesInts units
  files_write [] units given =
      let none : [] ≡ units = cc in
      subst (Each UnitWritesInts) none tt
  files_write (name ∷ names) units given =
      let behind : file.Unit → Reading Refusal (List file.Unit) = λ unit. units_in read told names >>= (λ us. known (unit ∷ us)) in
      let both = given_by_both (unit_in read told name) behind units given in
      let rest = given_by_both (units_in read told names) (λ us. known (both.0 ∷ us)) units both.2 in
      let all : both.0 ∷ rest.0 ≡ units = cc in
      subst (Each UnitWritesInts) all (file_writes name both.0 both.1, files_write names rest.0 rest.1)

-- ---- sources

pub loaded_write_ints : LoadedWriteInts
loaded_write_ints read told name source reads given =
    let whole = given_by_both (model_in told name) (source_of read told) source given in
    let model = whole.0 in
    let sound : List file.Unit → Reading Refusal Source = λ units. sound_source (record { model = model; units = units }) in
    let filed = given_by_both (units_in read told model.files) sound source whole.2 in
    let written : Source = record { model = model; units = filed.0 } in
    let both = given_by_both (checked_source written) planned_source source filed.2 in
    let checked = was_faultless (λ fault. of_model (Check fault) model) (first (check_faults model filed.0)) written both.0 both.1 in
    let planned = was_faultless (λ fault. of_model (Depend fault) both.0.model) (depend_fault both.0.model) both.0 source both.2 in
    subst (λ (s : Source). AllWriteInts (definitions s.units)) (checked.1 ∙ planned.1)
    (units_write 0 filed.0 (files_write read reads told model.files filed.0 filed.1))
