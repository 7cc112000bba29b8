-- Why files are refused.
use Rattle.std.specs.Prelude.{ℕ, List}
use Rattle.flame_spec.specs.declared.models.Model.{Model}
use Rattle.flame_load.specs.declared.faults.FileFault.{FileFault}
use Rattle.flame_load.specs.declared.faults.FileFault.TheVariants as file_fault
use Rattle.flame_load.specs.declared.faults.LoadFault.{LoadFault}
use Rattle.flame_load.specs.declared.faults.LoadFault.TheVariants.{Missing, TooLarge, NotJson, Lex, Parse}
use Rattle.flame_load.specs.declared.faults.TextFault.{TextFault}
use Rattle.flame_load.specs.declared.faults.TextFault.TheVariants as text_fault

-- a fault of the files; or one of the function files or of the order of functions, with the flat model of whose parts it
-- tells [own]
pub data Refusal : Type 0 where
  of_files : LoadFault → Refusal
  of_model : LoadFault → Model → Refusal

-- the refusal of the file of this name [own]
abbrev pub file_refusal : List ℕ → FileFault → LoadFault
file_refusal name file_fault.Missing = Missing name
file_refusal name file_fault.TooLarge = TooLarge name
file_refusal name file_fault.NotJson = NotJson name

-- the refusal of the text of the function file of this name [own]
abbrev pub text_refusal : List ℕ → TextFault → LoadFault
text_refusal name (text_fault.Lex fault) = Lex name fault
text_refusal name (text_fault.Parse line fault) = Parse name line fault
