-- The function files of a model.
use Rattle.std.specs.Prelude.{ℕ, List, [], ◌∷◌, Result, Ok, Err}
use Rattle.flame_outside.specs.Files.{Files}
use Rattle.flame_spec.specs.declared.trees.Unit as file
use Rattle.flame_load.specs.declared.faults.TextFault.{TextFault}
use Rattle.flame_load.specs.FileReads.{source_limit, file_in}
use Rattle.flame_load.specs.InputReads.{Reading, known, refused, input, ◌>>=◌}
use Rattle.flame_load.specs.LoadRefusals.{Refusal, of_files, file_refusal, text_refusal}
use Rattle.flame_load.specs.TextReads.{Reader}

-- what the text of the function file of that name is read as [own]
abbrev pub spelled_in : List ℕ → Result file.Unit TextFault → Reading Refusal file.Unit
spelled_in name (Ok unit) = known unit
spelled_in name (Err fault) = refused (of_files (text_refusal name fault))

-- the C functions in the file of that name [C, 6.9]
abbrev pub unit_in : Reader → Files → List ℕ → Reading Refusal file.Unit
unit_in read told name = do
  bytes ← input (λ fault. of_files (file_refusal name fault)) name (file_in told source_limit name)
  spelled_in name (read bytes)

-- the C functions in the files of these names, file by file [C, 6.9]
abbrev pub units_in : Reader → Files → List (List ℕ) → Reading Refusal (List file.Unit)
units_in read told [] = known []
units_in read told (name ∷ names) = do
  unit ← unit_in read told name
  units ← units_in read told names
  known (unit ∷ units)
