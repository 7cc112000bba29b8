-- What is left of a reading, once some of its inputs were read.
use Rattle.std.specs.Prelude.{◌≡◌, ℕ, List, Result, Ok, Err, Contains, Vec}
use Rattle.std.specs.declared.alloc.Global.{Global}
use Rattle.flame_outside.specs.Files.{Files}
use Rattle.flame_spec.specs.declared.wide.Wide.{Wide}
use Rattle.flame_load.specs.declared.faults.LoadFail.{LoadFail}
use Rattle.flame_load.specs.declared.model_files.FilesRead.{FilesRead}
use Rattle.flame_load.specs.InputReads.{Reading}
use Rattle.flame_load.specs.LoadRefusals.{Refusal}
use Rattle.flame_load.specs.LoadAnswers.{Stops}
use Rattle.flame_load.specs.ModelFileReads.{ModelFiles, and_file, wide_in}

-- the rest comes to what the whole comes to, and its inputs are among those of the whole [own]
pub record IsRestOf {R X : Type 0} (whole rest : Reading R X) : Type 0 where
  pub inputs : (name : List ℕ) → Contains rest.inputs name → Contains whole.inputs name
  pub answer : whole.answer ≡ rest.answer

-- the files that were read [own]
abbrev pub files_read : FilesRead → ModelFiles
files_read files = record { names = files.names.items; wides = files.wides.items }

-- these are the files that are given, or the reading stops by the failure [own]
abbrev pub Leaves : {T : Type 0} → Result T LoadFail → FilesRead → Reading Refusal ModelFiles → Type 0
Leaves (Ok done) files reading = reading.answer ≡ Ok (files_read files)
Leaves (Err fail) files reading = Stops fail reading

-- the model file of this name is the one that was added to the files, and nests these [own]
pub record IsAdded (told : Files) (name : List ℕ) (old new : FilesRead) (nested : List (List ℕ)) : Type 0 where
  pub wide : Wide
  pub given : (wide_in told name).answer ≡ Ok wide
  pub added : files_read new ≡ and_file name wide (files_read old)
  pub nests : nested ≡ wide.nested

-- the model file of this name was added, or its reading stops by the failure [own]
abbrev pub Adds : Files → List ℕ → FilesRead → FilesRead → Result (Vec (List ℕ) Global) LoadFail → Type 0
Adds told name old new (Ok nested) = IsAdded told name old new nested.items
Adds told name old new (Err fail) = Stops fail (wide_in told name)
