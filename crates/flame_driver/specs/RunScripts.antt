-- How a run is written: for each iteration its file, and then its line.
use Rattle.std.specs.Prelude.{ℕ, ℤ, List, [], ◌∷◌, codes}
use Rattle.std.specs.Fmt.{signed_decimal}
use Rattle.std.specs.List.{concat, flat_map}
use Rattle.flame_outside.specs.Scripts.{Act, puts, prints}
use Rattle.flame_spec.specs.declared.models.Model.{Model}
use Rattle.flame_popfile.specs.declared.formats.Format.{Format}
use Rattle.flame_popfile.specs.IterationTexts.{text, line}
use Rattle.flame_driver.specs.Runs.{Stage}

-- how iterations are written: with the names of this model, in this version, and to files whose names begin with this
-- prefix [own]
pub record Writing : Type 0 where
  pub model : Model
  pub format : Format
  pub prefix : List ℕ

-- written so [own]
abbrev pub written_as : Model → Format → List ℕ → Writing
written_as model format prefix = record { model = model; format = format; prefix = prefix }

-- the name of the file of the iteration of this number: prefix, number and `.json`
-- [own; a file for each iteration, named by its number: FLAME User Manual]
abbrev pub file_name : List ℕ → ℤ → List ℕ
file_name prefix itno = concat (prefix ∷ signed_decimal itno ∷ codes ".json" ∷ [])

-- the text of an iteration's file [FLAME User Manual; version 2: own]
abbrev pub stage_text : Writing → Stage → List ℕ
stage_text writing stage = text writing.model writing.format stage.itno stage.world stage.boards

-- the line of an iteration [own]
abbrev pub stage_line : Stage → List ℕ
stage_line stage = line stage.itno stage.world stage.boards

-- an iteration is written: its file, and then its line [own]
abbrev pub stage_acts : Writing → Stage → List Act
stage_acts writing stage =
    puts (file_name writing.prefix stage.itno) (stage_text writing stage) ∷ prints (stage_line stage) ∷ []

-- these iterations are written, one after another [own]
abbrev pub acts_of : Writing → List Stage → List Act
acts_of writing stages = flat_map (stage_acts writing) stages
