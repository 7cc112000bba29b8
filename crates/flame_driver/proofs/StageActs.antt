-- The acts of iterations, one after another.
use Rattle.std.proofs.Common.{◌≡◌, List, [], ◌∷◌, ◌++◌, length, map, refl, ap, ◌∙◌, arith, append-nil}
use Rattle.std.proofs.lemmas.List.Concat.{flat_map-append}
use Rattle.std.specs.List.{flat_map}
use Rattle.flame_outside.specs.Scripts.{puts_in}
use Rattle.flame_outside.specs.WhatIsTold.{files_by, printed_by}
use Rattle.flame_driver.specs.Runs.{Stage}
use Rattle.flame_driver.specs.IteratedRuns.{StagesAreWritten}
use Rattle.flame_driver.specs.RunScripts.{Writing, file_name, stage_text, stage_line, stage_acts, acts_of}

pub acts_of-append :
    (writing : Writing) (first more : List Stage)
    → acts_of writing (first ++ more) ≡ acts_of writing first ++ acts_of writing more
acts_of-append writing first more = flat_map-append (stage_acts writing) first more

pub acts_of-one_more :
    (writing : Writing) (first : List Stage) (done : Stage)
    → acts_of writing (first ++ (done ∷ [])) ≡ acts_of writing first ++ stage_acts writing done
acts_of-one_more writing first done =
    acts_of-append writing first (done ∷ [])
    ∙ ap (λ acts. acts_of writing first ++ acts) (append-nil (stage_acts writing done))

-- each iteration has one file
pub puts_in-acts_of : (writing : Writing) (stages : List Stage) → puts_in (acts_of writing stages) ≡ length stages
puts_in-acts_of writing [] = refl
puts_in-acts_of writing (done ∷ stages) = let rest = puts_in-acts_of writing stages in omega (arith, rest)

files_by-acts_of :
    (writing : Writing) (stages : List Stage)
    → files_by (acts_of writing stages)
    ≡ map (λ done. (file_name writing.prefix done.itno, stage_text writing done)) stages
files_by-acts_of writing [] = refl
files_by-acts_of writing (done ∷ stages) =
    ap (λ files. (file_name writing.prefix done.itno, stage_text writing done) ∷ files)
    (files_by-acts_of writing stages)

printed_by-acts_of :
    (writing : Writing) (stages : List Stage) → printed_by (acts_of writing stages) ≡ flat_map stage_line stages
printed_by-acts_of writing [] = refl
printed_by-acts_of writing (done ∷ stages) = ap (λ lines. stage_line done ++ lines) (printed_by-acts_of writing stages)

pub stages_are_written : StagesAreWritten
stages_are_written = record { files = files_by-acts_of; lines = printed_by-acts_of; count = puts_in-acts_of }
