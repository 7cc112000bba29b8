-- A script in plain words: the files that it puts, the text that it prints, and what is told of them where it stands.
use Rattle.std.specs.Prelude.{◌≡◌, ◌≢◌, ℕ, List, [], ◌∷◌, ◌++◌, take, drop, Option}
use Rattle.flame_outside.specs.Files.{Files, with_file, told_at}
use Rattle.flame_outside.specs.Printed.{Prints, PrintsFront}
use Rattle.flame_outside.specs.Failures.{PutFailed}
use Rattle.flame_outside.specs.Scripts.{Act, puts, prints, puts_in, Outside, StandsWhole, StandsAt}

-- the files that are put, each with its name, in their order [own]
abbrev pub files_by : List Act → List (List ℕ × List ℕ)
files_by [] = []
files_by (puts name bytes ∷ acts) = (name, bytes) ∷ files_by acts
files_by (prints text ∷ acts) = files_by acts

-- all texts that are printed, one after another [own]
abbrev pub printed_by : List Act → List ℕ
printed_by [] = []
printed_by (puts name bytes ∷ acts) = printed_by acts
printed_by (prints text ∷ acts) = text ++ printed_by acts

-- what is told, with these files set one after another [own]
abbrev pub with_files : List (List ℕ × List ℕ) → Option Files → Option Files
with_files [] told = told
with_files (file ∷ files) told = with_files files (with_file file.0 file.1 told)

-- a script that stands whole has set all its files and no other name, and printed all its text [own]
pub record WholeIsTold : Type 0 where
  pub files :
      (acts : List Act) (old new : Outside)
      → StandsWhole acts old new
      → new.depot.files ≡ with_files (files_by acts) old.depot.files
  pub output :
      (acts : List Act) (old new : Outside)
      → StandsWhole acts old new
      → Prints (printed_by acts) old.output new.output

-- where some acts stand, the first files stand, as many as puts among those acts; every other name is as it was, but that
-- of the act that comes next where its put failed; and a front of the text is printed [own]
pub record FirstIsTold : Type 0 where
  pub files :
      (acts : List Act) (done : ℕ) (old new : Outside)
      → StandsAt acts done old new
      → ¬ PutFailed old.depot new.depot
      → new.depot.files ≡ with_files (take (puts_in (take done acts)) (files_by acts)) old.depot.files
  pub other_names :
      (acts : List Act) (done : ℕ) (old new : Outside) (name : List ℕ)
      → StandsAt acts done old new
      → ((bytes : List ℕ) (rest : List Act) → drop done acts ≢ puts name bytes ∷ rest)
      → told_at new.depot.files name
      ≡ told_at (with_files (take (puts_in (take done acts)) (files_by acts)) old.depot.files) name
  pub output :
      (acts : List Act) (done : ℕ) (old new : Outside)
      → StandsAt acts done old new
      → PrintsFront (printed_by acts) old.output new.output
