-- A script: what a run does to the outside, act by act, and what stands of it where it ends, at its end or early.
use Rattle.std.specs.Prelude.{◌≡◌, ◌≤◌, ◌⊎◌, ℕ, suc, List, [], ◌∷◌, length, take, drop, Option}
use Rattle.flame_outside.specs.Files.{Files, with_file, OthersStay}
use Rattle.flame_outside.specs.Devices.{SeenDepot, SeenSink}
use Rattle.flame_outside.specs.Printed.{with_bytes}
use Rattle.flame_outside.specs.Frames.{NeverFall, StaysCalm, Grows}
use Rattle.flame_outside.specs.Failures.{PutFailed, WriteFailed}

-- one act: these bytes become the file of that name, or a text is printed [own]
pub data Act : Type 0 where
  puts : (name bytes : List ℕ) → Act
  prints : (text : List ℕ) → Act

-- how many of these acts are puts [own]
abbrev pub puts_in : List Act → ℕ
puts_in [] = 0
puts_in (puts name bytes ∷ acts) = suc (puts_in acts)
puts_in (prints text ∷ acts) = puts_in acts

-- what a script acts on: a depot and an output [own]
pub record Outside : Type 0 where
  pub depot : SeenDepot
  pub output : SeenSink

-- this depot with this output [own]
abbrev pub outside : SeenDepot → SeenSink → Outside
outside depot output = record { depot = depot; output = output }

-- what the outside tells of its files and of its output [own]
pub record Told : Type 0 where
  pub files : Option Files
  pub written : Option (List ℕ)

-- what is told of both [own]
abbrev pub told : Outside → Told
told out = record { files = out.depot.files; written = out.output.written }

-- what is told once an act stands whole [own]
abbrev pub after_act : Act → Told → Told
after_act (puts name bytes) was = record was { files = with_file name bytes was.files }
after_act (prints text) was = record was { written = with_bytes text was.written }

-- what is told once all these acts stand whole, in their order [own]
abbrev pub after_acts : List Act → Told → Told
after_acts [] was = was
after_acts (act ∷ acts) was = after_acts acts (after_act act was)

-- all these acts stand whole, and nothing else changed [own]
abbrev pub StandsWhole : List Act → Outside → Outside → Type 0
StandsWhole acts old new = told new ≡ after_acts acts (told old)

-- where a put failed, its name alone is in doubt: no file, the file before, or any bytes [own]
pub record InDoubt (name : List ℕ) (stood : Told) (old new : Outside) : Type 0 where
  pub failed : PutFailed old.depot new.depot
  pub others : OthersStay name stood.files new.depot.files
  pub output : new.output.written ≡ stood.written

-- where a write failed, a front of its text was printed [own]
pub record InPart (text : List ℕ) (stood : Told) (old new : Outside) : Type 0 where
  pub failed : WriteFailed old.output new.output
  pub count : ℕ
  pub output : new.output.written ≡ with_bytes (take count text) stood.written
  pub files : new.depot.files ≡ stood.files

-- of the first of these acts a part stands, and nothing of those behind it [own]
abbrev pub BreaksOff : List Act → Told → Outside → Outside → Type 0
BreaksOff [] stood old new = ⊥
BreaksOff (puts name bytes ∷ acts) stood old new = InDoubt name stood old new
BreaksOff (prints text ∷ acts) stood old new = InPart text stood old new

-- the first acts, so many, stand whole; of the next one nothing stands, or its device failed and a part does [own]
pub record StandsAt (acts : List Act) (done : ℕ) (old new : Outside) : Type 0 where
  pub few : done ≤ length acts
  pub stands :
      (told new ≡ after_acts (take done acts) (told old))
      ⊎ BreaksOff (drop done acts) (after_acts (take done acts) (told old)) old new

-- the device of an act failed [own]
abbrev pub Failed : Act → Outside → Outside → Type 0
Failed (puts name bytes) old new = PutFailed old.depot new.depot
Failed (prints text) old new = WriteFailed old.output new.output

-- behind the first acts, so many, this act comes next, and its device failed [own]
pub record FailsAt (acts : List Act) (done : ℕ) (act : Act) (old new : Outside) : Type 0 where
  pub rest : List Act
  pub next : drop done acts ≡ act ∷ rest
  pub failed : Failed act old new

-- so many of these acts stand, and among them so many files were put [own]
pub record HasDone (acts : List Act) (done files : ℕ) (old new : Outside) : Type 0 where
  pub stands : StandsAt acts done old new
  pub count : files ≡ puts_in (take done acts)

-- the next act puts the file of this name, and the put failed [own]
pub record FailsAtFile (name : List ℕ) (acts : List Act) (done : ℕ) (old new : Outside) : Type 0 where
  pub bytes : List ℕ
  pub fails : FailsAt acts done (puts name bytes) old new

-- the next act prints, and the write failed [own]
pub record FailsAtOutput (acts : List Act) (done : ℕ) (old new : Outside) : Type 0 where
  pub text : List ℕ
  pub fails : FailsAt acts done (prints text) old new

-- the outside went on, whatever was done: no count fell, what is calm stayed so, and the output only grew [own]
pub record GoesOn (old new : Outside) : Type 0 where
  pub counts : NeverFall old.depot new.depot
  pub calm : StaysCalm old.depot new.depot
  pub output : Grows old.output new.output
