-- What stands of a report before anything is done, behind reads, and behind inputs.
use Rattle.std.proofs.Common.{◌≡◌, ℕ, List, [], ◌++◌, length, Result, Ok, Err, refl, sym, ap, subst}
use Rattle.std.specs.Prelude.{Contains}
use Rattle.std.proofs.lemmas.List.Elements.{Contains-append_left, Contains-append_right}
use Rattle.flame_outside.specs.Devices.{SeenDepot, SeenSink}
use Rattle.flame_outside.specs.Frames.{OnlyReads}
use Rattle.flame_outside.specs.Failures.{ReadFailed}
use Rattle.flame_outside.specs.Scripts.{Act, puts, prints, Outside, outside, told}
use Rattle.flame_outside.proofs.FrameLemmas.{reads_join, reads_go_on, goes_on_join, read_behind, put_last}
use Rattle.flame_outside.proofs.ScriptLemmas.{nothing_stands, stands_after_reads, fails_after_reads}
use Rattle.flame_load.specs.InputReads.{Reading, known, inputs_behind, answer_behind, ◌>>=◌}
use Rattle.flame_top.specs.declared.ending.Carried.{Carried}
use Rattle.flame_top.specs.declared.ending.Ending.{Ending}
use Rattle.flame_top.specs.declared.ending.Ending.TheVariants.{Done, RefusedWords, Refused, Faulted, ReadFault, FileFault, OutputFault, NoMemory}
use Rattle.flame_top.specs.CallAnswers.{WritesNothing}
use Rattle.flame_top.specs.Reports.{Report, report_or, report_in}
use Rattle.flame_top.specs.InputAnswers.{Stops, StopsReading, IsReadFault}
use Rattle.flame_top.specs.Standing.{Ends, IsWholeEnding, Blames, Stands, ReachesInput, Carries, IsCaused, IsOfInput, Keeps}

-- what holds of an ending before any file holds of an order that ends so
pub before_files :
    (P : Ending → ℕ → Type 0) (carried : Carried) (ending : Ending)
    → carried.ending ≡ ending
    → carried.files ≡ 0
    → P ending 0
    → P carried.ending carried.files
before_files P carried ending same none holds =
    subst (λ (e : Ending). P e carried.files) (sym same) (subst (λ (files : ℕ). P ending files) (sym none) holds)

-- ---- nothing done

-- nothing was put, and nothing printed
pub unchanged :
    (ending : Ending) (report : Report) (old new : Outside)
    → told new ≡ told old
    → Ends ending report
    → (IsWholeEnding ending → 0 ≡ length report.acts)
    → Blames ending report.acts 0 old new
    → Stands ending 0 report old new
unchanged ending report old new same ends whole blames = record {
  done = 0;
  has_done = record { stands = nothing_stands report.acts old new same; count = refl };
  ends = ends;
  whole = whole;
  blames = blames;
}

-- ---- behind reads

module _ (old mid : SeenDepot) (out : SeenSink) (new : Outside) (only : OnlyReads old mid) where
  blames_behind_reads :
      (ending : Ending) (acts : List Act) (done : ℕ)
      → Blames ending acts done (outside mid out) new
      → Blames ending acts done (outside old out) new
  blames_behind_reads Done acts done b = tt
  blames_behind_reads (RefusedWords line) acts done b = tt
  blames_behind_reads (Refused line) acts done b = tt
  blames_behind_reads (Faulted line) acts done b = tt
  blames_behind_reads (ReadFault name) acts done b = tt
  blames_behind_reads (FileFault name) acts done b =
      record { bytes = b.bytes; fails = fails_after_reads acts done (puts name b.bytes) old mid out new only b.fails }
  blames_behind_reads OutputFault acts done b =
      record { text = b.text; fails = fails_after_reads acts done (prints b.text) old mid out new only b.fails }
  blames_behind_reads NoMemory acts done b = tt

  pub stands_behind_reads :
      (ending : Ending) (files : ℕ) (report : Report)
      → Stands ending files report (outside mid out) new
      → Stands ending files report (outside old out) new
  stands_behind_reads ending files report s = record {
    done = s.done;
    has_done = record {
      stands = stands_after_reads report.acts s.done old mid out new only s.has_done.stands;
      count = s.has_done.count;
    };
    ends = s.ends;
    whole = s.whole;
    blames = blames_behind_reads ending report.acts s.done s.blames;
  }

  pub carries_behind_reads :
      (reading : Reading (List ℕ) Report) (ending : Ending) (files : ℕ)
      → Carries reading ending files (outside mid out) new
      → Carries reading ending files (outside old out) new
  carries_behind_reads reading ending files c =
      record { stands = stands_behind_reads ending files (report_in reading) c.stands; reached = c.reached }

  caused_behind_reads : (ending : Ending) → IsCaused ending (outside mid out) new → IsCaused ending (outside old out) new
  caused_behind_reads Done c = tt
  caused_behind_reads (RefusedWords line) c = tt
  caused_behind_reads (Refused line) c = tt
  caused_behind_reads (Faulted line) c = tt
  caused_behind_reads (ReadFault name) c = read_behind old mid new.depot only c
  caused_behind_reads (FileFault name) c =
      put_last old mid new.depot (reads_go_on old mid out only).counts only.calm c
  caused_behind_reads OutputFault c = c
  caused_behind_reads NoMemory c = tt

  read_behind_reads : (files : ℕ) → WritesNothing files (outside mid out) new → WritesNothing files (outside old out) new
  read_behind_reads files r = record {
    puts = record { none = r.puts.none; depot = reads_join old mid new.depot only r.puts.depot };
    output = r.output;
  }

  pub keeps_behind_reads :
      (ending : Ending) (files : ℕ)
      → Keeps ending files (outside mid out) new
      → Keeps ending files (outside old out) new
  keeps_behind_reads ending files k = record {
    caused = caused_behind_reads ending k.caused;
    ordered = k.ordered;
    line = k.line;
    input = λ of_input. read_behind_reads files (k.input of_input);
    goes_on = goes_on_join (outside old out) (outside mid out) new (reads_go_on old mid out only) k.goes_on;
  }

-- ---- an input that gives nothing

module _ {X : Type 0} (reading : Reading (List ℕ) X) (next : X → Reading (List ℕ) Report) (old new : SeenDepot) (out : SeenSink) (only : OnlyReads old new) where
  nothing_told : told (outside new out) ≡ told (outside old out)
  nothing_told = ap (λ files. record { files = files; written = out.written }) only.files

  stands_stopped :
      (ending : Ending)
      → Stops ending reading
      → Stands ending 0 (report_in (reading >>= next)) (outside old out) (outside new out)
  unfolding ◌>>=◌
  stands_stopped Done s = absurd s
  stands_stopped (RefusedWords line) s = absurd s
  stands_stopped (Refused line) s =
      subst (λ (answer : Result X (List ℕ)). Stands (Refused line) 0 (report_or (answer_behind answer next)) (outside old out) (outside new out))
      (sym s)
      (unchanged (Refused line) (report_or (Err line)) (outside old out) (outside new out) nothing_told (refl, refl) (λ w. refl) tt)
  stands_stopped (Faulted line) s = absurd s
  stands_stopped (ReadFault name) s =
      unchanged (ReadFault name) (report_in (reading >>= next)) (outside old out) (outside new out) nothing_told tt (λ w. absurd w) tt
  stands_stopped (FileFault name) s = absurd s
  stands_stopped OutputFault s = absurd s
  stands_stopped NoMemory s =
      unchanged NoMemory (report_in (reading >>= next)) (outside old out) (outside new out) nothing_told tt (λ w. absurd w) tt

  reached_stopped : (ending : Ending) → Stops ending reading → ReachesInput (reading >>= next).inputs ending
  unfolding ◌>>=◌
  reached_stopped Done s = tt
  reached_stopped (RefusedWords line) s = tt
  reached_stopped (Refused line) s = tt
  reached_stopped (Faulted line) s = tt
  reached_stopped (ReadFault name) s = Contains-append_left reading.inputs (inputs_behind reading.answer next) name s
  reached_stopped (FileFault name) s = tt
  reached_stopped OutputFault s = tt
  reached_stopped NoMemory s = tt

  -- a reading that stops before anything is done
  pub carries_stopped :
      (ending : Ending)
      → Stops ending reading
      → Carries (reading >>= next) ending 0 (outside old out) (outside new out)
  carries_stopped ending s = record { stands = stands_stopped ending s; reached = reached_stopped ending s }

-- an ending that only an input comes to
pub keeps_stopped :
    (ending : Ending) (old new : SeenDepot) (out : SeenSink)
    → StopsReading ending
    → (IsReadFault ending → ReadFailed old new)
    → OnlyReads old new
    → Keeps ending 0 (outside old out) (outside new out)
keeps_stopped Done old new out s failed only = absurd s
keeps_stopped (RefusedWords line) old new out s failed only = absurd s
keeps_stopped (Refused line) old new out s failed only = record {
  caused = tt;
  ordered = λ r. absurd r;
  line = s;
  input = λ i. record { puts = record { none = refl; depot = only }; output = refl };
  goes_on = reads_go_on old new out only;
}
keeps_stopped (Faulted line) old new out s failed only = absurd s
keeps_stopped (ReadFault name) old new out s failed only = record {
  caused = failed tt;
  ordered = λ r. absurd r;
  line = tt;
  input = λ i. record { puts = record { none = refl; depot = only }; output = refl };
  goes_on = reads_go_on old new out only;
}
keeps_stopped (FileFault name) old new out s failed only = absurd s
keeps_stopped OutputFault old new out s failed only = absurd s
keeps_stopped NoMemory old new out s failed only = record {
  caused = tt;
  ordered = λ r. absurd r;
  line = tt;
  input = λ i. absurd i;
  goes_on = reads_go_on old new out only;
}

-- ---- inputs that are given

-- a report that is known, and no read is to blame
pub carries_known :
    (report : Report) (ending : Ending) (files : ℕ) (old new : Outside)
    → ¬ IsReadFault ending
    → Stands ending files report old new
    → Carries (known report) ending files old new
carries_known report ending files old new unread s = record { stands = s; reached = none ending unread }
  where
    none : (e : Ending) → ¬ IsReadFault e → ReachesInput [] e
    none Done d = tt
    none (RefusedWords line) d = tt
    none (Refused line) d = tt
    none (Faulted line) d = tt
    none (ReadFault name) d = absurd (d tt)
    none (FileFault name) d = tt
    none OutputFault d = tt
    none NoMemory d = tt

-- a fault of a read is an ending that an input comes to
pub read_is_of_input : (ending : Ending) → IsReadFault ending → IsOfInput ending
read_is_of_input Done r = r
read_is_of_input (RefusedWords line) r = r
read_is_of_input (Refused line) r = absurd r
read_is_of_input (Faulted line) r = r
read_is_of_input (ReadFault name) r = tt
read_is_of_input (FileFault name) r = r
read_is_of_input OutputFault r = r
read_is_of_input NoMemory r = r

-- behind a reading that gives x, what comes behind x is carried out
pub carries_next :
    {X : Type 0} (reading : Reading (List ℕ) X) (next : X → Reading (List ℕ) Report) (x : X) (ending : Ending) (files : ℕ) (old new : Outside)
    → reading.answer ≡ Ok x
    → Carries (next x) ending files old new
    → Carries (reading >>= next) ending files old new
unfolding ◌>>=◌
carries_next {X = X} reading next x ending files old new given c = record {
  stands =
      subst (λ (answer : Result X (List ℕ)). Stands ending files (report_or (answer_behind answer next)) old new)
      (sym given) c.stands;
  reached = reaches ending c.reached;
}
  where
    later : (name : List ℕ) → Contains (next x).inputs name → Contains (reading.inputs ++ inputs_behind reading.answer next) name
    later name there =
        Contains-append_right reading.inputs (inputs_behind reading.answer next) name
        (subst (λ (answer : Result X (List ℕ)). Contains (inputs_behind answer next) name) (sym given) there)

    reaches : (e : Ending) → ReachesInput (next x).inputs e → ReachesInput (reading.inputs ++ inputs_behind reading.answer next) e
    reaches Done r = tt
    reaches (RefusedWords line) r = tt
    reaches (Refused line) r = tt
    reaches (Faulted line) r = tt
    reaches (ReadFault name) r = later name r
    reaches (FileFault name) r = tt
    reaches OutputFault r = tt
    reaches NoMemory r = tt

-- behind an input that was read and gives x
pub carries_given :
    {X : Type 0} (reading : Reading (List ℕ) X) (next : X → Reading (List ℕ) Report) (x : X) (ending : Ending) (files : ℕ)
    (old mid : SeenDepot) (out : SeenSink) (new : Outside)
    → OnlyReads old mid
    → reading.answer ≡ Ok x
    → Carries (next x) ending files (outside mid out) new
    → Carries (reading >>= next) ending files (outside old out) new
carries_given reading next x ending files old mid out new only given c =
    carries_behind_reads old mid out new only (reading >>= next) ending files
    (carries_next reading next x ending files (outside mid out) new given c)
