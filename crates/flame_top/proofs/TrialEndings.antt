-- How a trial ends, whose run was written to a depot of its own that never fails.
use Rattle.std.proofs.Common.{◌≡◌, ℕ, zero, suc, ◌+◌, ◌==◌, Bool, true, false, if◌then◌else◌, List, [], ◌∷◌, ◌++◌, length, take, Some, refl, sym, ap, ◌∙◌, subst, arith, add-zero, append-nil, le_refl, true≢false}
use Rattle.std.specs.Prelude.{IsTrue}
use Rattle.std.specs.FinMap.{empty}
use Rattle.std.proofs.lemmas.List.{take_all}
use Rattle.flame_outside.specs.Devices.{SeenDepot, SeenSink}
use Rattle.flame_outside.specs.Memory.{DepotInMemory, seen_depot, total_of}
use Rattle.flame_outside.specs.Frames.{Grows}
use Rattle.flame_outside.specs.Scripts.{Act, puts, prints, puts_in, outside, told, StandsWhole, StandsAt, GoesOn}
use Rattle.flame_outside.specs.WhatIsTold.{files_by, with_files}
use Rattle.flame_outside.proofs.FrameLemmas.{puts_same, puts_go_on, reads_same, write_last, grows_join}
use Rattle.flame_outside.proofs.ScriptLemmas.{puts_in-append, whole_join, all_stand, stands_all, print_stands, failed_print, first_of_two, first_fails, second_of_two, second_fails}
use Rattle.flame_outside.proofs.TellingLemmas.{whole_is_told}
use Rattle.flame_top.specs.declared.ending.Ending.{Ending}
use Rattle.flame_top.specs.declared.ending.Ending.TheVariants.{Done, RefusedWords, Refused, Faulted, ReadFault, FileFault, OutputFault, NoMemory}
use Rattle.flame_top.specs.Reports.{Report}
use Rattle.flame_top.specs.OrderReports.{bytes_of, prints_of, bytes_line, bytes_told, trial_of}
use Rattle.flame_top.specs.Standing.{Ends, IsWholeEnding, Blames, Stands, IsCaused, IsOfInput, RefusesWords, TellsLine, Keeps}
use Rattle.flame_top.specs.Printing.{EndsPrint}
use Rattle.flame_top.specs.TrialAnswers.{total_line, EndsTrial}
use Rattle.flame_top.proofs.FileTotals.{NamesStandOnce, total_of-files}
use Rattle.flame_top.proofs.PrintedScripts.{printed, stands_beside, whole_beside, fails_beside}

-- ---- the acts of a trial

told_none : (bytes : ℕ) (b : Bool) → puts_in (if b then prints (total_line bytes) ∷ [] else []) ≡ 0
told_none bytes true = refl
told_none bytes false = refl

puts_in-prints_of : (acts : List Act) → puts_in (prints_of acts) ≡ 0
puts_in-prints_of [] = refl
puts_in-prints_of (puts name bytes ∷ acts) = puts_in-prints_of acts
puts_in-prints_of (prints text ∷ acts) = puts_in-prints_of acts

puts_in-trial_of : (report : Report) → puts_in (trial_of report).acts ≡ 0
puts_in-trial_of report =
    puts_in-append (prints_of report.acts) (bytes_told report)
    ∙ ap (λ n. n + puts_in (bytes_told report)) (puts_in-prints_of report.acts)
    ∙ ap (λ n. 0 + n) (told_none (bytes_of (files_by report.acts)) (report.status == 0))
    ∙ add-zero 0

none_in_front : (done : ℕ) (acts : List Act) → puts_in acts ≡ 0 → puts_in (take done acts) ≡ 0
none_in_front zero acts none = refl
none_in_front (suc done) [] none = refl
none_in_front (suc done) (puts name bytes ∷ acts) none = absurd (omega (arith, none))
none_in_front (suc done) (prints text ∷ acts) none = none_in_front done acts none

no_puts : (report : Report) (done : ℕ) → 0 ≡ puts_in (take done (trial_of report).acts)
no_puts report done = sym (none_in_front done (trial_of report).acts (puts_in-trial_of report))

bytes_are_told : (report : Report) → report.status ≡ 0 → bytes_told report ≡ prints (bytes_line report.acts) ∷ []
bytes_are_told report is =
    ap (λ status. if status == 0 then prints (bytes_line report.acts) ∷ [] else []) is

nothing_told : (report : Report) (status : ℕ) → (status == 0) ≡ false → report.status ≡ status → bytes_told report ≡ []
nothing_told report status other is =
    ap (λ n. if n == 0 then prints (bytes_line report.acts) ∷ [] else []) is
    ∙ ap (λ b. if b then prints (bytes_line report.acts) ∷ [] else []) other

-- ---- where the run was not carried out

-- the ending is not that of a run that was carried out
abbrev IsNotDone : Ending → Type 0
IsNotDone Done = ⊥
IsNotDone ending = Unit {0}

untold_by : (ending : Ending) (report : Report) → IsNotDone ending → IsWholeEnding ending → Ends ending report → bytes_told report ≡ []
untold_by Done report n w e = absurd n
untold_by (Refused line) report n w e = nothing_told report 1 refl e.0
untold_by (RefusedWords line) report n w e = nothing_told report 2 refl e.0
untold_by (Faulted line) report n w e = nothing_told report 3 refl e.0
untold_by (ReadFault name) report n w e = absurd w
untold_by (FileFault name) report n w e = absurd w
untold_by OutputFault report n w e = absurd w
untold_by NoMemory report n w e = absurd w

ends_alike : (ending : Ending) (report : Report) → Ends ending report → Ends ending (trial_of report)
ends_alike Done report e = e
ends_alike (Refused line) report e = e
ends_alike (RefusedWords line) report e = e
ends_alike (Faulted line) report e = e
ends_alike (ReadFault name) report e = tt
ends_alike (FileFault name) report e = tt
ends_alike OutputFault report e = tt
ends_alike NoMemory report e = tt

module _ (report : Report) (own own' depot : SeenDepot) (out out' : SeenSink) (calm : IsTrue own.calm) where
  abbrev count : ℕ → ℕ
  count = printed report.acts own own' depot out out'

  all_printed :
      (ending : Ending) (done : ℕ)
      → IsNotDone ending
      → Ends ending report
      → IsWholeEnding ending
      → done ≡ length report.acts
      → count done ≡ length (trial_of report).acts
  all_printed ending done n e w all =
      ap count all
      ∙ ap (λ acts. length (prints_of acts)) (take_all (length report.acts) report.acts (le_refl (length report.acts)))
      ∙ ap length (sym (append-nil (prints_of report.acts)))
      ∙ ap (λ more. length (prints_of report.acts ++ more)) (sym (untold_by ending report n w e))

  blames_beside :
      (ending : Ending) (done : ℕ)
      → Blames ending report.acts done (outside own out) (outside own' out')
      → Blames ending (trial_of report).acts (count done) (outside depot out) (outside depot out')
  blames_beside Done done b = tt
  blames_beside (Refused line) done b = tt
  blames_beside (RefusedWords line) done b = tt
  blames_beside (Faulted line) done b = tt
  blames_beside (ReadFault name) done b = tt
  blames_beside (FileFault name) done b = absurd (true≢false (sym calm ∙ b.fails.failed.not_calm))
  blames_beside OutputFault done b =
      let f = fails_beside report.acts own own' depot out out' done b in
      record {
        text = f.text;
        fails =
            first_fails (prints_of report.acts) (bytes_told report) (count done) (prints f.text)
            (outside depot out) (outside depot out') f.fails;
      }
  blames_beside NoMemory done b = tt

  -- a trial ends as its run, where that was not carried out
  stops_beside :
      (ending : Ending) (files : ℕ)
      → IsNotDone ending
      → Stands ending files report (outside own out) (outside own' out')
      → Stands ending 0 (trial_of report) (outside depot out) (outside depot out')
  stops_beside ending files n s = record {
    done = count s.done;
    has_done = record {
      stands =
          first_of_two (prints_of report.acts) (bytes_told report) (count s.done)
          (outside depot out) (outside depot out')
          (stands_beside report.acts own own' depot out out' s.done calm s.has_done.stands);
      count = no_puts report (count s.done);
    };
    ends = ends_alike ending report s.ends;
    whole = λ w. all_printed ending s.done n s.ends w (s.whole w);
    blames = blames_beside ending s.done s.blames;
  }

  caused_beside :
      (ending : Ending)
      → IsCaused ending (outside own out) (outside own' out')
      → IsCaused ending (outside depot out) (outside depot out')
  caused_beside Done c = tt
  caused_beside (Refused line) c = tt
  caused_beside (RefusedWords line) c = tt
  caused_beside (Faulted line) c = tt
  caused_beside (ReadFault name) c = absurd (true≢false (sym calm ∙ c.not_calm))
  caused_beside (FileFault name) c = absurd (true≢false (sym calm ∙ c.not_calm))
  caused_beside OutputFault c = c
  caused_beside NoMemory c = tt

  goes_beside : Grows out out' → GoesOn (outside depot out) (outside depot out')
  goes_beside = puts_go_on depot depot out out' (puts_same depot)

  keeps_beside :
      (ending : Ending) (files : ℕ)
      → Keeps ending files (outside own out) (outside own' out')
      → Keeps ending 0 (outside depot out) (outside depot out')
  keeps_beside ending files k = record {
    caused = caused_beside ending k.caused;
    ordered = k.ordered;
    line = k.line;
    input = λ i. record {
      puts = record { none = refl; depot = reads_same depot };
      output = (k.input i).output;
    };
    goes_on = goes_beside k.goes_on.output;
  }

-- ---- where the run was carried out

-- the bytes of a depot in which all acts stand, and nothing stood before
total_by :
    (acts : List Act) (own : SeenDepot) (after : DepotInMemory) (out out' : SeenSink)
    → own.files ≡ Some empty
    → NamesStandOnce (files_by acts)
    → StandsWhole acts (outside own out) (outside (seen_depot after) out')
    → total_of after.files ≡ bytes_of (files_by acts)
total_by acts own after out out' none names whole =
    total_of-files (files_by acts) after.files names
    (sym (whole_is_told.files acts (outside own out) (outside (seen_depot after) out') whole
    ∙ ap (with_files (files_by acts)) none))

module _ (report : Report) (own : SeenDepot) (after : DepotInMemory) (depot : SeenDepot) (out out' out'' : SeenSink) (none : own.files ≡ Some empty) (names : NamesStandOnce (files_by report.acts)) (files : ℕ) (s : Stands Done files report (outside own out) (outside (seen_depot after) out')) (grows : Grows out out') where
  abbrev last : Act
  last = prints (bytes_line report.acts)

  whole : StandsWhole report.acts (outside own out) (outside (seen_depot after) out')
  whole =
      stands_all report.acts (outside own out) (outside (seen_depot after) out')
      (subst (λ done. StandsAt report.acts done (outside own out) (outside (seen_depot after) out')) (s.whole tt)
      s.has_done.stands)

  lines : StandsWhole (prints_of report.acts) (outside depot out) (outside depot out')
  lines = whole_beside report.acts own (seen_depot after) depot out out' whole

  goes : GoesOn (outside depot out) (outside depot out')
  goes = puts_go_on depot depot out out' (puts_same depot) grows

  acts_are : prints_of report.acts ++ (last ∷ []) ≡ (trial_of report).acts
  acts_are = ap (λ more. prints_of report.acts ++ more) (sym (bytes_are_told report s.ends.0))

  line_is : total_line (total_of after.files) ≡ bytes_line report.acts
  line_is = ap total_line (total_by report.acts own after out out' none names whole)

  -- of the acts with the last line so many stand
  ends_at :
      (ending : Ending) (done : ℕ)
      → StandsAt (prints_of report.acts ++ (last ∷ [])) done (outside depot out) (outside depot out'')
      → Ends ending report
      → (IsWholeEnding ending → done ≡ length (prints_of report.acts ++ (last ∷ [])))
      → Blames ending (prints_of report.acts ++ (last ∷ [])) done (outside depot out) (outside depot out'')
      → Stands ending 0 (trial_of report) (outside depot out) (outside depot out'')
  ends_at ending done stands e w b = record {
    done = done;
    has_done = record {
      stands = subst (λ acts. StandsAt acts done (outside depot out) (outside depot out'')) acts_are stands;
      count = no_puts report done;
    };
    ends = ends_alike ending report e;
    whole = λ h. w h ∙ ap length acts_are;
    blames = subst (λ acts. Blames ending acts done (outside depot out) (outside depot out'')) acts_are b;
  }

  by_line :
      (ending : Ending)
      → EndsPrint (bytes_line report.acts) out' out'' ending
      → Stands ending 0 (trial_of report) (outside depot out) (outside depot out'')
  by_line Done printed =
      ends_at Done (length (prints_of report.acts ++ (last ∷ [])))
      (all_stand (prints_of report.acts ++ (last ∷ [])) (outside depot out) (outside depot out'')
      (whole_join (prints_of report.acts) (last ∷ []) (outside depot out) (outside depot out') (outside depot out'')
      lines (print_stands (bytes_line report.acts) depot out' out'' printed)))
      s.ends (λ w. refl) tt
  by_line OutputFault stops =
      ends_at OutputFault (length (prints_of report.acts) + 0)
      (second_of_two (prints_of report.acts) (last ∷ []) 0 (outside depot out) (outside depot out') (outside depot out'')
      lines goes (failed_print (bytes_line report.acts) [] depot out' out'' stops.1 stops.2))
      tt (λ w. absurd w)
      (record {
        text = bytes_line report.acts;
        fails =
            second_fails (prints_of report.acts) (last ∷ []) 0 last
            (outside depot out) (outside depot out') (outside depot out'') goes
            (record { rest = []; next = refl; failed = stops.1 });
      })
  by_line NoMemory same =
      ends_at NoMemory (length (prints_of report.acts))
      (first_of_two (prints_of report.acts) (last ∷ []) (length (prints_of report.acts))
      (outside depot out) (outside depot out'')
      (all_stand (prints_of report.acts) (outside depot out) (outside depot out'')
      (ap (λ (output : SeenSink). told (outside depot output)) same ∙ lines)))
      tt (λ w. absurd w) tt
  by_line (Refused line) stops = absurd stops
  by_line (RefusedWords line) stops = absurd stops
  by_line (Faulted line) stops = absurd stops
  by_line (ReadFault name) stops = absurd stops
  by_line (FileFault name) stops = absurd stops

  -- a trial whose run was carried out ends as its last line is printed
  ends_beside :
      (ending : Ending)
      → EndsPrint (total_line (total_of after.files)) out' out'' ending
      → Stands ending 0 (trial_of report) (outside depot out) (outside depot out'')
  ends_beside ending printed =
      by_line ending (subst (λ line. EndsPrint line out' out'' ending) line_is printed)

-- ---- what holds behind the last line

not_of_input :
    (ending : Ending) (text : List ℕ) (old new : SeenSink) → EndsPrint text old new ending → ¬ IsOfInput ending
not_of_input Done text old new p i = i
not_of_input OutputFault text old new p i = i
not_of_input NoMemory text old new p i = i
not_of_input (Refused line) text old new p i = p
not_of_input (RefusedWords line) text old new p i = p
not_of_input (Faulted line) text old new p i = p
not_of_input (ReadFault name) text old new p i = p
not_of_input (FileFault name) text old new p i = p

not_of_words :
    (ending : Ending) (text : List ℕ) (old new : SeenSink) → EndsPrint text old new ending → ¬ RefusesWords ending
not_of_words Done text old new p r = r
not_of_words OutputFault text old new p r = r
not_of_words NoMemory text old new p r = r
not_of_words (Refused line) text old new p r = p
not_of_words (RefusedWords line) text old new p r = p
not_of_words (Faulted line) text old new p r = p
not_of_words (ReadFault name) text old new p r = p
not_of_words (FileFault name) text old new p r = p

tells_line :
    (ending : Ending) (text : List ℕ) (old new : SeenSink) → EndsPrint text old new ending → TellsLine ending
tells_line Done text old new p = tt
tells_line OutputFault text old new p = tt
tells_line NoMemory text old new p = tt
tells_line (Refused line) text old new p = absurd p
tells_line (RefusedWords line) text old new p = absurd p
tells_line (Faulted line) text old new p = absurd p
tells_line (ReadFault name) text old new p = tt
tells_line (FileFault name) text old new p = tt

caused_behind :
    (ending : Ending) (text : List ℕ) (depot : SeenDepot) (old mid new : SeenSink)
    → Grows old mid
    → EndsPrint text mid new ending
    → IsCaused ending (outside depot old) (outside depot new)
caused_behind Done text depot old mid new grows p = tt
caused_behind OutputFault text depot old mid new grows p = write_last old mid new grows p.1
caused_behind NoMemory text depot old mid new grows p = tt
caused_behind (Refused line) text depot old mid new grows p = tt
caused_behind (RefusedWords line) text depot old mid new grows p = tt
caused_behind (Faulted line) text depot old mid new grows p = tt
caused_behind (ReadFault name) text depot old mid new grows p = absurd p
caused_behind (FileFault name) text depot old mid new grows p = absurd p

-- where the last line is printed, or stops
keeps_behind :
    (ending : Ending) (text : List ℕ) (depot : SeenDepot) (old mid new : SeenSink)
    → Grows old mid
    → Grows mid new
    → EndsPrint text mid new ending
    → Keeps ending 0 (outside depot old) (outside depot new)
keeps_behind ending text depot old mid new first then_grows p = record {
  caused = caused_behind ending text depot old mid new first p;
  ordered = not_of_words ending text mid new p;
  line = tells_line ending text mid new p;
  input = λ i. absurd (not_of_input ending text mid new p i);
  goes_on = puts_go_on depot depot old new (puts_same depot) (grows_join old mid new first then_grows);
}

-- ---- a trial as its run ended

-- the run of this report went to the depot `own`, which never fails and held no file, and it ended so
module _
    (report : Report)
    (own : SeenDepot)
    (after : DepotInMemory)
    (depot : SeenDepot)
    (out out' out'' : SeenSink)
    (calm : IsTrue own.calm)
    (text : List ℕ)
    (ending : Ending)
    (last : Grows out' out'') where
  abbrev IsSame : Ending → Type 0
  IsSame ended = (ending ≡ ended) × (out'' ≡ out')

  abbrev StandsBy : Ending → SeenSink → Type 0
  StandsBy e sink = Stands e 0 (trial_of report) (outside depot out) (outside depot sink)

  abbrev KeepsBy : Ending → SeenSink → Type 0
  KeepsBy e sink = Keeps e 0 (outside depot out) (outside depot sink)

  moved : (P : Ending → SeenSink → Type 0) (ended : Ending) → IsSame ended → P ended out' → P ending out''
  moved P ended same p =
      subst (λ (e : Ending). P e out'') (sym same.0) (subst (λ (sink : SeenSink). P ended sink) (sym same.1) p)

  pub trial_keeps :
      (ended : Ending) (files : ℕ)
      → Keeps ended files (outside own out) (outside (seen_depot after) out')
      → EndsTrial ended text out' out'' ending
      → Keeps ending 0 (outside depot out) (outside depot out'')
  trial_keeps Done files k e = keeps_behind ending text depot out out' out'' k.goes_on.output last e
  trial_keeps (Refused line) files k e =
      moved KeepsBy (Refused line) e (keeps_beside report own (seen_depot after) depot out out' calm (Refused line) files k)
  trial_keeps (RefusedWords line) files k e = absurd (k.ordered tt)
  trial_keeps (Faulted line) files k e =
      moved KeepsBy (Faulted line) e (keeps_beside report own (seen_depot after) depot out out' calm (Faulted line) files k)
  trial_keeps (ReadFault name) files k e = absurd (true≢false (sym calm ∙ k.caused.not_calm))
  trial_keeps (FileFault name) files k e = absurd (true≢false (sym calm ∙ k.caused.not_calm))
  trial_keeps OutputFault files k e =
      moved KeepsBy OutputFault e (keeps_beside report own (seen_depot after) depot out out' calm OutputFault files k)
  trial_keeps NoMemory files k e =
      moved KeepsBy NoMemory e (keeps_beside report own (seen_depot after) depot out out' calm NoMemory files k)

  stopped :
      (ended : Ending) (files : ℕ)
      → IsNotDone ended
      → IsSame ended
      → Stands ended files report (outside own out) (outside (seen_depot after) out')
      → StandsBy ending out''
  stopped ended files n same s =
      moved StandsBy ended same (stops_beside report own (seen_depot after) depot out out' calm ended files n s)

pub trial_stands :
    (report : Report) (own : SeenDepot) (after : DepotInMemory) (depot : SeenDepot) (out out' out'' : SeenSink)
    (ended ending : Ending) (files : ℕ)
    → IsTrue own.calm
    → own.files ≡ Some empty
    → NamesStandOnce (files_by report.acts)
    → Grows out out'
    → Grows out' out''
    → Stands ended files report (outside own out) (outside (seen_depot after) out')
    → EndsTrial ended (total_line (total_of after.files)) out' out'' ending
    → Stands ending 0 (trial_of report) (outside depot out) (outside depot out'')
trial_stands report own after depot out out' out'' ended ending files calm none names first last =
    by ended
  where
    text : List ℕ
    text = total_line (total_of after.files)

    by :
        (ended : Ending)
        → Stands ended files report (outside own out) (outside (seen_depot after) out')
        → EndsTrial ended (total_line (total_of after.files)) out' out'' ending
        → Stands ending 0 (trial_of report) (outside depot out) (outside depot out'')
    by Done s e = ends_beside report own after depot out out' out'' none names files s first ending e
    by (Refused line) s e =
        stopped report own after depot out out' out'' calm text ending last (Refused line) files tt e s
    by (RefusedWords line) s e =
        stopped report own after depot out out' out'' calm text ending last (RefusedWords line) files tt e s
    by (Faulted line) s e =
        stopped report own after depot out out' out'' calm text ending last (Faulted line) files tt e s
    by (ReadFault name) s e =
        stopped report own after depot out out' out'' calm text ending last (ReadFault name) files tt e s
    by (FileFault name) s e =
        stopped report own after depot out out' out'' calm text ending last (FileFault name) files tt e s
    by OutputFault s e =
        stopped report own after depot out out' out'' calm text ending last OutputFault files tt e s
    by NoMemory s e =
        stopped report own after depot out out' out'' calm text ending last NoMemory files tt e s
