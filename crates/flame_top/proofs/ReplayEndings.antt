-- The verdict on a trace, as it is told.
use Rattle.std.proofs.Common.{◌≡◌, ◌⊎◌, inl, inr, ℕ, List, [], codes, Result, Ok, Err, refl, sym, ap, ◌∙◌, subst}
use Rattle.std.specs.Prelude.{Contains, IfOk, false}
use Rattle.std.proofs.lemmas.List.Elements.{Contains-push}
use Rattle.flame_outside.specs.declared.depot.ReadFail.{ReadFail}
use Rattle.flame_outside.specs.declared.depot.ReadFail.TheVariants as read
use Rattle.flame_outside.specs.Files.{Files}
use Rattle.flame_outside.specs.Devices.{SeenDepot, SeenSink}
use Rattle.flame_outside.specs.Frames.{Grows}
use Rattle.flame_outside.specs.Scripts.{outside, told}
use Rattle.flame_outside.proofs.FrameLemmas.{reads_same, puts_same, puts_go_on}
use Rattle.flame_world.specs.declared.verdicts.Verdict.{Verdict}
use Rattle.flame_world.specs.declared.verdicts.Verdict.TheVariants.{Yes, Form, OtherStart, Illegal, Incomplete, OtherEnd}
use Rattle.flame_world.specs.Verdicts.{is_yes}
use Rattle.flame_report.specs.FaultLines.{trace_line}
use Rattle.flame_load.specs.declared.faults.FileFault.{FileFault}
use Rattle.flame_load.specs.FileReads.{file_in}
use Rattle.flame_load.specs.InputReads.{found_or, refused}
use Rattle.flame_top.specs.declared.ending.Ending.{Ending}
use Rattle.flame_top.specs.declared.ending.Ending.TheVariants.{Done, RefusedWords, Refused, Faulted, ReadFault, OutputFault, NoMemory}
use Rattle.flame_top.specs.declared.ending.Ending.TheVariants.{FileFault as OfFile}
use Rattle.flame_top.specs.InputAnswers.{Stops, StopsReading, IsReadFault, IsFileEnding, IsReadEnding, line_ending}
use Rattle.flame_top.specs.OrderReports.{trace_read}
use Rattle.flame_top.specs.RefusalLines.{file_fault_line, answer_told}
use Rattle.flame_top.specs.Reports.{carried_out, printing, refusal}
use Rattle.flame_top.specs.Standing.{IsLine, Carries, Keeps}
use Rattle.flame_top.specs.TraceAnswers.{IsEnding, EndsUnprinted, EndsReplay}
use Rattle.flame_top.specs.TraceReports.{events_line, trace_limit, replayed}
use Rattle.flame_top.proofs.PrintedTexts.{text_stands, text_keeps, text_is_driven}
use Rattle.flame_top.proofs.ReportLines.{trace_is_line}
use Rattle.flame_top.proofs.Standings.{unchanged, carries_known, read_is_of_input}

-- ---- the file of the trace

-- what the file is not stops the reading by its line
pub file_stops :
    (told : Files) (name : List ℕ) (fault : FileFault) (ending : Ending)
    → file_in told trace_limit name ≡ Err fault
    → IsFileEnding name fault ending
    → Stops ending (trace_read told name)
file_stops told name fault Done found is = absurd is
file_stops told name fault (RefusedWords line) found is = absurd is
file_stops told name fault (Refused line) found is =
    ap (λ (f : Result (List ℕ) FileFault). answer_told (file_fault_line name) (found_or (λ (fail : FileFault). fail) f)) found ∙ ap Err (sym is)
file_stops told name fault (Faulted line) found is = absurd is
file_stops told name fault (ReadFault file) found is = absurd is
file_stops told name fault (OfFile file) found is = absurd is
file_stops told name fault OutputFault found is = absurd is
file_stops told name fault NoMemory found is = tt

-- the bytes that are found are given
pub file_gives :
    (told : Files) (name bytes : List ℕ)
    → file_in told trace_limit name ≡ Ok bytes
    → (trace_read told name).answer ≡ Ok bytes
file_gives told name bytes found =
    ap (λ (f : Result (List ℕ) FileFault). answer_told (file_fault_line name) (found_or (λ (fail : FileFault). fail) f)) found

-- a read that failed names the one input
pub read_stops :
    (told : Files) (name : List ℕ) (fail : ReadFail) (ending : Ending)
    → IsReadEnding name fail ending
    → Stops ending (trace_read told name)
read_stops told name fail Done is = absurd is
read_stops told name fail (RefusedWords line) is = absurd is
read_stops told name fail (Refused line) is = absurd is
read_stops told name fail (Faulted line) is = absurd is
read_stops told name read.Failed (ReadFault file) is =
    subst (Contains (trace_read told name).inputs) (sym is) (Contains-push [] name)
read_stops told name read.NoMemory (ReadFault file) is = absurd is
read_stops told name fail (OfFile file) is = absurd is
read_stops told name fail OutputFault is = absurd is
read_stops told name fail NoMemory is = tt

pub read_is_stopped : (name : List ℕ) (fail : ReadFail) (ending : Ending) → IsReadEnding name fail ending → StopsReading ending
read_is_stopped name fail Done is = absurd is
read_is_stopped name fail (RefusedWords line) is = absurd is
read_is_stopped name fail (Refused line) is = absurd is
read_is_stopped name fail (Faulted line) is = absurd is
read_is_stopped name fail (ReadFault file) is = tt
read_is_stopped name fail (OfFile file) is = absurd is
read_is_stopped name fail OutputFault is = absurd is
read_is_stopped name fail NoMemory is = tt

-- only a read that failed is told so
pub read_is_failed : (name : List ℕ) (fail : ReadFail) (ending : Ending) → IsReadEnding name fail ending → IsReadFault ending → fail ≡ read.Failed
read_is_failed name fail Done is of = absurd of
read_is_failed name fail (RefusedWords line) is of = absurd of
read_is_failed name fail (Refused line) is of = absurd of
read_is_failed name fail (Faulted line) is of = absurd of
read_is_failed name read.Failed (ReadFault file) is of = refl
read_is_failed name read.NoMemory (ReadFault file) is of = absurd is
read_is_failed name fail (OfFile file) is of = absurd of
read_is_failed name fail OutputFault is of = absurd of
read_is_failed name fail NoMemory is of = absurd of

pub file_is_read : (name : List ℕ) (fault : FileFault) (ending : Ending) → IsFileEnding name fault ending → ¬ IsReadFault ending
file_is_read name fault Done is = λ of. of
file_is_read name fault (RefusedWords line) is = λ of. of
file_is_read name fault (Refused line) is = λ of. of
file_is_read name fault (Faulted line) is = λ of. of
file_is_read name fault (ReadFault file) is = absurd is
file_is_read name fault (OfFile file) is = λ of. of
file_is_read name fault OutputFault is = λ of. of
file_is_read name fault NoMemory is = λ of. of

-- ---- the verdict

-- want of memory tells none
pub no_verdict : (name : List ℕ) (verdict : Verdict) (out : SeenSink) → EndsReplay name verdict out out NoMemory
no_verdict name (Yes events) out = refl
no_verdict name (Form line) out = record { ends = inr refl; same = refl }
no_verdict name (OtherStart line) out = record { ends = inr refl; same = refl }
no_verdict name (Illegal line) out = record { ends = inr refl; same = refl }
no_verdict name (Incomplete line) out = record { ends = inr refl; same = refl }
no_verdict name (OtherEnd line) out = record { ends = inr refl; same = refl }

-- the ending by the line of a refusal
pub line_is_ending :
    {E : Type 0} (line : List ℕ) (text : Result (List ℕ) E) (ending : Ending)
    → IfOk text (λ told. told ≡ line)
    → ending ≡ line_ending text
    → IsEnding (Refused line) ending
line_is_ending line (Ok told) ending is same = inl (same ∙ ap Refused is)
line_is_ending line (Err fail) ending is same = inr same

-- a verdict other than Yes
pub not_yes : (verdict : Verdict) → ((events : ℕ) → ¬ (verdict ≡ Yes events)) → is_yes verdict ≡ false
not_yes (Yes events) not = absurd (not events refl)
not_yes (Form line) not = refl
not_yes (OtherStart line) not = refl
not_yes (Illegal line) not = refl
not_yes (Incomplete line) not = refl
not_yes (OtherEnd line) not = refl

-- a verdict that refuses the trace ends the order so
pub refusal_ends :
    (name : List ℕ) (verdict : Verdict) (ending : Ending) (out : SeenSink)
    → is_yes verdict ≡ false
    → IsEnding (Refused (trace_line name verdict)) ending
    → EndsReplay name verdict out out ending
refusal_ends name (Yes events) ending out not is = absurd (cc)
refusal_ends name (Form line) ending out not is = record { ends = is; same = refl }
refusal_ends name (OtherStart line) ending out not is = record { ends = is; same = refl }
refusal_ends name (Illegal line) ending out not is = record { ends = is; same = refl }
refusal_ends name (Incomplete line) ending out not is = record { ends = is; same = refl }
refusal_ends name (OtherEnd line) ending out not is = record { ends = is; same = refl }

module _ (depot : SeenDepot) (old new : SeenSink) where
  refused_carries :
      (line : List ℕ) (ending : Ending)
      → EndsUnprinted (Refused line) ending old new
      → Carries (refused line) ending 0 (outside depot old) (outside depot new)
  refused_carries line ending e = by e.ends
    where
      same : told (outside depot new) ≡ told (outside depot old)
      same = ap (λ (sink : SeenSink). told (outside depot sink)) e.same

      by : (ending ≡ Refused line) ⊎ (ending ≡ NoMemory) → Carries (refused line) ending 0 (outside depot old) (outside depot new)
      by (inl is) =
          subst (λ (end : Ending). Carries (refused line) end 0 (outside depot old) (outside depot new)) (sym is)
          (record {
            stands =
                unchanged (Refused line) (refusal line 1) (outside depot old) (outside depot new) same (refl, refl)
                (λ whole. refl) tt;
            reached = tt;
          })
      by (inr is) =
          subst (λ (end : Ending). Carries (refused line) end 0 (outside depot old) (outside depot new)) (sym is)
          (record {
            stands =
                unchanged NoMemory (refusal line 1) (outside depot old) (outside depot new) same tt (λ whole. absurd whole) tt;
            reached = tt;
          })

  -- what is carried out of a verdict
  pub verdict_carries :
      (name : List ℕ) (verdict : Verdict) (ending : Ending)
      → EndsReplay name verdict old new ending
      → Carries (replayed name verdict) ending 0 (outside depot old) (outside depot new)
  verdict_carries name (Yes events) ending e =
      let line = events_line (codes "replayed") events in
      carries_known (carried_out (printing line)) ending 0 (outside depot old) (outside depot new)
      (λ fault. text_is_driven depot old new line ending e (read_is_of_input ending fault))
      (text_stands depot old new line ending e)
  verdict_carries name (Form line) ending e = refused_carries (trace_line name (Form line)) ending e
  verdict_carries name (OtherStart line) ending e = refused_carries (trace_line name (OtherStart line)) ending e
  verdict_carries name (Illegal line) ending e = refused_carries (trace_line name (Illegal line)) ending e
  verdict_carries name (Incomplete line) ending e = refused_carries (trace_line name (Incomplete line)) ending e
  verdict_carries name (OtherEnd line) ending e = refused_carries (trace_line name (OtherEnd line)) ending e

  refused_keeps :
      (line : List ℕ) (ending : Ending)
      → IsLine line
      → Grows old new
      → EndsUnprinted (Refused line) ending old new
      → Keeps ending 0 (outside depot old) (outside depot new)
  refused_keeps line ending is_line grows e = by e.ends
    where
      by : (ending ≡ Refused line) ⊎ (ending ≡ NoMemory) → Keeps ending 0 (outside depot old) (outside depot new)
      by (inl is) =
          subst (λ (end : Ending). Keeps end 0 (outside depot old) (outside depot new)) (sym is)
          (record {
            caused = tt;
            ordered = λ refuses. refuses;
            line = is_line;
            input = λ of_input. record { puts = record { none = refl; depot = reads_same depot }; output = e.same };
            goes_on = puts_go_on depot depot old new (puts_same depot) grows;
          })
      by (inr is) =
          subst (λ (end : Ending). Keeps end 0 (outside depot old) (outside depot new)) (sym is)
          (record {
            caused = tt;
            ordered = λ refuses. refuses;
            line = tt;
            input = λ of_input. absurd of_input;
            goes_on = puts_go_on depot depot old new (puts_same depot) grows;
          })

  pub verdict_keeps :
      (name : List ℕ) (verdict : Verdict) (ending : Ending)
      → EndsReplay name verdict old new ending
      → Grows old new
      → Keeps ending 0 (outside depot old) (outside depot new)
  verdict_keeps name (Yes events) ending e grows = text_keeps depot old new (events_line (codes "replayed") events) ending e grows
  verdict_keeps name (Form line) ending e grows =
      refused_keeps (trace_line name (Form line)) ending (trace_is_line name (Form line)) grows e
  verdict_keeps name (OtherStart line) ending e grows =
      refused_keeps (trace_line name (OtherStart line)) ending (trace_is_line name (OtherStart line)) grows e
  verdict_keeps name (Illegal line) ending e grows =
      refused_keeps (trace_line name (Illegal line)) ending (trace_is_line name (Illegal line)) grows e
  verdict_keeps name (Incomplete line) ending e grows =
      refused_keeps (trace_line name (Incomplete line)) ending (trace_is_line name (Incomplete line)) grows e
  verdict_keeps name (OtherEnd line) ending e grows =
      refused_keeps (trace_line name (OtherEnd line)) ending (trace_is_line name (OtherEnd line)) grows e
