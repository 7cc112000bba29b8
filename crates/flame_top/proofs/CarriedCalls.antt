-- From what stands when an order ends to what a call carries out.
use Rattle.std.proofs.Common.{◌≡◌, ℕ, ◌≤◌, ◌⊎◌, inl, inr, List, sym, ◌∙◌, subst, arith}
use Rattle.std.specs.Prelude.{Result, Ok, Err}
use Rattle.flame_outside.specs.Files.{Files}
use Rattle.flame_outside.specs.Devices.{SeenSink}
use Rattle.flame_outside.specs.Scripts.{Act, puts, prints, Outside}
use Rattle.flame_words.specs.declared.orders.Order.{Order}
use Rattle.flame_words.specs.declared.orders.Order.TheVariants.{Run, Check, Graph, Code, Trial, Migrate, Trace, Replay}
use Rattle.flame_words.specs.declared.faults.Usage.{Usage}
use Rattle.flame_load.specs.InputReads.{Reading, known}
use Rattle.flame_load.specs.TextReads.{Reader}
use Rattle.flame_top.specs.declared.ending.Ending.{Ending}
use Rattle.flame_top.specs.declared.ending.Ending.TheVariants.{Done, RefusedWords, Refused, Faulted}
use Rattle.flame_top.specs.declared.ending.Ending.TheVariants.{ReadFault, FileFault, OutputFault, NoMemory}
use Rattle.flame_top.specs.EndingLines.{status_of, line_of}
use Rattle.flame_top.specs.Reports.{Report, report_in}
use Rattle.flame_top.specs.CallAnswers.{Tells, IsWhole, FailsToRead, FailsToWrite, NothingFailed, CarriesOut, CarriesOutWords}
use Rattle.flame_top.specs.CallAnswers.{CarriesOutTrial}
use Rattle.flame_top.specs.Standing.{IsReported, Ends, IsWholeEnding, Blames, Stands, ReachesInput, Carries, IsCaused}
use Rattle.flame_top.specs.OrderReports.{ordered, trial_report}
use Rattle.flame_top.specs.Ordering.{CarriesTrial}
use Rattle.flame_top.specs.TraceAnswers.{CarriesWords}
use Rattle.flame_top.specs.Telling.{Answers}

-- ---- the whole report

whole_by_status : (ending : Ending) → status_of ending ≤ 3 → IsWholeEnding ending
whole_by_status Done few = tt
whole_by_status (RefusedWords line) few = tt
whole_by_status (Refused line) few = tt
whole_by_status (Faulted line) few = tt
whole_by_status (ReadFault name) few = absurd (omega arith)
whole_by_status (FileFault name) few = absurd (omega arith)
whole_by_status OutputFault few = absurd (omega arith)
whole_by_status NoMemory few = absurd (omega arith)

reported_by_whole :
    (ending : Ending) (report : Report)
    → IsWholeEnding ending
    → Ends ending report
    → IsReported ending report
reported_by_whole Done report whole ends = ends
reported_by_whole (RefusedWords line) report whole ends = ends
reported_by_whole (Refused line) report whole ends = ends
reported_by_whole (Faulted line) report whole ends = ends
reported_by_whole (ReadFault name) report whole ends = absurd whole
reported_by_whole (FileFault name) report whole ends = absurd whole
reported_by_whole OutputFault report whole ends = absurd whole
reported_by_whole NoMemory report whole ends = absurd whole

module _ (ending : Ending) (files : ℕ) (report : Report) (old new : Outside) (s : Stands ending files report old new) (status : ℕ) (err err' : SeenSink) where
  is_whole : Answers ending status err err' → status ≤ 3 → IsWhole report s.done status err err'
  is_whole (inr lacks) few = absurd (omega (arith, lacks.status_is, few))
  is_whole (inl told) few =
      let whole = whole_by_status ending (omega (arith, told.status_is, few)) in
      let reported = reported_by_whole ending report whole s.ends in
      record {
        status_is = told.status_is ∙ sym reported.0;
        all = s.whole whole;
        line = subst (λ (line : List ℕ). Tells line err err') (sym reported.1) told.line;
      }

-- ---- no device to blame

module _ (report : Report) (status : ℕ) (old new : Outside) (nothing : NothingFailed old new) where
  complete_by :
      (ending : Ending)
      → Ends ending report
      → IsCaused ending old new
      → status ≡ status_of ending
      → (status ≡ report.status) ⊎ (status ≡ 4)
  complete_by Done ends caused same = inl (same ∙ sym ends.0)
  complete_by (RefusedWords line) ends caused same = inl (same ∙ sym ends.0)
  complete_by (Refused line) ends caused same = inl (same ∙ sym ends.0)
  complete_by (Faulted line) ends caused same = inl (same ∙ sym ends.0)
  complete_by (ReadFault name) ends caused same = absurd (nothing.reads caused)
  complete_by (FileFault name) ends caused same = absurd (nothing.puts caused)
  complete_by OutputFault ends caused same = absurd (nothing.prints caused)
  complete_by NoMemory ends caused same = inr same

  complete :
      (ending : Ending) (err err' : SeenSink)
      → Ends ending report
      → IsCaused ending old new
      → Answers ending status err err'
      → (status ≡ report.status) ⊎ (status ≡ 4)
  complete ending err err' ends caused (inl told) = complete_by ending ends caused told.status_is
  complete ending err err' ends caused (inr lacks) = inr lacks.status_is

-- ---- the device that failed

module _ (status : ℕ) (err err' : SeenSink) where
  reads_by :
      (ending : Ending) (inputs : List (List ℕ))
      → status_of ending ≡ 5
      → ReachesInput inputs ending
      → Tells (line_of ending) err err'
      → FailsToRead inputs err err'
  reads_by Done inputs is reached line = absurd (omega (arith, is))
  reads_by (RefusedWords text) inputs is reached line = absurd (omega (arith, is))
  reads_by (Refused text) inputs is reached line = absurd (omega (arith, is))
  reads_by (Faulted text) inputs is reached line = absurd (omega (arith, is))
  reads_by (ReadFault name) inputs is reached line = record { name = name; input = reached; line = line }
  reads_by (FileFault name) inputs is reached line = absurd (omega (arith, is))
  reads_by OutputFault inputs is reached line = absurd (omega (arith, is))
  reads_by NoMemory inputs is reached line = absurd (omega (arith, is))

  fails_to_read :
      (ending : Ending) (inputs : List (List ℕ))
      → ReachesInput inputs ending
      → Answers ending status err err'
      → status ≡ 5
      → FailsToRead inputs err err'
  fails_to_read ending inputs reached (inl told) five =
      reads_by ending inputs (sym told.status_is ∙ five) reached told.line
  fails_to_read ending inputs reached (inr lacks) five = absurd (omega (arith, lacks.status_is, five))

  writes_by :
      (ending : Ending) (acts : List Act) (done : ℕ) (old new : Outside)
      → status_of ending ≡ 6
      → Blames ending acts done old new
      → Tells (line_of ending) err err'
      → FailsToWrite acts done old new err err'
  writes_by Done acts done old new is blames line = absurd (omega (arith, is))
  writes_by (RefusedWords text) acts done old new is blames line = absurd (omega (arith, is))
  writes_by (Refused text) acts done old new is blames line = absurd (omega (arith, is))
  writes_by (Faulted text) acts done old new is blames line = absurd (omega (arith, is))
  writes_by (ReadFault name) acts done old new is blames line = absurd (omega (arith, is))
  writes_by (FileFault name) acts done old new is blames line =
      record { act = puts name blames.bytes; fails = blames.fails; line = line }
  writes_by OutputFault acts done old new is blames line =
      record { act = prints blames.text; fails = blames.fails; line = line }
  writes_by NoMemory acts done old new is blames line = absurd (omega (arith, is))

  fails_to_write :
      (ending : Ending) (acts : List Act) (done : ℕ) (old new : Outside)
      → Blames ending acts done old new
      → Answers ending status err err'
      → status ≡ 6
      → FailsToWrite acts done old new err err'
  fails_to_write ending acts done old new blames (inl told) six =
      writes_by ending acts done old new (sym told.status_is ∙ six) blames told.line
  fails_to_write ending acts done old new blames (inr lacks) six = absurd (omega (arith, lacks.status_is, six))

-- ---- a call

-- an order that ends so, and is told so, is carried out
carries_out :
    (reading : Reading (List ℕ) Report) (ending : Ending) (files status : ℕ) (old new : Outside) (err err' : SeenSink)
    → Carries reading ending files old new
    → IsCaused ending old new
    → Answers ending status err err'
    → CarriesOut reading status files old new err err'
carries_out reading ending files status old new err err' carries caused answers =
    let report = report_in reading in
    let s = carries.stands in
    record {
      done = s.done;
      has_done = s.has_done;
      whole = is_whole ending files report old new s status err err' answers;
      complete = λ nothing. complete report status old new nothing ending err err' s.ends caused answers;
      read_fault = fails_to_read status err err' ending reading.inputs carries.reached answers;
      write_fault = fails_to_write status err err' ending report.acts s.done old new s.blames answers;
    }

-- the same of words
pub carries_out_words :
    (read : Reader) (told : Files) (words : Result Order Usage) (ending : Ending) (files status : ℕ)
    (old new : Outside) (err err' : SeenSink)
    → CarriesWords read told words ending files old new
    → IsCaused ending old new
    → Answers ending status err err'
    → CarriesOutWords read told words status files old new err err'
carries_out_words read told words ending files status old new err err' c caused answers = record {
  trace = c.trace;
  tells = c.tells;
  carries = carries_out (ordered read told words c.trace) ending files status old new err err' c.carries caused answers;
}

-- the same of a trial
pub carries_out_trial :
    (read : Reader) (words : Result Order Usage) (ending : Ending) (files status : ℕ) (old new : Outside) (err err' : SeenSink)
    → CarriesTrial read words ending files old new
    → IsCaused ending old new
    → Answers ending status err err'
    → CarriesOutTrial read words status files old new err err'
carries_out_trial read (Ok (Trial order)) ending files status old new err err' c caused answers =
    carries_out (known (trial_report read order)) ending files status old new err err' c caused answers
carries_out_trial read (Ok (Run order)) ending files status old new err err' c caused answers = tt
carries_out_trial read (Ok (Check model)) ending files status old new err err' c caused answers = tt
carries_out_trial read (Ok (Graph model)) ending files status old new err err' c caused answers = tt
carries_out_trial read (Ok (Code model)) ending files status old new err err' c caused answers = tt
carries_out_trial read (Ok (Migrate model pop to)) ending files status old new err err' c caused answers = tt
carries_out_trial read (Ok (Trace order)) ending files status old new err err' c caused answers = tt
carries_out_trial read (Ok (Replay model pop name)) ending files status old new err err' c caused answers = tt
carries_out_trial read (Err usage) ending files status old new err err' c caused answers = tt
