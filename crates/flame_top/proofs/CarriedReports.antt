-- What a call leaves, by its report.
use Rattle.std.proofs.Common.{◌≡◌, ◌≢◌, ◌≤◌, ◌⊎◌, inl, inr, ℕ, zero, suc, List, [], ◌∷◌, length, take, drop, Some, refl, sym, ap, ◌∙◌, subst, arith, le_refl}
use Rattle.std.specs.Prelude.{slice_get}
use Rattle.std.proofs.lemmas.List.{take_all}
use Rattle.flame_outside.specs.Files.{told_at}
use Rattle.flame_outside.specs.Devices.{SeenSink}
use Rattle.flame_outside.specs.Scripts.{Act, puts, prints, puts_in, Outside, StandsAt}
use Rattle.flame_outside.specs.ScriptLaws.{WholeScripts}
use Rattle.flame_outside.specs.WhatIsTold.{files_by, with_files, WholeIsTold, FirstIsTold}
use Rattle.flame_load.specs.InputReads.{Reading}
use Rattle.flame_top.specs.CallAnswers.{NothingFailed, CarriesOut}
use Rattle.flame_top.specs.Reports.{Report, report_in}
use Rattle.flame_top.specs.OrderReports.{reading}
use Rattle.flame_top.specs.TopLaws.{IsCarriedOut, IsCarriedOutInPart, CallsCarryOut}
use Rattle.flame_top.proofs.FewStatuses.{statuses_are_few}

puts_in-files_by : (acts : List Act) → puts_in acts ≡ length (files_by acts)
puts_in-files_by [] = refl
puts_in-files_by (puts name bytes ∷ acts) = ap suc (puts_in-files_by acts)
puts_in-files_by (prints text ∷ acts) = puts_in-files_by acts

-- a put that comes next puts the next file
pub next_file :
    (done : ℕ) (acts rest : List Act) (name bytes : List ℕ)
    → drop done acts ≡ puts name bytes ∷ rest
    → slice_get (files_by acts) (puts_in (take done acts)) ≡ Some (name, bytes)
next_file zero acts rest name bytes is = ap (λ acts. slice_get (files_by acts) 0) is
next_file (suc done) [] rest name bytes is = absurd (cc)
next_file (suc done) (puts file held ∷ acts) rest name bytes is = next_file done acts rest name bytes is
next_file (suc done) (prints text ∷ acts) rest name bytes is = next_file done acts rest name bytes is

not_four : (status reported : ℕ) → status ≢ 4 → (status ≡ reported) ⊎ (status ≡ 4) → status ≡ reported
not_four status reported not (inl same) = same
not_four status reported not (inr four) = absurd (not four)

module _ (whole_told : WholeIsTold) (first_told : FirstIsTold) (scripts : WholeScripts) where
  whole_report :
      (reading : Reading (List ℕ) Report) (status files : ℕ) (old new : Outside) (err err' : SeenSink)
      → (report_in reading).status ≤ 3
      → CarriesOut reading status files old new err err'
      → NothingFailed old new
      → status ≢ 4
      → IsCarriedOut (report_in reading) status files old new err err'
  whole_report reading status files old new err err' few c calm not_for_memory =
      let report = report_in reading in
      let same = not_four status report.status not_for_memory (c.complete calm) in
      let w = c.whole (omega (arith, same, few)) in
      let at_end = subst (λ done. StandsAt report.acts done old new) w.all c.has_done.stands in
      let stands = scripts.stands_all report.acts old new at_end in
      record {
        files_are = whole_told.files report.acts old new stands;
        count =
            c.has_done.count
            ∙ ap (λ done. puts_in (take done report.acts)) w.all
            ∙ ap puts_in (take_all (length report.acts) report.acts (le_refl (length report.acts)))
            ∙ puts_in-files_by report.acts;
        output = whole_told.output report.acts old new stands;
        status_is = same;
        line = w.line.whole;
      }

  first_of_report :
      (reading : Reading (List ℕ) Report) (status files : ℕ) (old new : Outside) (err err' : SeenSink)
      → CarriesOut reading status files old new err err'
      → IsCarriedOutInPart (report_in reading) files old new
  first_of_report reading status files old new err err' c =
      let acts = (report_in reading).acts in
      record {
        first = λ calm.
            first_told.files acts c.done old new c.has_done.stands calm
            ∙ ap (λ n. with_files (take n (files_by acts)) old.depot.files) (sym c.has_done.count);
        others = λ name other.
            first_told.other_names acts c.done old new name c.has_done.stands
            (λ bytes rest is.
            other bytes
            (ap (slice_get (files_by acts)) c.has_done.count ∙ next_file c.done acts rest name bytes is))
            ∙ ap (λ n. told_at (with_files (take n (files_by acts)) old.depot.files) name) (sym c.has_done.count);
        output = first_told.output acts c.done old new c.has_done.stands;
      }

  pub calls_carry_out : CallsCarryOut
  calls_carry_out = record {
    whole = λ read words told trace status files old new err err' c calm not_for_memory.
        whole_report (reading read words told trace) status files old new err err'
        (statuses_are_few read words told trace) c calm not_for_memory;
    first = λ read words told trace status files old new err err' c.
        first_of_report (reading read words told trace) status files old new err err' c;
  }
