-- A run that goes on after its first iterations: what stands of the rest stands of the whole.
use Rattle.std.proofs.Common.{◌≡◌, ℕ, zero, suc, ◌+◌, ◌-◌, ◌<◌, List, [], ◌∷◌, ◌++◌, length, take, refl, sym}
use Rattle.std.proofs.Common.{ap, ◌∙◌, subst, arith, append_assoc, length-append}
use Rattle.std.specs.Prelude.{ℤ, pos, ◌+ℤ◌}
use Rattle.std.proofs.Math.IntN.{+ℤ_assoc}
use Rattle.std.proofs.Math.Seq.{take-append-add}
use Rattle.flame_outside.specs.Scripts.{Act, puts, prints, puts_in, Outside, told, StandsWhole, HasDone, FailsAtFile}
use Rattle.flame_outside.specs.Scripts.{FailsAtOutput, GoesOn}
use Rattle.flame_outside.proofs.FrameLemmas.{goes_on_same, goes_on_join}
use Rattle.flame_outside.proofs.ScriptLemmas.{puts_in-append, whole_join, nothing_stands, second_of_two, second_fails}
use Rattle.flame_spec.specs.declared.outcomes.Source.{Source}
use Rattle.flame_world.specs.declared.turns.Turn.{Turn}
use Rattle.flame_world.specs.Iterations.{iteration}
use Rattle.flame_popfile.specs.declared.starts.Start.{Start}
use Rattle.flame_driver.specs.declared.drivers.DriveEnd.{DriveEnd}
use Rattle.flame_driver.specs.declared.drivers.DriveEnd.TheVariants.{Done, Fault, FileFault, OutputFault, NoMemory}
use Rattle.flame_driver.specs.Runs.{Stage, stage, Run, empty_run, and_run, run_by, run}
use Rattle.flame_driver.specs.RunScripts.{Writing, file_name, stage_acts, acts_of}
use Rattle.flame_driver.specs.IteratedRuns.{and_then}
use Rattle.flame_driver.specs.DriveAnswers.{EndsBy, Drives}
use Rattle.flame_driver.specs.StageStops.{IsWritten}
use Rattle.flame_driver.proofs.StageActs.{acts_of-append, acts_of-one_more, puts_in-acts_of}

-- ---- parts of a run

-- the first iterations, so many, were written whole, and this run is left
pub record Reaches (writing : Writing) (files : ℕ) (all rest : Run) (old new : Outside) : Type 0 where
  pub first : List Stage
  pub parts : all.stages ≡ first ++ rest.stages
  pub count : length first ≡ files
  pub fault : rest.fault ≡ all.fault
  pub whole : StandsWhole (acts_of writing first) old new
  pub goes_on : GoesOn old new

pub reaches_none :
    (writing : Writing) (all rest : Run) (old : Outside) → all ≡ rest → Reaches writing 0 all rest old old
reaches_none writing all rest old same = record {
  first = [];
  parts = ap (λ (r : Run). r.stages) same;
  count = refl;
  fault = sym (ap (λ (r : Run). r.fault) same);
  whole = refl;
  goes_on = goes_on_same old;
}

pub reaches_more :
    (writing : Writing) (files : ℕ) (all rest last : Run) (done : Stage) (old mid new : Outside)
    → rest ≡ and_run done last
    → Reaches writing files all rest old mid
    → StandsWhole (stage_acts writing done) mid new
    → GoesOn mid new
    → Reaches writing (files + 1) all last old new
reaches_more writing files all rest last done old mid new goes r stands on = record {
  first = r.first ++ (done ∷ []);
  parts =
      r.parts
      ∙ ap (λ (left : Run). r.first ++ left.stages) goes
      ∙ sym (append_assoc r.first (done ∷ []) last.stages);
  count = omega (arith, r.count, length-append r.first (done ∷ []));
  fault = sym (ap (λ (left : Run). left.fault) goes) ∙ r.fault;
  whole =
      subst (λ (acts : List Act). StandsWhole acts old new)
      (sym (acts_of-one_more writing r.first done))
      (whole_join (acts_of writing r.first) (stage_acts writing done) old mid new r.whole stands);
  goes_on = goes_on_join old mid new r.goes_on on;
}

-- ---- what stands

-- these iterations, which were written whole, and then this run
module _ (writing : Writing) (first : List Stage) (rest : Run) (old mid new : Outside) where
  abbrev acts : List Act
  acts = acts_of writing first

  abbrev more : List Act
  more = acts_of writing rest.stages

  parted : acts_of writing (first ++ rest.stages) ≡ acts ++ more
  parted = acts_of-append writing first rest.stages

  ends_behind :
      (end : DriveEnd) (next : ℤ) (done : ℕ)
      → GoesOn old mid
      → StandsWhole acts old mid
      → EndsBy end writing rest next done mid new
      → EndsBy end writing (and_then first rest) next (length acts + done) old new
  ends_behind Done next done on whole e =
      let count = ap length parted in
      record { fault = e.fault; all = omega (arith, e.all, count, length-append acts more) }
  ends_behind (Fault fault) next done on whole e =
      let count = ap length parted in
      record { fault = e.fault; all = omega (arith, e.all, count, length-append acts more) }
  ends_behind (FileFault itno) next done on whole e = record {
    number = e.number;
    file =
        subst
        (λ (both : List Act). FailsAtFile (file_name writing.prefix itno) both (length acts + done) old new)
        (sym parted)
        (record {
          bytes = e.file.bytes;
          fails = second_fails acts more done (puts _ e.file.bytes) old mid new on e.file.fails;
        });
  }
  ends_behind OutputFault next done on whole e =
      subst (λ (both : List Act). FailsAtOutput both (length acts + done) old new) (sym parted)
      (record { text = e.text; fails = second_fails acts more done (prints e.text) old mid new on e.fails })
  ends_behind NoMemory next done on whole e =
      subst (λ (both : List Act). StandsWhole (take (length acts + done) both) old new) (sym parted)
      (subst (λ (stand : List Act). StandsWhole stand old new) (sym (take-append-add acts more done))
      (whole_join acts (take done more) old mid new whole e))

  has_done_behind :
      (files n done : ℕ)
      → length first ≡ files
      → GoesOn old mid
      → StandsWhole acts old mid
      → HasDone more done n mid new
      → HasDone (acts_of writing (first ++ rest.stages)) (length acts + done) (files + n) old new
  has_done_behind files n done count on whole has =
      let taken = ap puts_in (take-append-add acts more done) ∙ puts_in-append acts (take done more) in
      let first_puts = puts_in-acts_of writing first in
      subst (λ (both : List Act). HasDone both (length acts + done) (files + n) old new) (sym parted)
      (record {
        stands = second_of_two acts more done old mid new whole on has.stands;
        count = omega (arith, taken, first_puts, count, has.count);
      })

  drives_both :
      (before : ℤ) (end : DriveEnd) (files n : ℕ)
      → length first ≡ files
      → GoesOn old mid
      → StandsWhole acts old mid
      → Drives writing (before +ℤ pos files) rest end n mid new
      → Drives writing before (and_then first rest) end (files + n) old new
  drives_both before end files n count on whole d =
      let next : (before +ℤ pos files) +ℤ pos (n + 1) ≡ before +ℤ pos (files + n + 1)
      = +ℤ_assoc before (pos files) (pos (n + 1)) ∙ ap (λ m. before +ℤ pos m) (omega arith)
      in
      record {
        done = length acts + d.done;
        has_done = has_done_behind files n d.done count on whole d.has_done;
        ends =
            subst (λ (itno : ℤ). EndsBy end writing (and_then first rest) itno (length acts + d.done) old new) next
            (ends_behind end ((before +ℤ pos files) +ℤ pos (n + 1)) d.done on whole d.ends);
      }

-- what stands of the run that is left stands of the whole run
pub drives_behind :
    (writing : Writing) (before : ℤ) (end : DriveEnd) (files n : ℕ) (all rest : Run) (old mid new : Outside)
    → Reaches writing files all rest old mid
    → Drives writing (before +ℤ pos files) rest end n mid new
    → Drives writing before all end (files + n) old new
drives_behind writing before end files n all rest old mid new r d =
    let parts : r.first ++ rest.stages ≡ all.stages = sym r.parts in
    let whole : and_then r.first rest ≡ all = λ i. record { stages = parts i; fault = r.fault i } in
    subst (λ (run : Run). Drives writing before run end (files + n) old new) whole
    (drives_both writing r.first rest old mid new before end files n r.count r.goes_on r.whole d)

-- nothing was put, and nothing printed
pub unchanged :
    (writing : Writing) (before : ℤ) (left : Run) (end : DriveEnd) (old new : Outside)
    → told new ≡ told old
    → EndsBy end writing left (before +ℤ pos 1) 0 old new
    → Drives writing before left end 0 old new
unchanged writing before left end old new same ends = record {
  done = 0;
  has_done = record { stands = nothing_stands (acts_of writing left.stages) old new same; count = refl };
  ends = ends;
}

-- ---- iteration by iteration

module _ (source : Source) (fuel : ℕ) where
  -- what the iteration behind a start comes to
  abbrev pub came_of : Start → Turn
  came_of start = iteration source start.world (start.itno +ℤ pos 1) fuel

  -- a run of at least one iteration
  pub run-turn :
      (left : ℕ) (start : Start)
      → 0 < left
      → run source fuel left start ≡ run_by (start.itno +ℤ pos 1) (came_of start) (run source fuel (left - 1))
  run-turn zero start more = absurd (omega arith)
  run-turn (suc left) start more =
      let same : left ≡ suc left - 1 = omega arith in
      ap (λ n. run_by (start.itno +ℤ pos 1) (came_of start) (run source fuel n)) same

  -- what is left where no iteration is
  pub run-nothing : (left : ℕ) (start : Start) → left ≡ 0 → run source fuel left start ≡ empty_run
  run-nothing left start none = ap (λ n. run source fuel n start) none

  left-next :
      (writing : Writing) (turns done : ℕ) (start next : Start) (old new : Outside)
      → done < turns
      → next.itno ≡ start.itno +ℤ pos 1
      → (w : IsWritten writing (came_of start) next old new)
      → run source fuel (turns - done) start
      ≡ and_run (stage next.itno next.world w.boards) (run source fuel (turns - (done + 1)) next)
  left-next writing turns done start next old new more number w =
      let fewer : turns - done - 1 ≡ turns - (done + 1) = omega arith in
      let same : start.itno +ℤ pos 1 ≡ next.itno = sym number in
      run-turn (turns - done) start (omega arith)
      ∙ ap (λ came. run_by (start.itno +ℤ pos 1) came (run source fuel (turns - done - 1))) w.done
      ∙ (λ i.
      and_run (stage (same i) next.world w.boards)
      (run source fuel (fewer i) (record { itno = same i; world = next.world })))

  module _ (writing : Writing) (turns : ℕ) (first : Start) where
    -- the whole run
    abbrev pub all : Run
    all = run source fuel turns first

    -- before the first iteration
    pub begins_at : (old : Outside) → Reaches writing 0 all (run source fuel (turns - 0) first) old old
    begins_at old =
        let left : turns ≡ turns - 0 = omega arith in
        reaches_none writing all (run source fuel (turns - 0) first) old (ap (λ n. run source fuel n first) left)

    -- an iteration that is done, after those that are done
    pub next_reached :
        (done : ℕ) (start next : Start) (old mid new : Outside)
        → done < turns
        → Reaches writing done all (run source fuel (turns - done) start) old mid
        → next.itno ≡ start.itno +ℤ pos 1
        → IsWritten writing (came_of start) next mid new
        → GoesOn mid new
        → Reaches writing (done + 1) all (run source fuel (turns - (done + 1)) next) old new
    next_reached done start next old mid new more r number w on =
        reaches_more writing done all (run source fuel (turns - done) start) (run source fuel (turns - (done + 1)) next)
        (stage next.itno next.world w.boards) old mid new
        (left-next writing turns done start next mid new more number w) r w.whole on

    -- an iteration that stops, after those that are done
    pub stops_at :
        (end : DriveEnd) (files done : ℕ) (start : Start) (old mid new : Outside)
        → done < turns
        → start.itno ≡ first.itno +ℤ pos done
        → Reaches writing done all (run source fuel (turns - done) start) old mid
        → ((later : Start → Run)
        → Drives writing start.itno (run_by (start.itno +ℤ pos 1) (came_of start) later) end files mid new)
        → Drives writing first.itno all end (done + files) old new
    stops_at end files done start old mid new more number r stops =
        drives_behind writing first.itno end done files all (run source fuel (turns - done) start) old mid new r
        (subst (λ (before : ℤ). Drives writing before (run source fuel (turns - done) start) end files mid new) number
        (subst (λ (left : Run). Drives writing start.itno left end files mid new)
        (sym (run-turn (turns - done) start (omega arith)))
        (stops (run source fuel (turns - done - 1)))))

    -- all iterations are done
    pub ends_at :
        (done : ℕ) (start : Start) (old new : Outside)
        → done ≡ turns
        → Reaches writing done all (run source fuel (turns - done) start) old new
        → Drives writing first.itno all Done turns old new
    ends_at done start old new same r =
        let none : turns - done ≡ 0 = omega (arith, same) in
        let count : done + 0 ≡ turns = omega (arith, same) in
        let last : Reaches writing done all empty_run old new =
        subst (λ (left : Run). Reaches writing done all left old new) (run-nothing (turns - done) start none) r in
        subst (λ (n : ℕ). Drives writing first.itno all Done n old new) count
        (drives_behind writing first.itno Done done 0 all empty_run old new new last
        (unchanged writing (first.itno +ℤ pos done) empty_run Done new new refl (record { fault = refl; all = refl })))

-- the number behind the number after so many iterations
pub number_after :
    (first before next : ℤ) (done : ℕ)
    → before ≡ first +ℤ pos done
    → next ≡ before +ℤ pos 1
    → next ≡ first +ℤ pos (done + 1)
number_after first before next done is follows =
    follows ∙ ap (λ (n : ℤ). n +ℤ pos 1) is ∙ +ℤ_assoc first (pos done) (pos 1)
