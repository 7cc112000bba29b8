-- Why a call answers its status, whatever the devices tell.
use Rattle.std.proofs.Common.{◌≡◌, ◌≢◌, ℕ, ◌≤◌, ◌⊎◌, inl, inr, List, Ok, Err, refl, sym, ◌∙◌, subst, arith}
use Rattle.std.specs.Prelude.{Result, IsTrue}
use Rattle.flame_outside.specs.Devices.{SeenSink}
use Rattle.flame_outside.specs.Printed.{PrintsFront}
use Rattle.flame_outside.specs.Failures.{ReadFailed, PutFailed, WriteFailed}
use Rattle.flame_outside.specs.Scripts.{Outside}
use Rattle.flame_outside.proofs.FrameLemmas.{calm_fails_not}
use Rattle.flame_words.specs.declared.orders.Order.{Order}
use Rattle.flame_words.specs.declared.faults.Usage.{Usage}
use Rattle.flame_top.specs.declared.ending.Ending.{Ending}
use Rattle.flame_top.specs.declared.ending.Ending.TheVariants.{Done, RefusedWords, Refused, Faulted}
use Rattle.flame_top.specs.declared.ending.Ending.TheVariants.{ReadFault, FileFault, OutputFault, NoMemory}
use Rattle.flame_top.specs.EndingLines.{status_of, line_of}
use Rattle.flame_top.specs.CallAnswers.{AreRefused, Tells, TellsALine, TellsUsage, LeavesAll, WritesNothing, no_memory_text, HasCause, TellsStatus, Leaves}
use Rattle.flame_top.specs.InputAnswers.{IsReadFault}
use Rattle.flame_top.specs.Standing.{IsCaused, RefusesWords, IsFaulted, IsOfInput}
use Rattle.flame_top.specs.Ordering.{IsUnordered, KeepsOrder}
use Rattle.flame_top.specs.Telling.{Answers}
use Rattle.flame_top.proofs.ToldLines.{tells_a_line}

-- ---- endings by their status

few_statuses : (ending : Ending) → status_of ending ≤ 6
few_statuses Done = omega arith
few_statuses (RefusedWords line) = omega arith
few_statuses (Refused line) = omega arith
few_statuses (Faulted line) = omega arith
few_statuses (ReadFault name) = omega arith
few_statuses (FileFault name) = omega arith
few_statuses OutputFault = omega arith
few_statuses NoMemory = omega arith

input_by_one : (ending : Ending) → status_of ending ≡ 1 → IsOfInput ending
input_by_one (Refused line) is = tt
input_by_one ending is = absurd (omega (arith, is))

words_by_two : (ending : Ending) → status_of ending ≡ 2 → RefusesWords ending
words_by_two (RefusedWords line) is = tt
words_by_two ending is = absurd (omega (arith, is))

fault_by_three : (ending : Ending) → status_of ending ≡ 3 → IsFaulted ending
fault_by_three (Faulted line) is = tt
fault_by_three ending is = absurd (omega (arith, is))

input_by_five : (ending : Ending) → status_of ending ≡ 5 → IsOfInput ending
input_by_five (ReadFault name) is = tt
input_by_five ending is = absurd (omega (arith, is))

read_by_five : (ending : Ending) → status_of ending ≡ 5 → IsReadFault ending
read_by_five (ReadFault name) is = tt
read_by_five ending is = absurd (omega (arith, is))

front_by_four :
    (ending : Ending) (err err' : SeenSink)
    → status_of ending ≡ 4
    → Tells (line_of ending) err err'
    → PrintsFront no_memory_text err err'
front_by_four NoMemory err err' is told = told.front
front_by_four ending err err' is told = absurd (omega (arith, is))

caused_by_five :
    (ending : Ending) (old new : Outside)
    → status_of ending ≡ 5
    → IsCaused ending old new
    → ReadFailed old.depot new.depot
caused_by_five (ReadFault name) old new is caused = caused
caused_by_five ending old new is caused = absurd (omega (arith, is))

caused_by_six :
    (ending : Ending) (old new : Outside)
    → status_of ending ≡ 6
    → IsCaused ending old new
    → PutFailed old.depot new.depot ⊎ WriteFailed old.output new.output
caused_by_six (FileFault name) old new is caused = inl caused
caused_by_six OutputFault old new is caused = inr caused
caused_by_six ending old new is caused = absurd (omega (arith, is))

-- ---- words that are refused

two_or_four :
    (words : Result Order Usage) (ending : Ending) (files : ℕ) (old new : Outside)
    → IsUnordered words ending files old new
    → AreRefused words
    → (status_of ending ≡ 2) ⊎ (status_of ending ≡ 4)
two_or_four (Ok order) ending files old new is are = absurd are
two_or_four (Err usage) (RefusedWords line) files old new is are = inl refl
two_or_four (Err usage) NoMemory files old new is are = inr refl
two_or_four (Err usage) ending files old new is are = absurd is.0

leaves_all :
    (words : Result Order Usage) (ending : Ending) (files : ℕ) (old new : Outside)
    → IsUnordered words ending files old new
    → AreRefused words
    → LeavesAll files old new
leaves_all (Ok order) ending files old new is are = absurd are
leaves_all (Err usage) ending files old new is are = is.1

usage_told :
    (words : Result Order Usage) (ending : Ending) (files : ℕ) (old new : Outside) (err err' : SeenSink)
    → RefusesWords ending
    → (RefusesWords ending → AreRefused words)
    → IsUnordered words ending files old new
    → Tells (line_of ending) err err'
    → TellsUsage words err err'
usage_told (Ok order) ending files old new err err' refuses are is told = absurd (are refuses)
usage_told (Err usage) (RefusedWords line) files old new err err' refuses are is told =
    subst (λ (text : List ℕ). Tells text err err') is.0 told
usage_told (Err usage) ending files old new err err' refuses are is told = absurd refuses

-- ---- a call

module _ (words : Result Order Usage) (ending : Ending) (files status : ℕ) (old new : Outside) (err err' : SeenSink) (keeps : KeepsOrder words ending files old new) (answers : Answers ending status err err') where
  -- a status other than 4 is the ending's
  ends_as : (n : ℕ) → (n ≡ 4 → ⊥) → status ≡ n → status_of ending ≡ n
  ends_as n other is = by answers
    where
      by : Answers ending status err err' → status_of ending ≡ n
      by (inl told) = sym told.status_is ∙ is
      by (inr lacks) = absurd (other (sym is ∙ lacks.status_is))

  few : Answers ending status err err' → status ≤ 6
  few (inl told) = omega (arith, told.status_is, few_statuses ending)
  few (inr lacks) = omega (arith, lacks.status_is)

  tells : Answers ending status err err' → status ≢ 0 → status ≢ 4 → TellsALine err err'
  tells (inl told) other_than_0 other_than_4 =
      tells_a_line ending err err' keeps.line (λ is. other_than_0 (told.status_is ∙ is)) told.line
  tells (inr lacks) other_than_0 other_than_4 = absurd (other_than_4 lacks.status_is)

  refused : Answers ending status err err' → AreRefused words → (status ≡ 2) ⊎ (status ≡ 4)
  refused (inl told) are = of_either (two_or_four words ending files old new keeps.refused are)
    where
      of_either : (status_of ending ≡ 2) ⊎ (status_of ending ≡ 4) → (status ≡ 2) ⊎ (status ≡ 4)
      of_either (inl is) = inl (told.status_is ∙ is)
      of_either (inr is) = inr (told.status_is ∙ is)
  refused (inr lacks) are = inr lacks.status_is

  memory : Answers ending status err err' → status ≡ 4 → PrintsFront no_memory_text err err'
  memory (inl told) is = front_by_four ending err err' (sym told.status_is ∙ is) told.line
  memory (inr lacks) is = lacks.line

  usage : Answers ending status err err' → status ≡ 2 → TellsUsage words err err'
  usage (inl told) is =
      usage_told words ending files old new err err' (words_by_two ending (sym told.status_is ∙ is))
      keeps.ordered keeps.refused told.line
  usage (inr lacks) is = absurd (omega (arith, is, lacks.status_is))

  input : (status ≡ 1) ⊎ (status ≡ 5) → WritesNothing files old new
  input (inl is) = keeps.input (input_by_one ending (ends_as 1 (λ same. omega (arith, same)) is))
  input (inr is) = keeps.input (input_by_five ending (ends_as 5 (λ same. omega (arith, same)) is))

  pub has_cause : HasCause words status old new
  has_cause = record {
    few = few answers;
    faulty = λ is. keeps.ordered (words_by_two ending (ends_as 2 (λ same. omega (arith, same)) is));
    refused = refused answers;
    fault = λ is. keeps.faulted (fault_by_three ending (ends_as 3 (λ same. omega (arith, same)) is));
    read = λ is. caused_by_five ending old new (ends_as 5 (λ same. omega (arith, same)) is) keeps.caused;
    trial = λ trial is. (keeps.trial trial).read (read_by_five ending (ends_as 5 (λ same. omega (arith, same)) is));
    write = λ is. caused_by_six ending old new (ends_as 6 (λ same. omega (arith, same)) is) keeps.caused;
  }

  pub tells_status : (status ≡ 0 → err' ≡ err) → TellsStatus words status err err'
  tells_status quiet = record {
    quiet = quiet;
    memory = memory answers;
    line = tells answers;
    usage = usage answers;
  }

  pub leaves : Leaves words status files old new
  leaves = record {
    input = input;
    refused = leaves_all words ending files old new keeps.refused;
    trial = λ trial. (keeps.trial trial).leaves;
    text = keeps.text;
  }

-- ---- devices that never fail

module _ (words : Result Order Usage) (status : ℕ) (old new : Outside) (cause : HasCause words status old new) where
  pub calm_depot : IsTrue old.depot.calm → (status ≢ 5) × (status ≡ 6 → WriteFailed old.output new.output)
  calm_depot calm = (λ is. calm_fails_not.reads old.depot new.depot calm (cause.read is), λ is. of_either (cause.write is))
    where
      of_either : PutFailed old.depot new.depot ⊎ WriteFailed old.output new.output → WriteFailed old.output new.output
      of_either (inl put) = absurd (calm_fails_not.puts old.depot new.depot calm put)
      of_either (inr write) = write

  pub calm_out : IsTrue old.output.calm → status ≡ 6 → PutFailed old.depot new.depot
  calm_out calm is = of_either (cause.write is)
    where
      of_either : PutFailed old.depot new.depot ⊎ WriteFailed old.output new.output → PutFailed old.depot new.depot
      of_either (inl put) = put
      of_either (inr write) = absurd (calm_fails_not.writes old.output new.output calm write)
