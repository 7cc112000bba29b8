-- From the part that carries out an order to its command line; and words that give none.
use Rattle.std.proofs.Common.{◌≡◌, ℕ, List, refl, sym, subst}
use Rattle.std.specs.Prelude.{Result, Ok, Err}
use Rattle.flame_outside.specs.Files.{Files}
use Rattle.flame_outside.specs.Scripts.{Outside}
use Rattle.flame_outside.proofs.FrameLemmas.{reads_same, goes_on_same}
use Rattle.flame_words.specs.declared.orders.Order.{Order}
use Rattle.flame_words.specs.declared.orders.Order.TheVariants.{Run, Check, Graph, Code, Trial, Migrate, Trace, Replay}
use Rattle.flame_words.specs.declared.faults.Usage.{Usage}
use Rattle.flame_report.specs.FaultLines.{usage_line}
use Rattle.flame_load.specs.InputReads.{Reading, known}
use Rattle.flame_load.specs.TextReads.{Reader}
use Rattle.flame_top.specs.declared.ending.Ending.{Ending}
use Rattle.flame_top.specs.declared.ending.Ending.TheVariants.{RefusedWords, NoMemory}
use Rattle.flame_top.specs.Reports.{Report, refusal, report_in}
use Rattle.flame_top.specs.OrderReports.{order_reading, ordered, trial_report, TracesOrder, TracesWords}
use Rattle.flame_top.specs.CallAnswers.{OrdersTrial, OrdersIterations, OrdersText, PutsNothing}
use Rattle.flame_top.specs.Standing.{IsLine, IsFaulted, Carries, Keeps}
use Rattle.flame_top.specs.TraceAnswers.{CarriesOrder, CarriesWords}
use Rattle.flame_top.specs.Ordering.{IsUsageEnding, IsApartBy, CarriesTrial, IsUnordered, KeepsOrder}
use Rattle.flame_top.proofs.SomeTraces.{no_trace, some_nothing}
use Rattle.flame_top.proofs.Standings.{unchanged}
use Rattle.flame_top.proofs.ReportLines.{usage_is_line}

-- ---- orders

-- what an order carries out is carried out of an equal one
pub some_as :
    (read : Reader) (told : Files) (order given : Order) (ending : Ending) (files : ℕ) (old new : Outside)
    → order ≡ given
    → CarriesOrder read told given ending files old new
    → CarriesOrder read told order ending files old new
some_as read told order given ending files old new same carries =
    subst (λ (o : Order). CarriesOrder read told o ending files old new) (sym same) carries

-- the same of an order of which no text is asked
pub carries_as :
    (read : Reader) (told : Files) (order given : Order) (ending : Ending) (files : ℕ) (old new : Outside)
    → order ≡ given
    → TracesOrder read told given no_trace
    → Carries (order_reading read told given no_trace) ending files old new
    → CarriesOrder read told order ending files old new
carries_as read told order given ending files old new same asked carries =
    some_as read told order given ending files old new same
    (record { trace = no_trace; tells = λ put. asked; carries = carries })

-- what stands of an order, where it is a trial, stands of an equal one
pub trial_as :
    (read : Reader) (order given : Order) (ending : Ending) (files : ℕ) (old new : Outside)
    → order ≡ given
    → CarriesTrial read (Ok given) ending files old new
    → CarriesTrial read (Ok order) ending files old new
trial_as read order given ending files old new same carries =
    subst (λ (o : Order). CarriesTrial read (Ok o) ending files old new) (sym same) carries

-- ---- words that give an order

module _ (answer : Result Order Usage) (order : Order) (ending : Ending) (files : ℕ) (old new : Outside) (gives : answer ≡ Ok order) where
  pub carries_ordered :
      (read : Reader) (told : Files)
      → CarriesOrder read told order ending files old new
      → CarriesWords read told answer ending files old new
  carries_ordered read told c =
      subst (λ (a : Result Order Usage). CarriesWords read told a ending files old new) (sym gives)
      (record { trace = c.trace; tells = c.tells; carries = c.carries })

  pub trial_ordered :
      (read : Reader)
      → CarriesTrial read (Ok order) ending files old new
      → CarriesTrial read answer ending files old new
  trial_ordered read c = subst (λ (a : Result Order Usage). CarriesTrial read a ending files old new) (sym gives) c

  pub keeps_ordered :
      Keeps ending files old new
      → (IsFaulted ending → OrdersIterations (Ok order))
      → (OrdersTrial (Ok order) → IsApartBy ending files old new)
      → (OrdersText (Ok order) → PutsNothing files old new)
      → KeepsOrder answer ending files old new
  keeps_ordered keeps faulted trial text =
      let kept : KeepsOrder (Ok order) ending files old new = record {
        caused = keeps.caused;
        ordered = λ refuses. absurd (keeps.ordered refuses);
        line = keeps.line;
        input = keeps.input;
        refused = tt;
        faulted = faulted;
        trial = trial;
        text = text;
        goes_on = keeps.goes_on;
      } in
      subst (λ (a : Result Order Usage). KeepsOrder a ending files old new) (sym gives) kept

-- ---- words that give none

-- for want of memory nothing is done
pub words_nothing : (read : Reader) (told : Files) (words : Result Order Usage) (out : Outside) → CarriesWords read told words NoMemory 0 out out
words_nothing read told words out = some_nothing (TracesWords read told words) (ordered read told words) out

carries_nothing : (reading : Reading (List ℕ) Report) (out : Outside) → Carries reading NoMemory 0 out out
carries_nothing reading out =
    record { stands = unchanged NoMemory (report_in reading) out out refl tt (λ whole. absurd whole) tt; reached = tt }

-- the same of a trial
pub trial_nothing : (read : Reader) (answer : Result Order Usage) (out : Outside) → CarriesTrial read answer NoMemory 0 out out
trial_nothing read (Ok (Trial order)) out = carries_nothing (known (trial_report read order)) out
trial_nothing read (Ok (Run order)) out = tt
trial_nothing read (Ok (Check model)) out = tt
trial_nothing read (Ok (Graph model)) out = tt
trial_nothing read (Ok (Code model)) out = tt
trial_nothing read (Ok (Migrate model pop to)) out = tt
trial_nothing read (Ok (Trace order)) out = tt
trial_nothing read (Ok (Replay model pop name)) out = tt
trial_nothing read (Err usage) out = tt

pub nothing_keeps : (out : Outside) → Keeps NoMemory 0 out out
nothing_keeps out =
    record { caused = tt; ordered = λ r. r; line = tt; input = λ input. absurd input; goes_on = goes_on_same out }

unordered_by_memory : (answer : Result Order Usage) (out : Outside) → IsUnordered answer NoMemory 0 out out
unordered_by_memory (Ok order) out = tt
unordered_by_memory (Err usage) out = (tt, record { none = refl; same = refl })

pub keeps_nothing : (answer : Result Order Usage) (out : Outside) → KeepsOrder answer NoMemory 0 out out
keeps_nothing answer out = record {
  caused = tt;
  ordered = λ refuses. absurd refuses;
  line = tt;
  input = λ input. absurd input;
  refused = unordered_by_memory answer out;
  faulted = λ faulted. absurd faulted;
  trial = λ trial. record { leaves = record { none = refl; depot = refl }; read = λ fault. fault };
  text = λ text. record { none = refl; depot = reads_same out.depot };
  goes_on = goes_on_same out;
}

-- words that are refused, and end so
refused_carries :
    (usage : Usage) (ending : Ending) (out : Outside)
    → IsUsageEnding usage ending
    → Carries (known (refusal (usage_line usage) 2)) ending 0 out out
refused_carries usage (RefusedWords line) out is =
    record {
      stands = unchanged (RefusedWords line) (refusal (usage_line usage) 2) out out refl (refl, sym is) (λ whole. refl) tt;
      reached = tt;
    }
refused_carries usage NoMemory out is = carries_nothing (known (refusal (usage_line usage) 2)) out
refused_carries usage ending out is = absurd is

refused_keeps :
    (usage : Usage) (ending : Ending) (out : Outside)
    → IsUsageEnding usage ending
    → KeepsOrder (Err usage) ending 0 out out
refused_keeps usage (RefusedWords line) out is = record {
  caused = tt;
  ordered = λ refuses. tt;
  line = subst IsLine (sym is) (usage_is_line usage);
  input = λ input. absurd input;
  refused = (is, record { none = refl; same = refl });
  faulted = λ faulted. absurd faulted;
  trial = λ trial. absurd trial;
  text = λ text. absurd text;
  goes_on = goes_on_same out;
}
refused_keeps usage NoMemory out is = keeps_nothing (Err usage) out
refused_keeps usage ending out is = absurd is

module _ (answer : Result Order Usage) (usage : Usage) (ending : Ending) (out : Outside) (refused : answer ≡ Err usage) (is : IsUsageEnding usage ending) where
  pub carries_refused : (read : Reader) (told : Files) → CarriesWords read told answer ending 0 out out
  carries_refused read told =
      subst (λ (a : Result Order Usage). CarriesWords read told a ending 0 out out) (sym refused)
      (record { trace = no_trace; tells = λ put. tt; carries = refused_carries usage ending out is })

  pub trial_refused : (read : Reader) → CarriesTrial read answer ending 0 out out
  trial_refused read = subst (λ (a : Result Order Usage). CarriesTrial read a ending 0 out out) (sym refused) tt

  pub keeps_refused : KeepsOrder answer ending 0 out out
  keeps_refused =
      subst (λ (a : Result Order Usage). KeepsOrder a ending 0 out out) (sym refused) (refused_keeps usage ending out is)
