-- What holds of a command line that ends so, whatever the devices tell.
use Rattle.std.specs.Prelude.{◌≡◌, ℕ, Result, Ok, Err}
use Rattle.flame_outside.specs.Scripts.{Outside, GoesOn}
use Rattle.flame_words.specs.declared.orders.Order.{Order}
use Rattle.flame_words.specs.declared.orders.Order.TheVariants.{Trial}
use Rattle.flame_words.specs.declared.faults.Usage.{Usage}
use Rattle.flame_report.specs.FaultLines.{usage_line}
use Rattle.flame_load.specs.InputReads.{known}
use Rattle.flame_load.specs.TextReads.{Reader}
use Rattle.flame_top.specs.declared.ending.Ending.{Ending}
use Rattle.flame_top.specs.declared.ending.Ending.TheVariants.{RefusedWords, NoMemory}
use Rattle.flame_top.specs.CallAnswers.{AreRefused, OrdersTrial, OrdersIterations, OrdersText}
use Rattle.flame_top.specs.CallAnswers.{LeavesAll, LeavesDepot, PutsNothing, WritesNothing}
use Rattle.flame_top.specs.InputAnswers.{IsReadFault}
use Rattle.flame_top.specs.OrderReports.{trial_report}
use Rattle.flame_top.specs.Standing.{Carries, IsCaused, RefusesWords, IsFaulted, IsOfInput, TellsLine}

-- the ending has the line of this fault of usage; or there was no memory for it [own]
abbrev pub IsUsageEnding : Usage → Ending → Type 0
IsUsageEnding usage (RefusedWords line) = line ≡ usage_line usage
IsUsageEnding usage NoMemory = Unit {0}
IsUsageEnding usage ending = ⊥

-- the depot is as it was, no file was put, and no input could not be read [own]
pub record IsApartBy (ending : Ending) (files : ℕ) (old new : Outside) : Type 0 where
  pub leaves : LeavesDepot files old new
  pub read : ¬ IsReadFault ending

-- what stands of a trial, whatever the depot tells [own]
abbrev pub CarriesTrial : Reader → Result Order Usage → Ending → ℕ → Outside → Outside → Type 0
CarriesTrial read (Ok (Trial order)) ending files old new = Carries (known (trial_report read order)) ending files old new
CarriesTrial read answer ending files old new = Unit {0}

-- words that are refused leave all as it was, and the ending says so, or that memory was not found [own]
abbrev pub IsUnordered : Result Order Usage → Ending → ℕ → Outside → Outside → Type 0
IsUnordered (Ok order) ending files old new = Unit {0}
IsUnordered (Err usage) ending files old new = IsUsageEnding usage ending × LeavesAll files old new

-- what holds of a command line that gives this order or fault, and ends so with so many files [own]
pub record KeepsOrder (answer : Result Order Usage) (ending : Ending) (files : ℕ) (old new : Outside) : Type 0 where
  pub caused : IsCaused ending old new
  pub ordered : RefusesWords ending → AreRefused answer
  pub line : TellsLine ending
  pub input : IsOfInput ending → WritesNothing files old new
  pub refused : IsUnordered answer ending files old new
  pub faulted : IsFaulted ending → OrdersIterations answer
  pub trial : OrdersTrial answer → IsApartBy ending files old new
  pub text : OrdersText answer → PutsNothing files old new
  pub goes_on : GoesOn old new
