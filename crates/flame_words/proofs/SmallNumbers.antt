-- In words without a fault that lack nothing each number is one that 32 bits hold.
use Rattle.std.proofs.Common.{◌≡◌, ℕ, ◌<◌, ◌≤◌, ◌^◌, List, [], ◌∷◌, zero, suc, length, true, ◌&&◌}
use Rattle.std.proofs.Common.{nat_le, Some}
use Rattle.std.proofs.Common.{refl, sym, ◌∙◌, ap, arith, inl, inr}
use Rattle.std.specs.List.{list_all, slice_get}
use Rattle.std.specs.Str.{bytes_eq}
use Rattle.std.proofs.lemmas.Bool.{and_parts, leb-true, cases_Bool}
use Rattle.std.proofs.lemmas.Slice.Eq.{bytes_eq-Decides}
use Rattle.flame_words.specs.declared.table.Command.{Command}
use Rattle.flame_words.specs.declared.table.Command.TheVariants.{Run, Trial, Trace}
use Rattle.flame_words.specs.declared.table.Place.{Place}
use Rattle.flame_words.specs.declared.table.Place.TheVariants.{Turns, Seed, Size, TrialTurns}
use Rattle.flame_words.specs.declared.table.Flag.{Flag}
use Rattle.flame_words.specs.declared.table.Flag.TheVariants.{Workers, Fuel, Sync, By, Format}
use Rattle.flame_words.specs.declared.table.Takes.TheVariants.{Number}
use Rattle.flame_words.specs.CommandTable.{places, place_takes, flag_of, flag_name, flag_takes}
use Rattle.flame_words.specs.WordValues.{is_number, number_value}
use Rattle.flame_words.specs.WordRoles.{Given}
use Rattle.flame_words.specs.GivenOrders.{word_at, word_of}
use Rattle.flame_words.specs.TakenWords.{suits, words_suit, given_suits, IsSmallNumber, NumbersSuit}
use Rattle.flame_words.specs.WordSteps.{Seen, IsComplete}

-- a positional word can be taken as its place asks
pub suits_at :
    (places : List Place) (words : List (List ℕ)) (at : ℕ) (place : Place)
    → words_suit places words ≡ true
    → slice_get places at ≡ Some place
    → at < length words
    → suits (place_takes place) (word_at words at) ≡ true
suits_at places [] at place suit there within = absurd (omega arith)
suits_at [] (word ∷ words) at place suit there within = cc
suits_at (first ∷ places) (word ∷ words) zero place suit there within =
    let same : first ≡ place = cc in
    ap (λ p. suits (place_takes p) word) (sym same) ∙ (and_parts _ _ suit).0
suits_at (first ∷ places) (word ∷ words) (suc at) place suit there within =
    let rest = and_parts (suits (place_takes first) word) (words_suit places words) suit in
    suits_at places words at place rest.1 there (omega arith)

-- a number within limits of 32 bits is one that 32 bits hold
pub small_number :
    (least most : ℕ) (word : List ℕ)
    → most < 2 ^ 32
    → suits (Number least most) word ≡ true
    → IsSmallNumber word
small_number least most word few suit =
    let parts = and_parts (is_number word) (nat_le least (number_value word) && nat_le (number_value word) most) suit in
    let within = and_parts (nat_le least (number_value word)) (nat_le (number_value word) most) parts.1 in
    let below = leb-true (number_value word) most within.1 in
    record { number = parts.0; small = omega arith }

-- the numbers among the positional words of `run` and of `trial`
pub run_number : (seen : Seen) → IsComplete seen → seen.command ≡ Run → IsSmallNumber (word_at seen.words 3)
run_number seen complete run =
    let at_run = ap places run in
    let enough : 4 ≤ length seen.words = rw (ap (λ p. length p) at_run) at complete.enough in
    small_number 0 1000000 _ (omega arith)
    (suits_at (places seen.command) seen.words 3 Turns complete.words_suit_places (ap (λ p. slice_get p 3) at_run)
    (omega arith))

trial_place :
    (seen : Seen) (at most : ℕ) (place : Place)
    → IsComplete seen
    → seen.command ≡ Trial
    → slice_get (places Trial) at ≡ Some place
    → place_takes place ≡ Number 0 most
    → at < 3
    → most < 2 ^ 32
    → IsSmallNumber (word_at seen.words at)
trial_place seen at most place complete trial there takes few small =
    let at_trial = ap places trial in
    let enough : 3 ≤ length seen.words = rw (ap (λ p. length p) at_trial) at complete.enough in
    let suit =
    suits_at (places seen.command) seen.words at place complete.words_suit_places
    (ap (λ p. slice_get p at) at_trial ∙ there)
    (omega arith) in
    small_number 0 most _ small (ap (λ t. suits t (word_at seen.words at)) (sym takes) ∙ suit)

pub trial_seed : (seen : Seen) → IsComplete seen → seen.command ≡ Trial → IsSmallNumber (word_at seen.words 0)
trial_seed seen complete trial = trial_place seen 0 4294967295 Seed complete trial refl refl (omega arith) (omega arith)

pub trial_size : (seen : Seen) → IsComplete seen → seen.command ≡ Trial → IsSmallNumber (word_at seen.words 1)
trial_size seen complete trial = trial_place seen 1 10000 Size complete trial refl refl (omega arith) (omega arith)

pub trial_turns : (seen : Seen) → IsComplete seen → seen.command ≡ Trial → IsSmallNumber (word_at seen.words 2)
trial_turns seen complete trial = trial_place seen 2 20 TrialTurns complete trial refl refl (omega arith) (omega arith)

default_suits : (flag : Flag) → suits (flag_takes flag) (word_of [] flag) ≡ true
default_suits Workers = refl
default_suits Fuel = refl
default_suits Sync = refl
default_suits By = refl
default_suits Format = refl

-- an option of the command has a value that it can have
pub option_suits :
    (command : Command) (givens : List Given) (flag : Flag)
    → list_all (given_suits command) givens ≡ true
    → flag_of command (flag_name flag) ≡ Some flag
    → suits (flag_takes flag) (word_of givens flag) ≡ true
option_suits command [] flag suit known = default_suits flag
option_suits command (given ∷ givens) flag suit known =
    let parts = and_parts (given_suits command given) (list_all (given_suits command) givens) suit in
    elim (cases_Bool (bytes_eq given.name (flag_name flag))) [
      | inl here ↦
          let name : given.name ≡ flag_name flag = (bytes_eq-Decides given.name (flag_name flag)).0 here in
          let flagged : flag_of command given.name ≡ Some flag = ap (flag_of command) name ∙ known in
          rw here (rw flagged at parts.0)
      | inr elsewhere ↦ rw elsewhere (option_suits command givens flag parts.1 known)
    ]

pub run_options : (seen : Seen) → IsComplete seen → seen.command ≡ Run → NumbersSuit seen.givens
run_options seen complete run = record {
  workers =
      option_suits seen.command seen.givens Workers complete.givens_suit
      (ap (λ command. flag_of command (flag_name Workers)) run);
  fuel =
      option_suits seen.command seen.givens Fuel complete.givens_suit
      (ap (λ command. flag_of command (flag_name Fuel)) run);
}

pub trial_options : (seen : Seen) → IsComplete seen → seen.command ≡ Trial → NumbersSuit seen.givens
trial_options seen complete trial = record {
  workers =
      option_suits seen.command seen.givens Workers complete.givens_suit
      (ap (λ command. flag_of command (flag_name Workers)) trial);
  fuel =
      option_suits seen.command seen.givens Fuel complete.givens_suit
      (ap (λ command. flag_of command (flag_name Fuel)) trial);
}

pub trace_options : (seen : Seen) → IsComplete seen → seen.command ≡ Trace → NumbersSuit seen.givens
trace_options seen complete trace = record {
  workers =
      option_suits seen.command seen.givens Workers complete.givens_suit
      (ap (λ command. flag_of command (flag_name Workers)) trace);
  fuel =
      option_suits seen.command seen.givens Fuel complete.givens_suit
      (ap (λ command. flag_of command (flag_name Fuel)) trace);
}

-- the options whose values are numbers
pub workers_small : (givens : List Given) → NumbersSuit givens → IsSmallNumber (word_of givens Workers)
workers_small givens suit = small_number 1 64 (word_of givens Workers) (omega arith) suit.workers

pub fuel_small : (givens : List Given) → NumbersSuit givens → IsSmallNumber (word_of givens Fuel)
fuel_small givens suit = small_number 0 1000000000 (word_of givens Fuel) (omega arith) suit.fuel
