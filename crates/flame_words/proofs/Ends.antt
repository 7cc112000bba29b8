-- How the reading of a line ends: at its end, or at its first fault, which is one of the first fourteen words.
use Rattle.std.proofs.Common.{◌≡◌, ℕ, ◌+◌, ◌≤◌, ◌⊎◌, List, [], ◌∷◌, ◌++◌, length, Some}
use Rattle.std.proofs.Common.{None}
use Rattle.std.proofs.Common.{Option, refl, sym, ◌∙◌, ap, arith, inl, inr}
use Rattle.std.specs.Option.{option_map, ok_or, IsSomeAnd}
use Rattle.std.specs.Result.{IsErrAnd}
use Rattle.std.specs.List.{slice_get}
use Rattle.std.proofs.lemmas.List.{append-nil}
use Rattle.flame_rows.proofs.Truths.{cases_Option}
use Rattle.flame_words.specs.declared.orders.Order.{Order}
use Rattle.flame_words.specs.declared.table.Command.{Command}
use Rattle.flame_words.specs.declared.faults.Usage.{Usage}
use Rattle.flame_words.specs.declared.faults.Usage.TheVariants.{UnknownCommand}
use Rattle.flame_words.specs.CommandTable.{command_of}
use Rattle.flame_words.specs.WordRoles.{roles}
use Rattle.flame_words.specs.UsageFaults.{line_behind, faults_behind, missing}
use Rattle.flame_words.specs.CommandLines.{first_or, line_order, answer_of, answer_in, order_of}
use Rattle.flame_words.specs.UsageTexts.{word_number}
use Rattle.flame_words.specs.WordSteps.{Seen, nothing_behind, fault_at, read_on}
use Rattle.flame_words.proofs.Progress.{Follows, follows_first, follows_on, read_on-command}
use Rattle.flame_words.proofs.FoundFaults.{fault_found}
use Rattle.flame_words.proofs.Reach.{few_read}
use Rattle.flame_words.proofs.FaultNumbers.{fault_at_number, length-roles_behind}

-- all words were read
pub record Finishes (command : Command) (all : List (List ℕ)) : Type 0 where
  pub last : Seen
  pub number : ℕ
  pub command_is : last.command ≡ command
  pub follows : Follows all last number []

-- one of the first fourteen words has the first fault
pub record Stops (command : Command) (all : List (List ℕ)) : Type 0 where
  pub usage : Usage
  pub number : ℕ
  pub first : slice_get (faults_behind command [] (roles all)) 0 ≡ Some usage
  pub named : word_number usage ≡ Some number
  pub early : number ≤ 16

ends_from :
    (command : Command) (all : List (List ℕ)) (rest : List (List ℕ)) (seen : Seen) (number : ℕ)
    → seen.command ≡ command
    → Follows all seen number rest
    → Finishes command all ⊎ Stops command all
ends_from command all [] seen number is f = inl (record { last = seen; number = number; command_is = is; follows = f })
ends_from command all (word ∷ rest) seen number is f =
    elim (cases_Option (fault_at seen.pending seen (number + 1) word)) [
      | inl none ↦
          ends_from command all rest (read_on seen.pending seen word) (number + 1)
          (read_on-command seen.pending seen word ∙ is)
          (follows_on all seen number word rest f none)
      | inr some ↦
          let few = few_read all seen number (word ∷ rest) f in
          inr (record {
            usage = some.0;
            number = number + 1;
            first =
                ap (λ c. slice_get (faults_behind c [] (roles all)) 0) (sym is)
                ∙ fault_found all seen number word rest some.0 f some.1;
            named = fault_at_number seen.pending seen (number + 1) word some.0 some.1;
            early = omega arith;
          })
    ]

pub ends : (command : Command) (all : List (List ℕ)) → Finishes command all ⊎ Stops command all
ends command all = ends_from command all all (nothing_behind command) 1 refl (follows_first command all)

first_is_early :
    (faults more : List Usage) (order : Order) (usage : Usage) (number : ℕ)
    → slice_get faults 0 ≡ Some usage
    → word_number usage ≡ Some number
    → number ≤ 16
    → IsErrAnd (first_or (faults ++ more) order) (λ fault. IsSomeAnd (word_number fault) (λ number. number ≤ 30))
first_is_early [] more order usage number first named early = cc
first_is_early (fault ∷ faults) more order usage number first named early =
    let same : fault ≡ usage = cc in
    rw (same, named) (omega arith)

line_is_refused : (command : Command) (later : List (List ℕ))
    → 29 ≤ length later
    → IsErrAnd (answer_of (line_behind command later)) (λ fault. IsSomeAnd (word_number fault) (λ number. number ≤ 30))
line_is_refused command later many =
    elim (ends command later) [
      | inl end ↦
          let few = few_read later end.last end.number [] end.follows in
          let whole : roles later ≡ end.follows.earlier = end.follows.split ∙ append-nil end.follows.earlier in
          let size = length-roles_behind None 0 later in
          let same : length (roles later) ≡ length end.follows.earlier = ap length whole in
          absurd (omega (arith, end.follows.number_is, size, same, few))
      | inr stop ↦
          first_is_early (faults_behind command [] (roles later)) (missing command (roles later))
          (line_order (line_behind command later)) stop.usage stop.number stop.first stop.named stop.early
    ]

found_is_refused : (found : Option Command) (later : List (List ℕ))
    → 29 ≤ length later
    → IsErrAnd
    (answer_in (ok_or (option_map (λ command. line_behind command later) found) (UnknownCommand 1)))
    (λ fault. IsSomeAnd (word_number fault) (λ number. number ≤ 30))
found_is_refused None later many = omega arith
found_is_refused (Some command) later many = line_is_refused command later many

-- thirty words or more are refused for one of the first thirty
pub many_refused : (words : List (List ℕ))
    → 30 ≤ length words
    → IsErrAnd (order_of words) (λ fault. IsSomeAnd (word_number fault) (λ number. number ≤ 30))
many_refused [] many = absurd (omega arith)
many_refused (first ∷ later) many = found_is_refused (command_of first) later (omega arith)
