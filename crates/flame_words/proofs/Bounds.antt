-- The numbers of an order are within their limits.
use Rattle.std.proofs.Common.{◌≡◌, ℕ, zero, suc, ◌<◌, ◌≤◌, List, [], ◌∷◌, ◌++◌, length, map, true, false, cond, ◌&&◌, nat_le}
use Rattle.std.proofs.Common.{Option, Some, None, Result, Ok, Err, IfOk, refl, sym, ◌∙◌, ap, subst, arith, inl, inr}
use Rattle.std.specs.Option.{option_map, option_to_list, ok_or}
use Rattle.std.specs.List.{slice_get, list_all}
use Rattle.std.specs.Str.{bytes_eq}
use Rattle.std.specs.Prelude.{codes}
use Rattle.std.proofs.lemmas.Bool.{and_parts, leb-true}
use Rattle.flame_rows.proofs.Lists.{append-is_nil}
use Rattle.flame_rows.proofs.Truths.{option_map-none}
use Rattle.flame_words.specs.declared.orders.Order.{Order}
use Rattle.flame_words.specs.declared.table.Command.{Command}
use Rattle.flame_words.specs.declared.table.Command.TheVariants.{Run, Check, Graph, Code, Trial, Migrate, Trace, Replay}
use Rattle.flame_words.specs.declared.table.Place.{Place}
use Rattle.flame_words.specs.declared.table.Place.TheVariants.{Turns, Seed, Size, TrialTurns}
use Rattle.flame_words.specs.declared.table.Flag.TheVariants.{Workers, Fuel, Format}
use Rattle.flame_words.specs.declared.table.Takes.TheVariants.{Number}
use Rattle.flame_words.specs.declared.faults.Usage.{Usage}
use Rattle.flame_words.specs.declared.faults.Usage.TheVariants.{UnknownCommand, Missing}
use Rattle.flame_words.specs.CommandTable.{command_of, flag_of, flag_name, places, place_name, place_takes}
use Rattle.flame_words.specs.WordValues.{is_number, number_value, format_of}
use Rattle.flame_words.specs.WordRoles.{Role, roles, Given, positionals_among, givens_among}
use Rattle.flame_words.specs.UsageFaults.{line_behind, faults_behind, missing, lacking_option, absent_place}
use Rattle.flame_words.specs.CommandLines.{first_or, line_order, answer_of, answer_in}
use Rattle.flame_words.specs.GivenOrders.{word_of, word_at, how_of}
use Rattle.flame_words.specs.GivenOrders.{order_from}
use Rattle.flame_words.specs.CommandLines.{order_of}
use Rattle.flame_words.specs.OrderLimits.{HowIsWithin, IsWithin}
use Rattle.flame_words.specs.TakenWords.{suits, words_suit, given_suits}
use Rattle.flame_words.proofs.Reach.{read_to_end}
use Rattle.flame_words.proofs.SmallNumbers.{suits_at, option_suits}
use Rattle.flame_words.proofs.Ends.{ends}

number_within : (least most : ℕ) (word : List ℕ)
    → suits (Number least most) word ≡ true
    → (least ≤ number_value word) × (number_value word ≤ most)
number_within least most word suit =
    let parts = and_parts (is_number word) (nat_le least (number_value word) && nat_le (number_value word) most) suit in
    let within = and_parts (nat_le least (number_value word)) (nat_le (number_value word) most) parts.1 in
    (leb-true least (number_value word) within.0, leb-true (number_value word) most within.1)

place_within :
    (command : Command) (words : List (List ℕ)) (at most : ℕ) (place : Place)
    → words_suit (places command) words ≡ true
    → slice_get (places command) at ≡ Some place
    → place_takes place ≡ Number 0 most
    → at < length words
    → number_value (word_at words at) ≤ most
place_within command words at most place suit there takes within =
    let suited = suits_at (places command) words at place suit there within in
    (number_within 0 most (word_at words at) (ap (λ t. suits t (word_at words at)) (sym takes) ∙ suited)).1

how_within : (command : Command) (givens : List Given)
    → flag_of command (flag_name Workers) ≡ Some Workers
    → flag_of command (flag_name Fuel) ≡ Some Fuel
    → list_all (given_suits command) givens ≡ true
    → HowIsWithin (how_of givens)
how_within command givens has_workers has_fuel suit =
    let workers = number_within 1 64 (word_of givens Workers) (option_suits command givens Workers suit has_workers) in
    let fuel = number_within 0 1000000000 (word_of givens Fuel) (option_suits command givens Fuel suit has_fuel) in
    record { some_worker = workers.0; few_workers = workers.1; fuel = fuel.1 }

format_within : (word : List ℕ) → (1 ≤ format_of word) × (format_of word ≤ 2)
format_within word =
    elim (bytes_eq word (codes "2")) as (λ is. (1 ≤ cond is 2 1) × (cond is 2 1 ≤ 2)) [
      | true ↦ (omega arith, omega arith)
      | false ↦ (omega arith, omega arith)
    ]

-- words that are complete give numbers within their limits
order_within : (command : Command) (words : List (List ℕ)) (givens : List Given)
    → words_suit (places command) words ≡ true
    → length (places command) ≤ length words
    → list_all (given_suits command) givens ≡ true
    → IsWithin (order_from command words givens)
order_within Run words givens suit enough given =
    record {
      turns = place_within Run words 3 1000000 Turns suit refl refl (omega arith);
      some_format = (format_within (word_of givens Format)).0;
      known_format = (format_within (word_of givens Format)).1;
      how = how_within Run givens refl refl given;
    }
order_within Check words givens suit enough given = tt
order_within Graph words givens suit enough given = tt
order_within Code words givens suit enough given = tt
order_within Migrate words givens suit enough given = tt
order_within Replay words givens suit enough given = tt
order_within Trace words givens suit enough given =
    let how = how_within Trace givens refl refl given in
    record { some_worker = how.some_worker; few_workers = how.few_workers; fuel = how.fuel }
order_within Trial words givens suit enough given =
    record {
      seed = place_within Trial words 0 4294967295 Seed suit refl refl (omega arith);
      size = place_within Trial words 1 10000 Size suit refl refl (omega arith);
      turns = place_within Trial words 2 20 TrialTurns suit refl refl (omega arith);
      how = how_within Trial givens refl refl given;
    }

first_or-ok :
    (faults : List Usage) (order other : Order)
    → first_or faults order ≡ Ok other
    → (faults ≡ []) × (order ≡ other)
first_or-ok [] order other e = (refl, cc)
first_or-ok (fault ∷ faults) order other e = (cc, cc)

empty_mapped : {X Y : Type 0} (f : X → Y) (xs : List X) → map f xs ≡ [] → xs ≡ []
empty_mapped f [] e = refl
empty_mapped f (x ∷ xs) e = cc

none_listed : {X : Type 0} (o : Option X) → option_to_list o ≡ [] → o ≡ None
none_listed None e = refl
none_listed (Some x) e = cc

none_past : {X : Type 0} (xs : List X) (at : ℕ) → slice_get xs at ≡ None → length xs ≤ at
none_past [] at none = omega arith
none_past (x ∷ xs) zero none = cc
none_past (x ∷ xs) (suc at) none = let less = none_past xs at none in omega arith

-- where nothing is missing there are enough positional words
enough_words : (command : Command) (words : List Role)
    → missing command words ≡ []
    → length (places command) ≤ length (positionals_among words)
enough_words command words none =
    let names = append-is_nil (option_to_list (lacking_option words)) (option_to_list (absent_place command words))
    (empty_mapped Missing _ none) in
    none_past (places command) (length (positionals_among words))
    (option_map-none place_name _ (none_listed (absent_place command words) names.1))

line_within : (command : Command) (later : List (List ℕ)) (order : Order)
    → answer_of (line_behind command later) ≡ Ok order
    → IsWithin order
line_within command later order e =
    let parts = first_or-ok (faults_behind command [] (roles later) ++ missing command (roles later))
    (line_order (line_behind command later)) order e in
    let clear = append-is_nil (faults_behind command [] (roles later)) (missing command (roles later)) parts.0 in
    let enough = enough_words command (roles later) clear.1 in
    elim (ends command later) [
      | inl end ↦
          let read = read_to_end later end.last end.number end.follows in
          let suit : words_suit (places command) (positionals_among (roles later)) ≡ true =
          ap (λ c. words_suit (places c) (positionals_among (roles later))) (sym end.command_is)
          ∙ ap (words_suit (places end.last.command)) read.words_are
          ∙ read.words_suit_places in
          let given : list_all (given_suits command) (givens_among (roles later)) ≡ true =
          ap (λ c. list_all (given_suits c) (givens_among (roles later))) (sym end.command_is)
          ∙ ap (list_all (given_suits end.last.command)) read.givens_are
          ∙ read.givens_suit in
          subst IsWithin parts.1
          (order_within command (positionals_among (roles later)) (givens_among (roles later)) suit enough given)
      | inr stop ↦ let first = rw clear.0 at stop.first in let wrong : ⊥ = cc in absurd wrong
    ]

found_within : (found : Option Command) (later : List (List ℕ)) (order : Order)
    → answer_in (ok_or (option_map (λ command. line_behind command later) found) (UnknownCommand 1)) ≡ Ok order
    → IsWithin order
found_within None later order e = let wrong : ⊥ = cc in absurd wrong
found_within (Some command) later order e = line_within command later order e

pub orders_within : (words : List (List ℕ)) (order : Order) → order_of words ≡ Ok order → IsWithin order
orders_within [] order e = let wrong : ⊥ = cc in absurd wrong
orders_within (first ∷ later) order e = found_within (command_of first) later order e

-- a result that is the answer of a line is within its limits
pub answered_within : {E : Type 0} (command : Command) (later : List (List ℕ)) (result : Result Order E)
    → IfOk result (λ order. answer_of (line_behind command later) ≡ Ok order)
    → IfOk result IsWithin
answered_within command later (Ok order) is = line_within command later order is
answered_within command later (Err fail) is = tt
