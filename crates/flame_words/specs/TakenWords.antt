-- Words that can be taken as they are asked for.
use Rattle.std.specs.Prelude.{◌≡◌, ℕ, ◌<◌, ◌^◌, IsTrue, List, [], ◌∷◌, Bool, true, false, ◌&&◌, nat_le}
use Rattle.std.specs.Option.{option_map_or}
use Rattle.flame_words.specs.declared.table.Command.{Command}
use Rattle.flame_words.specs.declared.table.Flag.TheVariants.{Workers, Fuel}
use Rattle.flame_words.specs.declared.table.Place.{Place}
use Rattle.flame_words.specs.declared.table.Takes.{Takes}
use Rattle.flame_words.specs.declared.table.Takes.TheVariants.{Text, Number, OneOf}
use Rattle.flame_words.specs.CommandTable.{flag_of, flag_takes, place_takes, is_among}
use Rattle.flame_words.specs.WordValues.{is_number, number_value}
use Rattle.flame_words.specs.WordRoles.{Given}
use Rattle.flame_words.specs.GivenOrders.{word_of}

-- the word can be taken so [own]
abbrev pub suits : Takes → List ℕ → Bool
suits Text word = true
suits (Number least most) word =
    is_number word && (nat_le least (number_value word) && nat_le (number_value word) most)
suits (OneOf choice) word = is_among choice word

-- each word can be taken as its place asks, and no word lacks a place [own]
abbrev pub words_suit : List Place → List (List ℕ) → Bool
words_suit places [] = true
words_suit [] (word ∷ words) = false
words_suit (place ∷ places) (word ∷ words) = suits (place_takes place) word && words_suit places words

-- the value can be taken as its option asks [own]
abbrev pub given_suits : Command → Given → Bool
given_suits command given =
    option_map_or (λ flag. suits (flag_takes flag) given.word) (flag_of command given.name) false

-- the word is a number that 32 bits hold [own]
pub record IsSmallNumber (word : List ℕ) : Type 0 where
  pub number : IsTrue (is_number word)
  pub small : number_value word < 2 ^ 32

-- the options that are numbers have values that they can have [own]
pub record NumbersSuit (givens : List Given) : Type 0 where
  pub workers : suits (flag_takes Workers) (word_of givens Workers) ≡ true
  pub fuel : suits (flag_takes Fuel) (word_of givens Fuel) ≡ true
