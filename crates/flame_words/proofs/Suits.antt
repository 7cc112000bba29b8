-- Words without a fault can be taken as they are asked for.
use Rattle.std.proofs.Common.{◌≡◌, ℕ, ◌≤◌, List, [], ◌∷◌, ◌++◌, length, Bool, true, false, cond, ◌&&◌}
use Rattle.std.proofs.Common.{not, nat_le}
use Rattle.std.proofs.Common.{Some, None, refl, ◌∙◌, ap, arith}
use Rattle.std.specs.List.{slice_get}
use Rattle.std.proofs.lemmas.Bool.{and_from, and_parts}
use Rattle.flame_words.specs.declared.table.Place.{Place}
use Rattle.flame_words.specs.declared.table.Takes.{Takes}
use Rattle.flame_words.specs.declared.table.Takes.TheVariants.{Text, Number, OneOf}
use Rattle.flame_words.specs.declared.faults.Usage.{Usage}
use Rattle.flame_words.specs.declared.faults.Usage.TheVariants.{BadNumber, OutOfRange, BadChoice}
use Rattle.flame_words.specs.CommandTable.{place_takes, is_among}
use Rattle.flame_words.specs.WordValues.{is_number, number_value, fault_as}
use Rattle.flame_words.specs.TakenWords.{suits, words_suit}

number_suits :
    (is within : Bool) (bad out : Usage)
    → cond (not is) (Some bad) (cond within None (Some out)) ≡ None
    → (is && within) ≡ true
number_suits true true bad out none = refl
number_suits true false bad out none = cc
number_suits false within bad out none = cc

choice_suits : (is : Bool) (bad : Usage) → cond is None (Some bad) ≡ None → is ≡ true
choice_suits true bad none = refl
choice_suits false bad none = cc

-- a word without a fault can be taken so
pub suits_there :
    (takes : Takes) (number : ℕ) (word : List ℕ)
    → fault_as takes number word ≡ None
    → suits takes word ≡ true
suits_there Text number word none = refl
suits_there (Number least most) number word none =
    number_suits (is_number word) (nat_le least (number_value word) && nat_le (number_value word) most)
    (BadNumber number) (OutOfRange number) none
suits_there (OneOf choice) number word none = choice_suits (is_among choice word) (BadChoice number) none

-- one word more that can be taken as the next place asks
pub words_suit-push :
    (places : List Place) (words : List (List ℕ)) (word : List ℕ) (place : Place)
    → words_suit places words ≡ true
    → slice_get places (length words) ≡ Some place
    → suits (place_takes place) word ≡ true
    → words_suit places (words ++ word ∷ []) ≡ true
words_suit-push [] [] word place suit there suited = cc
words_suit-push [] (first ∷ words) word place suit there suited = cc
words_suit-push (next ∷ places) [] word place suit there suited =
    let same : next ≡ place = cc in
    and_from _ _ (ap (λ p. suits (place_takes p) word) same ∙ suited) refl
words_suit-push (next ∷ places) (first ∷ words) word place suit there suited =
    let parts = and_parts _ _ suit in
    and_from _ _ parts.0 (words_suit-push places words word place parts.1 there suited)

-- no word lacks a place
pub words_suit-length :
    (places : List Place) (words : List (List ℕ))
    → words_suit places words ≡ true
    → length words ≤ length places
words_suit-length places [] suit = omega arith
words_suit-length [] (word ∷ words) suit = cc
words_suit-length (place ∷ places) (word ∷ words) suit =
    let parts = and_parts (suits (place_takes place) word) (words_suit places words) suit in
    let fewer = words_suit-length places words parts.1 in
    omega arith
