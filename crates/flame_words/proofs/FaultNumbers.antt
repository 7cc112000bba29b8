-- Faults of words have the numbers of their words.
use Rattle.std.proofs.Common.{◌≡◌, ℕ, zero, suc, ◌+◌, ◌<◌, ◌≤◌, List, [], ◌∷◌, ◌++◌, length, map, Bool, true, false}
use Rattle.std.proofs.Common.{cond, not, ◌&&◌, nat_le}
use Rattle.std.proofs.Common.{Option, Some, None, Ok, refl, sym, ap, arith, inl, inr, add-one, length-append}
use Rattle.std.specs.Option.{is_some, option_map, option_map_or, option_and_then, option_to_list, ok_or}
use Rattle.std.specs.List.{slice_get, slice_index, list_any, All}
use Rattle.std.specs.List.Sorted.{IsStrictlyIncreasing}
use Rattle.std.specs.Str.{bytes_eq}
use Rattle.std.proofs.lemmas.Bool.{cases_Bool}
use Rattle.std.proofs.lemmas.List.{append-nil}
use Rattle.std.proofs.lemmas.List.Elements.{filter_map-append}
use Rattle.flame_rows.proofs.Truths.{cases_Option}
use Rattle.flame_words.specs.declared.table.Command.{Command}
use Rattle.flame_words.specs.declared.table.Flag.{Flag}
use Rattle.flame_words.specs.declared.table.Place.{Place}
use Rattle.flame_words.specs.declared.table.Takes.{Takes}
use Rattle.flame_words.specs.declared.table.Takes.TheVariants.{Text, Number, OneOf}
use Rattle.flame_words.specs.declared.faults.Usage.{Usage}
use Rattle.flame_words.specs.declared.faults.Usage.TheVariants.{UnknownCommand, Missing, Extra, BadNumber, OutOfRange}
use Rattle.flame_words.specs.declared.faults.Usage.TheVariants.{Repeated, UnknownOption, BadChoice}
use Rattle.flame_words.specs.CommandTable.{command_of, flag_of, flag_takes, places, place_takes, is_among}
use Rattle.flame_words.specs.WordValues.{is_number, number_value, fault_as}
use Rattle.flame_words.specs.WordRoles.{Role, option, value, positional, roles, roles_behind, begins_option}
use Rattle.flame_words.specs.WordRoles.{options_among}
use Rattle.flame_words.specs.UsageFaults.{fault_of, faults_behind, number_behind, missing, lacking_option}
use Rattle.flame_words.specs.UsageFaults.{absent_place, line_behind, faults_in, usage_faults}
use Rattle.flame_words.specs.UsageTexts.{word_number}
use Rattle.flame_words.specs.UsageLaws.{words_at_fault}
use Rattle.flame_words.specs.WordSteps.{Seen, fault_at}

number_named :
    (is within : Bool) (number : ℕ) (usage : Usage)
    → cond (not is) (Some (BadNumber number)) (cond within None (Some (OutOfRange number))) ≡ Some usage
    → word_number usage ≡ Some number
number_named false within number usage e = let same : BadNumber number ≡ usage = cc in ap word_number (sym same)
number_named true false number usage e = let same : OutOfRange number ≡ usage = cc in ap word_number (sym same)
number_named true true number usage e = cc

choice_named : (is : Bool) (number : ℕ) (usage : Usage)
    → cond is None (Some (BadChoice number)) ≡ Some usage
    → word_number usage ≡ Some number
choice_named false number usage e = let same : BadChoice number ≡ usage = cc in ap word_number (sym same)
choice_named true number usage e = cc

fault_as_number : (takes : Takes) (number : ℕ) (word : List ℕ) (usage : Usage)
    → fault_as takes number word ≡ Some usage
    → word_number usage ≡ Some number
fault_as_number Text number word usage e = cc
fault_as_number (Number least most) number word usage e =
    number_named (is_number word) (nat_le least (number_value word) && nat_le (number_value word) most) number usage e
fault_as_number (OneOf choice) number word usage e = choice_named (is_among choice word) number usage e

option_named : (known used : Bool) (number : ℕ) (usage : Usage)
    → cond (not known) (Some (UnknownOption number)) (cond used (Some (Repeated number)) None) ≡ Some usage
    → word_number usage ≡ Some number
option_named false used number usage e = let same : UnknownOption number ≡ usage = cc in ap word_number (sym same)
option_named true true number usage e = let same : Repeated number ≡ usage = cc in ap word_number (sym same)
option_named true false number usage e = cc

value_named : (found : Option Flag) (number : ℕ) (word : List ℕ) (usage : Usage)
    → option_and_then (λ flag. fault_as (flag_takes flag) number word) found ≡ Some usage
    → word_number usage ≡ Some number
value_named None number word usage e = cc
value_named (Some flag) number word usage e = fault_as_number (flag_takes flag) number word usage e

place_named : (found : Option Place) (number : ℕ) (word : List ℕ) (usage : Usage)
    → option_map_or (λ place. fault_as (place_takes place) number word) found (Some (Extra number)) ≡ Some usage
    → word_number usage ≡ Some number
place_named None number word usage e = let same : Extra number ≡ usage = cc in ap word_number (sym same)
place_named (Some place) number word usage e = fault_as_number (place_takes place) number word usage e

-- a fault of a word in its role names that word
fault_of_number : (command : Command) (before : List Role) (word : Role) (usage : Usage)
    → fault_of command before word ≡ Some usage
    → word_number usage ≡ Some (number_behind before)
fault_of_number command before (option word) usage e =
    option_named (is_some (flag_of command word)) (list_any (λ earlier. bytes_eq earlier word) (options_among before))
    (number_behind before) usage e
fault_of_number command before (value name word) usage e =
    value_named (flag_of command name) (number_behind before) word usage e
fault_of_number command before (positional number word) usage e =
    place_named (slice_get (places command) number) (number_behind before) word usage e

-- a fault of the next word names that word
pub fault_at_number : (pending : Option Flag) (seen : Seen) (number : ℕ) (word : List ℕ) (usage : Usage)
    → fault_at pending seen number word ≡ Some usage
    → word_number usage ≡ Some number
fault_at_number (Some flag) seen number word usage e = fault_as_number (flag_takes flag) number word usage e
fault_at_number None seen number word usage e =
    elim (cases_Bool (begins_option word)) [
      | inl begins ↦
          option_named (is_some (flag_of seen.command word)) (list_any (λ given. bytes_eq given.name word) seen.givens)
          number usage (rw begins at e)
      | inr begins ↦
          place_named (slice_get (places seen.command) (length seen.words)) number word usage (rw begins at e)
    ]

-- each number is above the one before it, the first above `low`, and none is above `high`
abbrev pub climbs : ℕ → ℕ → List ℕ → Type 0
climbs low high [] = Unit {0}
climbs low high (x ∷ xs) = (low < x) × (x ≤ high) × climbs x high xs

climbs-from : (low lower high : ℕ) (xs : List ℕ) → lower ≤ low → climbs low high xs → climbs lower high xs
climbs-from low lower high [] less up = tt
climbs-from low lower high (x ∷ xs) less up = let first : low < x = up.0 in (omega arith, up.1, up.2)

pub climbs_increasing : (low high : ℕ) (xs : List ℕ) → climbs low high xs → IsStrictlyIncreasing xs
climbs_increasing low high [] up k within = absurd (omega arith)
climbs_increasing low high (x ∷ []) up k within = absurd (omega arith)
climbs_increasing low high (x ∷ y ∷ ys) up zero within = up.2.0
climbs_increasing low high (x ∷ y ∷ ys) up (suc k) within =
    let rest : slice_index (y ∷ ys) k < slice_index (y ∷ ys) (k + 1) =
    climbs_increasing x high (y ∷ ys) up.2 k (omega arith) in
    rw add-one (rw add-one at rest)

pub climbs_within :
    (low high : ℕ) (xs : List ℕ)
    → climbs low high xs
    → All (λ number. (low < number) × (number ≤ high)) xs
climbs_within low high [] up k d within = absurd (omega arith)
climbs_within low high (x ∷ xs) up zero d within = (up.0, up.1)
climbs_within low high (x ∷ xs) up (suc k) d within =
    let rest = climbs_within x high xs up.2 k d (omega arith) in
    let first : low < x = up.0 in
    (omega (arith, rest.0), rest.1)

-- the faults of words climb with the words
faults_climb : (command : Command) (before : List Role) (words : List Role) (high : ℕ)
    → high ≡ length before + 1 + length words
    → climbs (length before + 1) high (words_at_fault (faults_behind command before words))
faults_climb command before [] high e = tt
faults_climb command before (word ∷ words) high e =
    let longer : length (before ++ word ∷ []) ≡ length before + 1 = length-append before (word ∷ []) in
    let later : climbs
    (length (before ++ word ∷ []) + 1)
    high
    (words_at_fault (faults_behind command (before ++ word ∷ []) words)) =
    faults_climb command (before ++ word ∷ []) words high (omega (arith, longer, e)) in
    elim (cases_Option (fault_of command before word)) [
      | inl none ↦ rw none (climbs-from (length (before ++ word ∷ []) + 1) _ high _ (omega (arith, longer)) later)
      | inr some ↦
          let named = fault_of_number command before word some.0 some.1 in
          let next : length (before ++ word ∷ []) + 1 ≡ length before + 2 = omega (arith, longer) in
          rw (some.1, named) (omega arith, omega (arith, e), rw next at later)
    ]

none_named : (names : List (List ℕ)) → words_at_fault (map Missing names) ≡ []
none_named [] = refl
none_named (name ∷ names) = none_named names

pub length-roles_behind : (before : Option (List ℕ)) (count : ℕ) (words : List (List ℕ))
    → length (roles_behind before count words) ≡ length words
length-roles_behind before count [] = refl
length-roles_behind (Some name) count (word ∷ words) = ap suc (length-roles_behind None count words)
length-roles_behind None count (word ∷ words) =
    elim (cases_Bool (begins_option word)) [
      | inl begins ↦ rw begins (ap suc (length-roles_behind (Some word) count words))
      | inr begins ↦ rw begins (ap suc (length-roles_behind None (count + 1) words))
    ]

line_climbs : (command : Command) (later : List (List ℕ))
    → climbs 0 (1 + length later) (words_at_fault (faults_in (Ok (line_behind command later))))
line_climbs command later =
    let high = length-roles_behind None 0 later in
    let words = roles later in
    let ends = none_named (option_to_list (lacking_option words) ++ option_to_list (absent_place command words)) in
    rw (
      filter_map-append word_number (faults_behind command [] words) (missing command words),
      ends,
      append-nil,
    )
    (climbs-from 1 0 _ _ (omega arith) (faults_climb command [] (roles later) (1 + length later) (omega (arith, high))))

found_climbs : (found : Option Command) (later : List (List ℕ))
    → climbs 0 (1 + length later)
    (words_at_fault (faults_in (ok_or (option_map (λ command. line_behind command later) found) (UnknownCommand 1))))
found_climbs None later = (omega arith, omega arith, tt)
found_climbs (Some command) later = line_climbs command later

-- all faults climb with the words
pub numbered : (words : List (List ℕ)) → climbs 0 (length words) (words_at_fault (usage_faults words))
numbered [] = tt
numbered (first ∷ later) =
    let size : length (first ∷ later) ≡ 1 + length later = omega arith in
    rw size (found_climbs (command_of first) later)
