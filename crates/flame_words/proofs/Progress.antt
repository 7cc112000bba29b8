-- Reading from the left finds what the definitions say of all words together.
use Rattle.std.proofs.Common.{◌≡◌, ℕ, ◌+◌, ◌≤◌, List, [], ◌∷◌, ◌++◌, length, map, Bool, true, false}
use Rattle.std.proofs.Common.{cond, not}
use Rattle.std.proofs.Common.{Option, Some, None, refl, sym, ◌∙◌, ap, arith, inl, inr, append_assoc}
use Rattle.std.proofs.Common.{length-append}
use Rattle.std.specs.Option.{option_map, option_to_list, option_and_then, option_map_or, is_some}
use Rattle.std.specs.List.{list_any, list_all, slice_get}
use Rattle.std.specs.Str.{bytes_eq}
use Rattle.std.proofs.lemmas.Bool.{and_from, cases_Bool}
use Rattle.std.proofs.lemmas.Slice.Eq.{bytes_eq-Decides}
use Rattle.std.proofs.lemmas.List.{map_push, append-nil}
use Rattle.std.proofs.lemmas.List.Folds.{list_all-append}
use Rattle.std.proofs.lemmas.List.Elements.{filter_map-append}
use Rattle.flame_rows.proofs.Lists.{list_any_map}
use Rattle.flame_words.specs.declared.table.Command.{Command}
use Rattle.flame_words.specs.declared.table.Flag.{Flag}
use Rattle.flame_words.specs.declared.table.Place.{Place}
use Rattle.flame_words.specs.declared.faults.Usage.{Usage}
use Rattle.flame_words.specs.declared.faults.Usage.TheVariants.{Extra, Repeated, UnknownOption}
use Rattle.flame_words.specs.CommandTable.{flag_name, flag_of, flag_takes, options, places, place_takes}
use Rattle.flame_words.specs.WordValues.{fault_as}
use Rattle.flame_words.specs.WordRoles.{Role, option, value, positional, roles, roles_behind, begins_option, Given}
use Rattle.flame_words.specs.WordRoles.{option_word, positional_word, given_value, options_among, positionals_among}
use Rattle.flame_words.specs.WordRoles.{givens_among}
use Rattle.flame_words.specs.UsageFaults.{is_given, fault_of, faults_behind, lacking_option}
use Rattle.flame_words.specs.WordSteps.{Seen, nothing_behind, given_of, fault_at, read_on}
use Rattle.flame_words.specs.TakenWords.{words_suit, given_suits}
use Rattle.flame_words.proofs.Lists.{last_or-push, find_passes}
use Rattle.flame_words.proofs.Suits.{suits_there, words_suit-push}
use Rattle.flame_words.proofs.SpareOptions.{unused, unused-le, unused_falls}

-- the roles of the words that are not read yet
abbrev pub roles_left : Seen → List (List ℕ) → List Role
roles_left seen rest = roles_behind (option_map flag_name seen.pending) (length seen.words) rest

-- of all words behind the command these are not read yet, and the last that was read has this number
pub record Follows (all : List (List ℕ)) (seen : Seen) (number : ℕ) (rest : List (List ℕ)) : Type 0 where
  pub earlier : List Role
  pub split : roles all ≡ earlier ++ roles_left seen rest
  pub clean : faults_behind seen.command [] (roles all) ≡ faults_behind seen.command earlier (roles_left seen rest)
  pub words_are : positionals_among earlier ≡ seen.words
  pub givens_are : givens_among earlier ≡ seen.givens
  pub options_are :
      options_among earlier
      ≡ map (λ given. given.name) seen.givens ++ option_to_list (option_map flag_name seen.pending)
  pub lacking : lacking_option earlier ≡ option_map flag_name seen.pending
  pub known : (flag : Flag) → seen.pending ≡ Some flag → flag_of seen.command (flag_name flag) ≡ Some flag
  pub words_suit_places : words_suit (places seen.command) seen.words ≡ true
  pub givens_suit : list_all (given_suits seen.command) seen.givens ≡ true
  pub number_is : number ≡ length earlier + 1
  pub spare :
      length (options_among earlier) + unused (options_among earlier) (options seen.command)
      ≤ length (options seen.command)

abbrev pub seen_with : Command → List (List ℕ) → List Given → Option Flag → Seen
seen_with command words givens pending = record { command = command; words = words; givens = givens; pending = pending }

-- before the first word
pub follows_first : (command : Command) (all : List (List ℕ)) → Follows all (nothing_behind command) 1 all
follows_first command all = record {
  earlier = [];
  split = refl;
  clean = refl;
  words_are = refl;
  givens_are = refl;
  options_are = refl;
  lacking = refl;
  known = λ flag is. cc;
  words_suit_places = refl;
  givens_suit = refl;
  number_is = refl;
  spare = let fewer = unused-le [] (options command) in omega arith;
}

counted : (number : ℕ) (earlier : List Role) (role : Role)
    → number ≡ length earlier + 1
    → number + 1 ≡ length (earlier ++ role ∷ []) + 1
counted number earlier role is = rw (length-append earlier (role ∷ [])) (omega arith)

-- the next word is the value of the option that waits for it
value_step :
    (all : List (List ℕ)) (command : Command) (words : List (List ℕ)) (givens : List Given) (flag : Flag) (number : ℕ)
    (word : List ℕ) (rest : List (List ℕ))
    → Follows all (seen_with command words givens (Some flag)) number (word ∷ rest)
    → fault_as (flag_takes flag) (number + 1) word ≡ None
    → Follows
    all
    (seen_with command words (givens ++ given_of flag word ∷ []) None)
    (number + 1)
    rest
value_step all command words givens flag number word rest f clear =
    let role : Role = value (flag_name flag) word in
    let left : List Role = roles_behind None (length words) rest in
    let known : flag_of command (flag_name flag) ≡ Some flag = f.known flag refl in
    let next : number + 1 ≡ length f.earlier + 2 = omega (arith, f.number_is) in
    let none : fault_of command f.earlier role ≡ None =
    rw known (ap (λ n. fault_as (flag_takes flag) n word) (sym next) ∙ clear) in
    let suited : given_suits command (given_of flag word) ≡ true =
    rw known (suits_there (flag_takes flag) (number + 1) word clear) in
    let options_stay : options_among (f.earlier ++ role ∷ []) ≡ options_among f.earlier =
    filter_map-append option_word f.earlier (role ∷ []) ∙ append-nil _ in
    record {
      earlier = f.earlier ++ role ∷ [];
      split = f.split ∙ sym (append_assoc f.earlier (role ∷ []) left);
      clean = f.clean ∙ ap (λ o. option_to_list o ++ faults_behind command (f.earlier ++ role ∷ []) left) none;
      words_are = filter_map-append positional_word f.earlier (role ∷ []) ∙ append-nil _ ∙ f.words_are;
      givens_are =
          filter_map-append given_value f.earlier (role ∷ []) ∙ ap (λ g. g ++ given_of flag word ∷ []) f.givens_are;
      options_are =
          options_stay
          ∙ f.options_are
          ∙ sym (map_push (λ given. given.name) givens (given_of flag word))
          ∙ sym (append-nil _);
      lacking = ap (option_and_then option_word) (last_or-push None f.earlier role);
      known = λ other is. cc;
      words_suit_places = f.words_suit_places;
      givens_suit =
          list_all-append (given_suits command) givens (given_of flag word ∷ [])
          ∙ and_from _ _ f.givens_suit (and_from _ _ suited refl);
      number_is = counted number f.earlier role f.number_is;
      spare = rw options_stay f.spare;
    }

-- an option without a fault is one of the command's, and was not given before
option_clear :
    (known : Option Flag) (used : Bool) (unknown repeated : Usage)
    → cond (not (is_some known)) (Some unknown) (cond used (Some repeated) None) ≡ None
    → (flag : Flag) × (known ≡ Some flag) × (used ≡ false)
option_clear None used unknown repeated clear = cc
option_clear (Some flag) true unknown repeated clear = cc
option_clear (Some flag) false unknown repeated clear = (flag, refl, refl)

-- the options among the words that were read are those that have values
pub used_before :
    (names : List (List ℕ)) (givens : List Given) (word : List ℕ)
    → names ≡ map (λ given. given.name) givens ++ []
    → list_any (λ given. bytes_eq given.name word) givens ≡ is_given names word
used_before names givens word are =
    sym (list_any_map (λ name. bytes_eq name word) (λ given. given.name) givens)
    ∙ ap (λ names. is_given names word) (sym (append-nil _) ∙ sym are)

-- the next word is an option
option_step :
    (all : List (List ℕ)) (command : Command) (words : List (List ℕ)) (givens : List Given) (number : ℕ)
    (word : List ℕ) (rest : List (List ℕ)) (flag : Flag)
    → Follows all (seen_with command words givens None) number (word ∷ rest)
    → begins_option word ≡ true
    → flag_of command word ≡ Some flag
    → list_any (λ given. bytes_eq given.name word) givens ≡ false
    → Follows all (seen_with command words givens (Some flag)) (number + 1) rest
option_step all command words givens number word rest flag f begins known fresh =
    let role : Role = option word in
    let name : flag_name flag ≡ word =
    (bytes_eq-Decides (flag_name flag) word).0
    (find_passes (λ other. bytes_eq (flag_name other) word) (options command) flag known) in
    let left : List Role = roles_behind (Some (flag_name flag)) (length words) rest in
    let here : roles_left (seen_with command words givens None) (word ∷ rest)
    ≡ role ∷ left =
    rw (begins, name) refl in
    let unset : is_given (options_among f.earlier) word ≡ false =
    sym (used_before (options_among f.earlier) givens word f.options_are) ∙ fresh in
    let none : fault_of command f.earlier role ≡ None = rw (known, unset) refl in
    let options_more : options_among (f.earlier ++ role ∷ []) ≡ options_among f.earlier ++ word ∷ [] =
    filter_map-append option_word f.earlier (role ∷ []) in
    record {
      earlier = f.earlier ++ role ∷ [];
      split = f.split ∙ ap (λ l. f.earlier ++ l) here ∙ sym (append_assoc f.earlier (role ∷ []) left);
      clean =
          f.clean
          ∙ ap (faults_behind command f.earlier) here
          ∙ ap (λ o. option_to_list o ++ faults_behind command (f.earlier ++ role ∷ []) left) none;
      words_are = filter_map-append positional_word f.earlier (role ∷ []) ∙ append-nil _ ∙ f.words_are;
      givens_are = filter_map-append given_value f.earlier (role ∷ []) ∙ append-nil _ ∙ f.givens_are;
      options_are =
          options_more
          ∙ ap (λ o. o ++ word ∷ []) (f.options_are ∙ append-nil _)
          ∙ ap (λ n. map (λ given. given.name) givens ++ n ∷ []) (sym name);
      lacking = ap (option_and_then option_word) (last_or-push None f.earlier role) ∙ ap Some (sym name);
      known = λ other is.
          let same : flag ≡ other = cc in
          ap (λ g. flag_of command (flag_name g)) (sym same) ∙ ap (flag_of command) name ∙ known ∙ ap Some same;
      words_suit_places = f.words_suit_places;
      givens_suit = f.givens_suit;
      number_is = counted number f.earlier role f.number_is;
      spare =
          let falls = unused_falls (options_among f.earlier) word (options command) flag known unset in
          rw (options_more, length-append (options_among f.earlier) (word ∷ [])) (omega (arith, falls, f.spare));
    }

-- a positional word without a fault has a place, and can be taken as it asks
place_clear :
    (found : Option Place) (number : ℕ) (word : List ℕ) (extra : Usage)
    → option_map_or (λ place. fault_as (place_takes place) number word) found (Some extra) ≡ None
    → (place : Place) × (found ≡ Some place) × (fault_as (place_takes place) number word ≡ None)
place_clear None number word extra clear = cc
place_clear (Some place) number word extra clear = (place, refl, clear)

-- the next word is positional
place_step :
    (all : List (List ℕ)) (command : Command) (words : List (List ℕ)) (givens : List Given) (number : ℕ)
    (word : List ℕ) (rest : List (List ℕ)) (place : Place)
    → Follows all (seen_with command words givens None) number (word ∷ rest)
    → begins_option word ≡ false
    → slice_get (places command) (length words) ≡ Some place
    → fault_as (place_takes place) (number + 1) word ≡ None
    → Follows all (seen_with command (words ++ word ∷ []) givens None) (number + 1) rest
place_step all command words givens number word rest place f begins there clear =
    let role : Role = positional (length words) word in
    let left : List Role = roles_behind None (length (words ++ word ∷ [])) rest in
    let longer : length (words ++ word ∷ []) ≡ length words + 1 = length-append words (word ∷ []) in
    let here : roles_left (seen_with command words givens None) (word ∷ rest)
    ≡ role ∷ left =
    rw (begins, longer) refl in
    let next : number + 1 ≡ length f.earlier + 2 = omega (arith, f.number_is) in
    let none : fault_of command f.earlier role ≡ None =
    rw there (ap (λ n. fault_as (place_takes place) n word) (sym next) ∙ clear) in
    let options_stay : options_among (f.earlier ++ role ∷ []) ≡ options_among f.earlier =
    filter_map-append option_word f.earlier (role ∷ []) ∙ append-nil _ in
    record {
      earlier = f.earlier ++ role ∷ [];
      split = f.split ∙ ap (λ l. f.earlier ++ l) here ∙ sym (append_assoc f.earlier (role ∷ []) left);
      clean =
          f.clean
          ∙ ap (faults_behind command f.earlier) here
          ∙ ap (λ o. option_to_list o ++ faults_behind command (f.earlier ++ role ∷ []) left) none;
      words_are = filter_map-append positional_word f.earlier (role ∷ []) ∙ ap (λ w. w ++ word ∷ []) f.words_are;
      givens_are = filter_map-append given_value f.earlier (role ∷ []) ∙ append-nil _ ∙ f.givens_are;
      options_are = options_stay ∙ f.options_are;
      lacking = ap (option_and_then option_word) (last_or-push None f.earlier role);
      known = f.known;
      words_suit_places =
          words_suit-push (places command) words word place f.words_suit_places there
          (suits_there (place_takes place) (number + 1) word clear);
      givens_suit = f.givens_suit;
      number_is = counted number f.earlier role f.number_is;
      spare = rw options_stay f.spare;
    }

step :
    (all : List (List ℕ)) (command : Command) (words : List (List ℕ)) (givens : List Given) (pending : Option Flag)
    (number : ℕ) (word : List ℕ) (rest : List (List ℕ))
    → Follows all (seen_with command words givens pending) number (word ∷ rest)
    → fault_at pending (seen_with command words givens pending) (number + 1) word
    ≡ None
    → Follows
    all
    (read_on pending (seen_with command words givens pending) word)
    (number + 1)
    rest
step all command words givens (Some flag) number word rest f clear =
    value_step all command words givens flag number word rest f clear
step all command words givens None number word rest f clear =
    elim (cases_Bool (begins_option word)) [
      | inl begins ↦
          let parts = option_clear (flag_of command word) (list_any (λ given. bytes_eq given.name word) givens)
          (UnknownOption (number + 1)) (Repeated (number + 1)) (rw begins at clear) in
          rw (begins, parts.1) (option_step all command words givens number word rest parts.0 f begins parts.1 parts.2)
      | inr begins ↦
          let parts = place_clear (slice_get (places command) (length words)) (number + 1) word (Extra (number + 1))
          (rw begins at clear) in
          rw begins (place_step all command words givens number word rest parts.0 f begins parts.1 parts.2)
    ]

-- one word more, which has no fault
pub follows_on :
    (all : List (List ℕ)) (seen : Seen) (number : ℕ) (word : List ℕ) (rest : List (List ℕ))
    → Follows all seen number (word ∷ rest)
    → fault_at seen.pending seen (number + 1) word ≡ None
    → Follows all (read_on seen.pending seen word) (number + 1) rest
follows_on all seen number word rest f clear =
    step all seen.command seen.words seen.givens seen.pending number word rest f clear

read_on-cond : (begins : Bool) (yes_seen no_seen : Seen) (command : Command)
    → yes_seen.command ≡ command
    → no_seen.command ≡ command
    → (cond begins yes_seen no_seen).command ≡ command
read_on-cond true yes_seen no_seen command is other = is
read_on-cond false yes_seen no_seen command is other = other

-- the command stays
pub read_on-command :
    (pending : Option Flag) (seen : Seen) (word : List ℕ)
    → (read_on pending seen word).command ≡ seen.command
read_on-command (Some flag) seen word = refl
read_on-command None seen word = read_on-cond (begins_option word) _ _ seen.command refl refl
