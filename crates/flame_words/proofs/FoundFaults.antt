-- The fault that stops the reading is the first of all.
use Rattle.std.proofs.Common.{◌≡◌, ℕ, ◌+◌, List, [], ◌∷◌, ◌++◌, length}
use Rattle.std.proofs.Common.{Option, Some, None, refl, sym, ◌∙◌, ap, arith, inl, inr}
use Rattle.std.specs.Option.{option_to_list}
use Rattle.std.specs.List.{slice_get}
use Rattle.std.proofs.lemmas.Bool.{cases_Bool}
use Rattle.flame_words.specs.declared.table.Command.{Command}
use Rattle.flame_words.specs.declared.table.Flag.{Flag}
use Rattle.flame_words.specs.declared.faults.Usage.{Usage}
use Rattle.flame_words.specs.CommandTable.{flag_name, flag_of, flag_takes}
use Rattle.flame_words.specs.WordValues.{fault_as}
use Rattle.flame_words.specs.WordRoles.{option, value, positional, roles, begins_option, Given}
use Rattle.flame_words.specs.WordRoles.{options_among}
use Rattle.flame_words.specs.UsageFaults.{fault_of, faults_behind}
use Rattle.flame_words.specs.WordSteps.{Seen, fault_at, option_fault, place_fault}
use Rattle.flame_words.proofs.Progress.{Follows, seen_with, used_before}

-- the fault of the next word is that of the word in its role
value_fault :
    (all : List (List ℕ)) (command : Command) (words : List (List ℕ)) (givens : List Given) (flag : Flag) (number : ℕ)
    (word : List ℕ) (rest : List (List ℕ))
    → (f : Follows all (seen_with command words givens (Some flag)) number (word ∷ rest))
    → fault_of command f.earlier (value (flag_name flag) word) ≡ fault_as (flag_takes flag) (number + 1) word
value_fault all command words givens flag number word rest f =
    let known : flag_of command (flag_name flag) ≡ Some flag = f.known flag refl in
    let next : number + 1 ≡ length f.earlier + 2 = omega (arith, f.number_is) in
    rw known (ap (λ n. fault_as (flag_takes flag) n word) (sym next))

option_fault_same :
    (all : List (List ℕ)) (command : Command) (words : List (List ℕ)) (givens : List Given) (number : ℕ)
    (word : List ℕ) (rest : List (List ℕ))
    → (f : Follows all (seen_with command words givens None) number (word ∷ rest))
    → fault_of command f.earlier (option word)
    ≡ option_fault (seen_with command words givens None) (number + 1) word
option_fault_same all command words givens number word rest f =
    let next : number + 1 ≡ length f.earlier + 2 = omega (arith, f.number_is) in
    rw (used_before (options_among f.earlier) givens word f.options_are, next) refl

place_fault_same :
    (all : List (List ℕ)) (command : Command) (words : List (List ℕ)) (givens : List Given) (number : ℕ)
    (word : List ℕ) (rest : List (List ℕ))
    → (f : Follows all (seen_with command words givens None) number (word ∷ rest))
    → fault_of command f.earlier (positional (length words) word)
    ≡ place_fault (seen_with command words givens None) (number + 1) word
place_fault_same all command words givens number word rest f =
    let next : number + 1 ≡ length f.earlier + 2 = omega (arith, f.number_is) in
    rw next refl

-- the first of some faults that begin with this one
first_of : (found : Option Usage) (usage : Usage) (more : List Usage)
    → found ≡ Some usage
    → slice_get (option_to_list found ++ more) 0 ≡ Some usage
first_of found usage more is = rw is refl

found :
    (all : List (List ℕ)) (command : Command) (words : List (List ℕ)) (givens : List Given) (pending : Option Flag)
    (number : ℕ) (word : List ℕ) (rest : List (List ℕ)) (usage : Usage)
    → Follows all (seen_with command words givens pending) number (word ∷ rest)
    → fault_at pending (seen_with command words givens pending) (number + 1) word
    ≡ Some usage
    → slice_get (faults_behind command [] (roles all)) 0 ≡ Some usage
found all command words givens (Some flag) number word rest usage f is =
    rw f.clean (first_of _ usage _ (value_fault all command words givens flag number word rest f ∙ is))
found all command words givens None number word rest usage f is =
    elim (cases_Bool (begins_option word)) [
      | inl begins ↦
          rw (f.clean, begins)
          (first_of _ usage _ (option_fault_same all command words givens number word rest f ∙ (rw begins at is)))
      | inr begins ↦
          rw (f.clean, begins)
          (first_of _ usage _ (place_fault_same all command words givens number word rest f ∙ (rw begins at is)))
    ]

-- the fault of the next word is the first of all
pub fault_found :
    (all : List (List ℕ)) (seen : Seen) (number : ℕ) (word : List ℕ) (rest : List (List ℕ)) (usage : Usage)
    → Follows all seen number (word ∷ rest)
    → fault_at seen.pending seen (number + 1) word ≡ Some usage
    → slice_get (faults_behind seen.command [] (roles all)) 0 ≡ Some usage
fault_found all seen number word rest usage f is =
    found all seen.command seen.words seen.givens seen.pending number word rest usage f is
