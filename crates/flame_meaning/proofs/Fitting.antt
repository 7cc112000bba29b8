-- How many numbers arguments stand for.
use Rattle.std.proofs.Common.{◌≡◌, ℕ, zero, suc, ◌+◌, Bool, true, false, cond, List, [], ◌∷◌, ◌++◌, length, Option}
use Rattle.std.proofs.Common.{Some, None, refl, sym, ap, ◌∙◌, arith}
use Rattle.std.specs.Prelude.{ℤ, not, is_some, ◌==◌, Result, Ok, Err}
use Rattle.std.proofs.lemmas.Bool.{not-false, eqb-true}
use Rattle.std.proofs.lemmas.List.{length-append}
use Rattle.flame_rows.proofs.Lists.{append-is_nil_left, append-is_nil_right}
use Rattle.flame_rows.proofs.Truths.{is_some-false}
use Rattle.flame_spec.specs.declared.faults.Fault.{Fault}
use Rattle.flame_spec.specs.declared.models.Variable.{Variable}
use Rattle.flame_spec.specs.declared.faults.CheckKind.TheVariants.{WrongCount, NeedsIndex}
use Rattle.flame_spec.specs.declared.faults.CheckKind.TheVariants.{WrongLength, ReadOnly}
use Rattle.flame_spec.specs.CallFaults.{Deed, sets, sends, bears, calls, called_by, deed_of, places_of, wanted}
use Rattle.flame_spec.specs.CallFaults.{count, length_found, length_given, length_of_argument, is_length}
use Rattle.flame_spec.specs.CallFaults.{whole_faults, argument_faults, arguments_faults, sets_array}
use Rattle.flame_spec.specs.CallFaults.{deed_faults, call_faults}
use Rattle.flame_spec.specs.Columns.{width_by, width_of, width, is_array}
use Rattle.flame_spec.specs.Definitions.{Definition, helper_named}
use Rattle.flame_spec.specs.ExpressionFaults.{fault_where, unknown_faults, gives_array, names_array}
use Rattle.flame_spec.specs.ExpressionFaults.{row_faults, is_found_array, member_read, expression_faults}
use Rattle.flame_spec.specs.ExpressionFaults.{parts_faults}
use Rattle.flame_spec.specs.LookUps.{iteration, memory_named, constant_named}
use Rattle.flame_spec.specs.LookUps.{is_iteration, given_beside, given_by}
use Rattle.flame_spec.specs.Scopes.{Context, Sight, memory_at}
use Rattle.flame_spec.specs.StatementFaults.{is_read_only, stored_faults, subscript_faults, assignment_faults}
use Rattle.flame_spec.specs.Trees.{Expression, number, name, field, get, at, field_at, signed, chain, all_of, any_of}
use Rattle.flame_spec.specs.Trees.{Expressions, no_parts, part, Stored, plain, called, Assigned}
use Rattle.flame_spec.proofs.FaultTests.{fault_where-none}
use Rattle.flame_meaning.specs.Scenes.{Scene, Progress, local_value, array_named, named, numbers_from, numbers_by, numbers_of}
use Rattle.flame_meaning.specs.Scenes.{row_read, field_value}
use Rattle.flame_meaning.specs.Expressions.{value_of, one_of, argument_values, values_and, values_of}
use Rattle.flame_meaning.specs.Statements.{fitted}
use Rattle.flame_meaning.specs.Agreement.{Agrees}
use Rattle.flame_meaning.specs.AcceptedMeaning.{IsNamed, Finds, PartsFind, room, Fits, StoredFinds, PlaceFinds}
use Rattle.flame_meaning.proofs.Finding.{array_there, named_there, row_there, got_there}
use Rattle.flame_meaning.proofs.Finding.{expression_finds, parts_find, place_finds}

-- ---- numbers of rows

pub fitted_whole : (n : ℕ) (values : List ℤ) → length values ≡ n → fitted n values ≡ values
fitted_whole zero [] e = refl
fitted_whole zero (v ∷ values) e = absurd (omega (arith, e))
fitted_whole (suc n) [] e = absurd (omega (arith, e))
fitted_whole (suc n) (v ∷ values) e = ap (λ l. v ∷ l) (fitted_whole n values (omega (arith, e)))

pub length-numbers : (n column : ℕ) (row : List ℤ) → length (numbers_from n column row) ≡ n
length-numbers zero column row = refl
length-numbers (suc n) column row = let more = length-numbers n (column + 1) row in omega (arith, more)

length-numbers_by : (o : Option ℕ) (column : ℕ) (row : List ℤ) (v : ℤ) → length (numbers_by o column row v) ≡ width_by o
length-numbers_by None column row v = refl
length-numbers_by (Some n) column row v = length-numbers n column row

-- the width of what is named, or 1
abbrev width_found : Option (ℕ × Variable) → ℕ
width_found None = 1
width_found (Some found) = width_of found.1

length-numbers_of : (found : Option (ℕ × Variable)) (row : List ℤ) (v : ℤ) → length (numbers_of found row v) ≡ width_found found
length-numbers_of None row v = refl
length-numbers_of (Some found) row v = length-numbers_by found.1.length found.0 row v

width_single : (variable : Variable) → is_array variable ≡ false → width_of variable ≡ 1
width_single variable single = ap width_by (is_some-false variable.length single)

found_single : (found : Option (ℕ × Variable)) → is_found_array found ≡ false → width_found found ≡ 1
found_single None single = refl
found_single (Some found) single = width_single found.1 single

by_length : (o : Option ℕ) (n : ℕ) → is_length n o ≡ true → width_by o ≡ n
by_length None n e = cc
by_length (Some other) n e = eqb-true other n e

found_length : (found : Option (ℕ × Variable)) (n : ℕ) → is_length n (length_found found) ≡ true → width_found found ≡ n
found_length None n e = cc
found_length (Some found) n e = by_length found.1.length n e

-- ---- what a name gives

-- an array of this length is a memory variable of this width
given_length :
    (found : Option (ℕ × Variable)) (constants : List (List ℕ)) (word : List ℕ) (n : ℕ)
    → is_length n (length_given (given_by found constants word)) ≡ true
    → (is_some (given_by found constants word) ≡ true) × (width_found found ≡ n)
given_length (Some found) constants word n e = (refl, by_length found.1.length n e)
given_length None constants word n e = by_constant (constant_named constants word) e
  where
    by_constant :
        (o : Option (ℕ × List ℕ))
        → is_length n (length_given (given_beside o word)) ≡ true
        → (is_some (given_beside o word) ≡ true) × (1 ≡ n)
    by_constant (Some found) e = cc
    by_constant None e = by_iteration (is_iteration word) e
      where
        by_iteration :
            (b : Bool)
            → is_length n (length_given (cond b (Some iteration) None)) ≡ true
            → (is_some (cond b (Some iteration) None) ≡ true) × (1 ≡ n)
        by_iteration true e = cc
        by_iteration false e = cc

-- what is no array is one number
given_single :
    (found : Option (ℕ × Variable)) (constants : List (List ℕ)) (word : List ℕ) (hidden : Bool)
    → gives_array (given_by found constants word) ≡ false
    → width_found (cond hidden None found) ≡ 1
given_single found constants word true e = refl
given_single None constants word false e = refl
given_single (Some found) constants word false e = width_single found.1 e

one_is_one : (r : Result ℤ Fault) (values : List ℤ) → one_of r ≡ Ok values → length values ≡ 1
one_is_one (Ok v) values e = let same : v ∷ [] ≡ values = cc in sym (ap length same)
one_is_one (Err fault) values e = cc

both_parts :
    (first more : Result (List ℤ) Fault) (values : List ℤ)
    → values_and first more ≡ Ok values
    → (xs ys : List ℤ) × (first ≡ Ok xs) × (more ≡ Ok ys) × (values ≡ xs ++ ys)
both_parts (Err fault) more values e = cc
both_parts (Ok xs) (Err fault) values e = cc
both_parts (Ok xs) (Ok ys) values e = let same : xs ++ ys ≡ values = cc in (xs, ys, refl, refl, sym same)

module _ (place : Context) (sight : Sight) (scene : Scene) (s : Progress) (a : Agrees place sight scene s) where
  name_width :
      (word : List ℕ)
      → names_array place word ≡ false
      → width_found (array_named word scene s) ≡ 1
  name_width word single =
      ap (λ m. width_found (cond (is_some (local_value word s.locals)) None (memory_named m word))) (ap (λ (c : Context). memory_at c) a.there)
      ∙ given_single (memory_named (memory_at place) word) place.model.constants word (is_some (local_value word s.locals)) single

  member_there : (word variable : List ℕ) → member_read scene.context word variable ≡ member_read place word variable
  member_there word variable = ap (λ (c : Context). member_read c word variable) a.there

  -- a single argument is one number
  single_fits :
      (e : Expression) (values : List ℤ)
      → expression_faults place sight e ≡ []
      → argument_values e scene s ≡ Ok values
      → length values ≡ 1
  single_fits (name line word) values none is =
      let same : numbers_of (array_named word scene s) s.memory (named word scene s) ≡ values = cc in
      sym (ap length same)
      ∙ length-numbers_of (array_named word scene s) s.memory (named word scene s)
      ∙ name_width word
      (fault_where-none (names_array place word) place NeedsIndex line word (append-is_nil_right (unknown_faults place sight line word) _ none))
  single_fits (field line word variable) values none is =
      let same : numbers_of (member_read scene.context word variable) (row_read word scene) (field_value word variable scene) ≡ values = cc in
      sym (ap length same)
      ∙ length-numbers_of (member_read scene.context word variable) (row_read word scene) (field_value word variable scene)
      ∙ ap width_found (member_there word variable)
      ∙ found_single (member_read place word variable)
      (fault_where-none (is_found_array (member_read place word variable)) place NeedsIndex line variable
      (append-is_nil_right (row_faults place sight line word variable) _ none))
  single_fits (number n) values none is = one_is_one (value_of (number n) scene s) values is
  single_fits (get line word) values none is = one_is_one (value_of (get line word) scene s) values is
  single_fits (at line word index_line index) values none is = one_is_one (value_of (at line word index_line index) scene s) values is
  single_fits (field_at line word variable index_line index) values none is = one_is_one (value_of (field_at line word variable index_line index) scene s) values is
  single_fits (signed signs e) values none is = one_is_one (value_of (signed signs e) scene s) values is
  single_fits (chain e more) values none is = one_is_one (value_of (chain e more) scene s) values is
  single_fits (all_of parts) values none is = one_is_one (value_of (all_of parts) scene s) values is
  single_fits (any_of parts) values none is = one_is_one (value_of (any_of parts) scene s) values is

  -- an argument for an array is as many numbers as the array is long
  whole_fits :
      (e : Expression) (n : ℕ) (values : List ℤ)
      → is_length n (length_of_argument place e) ≡ true
      → argument_values e scene s ≡ Ok values
      → length values ≡ n
  whole_fits (name line word) n values long is =
      let same : numbers_of (array_named word scene s) s.memory (named word scene s) ≡ values = cc in
      let (given, wide) = given_length (memory_named (memory_at place) word) place.model.constants word n long in
      sym (ap length same)
      ∙ length-numbers_of (array_named word scene s) s.memory (named word scene s)
      ∙ ap width_found (array_there place sight scene s a word given)
      ∙ wide
  whole_fits (field line word variable) n values long is =
      let same : numbers_of (member_read scene.context word variable) (row_read word scene) (field_value word variable scene) ≡ values = cc in
      sym (ap length same)
      ∙ length-numbers_of (member_read scene.context word variable) (row_read word scene) (field_value word variable scene)
      ∙ ap width_found (member_there word variable)
      ∙ found_length (member_read place word variable) n long
  whole_fits (number m) n values long is = cc
  whole_fits (get line word) n values long is = cc
  whole_fits (at line word index_line index) n values long is = cc
  whole_fits (field_at line word variable index_line index) n values long is = cc
  whole_fits (signed signs e) n values long is = cc
  whole_fits (chain e more) n values long is = cc
  whole_fits (all_of parts) n values long is = cc
  whole_fits (any_of parts) n values long is = cc

  whole_finds : (e : Expression) → whole_faults place sight e ≡ [] → Finds e scene s
  whole_finds (name line word) none = named_there place sight scene s a line word none
  whole_finds (field line word variable) none = row_there place sight scene s a line word variable none
  whole_finds (get line word) none = got_there place sight scene s a line word none
  whole_finds (number n) none = tt
  whole_finds (at line word index_line index) none = expression_finds place sight scene s a (at line word index_line index) none
  whole_finds (field_at line word variable index_line index) none =
      expression_finds place sight scene s a (field_at line word variable index_line index) none
  whole_finds (signed signs e) none = expression_finds place sight scene s a (signed signs e) none
  whole_finds (chain e more) none = expression_finds place sight scene s a (chain e more) none
  whole_finds (all_of parts) none = expression_finds place sight scene s a (all_of parts) none
  whole_finds (any_of parts) none = expression_finds place sight scene s a (any_of parts) none

  -- ---- an argument for a variable

  argument_finds :
      (line : ℕ) (word : List ℕ) (o : Option ℕ) (e : Expression)
      → argument_faults place sight line word o e ≡ []
      → Finds e scene s
  argument_finds line word None e none = expression_finds place sight scene s a e none
  argument_finds line word (Some n) e none = whole_finds e (append-is_nil_left _ _ none)

  argument_fits :
      (line : ℕ) (word : List ℕ) (o : Option ℕ) (e : Expression) (values : List ℤ)
      → argument_faults place sight line word o e ≡ []
      → argument_values e scene s ≡ Ok values
      → length values ≡ width_by o
  argument_fits line word None e values none is = single_fits e values none is
  argument_fits line word (Some n) e values none is =
      whole_fits e n values
      (not-false _ (fault_where-none (not (is_length n (length_of_argument place e))) place WrongLength line word
      (append-is_nil_right (whole_faults place sight e) _ none)))
      is

  -- ---- arguments

  parts_fit :
      (parts : Expressions) (values : List ℤ)
      → parts_faults place sight parts ≡ []
      → values_of parts scene s ≡ Ok values
      → length values ≡ count parts
  parts_fit no_parts values none is = let same : [] ≡ values = cc in sym (ap length same)
  parts_fit (part e parts) values none is =
      let (xs, ys, first, more, whole) = both_parts (argument_values e scene s) (values_of parts scene s) values is in
      let one = single_fits e xs (append-is_nil_left _ _ none) first in
      let rest = parts_fit parts ys (append-is_nil_right (expression_faults place sight e) _ none) more in
      let long = length-append xs ys in
      let all = ap length whole in
      omega (arith, one, rest, long, all)

  arguments_find :
      (line : ℕ) (word : List ℕ) (variables : List Variable) (parts : Expressions)
      → arguments_faults place sight line word variables parts ≡ []
      → PartsFind parts scene s
  arguments_find line word variables no_parts none = tt
  arguments_find line word [] (part e parts) none = parts_find place sight scene s a (part e parts) none
  arguments_find line word (variable ∷ variables) (part e parts) none = (
    argument_finds line word variable.length e (append-is_nil_left _ _ none),
    arguments_find line word variables parts (append-is_nil_right (argument_faults place sight line word variable.length e) _ none),
  )

  arguments_fit :
      (line : ℕ) (word : List ℕ) (variables : List Variable) (parts : Expressions) (values : List ℤ)
      → arguments_faults place sight line word variables parts ≡ []
      → count parts ≡ length variables
      → values_of parts scene s ≡ Ok values
      → length values ≡ width variables
  arguments_fit line word [] no_parts values none counted is = let same : [] ≡ values = cc in sym (ap length same)
  arguments_fit line word (variable ∷ variables) no_parts values none counted is = absurd (omega (arith, counted))
  arguments_fit line word [] (part e parts) values none counted is = absurd (omega (arith, counted))
  arguments_fit line word (variable ∷ variables) (part e parts) values none counted is =
      let (xs, ys, first, more, whole) = both_parts (argument_values e scene s) (values_of parts scene s) values is in
      let one = argument_fits line word variable.length e xs (append-is_nil_left _ _ none) first in
      let rest = arguments_fit line word variables parts ys
      (append-is_nil_right (argument_faults place sight line word variable.length e) _ none) (omega (arith, counted)) more in
      let long = length-append xs ys in
      let all = ap length whole in
      omega (arith, one, rest, long, all)

  -- ---- deeds

  room_filled :
      (deed : Deed) (line : ℕ) (word : List ℕ) (arguments : Expressions) (values : List ℤ)
      → sets_array deed ≡ false
      → count arguments ≡ wanted deed
      → arguments_faults place sight line word (places_of deed) arguments ≡ []
      → values_of arguments scene s ≡ Ok values
      → length values ≡ room deed
  room_filled (sets column variable) line word arguments values single counted none is =
      let wide = arguments_fit line word (variable ∷ []) arguments values none counted is in
      let one = width_single variable single in
      omega (arith, wide, one)
  room_filled (sends n message) line word arguments values single counted none is =
      arguments_fit line word message.variables arguments values none counted is
  room_filled (bears n type) line word arguments values single counted none is =
      arguments_fit line word type.memory arguments values none counted is
  room_filled (calls n helper) line word no_parts values single counted none is =
      parts_fit no_parts values refl is ∙ counted
  room_filled (calls n helper) line word (part e parts) values single counted none is =
      parts_fit (part e parts) values none is ∙ counted

  pub deed_fits :
      (deed : Deed) (line : ℕ) (word : List ℕ) (arguments : Expressions)
      → deed_faults place sight (Some deed) line word arguments ≡ []
      → Fits deed arguments scene s
  deed_fits deed line word arguments none =
      let given : arguments_faults place sight line word (places_of deed) arguments ≡ [] = append-is_nil_right _ _ none in
      let before = append-is_nil_left _ _ (append-is_nil_left _ _ none) in
      let single : sets_array deed ≡ false = fault_where-none (sets_array deed) place NeedsIndex line word (append-is_nil_left _ _ before) in
      let counted : count arguments ≡ wanted deed
      = eqb-true (count arguments) (wanted deed)
      (not-false _ (fault_where-none (not (count arguments == wanted deed)) place WrongCount line word
      (append-is_nil_right (fault_where (sets_array deed) place NeedsIndex line word) _ before))) in
      record {
        find = arguments_find line word (places_of deed) arguments given;
        fit = λ values is. room_filled deed line word arguments values single counted given is;
      }

  pub call_does :
      (line : ℕ) (word : List ℕ) (arguments : Expressions)
      → call_faults place sight line word arguments ≡ []
      → (deed : Deed) × (deed_of scene.context word ≡ Some deed) × Fits deed arguments scene s
  call_does line word arguments none = by_deed (deed_of place word) refl none
    where
      by_deed :
          (o : Option Deed)
          → deed_of place word ≡ o
          → deed_faults place sight o line word arguments ≡ []
          → (deed : Deed) × (deed_of scene.context word ≡ Some deed) × Fits deed arguments scene s
      by_deed None e n = cc
      by_deed (Some deed) e n =
          (deed, ap (λ (c : Context). deed_of c word) a.there ∙ e, deed_fits deed line word arguments n)

  -- ---- what is stored

  pub stored_finds : (stored : Stored) → stored_faults place sight stored ≡ [] → StoredFinds stored scene s
  stored_finds (plain e) none = expression_finds place sight scene s a e none
  stored_finds (called line word arguments) none = by_helper (helper_named place.helpers word) refl none
    where
      by_helper :
          (o : Option (ℕ × Definition))
          → helper_named place.helpers word ≡ o
          → deed_faults place sight (called_by o) line word arguments ≡ []
          → StoredFinds (called line word arguments) scene s
      by_helper None e n = cc
      by_helper (Some found) e n = (
        found,
        ap (λ (c : Context). helper_named c.helpers word) a.there ∙ e,
        deed_fits (calls found.0 found.1) line word arguments n,
      )

  pub assignment_finds :
      (b : Assigned)
      → assignment_faults place sight b ≡ []
      → IsNamed b.name scene s × PlaceFinds b.name b.subscript scene s × StoredFinds b.value scene s
  assignment_finds b none =
      let seen : unknown_faults place sight b.line b.name ≡ [] = append-is_nil_left _ _ (append-is_nil_left _ _ (append-is_nil_left _ _ none)) in
      let free : fault_where (is_read_only place b.name) place ReadOnly b.line b.name ≡ []
      = append-is_nil_right (unknown_faults place sight b.line b.name) _ (append-is_nil_left _ _ (append-is_nil_left _ _ none)) in
      let subscript : subscript_faults place sight b.line b.name b.subscript ≡ []
      = append-is_nil_right _ _ (append-is_nil_left _ _ none) in (
        named_there place sight scene s a b.line b.name seen,
        place_finds place sight scene s a b.line b.name b.subscript seen free subscript,
        stored_finds b.value (append-is_nil_right _ _ none),
      )
