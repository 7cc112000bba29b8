-- What is read and assigned is found.
use Rattle.std.proofs.Common.{◌≡◌, ℕ, Bool, true, false, ◌||◌, cond, List, [], ◌∷◌, ◌++◌, Option, Some, None, true≢false}
use Rattle.std.proofs.Common.{IsTrue, ◌⊎◌, inl, inr, refl, sym, ap, ◌∙◌, codes}
use Rattle.std.specs.Prelude.{not, is_some, ◌==◌}
use Rattle.std.specs.List.{list_any}
use Rattle.std.specs.Str.{bytes_eq}
use Rattle.std.proofs.lemmas.Bool.{or_cases, or_left, or_right, and_parts, not-false, eq-eqb}
use Rattle.flame_rows.proofs.Bytes.{bytes_eq-sym, bytes_eq-true}
use Rattle.flame_rows.proofs.Lists.{append-is_nil_left, append-is_nil_right}
use Rattle.flame_spec.specs.declared.models.MessageType.{MessageType}
use Rattle.flame_spec.specs.declared.models.Variable.{Variable}
use Rattle.flame_spec.specs.declared.faults.CheckKind.TheVariants.{UnknownName, UnknownCall, OutsideLoop, NotArray}
use Rattle.flame_spec.specs.declared.faults.CheckKind.TheVariants.{NotInput, ReadOnly}
use Rattle.flame_spec.specs.Columns.{variable_named}
use Rattle.flame_spec.specs.ExpressionFaults.{is_found_array, fault_where, unknown_faults, gives_array, names_array, indexed_faults}
use Rattle.flame_spec.specs.ExpressionFaults.{getter_faults, member_faults, row_faults_of, row_faults, member_of}
use Rattle.flame_spec.specs.ExpressionFaults.{member_read, field_at_faults, expression_faults, parts_faults}
use Rattle.flame_spec.specs.ExpressionFaults.{links_faults}
use Rattle.flame_spec.specs.Functions.{Place}
use Rattle.flame_spec.specs.KnownNames.{is_among}
use Rattle.flame_spec.specs.LookUps.{iteration, memory_named, constant_named, is_iteration, given_beside, given_by}
use Rattle.flame_spec.specs.LookUps.{memory_got, message_read, message_looped}
use Rattle.flame_spec.specs.Scopes.{Context, Loop, Sight, memory_at, messages_at, given_at, is_local, is_name_of, laid, input_found}
use Rattle.flame_spec.specs.Scopes.{is_visible, is_over, is_open_over}
use Rattle.flame_spec.specs.StatementFaults.{is_only_read, is_read_only, is_input, start_faults, subscript_faults}
use Rattle.flame_spec.specs.Trees.{Expression, number, name, field, get, at, field_at, signed, chain, all_of, any_of}
use Rattle.flame_spec.specs.Trees.{Expressions, no_parts, part, Links, no_links, link, Indexed}
use Rattle.flame_spec.proofs.FaultTests.{fault_where-none}
use Rattle.flame_spec.proofs.NamesLaid.{is_among-laid}
use Rattle.flame_meaning.specs.Scenes.{Scene, Local, Progress, Current, local_value, array_named}
use Rattle.flame_meaning.specs.Outcomes.{message_named}
use Rattle.flame_meaning.specs.Agreement.{names_of, LoopsStand, no_loops, plain_loop, message_loop, Agrees}
use Rattle.flame_meaning.specs.AcceptedMeaning.{IsNamed, IsArrayNamed, IsOverOne, IsRowRead, Finds, PartsFind}
use Rattle.flame_meaning.specs.AcceptedMeaning.{LinksFind, PlaceFinds}
use Rattle.flame_meaning.proofs.Agreeing.{named_first}

-- ---- locals

value_among : (word : List ℕ) (locals : List Local) → is_some (local_value word locals) ≡ is_among word (names_of locals)
value_among word [] = refl
value_among word (x ∷ locals) =
    by_test (bytes_eq x.name word) (value_among word locals) ∙ ap (λ b. b || is_among word (names_of locals)) (bytes_eq-sym x.name word)
  where
    by_test :
        (b : Bool)
        → is_some (local_value word locals) ≡ is_among word (names_of locals)
        → is_some (cond b (Some x.value) (local_value word locals)) ≡ b || is_among word (names_of locals)
    by_test true e = refl
    by_test false e = e

among_either : (word : List ℕ) (xs ys : List (List ℕ)) → is_among word (xs ++ ys) ≡ is_among word xs || is_among word ys
among_either word [] ys = refl
among_either word (x ∷ xs) ys = by_test (bytes_eq word x) (among_either word xs ys)
  where
    by_test :
        (b : Bool)
        → is_among word (xs ++ ys) ≡ is_among word xs || is_among word ys
        → b || is_among word (xs ++ ys) ≡ (b || is_among word xs) || is_among word ys
    by_test true e = refl
    by_test false e = e

module _ (place : Context) (sight : Sight) (scene : Scene) (s : Progress) (a : Agrees place sight scene s) where
  -- a word that is a local there has a value, and no other word has one
  pub local_there : (word : List ℕ) → is_some (local_value word s.locals) ≡ is_local sight word
  local_there word =
      value_among word s.locals
      ∙ ap (is_among word) a.names
      ∙ among_either word sight.scope (laid sight.outer)
      ∙ ap (λ b. is_among word sight.scope || b) ((sym (is_among-laid word sight.outer)))

  pub given_there : (word : List ℕ) → given_at scene.context word ≡ given_at place word
  given_there word = ap (λ (c : Context). given_at c word) a.there

  pub memory_there : memory_at scene.context ≡ memory_at place
  memory_there = ap (λ (c : Context). memory_at c) a.there

  pub messages_there : messages_at scene.context ≡ messages_at place
  messages_there = ap (λ (c : Context). messages_at c) a.there

  -- ---- names

  seen : (line : ℕ) (word : List ℕ) → unknown_faults place sight line word ≡ [] → is_visible place sight word ≡ true
  seen line word none = not-false _ (fault_where-none (not (is_visible place sight word)) place UnknownName line word none)

  known : (line : ℕ) (word : List ℕ) → unknown_faults place sight line word ≡ [] → (is_some (given_at place word) || is_local sight word) ≡ true
  known line word none = (and_parts (not (is_name_of sight.own word)) _ (seen line word none)).1

  pub named_there : (line : ℕ) (word : List ℕ) → unknown_faults place sight line word ≡ [] → IsNamed word scene s
  named_there line word none = by_kind (or_cases (is_some (given_at place word)) (is_local sight word) (known line word none))
    where
      by_kind : (is_some (given_at place word) ≡ true) ⊎ (is_local sight word ≡ true) → IsNamed word scene s
      by_kind (inl e) =
          or_right (is_some (local_value word s.locals)) (is_some (given_at scene.context word))
          (ap is_some (given_there word) ∙ e)
      by_kind (inr e) =
          or_left (is_some (local_value word s.locals)) (is_some (given_at scene.context word)) (local_there word ∙ e)

  -- a word to which the model gives a meaning is no local
  pub not_local : (word : List ℕ) → is_some (given_at place word) ≡ true → is_some (local_value word s.locals) ≡ false
  not_local word given = by_test (is_some (local_value word s.locals)) refl
    where
      by_test : (b : Bool) → is_some (local_value word s.locals) ≡ b → b ≡ false
      by_test false e = refl
      by_test true e =
          let none = a.fresh word (sym (local_there word) ∙ e) in
          absurd (true≢false (sym given ∙ ap is_some none))

  pub array_there :
      (word : List ℕ)
      → is_some (given_at place word) ≡ true
      → array_named word scene s ≡ memory_named (memory_at place) word
  array_there word given =
      ap (λ b. cond b None (memory_named (memory_at scene.context) word)) (not_local word given)
      ∙ ap (λ m. memory_named m word) memory_there

-- what is an array is in the memory
pub given_array :
    (found : Option (ℕ × Variable)) (constants : List (List ℕ)) (word : List ℕ)
    → gives_array (given_by found constants word) ≡ true
    → (is_found_array found ≡ true) × (is_some (given_by found constants word) ≡ true)
given_array (Some found) constants word e = (e, refl)
given_array None constants word e = by_constant (constant_named constants word) e
  where
    by_constant :
        (o : Option (ℕ × List ℕ))
        → gives_array (given_beside o word) ≡ true
        → (false ≡ true) × (is_some (given_beside o word) ≡ true)
    by_constant (Some found) e = cc
    by_constant None e = by_iteration (is_iteration word) e
      where
        by_iteration :
            (b : Bool)
            → gives_array (cond b (Some iteration) None) ≡ true
            → (false ≡ true) × (is_some (cond b (Some iteration) None) ≡ true)
        by_iteration true e = cc
        by_iteration false e = cc

-- what is not only read is in the memory
given_changed :
    (found : Option (ℕ × Variable)) (constants : List (List ℕ)) (word : List ℕ)
    → is_some (given_by found constants word) ≡ true
    → is_only_read (given_by found constants word) ≡ false
    → is_some found ≡ true
given_changed (Some found) constants word e f = refl
given_changed None constants word e f = by_constant (constant_named constants word) e f
  where
    by_constant :
        (o : Option (ℕ × List ℕ))
        → is_some (given_beside o word) ≡ true
        → is_only_read (given_beside o word) ≡ false
        → false ≡ true
    by_constant (Some found) e f = cc
    by_constant None e f = by_iteration (is_iteration word) e f
      where
        by_iteration :
            (b : Bool)
            → is_some (cond b (Some iteration) None) ≡ true
            → is_only_read (cond b (Some iteration) None) ≡ false
            → false ≡ true
        by_iteration true e f = cc
        by_iteration false e f = cc

-- ---- rows

-- where a loop over the message is open, one stands at a row of it
stands_over :
    (messages : List MessageType) (found : ℕ × MessageType) (loops : List Loop) (open_loops : List Current)
    → LoopsStand messages loops open_loops
    → message_named messages found.1.name ≡ Some found
    → list_any (is_over found.1) loops ≡ true
    → IsOverOne found.0 open_loops
stands_over messages found [] [] no_loops first any = cc
stands_over messages found loops open_loops (plain_loop more opens stand) first any =
    stands_over messages found more opens stand first any
stands_over messages found loops open_loops (message_loop word n message row more opens is stand) first any =
    by_name (bytes_eq word found.1.name) refl any (stands_over messages found more opens stand first)
  where
    by_name :
        (b : Bool)
        → bytes_eq word found.1.name ≡ b
        → b || list_any (is_over found.1) more ≡ true
        → (list_any (is_over found.1) more ≡ true → IsOverOne found.0 opens)
        → (n == found.0) || list_any (λ (current : Current). current.message == found.0) opens ≡ true
    by_name true e any' later =
        let both : Some (n, message) ≡ Some found
        = sym is ∙ ap (message_named messages) (bytes_eq-true word found.1.name e) ∙ first in
        let pair : (n, message) ≡ found = cc in
        or_left (n == found.0) _ (eq-eqb n found.0 (ap (λ q. q.0) pair))
    by_name false e any' later = or_right (n == found.0) _ (later any')

module _ (place : Context) (sight : Sight) (scene : Scene) (s : Progress) (a : Agrees place sight scene s) where
  pub row_there :
      (line : ℕ) (word variable : List ℕ)
      → row_faults place sight line word variable ≡ []
      → IsRowRead word variable scene
  row_there line word variable none = by_message (message_read (messages_at place) word) refl none
    where
      by_message :
          (o : Option (ℕ × MessageType))
          → message_read (messages_at place) word ≡ o
          → row_faults_of place sight o line word variable ≡ []
          → IsRowRead word variable scene
      by_message None e n = cc
      by_message (Some found) e n = record {
        message = found;
        found = ap (λ m. message_read m word) (messages_there place sight scene s a) ∙ e;
        stands = stands_over (messages_at place) found sight.loops scene.open_loops a.loops
            (named_first (λ n. bytes_eq (n ++ codes "_message") word) (messages_at place) found e)
            (not-false _ (fault_where-none (not (is_open_over sight found.1)) place OutsideLoop line word
            (append-is_nil_left _ (member_faults place (variable_named found.1.variables variable) line variable) n)));
        member = ap is_some (ap (λ (c : Context). member_read c word variable) a.there ∙ ap (λ o. member_of o variable) e)
            ∙ not-false _ (fault_where-none (not (is_some (variable_named found.1.variables variable))) place UnknownName line variable
            (append-is_nil_right (fault_where (not (is_open_over sight found.1)) place OutsideLoop line word) _ n));
      }

  pub got_there :
      (line : ℕ) (word : List ℕ)
      → getter_faults place (memory_got (memory_at place) word) line word ≡ []
      → IsTrue (is_some (memory_got (memory_at scene.context) word))
  got_there line word none =
      ap (λ m. is_some (memory_got m word)) (memory_there place sight scene s a)
      ∙ not-false _ (fault_where-none (not (is_some (memory_got (memory_at place) word))) place UnknownCall line word none)

  pub element_there :
      (line : ℕ) (word : List ℕ)
      → indexed_faults place line word ≡ []
      → IsArrayNamed word scene s
  element_there line word none =
      let array : names_array place word ≡ true
      = not-false _ (fault_where-none (not (names_array place word)) place NotArray line word none) in
      let (there, given) = given_array (memory_named (memory_at place) word) place.model.constants word array in
      ap is_found_array (array_there place sight scene s a word given) ∙ there

  mutual
    pub expression_finds : (e : Expression) → expression_faults place sight e ≡ [] → Finds e scene s
    expression_finds (number n) none = tt
    expression_finds (name line word) none = named_there place sight scene s a line word (append-is_nil_left _ _ none)
    expression_finds (field line word variable) none = row_there line word variable (append-is_nil_left _ _ none)
    expression_finds (get line word) none = got_there line word (append-is_nil_left _ _ none)
    expression_finds (at line word index_line index) none = (
      element_there line word (append-is_nil_right (unknown_faults place sight line word) _ (append-is_nil_left _ _ none)),
      expression_finds index (append-is_nil_right (unknown_faults place sight line word ++ indexed_faults place line word) _ none),
    )
    expression_finds (field_at line word variable index_line index) none = (
      row_there line word variable (append-is_nil_left _ _ (append-is_nil_left _ _ none)),
      ap (λ (c : Context). is_found_array (member_read c word variable)) a.there
          ∙ not-false _ (fault_where-none (not (is_found_array (member_read place word variable))) place NotArray line variable
          (append-is_nil_right (row_faults place sight line word variable) _ (append-is_nil_left _ _ none))),
      expression_finds index (append-is_nil_right (field_at_faults place sight line word variable) _ none),
    )
    expression_finds (signed signs e) none = expression_finds e none
    expression_finds (chain e more) none = (
      expression_finds e (append-is_nil_left _ _ none),
      links_find more (append-is_nil_right (expression_faults place sight e) _ none),
    )
    expression_finds (all_of parts) none = parts_find parts none
    expression_finds (any_of parts) none = parts_find parts none

    pub parts_find : (parts : Expressions) → parts_faults place sight parts ≡ [] → PartsFind parts scene s
    parts_find no_parts none = tt
    parts_find (part e parts) none =
        (expression_finds e (append-is_nil_left _ _ none), parts_find parts (append-is_nil_right (expression_faults place sight e) _ none))

    pub links_find : (links : Links) → links_faults place sight links ≡ [] → LinksFind links scene s
    links_find no_links none = tt
    links_find (link op line e links) none =
        (expression_finds e (append-is_nil_left _ _ none), links_find links (append-is_nil_right (expression_faults place sight e) _ none))

  -- ---- what is assigned to

  pub place_finds :
      (line : ℕ) (word : List ℕ) (subscript : Option Indexed)
      → unknown_faults place sight line word ≡ []
      → fault_where (is_read_only place word) place ReadOnly line word ≡ []
      → subscript_faults place sight line word subscript ≡ []
      → PlaceFinds word subscript scene s
  place_finds line word (Some subscript) seen free none = (
    element_there line word (append-is_nil_left _ _ none),
    expression_finds subscript.index (append-is_nil_right (indexed_faults place line word) _ none),
  )
  place_finds line word None seen free none =
      by_kind (or_cases (is_some (given_at place word)) (is_local sight word) (known place sight scene s a line word seen))
    where
      by_kind : (is_some (given_at place word) ≡ true) ⊎ (is_local sight word ≡ true) → PlaceFinds word None scene s
      by_kind (inl e) =
          or_right (is_some (local_value word s.locals)) (is_some (memory_named (memory_at scene.context) word))
          (ap (λ m. is_some (memory_named m word)) (memory_there place sight scene s a)
          ∙ given_changed (memory_named (memory_at place) word) place.model.constants word e
          (fault_where-none (is_read_only place word) place ReadOnly line word free))
      by_kind (inr e) =
          or_left (is_some (local_value word s.locals)) (is_some (memory_named (memory_at scene.context) word))
          (local_there place sight scene s a word ∙ e)

  -- ---- loops over messages

  pub input_there :
      (line : ℕ) (word : List ℕ)
      → start_faults place sight (message_looped (messages_at place) word) line word ≡ []
      → IsTrue (is_some (input_found scene.context.runs (message_looped (messages_at scene.context) word)))
  input_there line word none =
      ap (λ (c : Context). is_some (input_found c.runs (message_looped (messages_at c) word))) a.there
      ∙ by_message (message_looped (messages_at place) word) none
    where
      by_runs :
          (runs : Option Place) (found : ℕ × MessageType)
          → is_input runs found.1 ≡ true
          → is_some (input_found runs (Some found)) ≡ true
      by_runs None found e = cc
      by_runs (Some p) found e = e

      by_message :
          (o : Option (ℕ × MessageType))
          → start_faults place sight o line word ≡ []
          → is_some (input_found place.runs o) ≡ true
      by_message None n = cc
      by_message (Some found) n =
          by_runs place.runs found
          (not-false _ (fault_where-none (not (is_input place.runs found.1)) place NotInput line word (append-is_nil_left _ _ n)))
