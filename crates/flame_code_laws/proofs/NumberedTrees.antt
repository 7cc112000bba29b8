-- The locals of a tree that is numbered from a source have the numbers that their places give.
use Rattle.std.proofs.Common.{◌≡◌, ℕ, suc, ◌+◌, ◌≤◌, List, [], ◌∷◌, map, Option, Some, None, Bool, true, false}
use Rattle.std.proofs.Common.{cond, refl, sym, ap, ◌∙◌, arith}
use Rattle.std.specs.Prelude.{◌==◌, length, nat_lt, option_map}
use Rattle.std.specs.List.{list_all}
use Rattle.std.specs.Str.{bytes_eq}
use Rattle.std.proofs.lemmas.Bool.Decides.{nat_tests}
use Rattle.std.proofs.lemmas.Bool.{lt-ltb, and_from}
use Rattle.flame_spec.specs.declared.trees.Parameter.{Parameter}
use Rattle.flame_spec.specs.LookUps.{Given, in_memory, constant, iteration}
use Rattle.flame_spec.specs.Scopes.{Context, Sight, names_seen, over_none, at_entry, in_scope, in_loop, in_value_of}
use Rattle.flame_spec.specs.Scopes.{after_name, after_items, after, after_all, after_parameters, given_at}
use Rattle.flame_spec.specs.Trees.{Expression, number, name, field, get, at, field_at, signed, chain, all_of, any_of}
use Rattle.flame_spec.specs.Trees.{Expressions, no_parts, part, Links, no_links, link}
use Rattle.flame_spec.specs.Trees.{Stored, plain, called, Indexed, Assigned, Declared}
use Rattle.flame_spec.specs.Trees.{Statement, empty, declare, assign, call, block, branch, while, for, do_while}
use Rattle.flame_spec.specs.Trees.{loop_over, return, break, continue}
use Rattle.flame_spec.specs.Trees.{Statements, no_more, also, Arms, no_arms, arm}
use Rattle.flame_body.specs.declared.slots.SlotHead.{SlotHead}
use Rattle.flame_body.specs.WordSlots.{local_number, slot_or_given, slot_at, target_or_given, cells_at, deed_at}
use Rattle.flame_body.specs.WordSlots.{field_span, field_cells, got_column, input_read, input_looped}
use Rattle.flame_body.specs.NumberedTrees.{numbered, numbered_parts, numbered_links, numbered_stored, numbered_target}
use Rattle.flame_body.specs.NumberedTrees.{numbered_assignment, numbered_items, in_loop_named}
use Rattle.flame_body.specs.NumberedTrees.{numbered_statement, numbered_statements, numbered_arms}
use Rattle.flame_body.specs.FitLaws.{unfiled}
use Rattle.flame_code_laws.specs.NamedLocals.{slot_below, names_below, all_below, links_below}
use Rattle.flame_code_laws.specs.LocalNumbers.{stored_below, initial_below, items_numbered, target_below}
use Rattle.flame_code_laws.specs.LocalNumbers.{assignment_below, test_below, step_below, all_add, all_suit, numbering}
use Rattle.flame_code_laws.specs.NumberLaws.{DefinitionsNumbered}
use Rattle.flame_code_laws.proofs.BelowForms.{below-Number, below-Name, below-Field, below-Get, below-At, below-FieldAt}
use Rattle.flame_code_laws.proofs.BelowForms.{below-Unary, below-Chain, below-All, below-Any}
use Rattle.flame_code_laws.proofs.NumberingForms.{numbering-Empty, numbering-Declare, numbering-Assign, numbering-Call}
use Rattle.flame_code_laws.proofs.NumberingForms.{numbering-Block, arm_numbered, adds-If, suits-If, numbering-While}
use Rattle.flame_code_laws.proofs.NumberingForms.{numbering-For, numbering-Do, numbering-Loop}
use Rattle.flame_code_laws.proofs.NumberingForms.{numbering-Return, numbering-Break, numbering-Continue}

-- how many names a place sees
abbrev seen : Sight → ℕ
seen sight = length (names_seen sight)

-- ---- names

-- a number that may be missing is one of the first so many
abbrev is_below : ℕ → Option ℕ → Bool
is_below count None = true
is_below count (Some n) = nat_lt n count

-- the number of a name is below how many there are
number-below :
    (count : ℕ) (names : List (List ℕ)) (word : List ℕ)
    → length names ≤ count
    → is_below count (local_number names word) ≡ true
number-below count [] word within = refl
number-below count (front ∷ names) word within =
    let enough : suc (length names) ≤ count = within in
    by_test (bytes_eq front word) (lt-ltb (length names) count (omega arith))
    (number-below count names word (omega arith))
  where
    by_test :
        (b : Bool)
        → nat_lt (length names) count ≡ true
        → is_below count (local_number names word) ≡ true
        → is_below count (cond b (Some (length names)) (local_number names word)) ≡ true
    by_test true newest older = newest
    by_test false newest older = older

-- what a name stands for
slot-below :
    (count : ℕ) (n : Option ℕ) (found : Option Given)
    → is_below count n ≡ true
    → slot_below count (slot_or_given n found) ≡ true
slot-below count (Some n) found below = below
slot-below count None None below = refl
slot-below count None (Some (in_memory column variable)) below = refl
slot-below count None (Some (constant n)) below = refl
slot-below count None (Some iteration) below = refl

-- what is assigned to by name
name-below :
    (count : ℕ) (n : Option ℕ) (found : Option Given)
    → is_below count n ≡ true
    → target_below count (target_or_given n found) ≡ true
name-below count (Some n) found below = below
name-below count None found below = refl

-- a word at a place
word-below :
    (sight : Sight) (word : List ℕ) → is_below (seen sight) (local_number (names_seen sight) word) ≡ true
word-below sight word = number-below (seen sight) (names_seen sight) word (omega arith)

-- ---- expressions

mutual
  expression-below :
      (context : Context) (sight : Sight) (e : Expression) → names_below (seen sight) (numbered context sight e) ≡ true
  expression-below context sight (number n) = below-Number (seen sight) n
  expression-below context sight (name line word) =
      below-Name (seen sight) (slot_at context sight word)
      ∙ slot-below (seen sight) (local_number (names_seen sight) word) (given_at context word) (word-below sight word)
  expression-below context sight (field line word variable) =
      below-Field (seen sight) (input_read context word) (field_span context word variable)
  expression-below context sight (get line word) = below-Get (seen sight) (got_column context word)
  expression-below context sight (at line word index_line index) =
      below-At (seen sight) (cells_at context word)
      (record { line = index_line; index = numbered context sight index })
      ∙ expression-below context sight index
  expression-below context sight (field_at line word variable index_line index) =
      below-FieldAt (seen sight) (input_read context word) (field_cells context word variable)
      (record { line = index_line; index = numbered context sight index })
      ∙ expression-below context sight index
  expression-below context sight (signed signs e) =
      below-Unary (seen sight) signs (numbered context sight e) ∙ expression-below context sight e
  expression-below context sight (chain e more) =
      below-Chain (seen sight) (numbered context sight e) (numbered_links context sight more)
      ∙ and_from _ _ (expression-below context sight e) (operands-below context sight more)
  expression-below context sight (all_of parts) =
      below-All (seen sight) (numbered_parts context sight parts) ∙ parts-below context sight parts
  expression-below context sight (any_of parts) =
      below-Any (seen sight) (numbered_parts context sight parts) ∙ parts-below context sight parts

  parts-below :
      (context : Context) (sight : Sight) (parts : Expressions)
      → all_below (seen sight) (numbered_parts context sight parts) ≡ true
  parts-below context sight no_parts = refl
  parts-below context sight (part e parts) =
      and_from _ _ (expression-below context sight e) (parts-below context sight parts)

  operands-below :
      (context : Context) (sight : Sight) (links : Links)
      → links_below (seen sight) (numbered_links context sight links) ≡ true
  operands-below context sight no_links = refl
  operands-below context sight (link op line e links) =
      and_from _ _ (expression-below context sight e) (operands-below context sight links)

-- a test that may be missing
test-below :
    (context : Context) (sight : Sight) (test : Option Expression)
    → test_below (seen sight) (option_map (numbered context sight) test) ≡ true
test-below context sight None = refl
test-below context sight (Some e) = expression-below context sight e

-- ---- what is stored

-- a value
stored-below :
    (context : Context) (sight : Sight) (stored : Stored)
    → stored_below (seen sight) (numbered_stored context sight stored) ≡ true
stored-below context sight (plain e) = expression-below context sight e
stored-below context sight (called line word arguments) = parts-below context sight arguments

-- what a local begins with, if it does
initial-below :
    (context : Context) (sight : Sight) (value : Option Stored)
    → initial_below (seen sight) (option_map (numbered_stored context sight) value) ≡ true
initial-below context sight None = refl
initial-below context sight (Some stored) = stored-below context sight stored

-- what is assigned to
target-below :
    (context : Context) (sight : Sight) (word : List ℕ) (subscript : Option Indexed)
    → target_below (seen sight) (numbered_target context sight word subscript) ≡ true
target-below context sight word None =
    name-below (seen sight) (local_number (names_seen sight) word) (given_at context word) (word-below sight word)
target-below context sight word (Some place) = expression-below context sight place.index

-- an assignment
assignment-below :
    (context : Context) (sight : Sight) (a : Assigned)
    → assignment_below (seen sight) (numbered_assignment context sight a) ≡ true
assignment-below context sight a =
    and_from _ _ (target-below context sight a.name a.subscript) (stored-below context sight a.value)

-- an assignment that may be missing
step-below :
    (context : Context) (sight : Sight) (step : Option Assigned)
    → step_below (seen sight) (option_map (numbered_assignment context sight) step) ≡ true
step-below context sight None = refl
step-below context sight (Some a) = assignment-below context sight a

-- ---- declarations

-- a number is itself
itself : (n : ℕ) → (n == n) ≡ true
itself n = grind (arith, nat_tests)

-- the items of a declaration
items-numbered :
    (context : Context) (sight : Sight) (items : List Declared)
    → items_numbered (numbered_items context sight items) (seen sight) ≡ true
items-numbered context sight [] = refl
items-numbered context sight (item ∷ items) =
    let next : seen sight + 1 ≡ suc (seen sight) = omega arith in
    let behind = numbered_items context (after_name sight item.name) items in
    and_from _ _ (itself (seen sight))
    (and_from _ _ (initial-below context (in_value_of item.name sight) item.value)
    (ap (items_numbered behind) next ∙ items-numbered context (after_name sight item.name) items))

-- behind them one name more is seen for each
seen-after-items :
    (context : Context) (sight : Sight) (items : List Declared)
    → seen (after_items sight items) ≡ seen sight + length (numbered_items context sight items)
seen-after-items context sight [] = omega arith
seen-after-items context sight (item ∷ items) =
    let more : seen (after_items (after_name sight item.name) items)
    ≡ suc (seen sight) + length (numbered_items context (after_name sight item.name) items) =
    seen-after-items context (after_name sight item.name) items in
    let turned : suc (seen sight) + length (numbered_items context (after_name sight item.name) items)
    ≡ seen sight + suc (length (numbered_items context (after_name sight item.name) items)) = omega arith in
    more ∙ turned

-- so is one for each parameter
seen-after-parameters :
    (sight : Sight) (parameters : List Parameter)
    → seen (after_parameters sight parameters) ≡ seen sight + length parameters
seen-after-parameters sight [] = omega arith
seen-after-parameters sight (parameter ∷ parameters) =
    let more : seen (after_parameters (after_name sight parameter.name) parameters)
    ≡ suc (seen sight) + length parameters = seen-after-parameters (after_name sight parameter.name) parameters in
    let turned : suc (seen sight) + length parameters ≡ seen sight + suc (length parameters) = omega arith in
    more ∙ turned

-- ---- what statements add

-- as many, where none are added
none-more : (count added : ℕ) → added ≡ 0 → count ≡ count + added
none-more count added none = omega arith

-- behind a statement
seen-after :
    (context : Context) (sight : Sight) (statement : Statement)
    → seen (after sight statement) ≡ seen sight + (numbering (numbered_statement context sight statement)).adds
seen-after context sight empty = none-more _ _ (ap (λ n. n.adds) numbering-Empty)
seen-after context sight (declare items) =
    seen-after-items context sight items
    ∙ ap (λ n. seen sight + n.adds) (sym (numbering-Declare (numbered_items context sight items)))
seen-after context sight (assign a) =
    none-more _ _ (ap (λ n. n.adds) (numbering-Assign (numbered_assignment context sight a)))
seen-after context sight (call line word arguments) =
    none-more _ _
    (ap (λ n. n.adds) (numbering-Call (deed_at context line word) (numbered_parts context sight arguments)))
seen-after context sight (block body) =
    none-more _ _ (ap (λ n. n.adds) (numbering-Block (numbered_statements context (in_scope sight) body)))
seen-after context sight (branch arms otherwise) =
    none-more _ _ (adds-If (numbered_arms context sight arms) (numbered_statements context (in_scope sight) otherwise))
seen-after context sight (while line test body) =
    none-more _ _ (ap (λ n. n.adds) (numbering-While line (numbered context sight test)
    (numbered_statements context (in_loop over_none sight) body)))
seen-after context sight (for line first test step body) =
    none-more _ _ (ap (λ n. n.adds) (numbering-For line
    (record {
      first = numbered_statements context (in_scope sight) first;
      test = option_map (numbered context (after_all (in_scope sight) first)) test;
      step = option_map (numbered_assignment context (after_all (in_scope sight) first)) step;
    })
    (numbered_statements context (in_loop over_none (after_all (in_scope sight) first)) body)))
seen-after context sight (do_while line body test) =
    none-more _ _ (ap (λ n. n.adds) (numbering-Do line
    (numbered_statements context (in_loop over_none sight) body) (numbered context sight test)))
seen-after context sight (loop_over line word body end_line end_word) =
    none-more _ _ (ap (λ n. n.adds) (numbering-Loop line (input_looped context word)
    (numbered_statements context (in_loop_named context sight word) body)))
seen-after context sight (return e) =
    none-more _ _ (ap (λ n. n.adds) (numbering-Return (numbered context sight e)))
seen-after context sight (break line) = none-more _ _ (ap (λ n. n.adds) numbering-Break)
seen-after context sight (continue line) = none-more _ _ (ap (λ n. n.adds) numbering-Continue)

-- behind statements
seen-after-all :
    (context : Context) (sight : Sight) (statements : Statements)
    → seen (after_all sight statements)
    ≡ seen sight + all_add (map numbering (numbered_statements context sight statements))
seen-after-all context sight no_more = omega arith
seen-after-all context sight (also statement statements) =
    let front = seen-after context sight statement in
    let behind = seen-after-all context (after sight statement) statements in
    let one = (numbering (numbered_statement context sight statement)).adds in
    let more = all_add (map numbering (numbered_statements context (after sight statement) statements)) in
    let turned : seen sight + one + more ≡ seen sight + (one + more) = omega arith in
    behind ∙ ap (λ n. n + more) front ∙ turned

-- ---- statements

mutual
  statement-numbered :
      (context : Context) (sight : Sight) (statement : Statement)
      → (numbering (numbered_statement context sight statement)).suits (seen sight) ≡ true
  statement-numbered context sight empty = ap (λ n. n.suits (seen sight)) numbering-Empty
  statement-numbered context sight (declare items) =
      ap (λ n. n.suits (seen sight)) (numbering-Declare (numbered_items context sight items))
      ∙ items-numbered context sight items
  statement-numbered context sight (assign a) =
      ap (λ n. n.suits (seen sight)) (numbering-Assign (numbered_assignment context sight a))
      ∙ assignment-below context sight a
  statement-numbered context sight (call line word arguments) =
      ap (λ n. n.suits (seen sight))
      (numbering-Call (deed_at context line word) (numbered_parts context sight arguments))
      ∙ parts-below context sight arguments
  statement-numbered context sight (block body) =
      ap (λ n. n.suits (seen sight)) (numbering-Block (numbered_statements context (in_scope sight) body))
      ∙ statements-numbered context (in_scope sight) body
  statement-numbered context sight (branch arms otherwise) =
      suits-If (numbered_arms context sight arms) (numbered_statements context (in_scope sight) otherwise) (seen sight)
      ∙ and_from _ _ (arms-numbered context sight arms) (statements-numbered context (in_scope sight) otherwise)
  statement-numbered context sight (while line test body) =
      ap (λ n. n.suits (seen sight)) (numbering-While line (numbered context sight test)
      (numbered_statements context (in_loop over_none sight) body))
      ∙ and_from _ _ (expression-below context sight test) (statements-numbered context (in_loop over_none sight) body)
  statement-numbered context sight (for line first test step body) =
      let inside = after_all (in_scope sight) first in
      let begun = numbered_statements context (in_scope sight) first in
      let inner = numbered_statements context (in_loop over_none inside) body in
      let tested = option_map (numbered context inside) test in
      let stepped = option_map (numbered_assignment context inside) step in
      let head : SlotHead = record { first = begun; test = tested; step = stepped } in
      let behind = sym (seen-after-all context (in_scope sight) first) in
      ap (λ n. n.suits (seen sight)) (numbering-For line head inner)
      ∙ and_from _ _
      (and_from _ _ (statements-numbered context (in_scope sight) first)
      (and_from _ _ (ap (λ n. test_below n tested) behind ∙ test-below context inside test)
      (ap (λ n. step_below n stepped) behind ∙ step-below context inside step)))
      (ap (all_suit (map numbering inner)) behind ∙ statements-numbered context (in_loop over_none inside) body)
  statement-numbered context sight (do_while line body test) =
      ap (λ n. n.suits (seen sight)) (numbering-Do line
      (numbered_statements context (in_loop over_none sight) body) (numbered context sight test))
      ∙ and_from _ _ (statements-numbered context (in_loop over_none sight) body) (expression-below context sight test)
  statement-numbered context sight (loop_over line word body end_line end_word) =
      ap (λ n. n.suits (seen sight)) (numbering-Loop line (input_looped context word)
      (numbered_statements context (in_loop_named context sight word) body))
      ∙ statements-numbered context (in_loop_named context sight word) body
  statement-numbered context sight (return e) =
      ap (λ n. n.suits (seen sight)) (numbering-Return (numbered context sight e)) ∙ expression-below context sight e
  statement-numbered context sight (break line) = ap (λ n. n.suits (seen sight)) numbering-Break
  statement-numbered context sight (continue line) = ap (λ n. n.suits (seen sight)) numbering-Continue

  statements-numbered :
      (context : Context) (sight : Sight) (statements : Statements)
      → all_suit (map numbering (numbered_statements context sight statements)) (seen sight) ≡ true
  statements-numbered context sight no_more = refl
  statements-numbered context sight (also statement statements) =
      let behind = numbered_statements context (after sight statement) statements in
      and_from _ _ (statement-numbered context sight statement)
      (ap (all_suit (map numbering behind)) (sym (seen-after context sight statement))
      ∙ statements-numbered context (after sight statement) statements)

  arms-numbered :
      (context : Context) (sight : Sight) (arms : Arms)
      → list_all (λ suits. suits (seen sight)) (map arm_numbered (numbered_arms context sight arms)) ≡ true
  arms-numbered context sight no_arms = refl
  arms-numbered context sight (arm test body arms) =
      and_from _ _
      (and_from _ _ (expression-below context sight test) (statements-numbered context (in_scope sight) body))
      (arms-numbered context sight arms)

-- the law
pub definitions-numbered : DefinitionsNumbered
definitions-numbered context d =
    let inside = after_parameters at_entry d.parameters in
    let counted : seen inside ≡ 0 + length d.parameters = seen-after-parameters at_entry d.parameters in
    let same : length d.parameters ≡ seen inside = omega arith in
    ap (all_suit (map numbering (numbered_statements (unfiled context) inside d.body))) same
    ∙ statements-numbered (unfiled context) inside d.body
