-- An expression without check faults gives the same with numbers in place of names.
use Rattle.std.proofs.Common.{◌≡◌, ℕ, cond, List, [], ◌∷◌, ◌++◌, map, Option, Some, None, refl, sym, ap, ◌∙◌}
use Rattle.std.specs.Prelude.{ℤ, pos, Result, Ok, Err}
use Rattle.flame_rows.proofs.Lists.{append-is_nil_left, append-is_nil_right}
use Rattle.flame_ops.specs.Integers.{applied}
use Rattle.flame_spec.specs.declared.faults.Fault.{Fault}
use Rattle.flame_spec.specs.declared.models.Variable.{Variable}
use Rattle.flame_spec.specs.CallFaults.{whole_faults, argument_faults, arguments_faults}
use Rattle.flame_spec.specs.ExpressionFaults.{unknown_faults, indexed_faults, field_at_faults, expression_faults, parts_faults, links_faults}
use Rattle.flame_spec.specs.Scopes.{Context, Sight}
use Rattle.flame_spec.specs.Trees.{Expression, number, name, field, get, at, field_at, signed, chain, all_of, any_of}
use Rattle.flame_spec.specs.Trees.{Expressions, no_parts, part, Links, no_links, link}
use Rattle.flame_body.specs.WordSlots.{slot_at, cells_at, field_span, field_cells, got_column, input_read}
use Rattle.flame_body.specs.NumberedTrees.{numbered, numbered_parts, numbered_links}
use Rattle.flame_body.specs.FitLaws.{unfiled}
use Rattle.flame_meaning.specs.Scenes.{Scene, Progress}
use Rattle.flame_meaning.specs.Expressions.{on_value, at_line, holds, signs_value, element_value, one_of, values_and, argument_values, values_of}
use Rattle.flame_meaning.specs.Expressions.{chain_value as chain_named, all_value as all_named, any_value as any_named, value_of as value_named}
use Rattle.flame_meaning.specs.Agreement.{Agrees}
use Rattle.flame_number_laws.specs.NumberedScenes.{NumberedScene, cell_column}
use Rattle.flame_number_laws.specs.NumberedMeaning.{ExpressionMeaning, Valued, one_value, chain_value, all_value, any_value, meaning_of, value_of, link_of, argument_numbers}
use Rattle.flame_number_laws.proofs.NumberedForms.{meaning-Number, meaning-Name, meaning-Field, meaning-Get, meaning-At, meaning-FieldAt, meaning-Unary, meaning-Chain}
use Rattle.flame_number_laws.proofs.NumberedForms.{meaning-All, meaning-Any}
use Rattle.flame_number_laws.proofs.BaredEnds.{bared}
use Rattle.flame_number_laws.proofs.SameWords.{Matches, name-same, name-numbers, cells-same, row-same, field-same, field-numbers, field-cells, got-same}

on-same : (r : Result ℤ Fault) (f g : ℤ → Result ℤ Fault) → ((v : ℤ) → f v ≡ g v) → on_value r f ≡ on_value r g
on-same (Ok v) f g h = h v
on-same (Err fault) f g h = refl

on-on : (r : Result ℤ Fault) (f g : ℤ → Result ℤ Fault) → on_value (on_value r f) g ≡ on_value r (λ v. on_value (f v) g)
on-on (Ok v) f g = refl
on-on (Err fault) f g = refl

-- an expression of one value has one number
one-number : (g : ExpressionMeaning) (value : Valued) (before : NumberedScene) (s : Progress) → g ≡ one_value value → g.numbers before s ≡ one_of (g.value before s)
one-number g value before s is = ap (λ (h : ExpressionMeaning). h.numbers before s) is ∙ sym (ap (λ (h : ExpressionMeaning). one_of (h.value before s)) is)

module _ (place : Context) (sight : Sight) (scene : Scene) (before : NumberedScene) (s : Progress) (a : Agrees place sight scene s) (k : Matches place sight.loops scene before) where
  mutual
    pub value-same : (e : Expression) → expression_faults place sight e ≡ [] → value_of (numbered (unfiled place) sight e) before (bared s) ≡ value_named e scene s
    value-same (number n) none = ap (λ (g : ExpressionMeaning). g.value before (bared s)) (meaning-Number n)
    value-same (name line word) none =
        ap (λ (g : ExpressionMeaning). g.value before (bared s)) (meaning-Name (slot_at (unfiled place) sight word))
        ∙ ap Ok (name-same place sight scene before s a k line word (append-is_nil_left _ _ none))
    value-same (field line word variable) none =
        ap (λ (g : ExpressionMeaning). g.value before (bared s)) (meaning-Field (input_read (unfiled place) word) (field_span (unfiled place) word variable))
        ∙ ap Ok (field-same place sight scene before s a k line word variable (append-is_nil_left _ _ none))
    value-same (get line word) none =
        ap (λ (g : ExpressionMeaning). g.value before (bared s)) (meaning-Get (got_column (unfiled place) word))
        ∙ ap Ok (got-same place sight scene before s a k line word (append-is_nil_left _ _ none))
    value-same (at line word index_line index) none =
        ap (λ (g : ExpressionMeaning). g.value before (bared s))
        (meaning-At (cells_at (unfiled place) word) (record { line = index_line; index = numbered (unfiled place) sight index }))
        ∙ ap (λ r. on_value r (λ i. element_value index_line (cell_column (cells_at (unfiled place) word) i) s.memory))
        (value-same index (append-is_nil_right (unknown_faults place sight line word ++ indexed_faults place line word) _ none))
        ∙ on-same (value_named index scene s) _ _
        (λ i. ap (λ c. element_value index_line c s.memory)
        (cells-same place sight scene before s a k line word i (append-is_nil_right (unknown_faults place sight line word) _ (append-is_nil_left _ _ none))))
    value-same (field_at line word variable index_line index) none =
        ap (λ (g : ExpressionMeaning). g.value before (bared s))
        (meaning-FieldAt (input_read (unfiled place) word) (field_cells (unfiled place) word variable)
        (record { line = index_line; index = numbered (unfiled place) sight index }))
        ∙ ap (λ r. on_value r (λ i.
        element_value index_line (cell_column (field_cells (unfiled place) word variable) i) (before.current_rows (input_read (unfiled place) word))))
        (value-same index (append-is_nil_right (field_at_faults place sight line word variable) _ none))
        ∙ on-same (value_named index scene s) _ _
        (λ i. ap (λ c. element_value index_line c (before.current_rows (input_read (unfiled place) word))) (field-cells place sight scene before s a k word variable i)
        ∙ ap (element_value index_line _) (row-same place sight scene before s a k line word variable (append-is_nil_left _ _ (append-is_nil_left _ _ none))))
    value-same (signed signs e) none =
        ap (λ (g : ExpressionMeaning). g.value before (bared s)) (meaning-Unary signs (numbered (unfiled place) sight e))
        ∙ ap (λ r. on_value r (signs_value signs)) (value-same e none)
    value-same (chain e more) none =
        ap (λ (g : ExpressionMeaning). g.value before (bared s)) (meaning-Chain (numbered (unfiled place) sight e) (numbered_links (unfiled place) sight more))
        ∙ ap (λ r. on_value r (chain_value (map link_of (numbered_links (unfiled place) sight more)) before (bared s)))
        (value-same e (append-is_nil_left _ _ none))
        ∙ on-same (value_named e scene s) _ _ (λ v. links-same more v (append-is_nil_right (expression_faults place sight e) _ none))
    value-same (all_of parts) none =
        ap (λ (g : ExpressionMeaning). g.value before (bared s)) (meaning-All (numbered_parts (unfiled place) sight parts)) ∙ all-same parts none
    value-same (any_of parts) none =
        ap (λ (g : ExpressionMeaning). g.value before (bared s)) (meaning-Any (numbered_parts (unfiled place) sight parts)) ∙ any-same parts none

    links-same :
        (links : Links) (v : ℤ)
        → links_faults place sight links ≡ []
        → chain_value (map link_of (numbered_links (unfiled place) sight links)) before (bared s) v ≡ chain_named links scene s v
    links-same no_links v none = refl
    links-same (link op line e links) v none =
        on-on (value_of (numbered (unfiled place) sight e) before (bared s)) (λ w. at_line line (applied op v w))
        (chain_value (map link_of (numbered_links (unfiled place) sight links)) before (bared s))
        ∙ ap (λ r. on_value r (λ w.
        on_value (at_line line (applied op v w)) (chain_value (map link_of (numbered_links (unfiled place) sight links)) before (bared s))))
        (value-same e (append-is_nil_left _ _ none))
        ∙ on-same (value_named e scene s) _ _ (λ w.
        on-same (at_line line (applied op v w)) _ _ (λ u. links-same links u (append-is_nil_right (expression_faults place sight e) _ none)))

    all-same :
        (parts : Expressions)
        → parts_faults place sight parts ≡ []
        → all_value (map meaning_of (numbered_parts (unfiled place) sight parts)) before (bared s) ≡ all_named parts scene s
    all-same no_parts none = refl
    all-same (part e parts) none =
        ap (λ r. on_value r (λ v.
        cond (holds v) (all_value (map meaning_of (numbered_parts (unfiled place) sight parts)) before (bared s)) (Ok (pos 0))))
        (value-same e (append-is_nil_left _ _ none))
        ∙ on-same (value_named e scene s) _ _
        (λ v. ap (λ r. cond (holds v) r (Ok (pos 0))) (all-same parts (append-is_nil_right (expression_faults place sight e) _ none)))

    any-same :
        (parts : Expressions)
        → parts_faults place sight parts ≡ []
        → any_value (map meaning_of (numbered_parts (unfiled place) sight parts)) before (bared s) ≡ any_named parts scene s
    any-same no_parts none = refl
    any-same (part e parts) none =
        ap (λ r. on_value r (λ v.
        cond (holds v) (Ok (pos 1)) (any_value (map meaning_of (numbered_parts (unfiled place) sight parts)) before (bared s))))
        (value-same e (append-is_nil_left _ _ none))
        ∙ on-same (value_named e scene s) _ _
        (λ v. ap (λ r. cond (holds v) (Ok (pos 1)) r) (any-same parts (append-is_nil_right (expression_faults place sight e) _ none)))

  -- ---- arguments

  -- an expression that is no name and no variable of a row
  one-same :
      (e : Expression) (value : Valued)
      → meaning_of (numbered (unfiled place) sight e) ≡ one_value value
      → value_of (numbered (unfiled place) sight e) before (bared s) ≡ value_named e scene s
      → (meaning_of (numbered (unfiled place) sight e)).numbers before (bared s) ≡ one_of (value_named e scene s)
  one-same e value is same = one-number (meaning_of (numbered (unfiled place) sight e)) value before (bared s) is ∙ ap one_of same

  pub argument-same :
      (e : Expression)
      → whole_faults place sight e ≡ []
      → (meaning_of (numbered (unfiled place) sight e)).numbers before (bared s) ≡ argument_values e scene s
  argument-same (name line word) none =
      ap (λ (g : ExpressionMeaning). g.numbers before (bared s)) (meaning-Name (slot_at (unfiled place) sight word))
      ∙ ap Ok (name-numbers place sight scene before s a k line word none)
  argument-same (field line word variable) none =
      ap (λ (g : ExpressionMeaning). g.numbers before (bared s)) (meaning-Field (input_read (unfiled place) word) (field_span (unfiled place) word variable))
      ∙ ap Ok (field-numbers place sight scene before s a k line word variable none)
  argument-same (get line word) none =
      one-same (get line word) _ (meaning-Get (got_column (unfiled place) word))
      (ap (λ (g : ExpressionMeaning). g.value before (bared s)) (meaning-Get (got_column (unfiled place) word))
      ∙ ap Ok (got-same place sight scene before s a k line word none))
  argument-same (number n) none = one-same (number n) _ (meaning-Number n) (value-same (number n) refl)
  argument-same (at line word index_line index) none =
      one-same (at line word index_line index) _
      (meaning-At (cells_at (unfiled place) word) (record { line = index_line; index = numbered (unfiled place) sight index }))
      (value-same (at line word index_line index) none)
  argument-same (field_at line word variable index_line index) none =
      one-same (field_at line word variable index_line index) _
      (meaning-FieldAt (input_read (unfiled place) word) (field_cells (unfiled place) word variable)
      (record { line = index_line; index = numbered (unfiled place) sight index }))
      (value-same (field_at line word variable index_line index) none)
  argument-same (signed signs e) none =
      one-same (signed signs e) _ (meaning-Unary signs (numbered (unfiled place) sight e)) (value-same (signed signs e) none)
  argument-same (chain e more) none =
      one-same (chain e more) _
      (meaning-Chain (numbered (unfiled place) sight e) (numbered_links (unfiled place) sight more))
      (value-same (chain e more) none)
  argument-same (all_of parts) none =
      one-same (all_of parts) _ (meaning-All (numbered_parts (unfiled place) sight parts)) (value-same (all_of parts) none)
  argument-same (any_of parts) none =
      one-same (any_of parts) _ (meaning-Any (numbered_parts (unfiled place) sight parts)) (value-same (any_of parts) none)

  -- without faults as a value, it has none as an argument
  whole-none : (e : Expression) → expression_faults place sight e ≡ [] → whole_faults place sight e ≡ []
  whole-none (name line word) none = append-is_nil_left _ _ none
  whole-none (field line word variable) none = append-is_nil_left _ _ none
  whole-none (get line word) none = append-is_nil_left _ _ none
  whole-none (number n) none = none
  whole-none (at line word index_line index) none = none
  whole-none (field_at line word variable index_line index) none = none
  whole-none (signed signs e) none = none
  whole-none (chain e more) none = none
  whole-none (all_of parts) none = none
  whole-none (any_of parts) none = none

  argument-none :
      (line : ℕ) (word : List ℕ) (o : Option ℕ) (e : Expression)
      → argument_faults place sight line word o e ≡ []
      → whole_faults place sight e ≡ []
  argument-none line word None e none = whole-none e none
  argument-none line word (Some n) e none = append-is_nil_left _ _ none

  both-same :
      (e : Expression) (parts : Expressions)
      → whole_faults place sight e ≡ []
      → argument_numbers (numbered_parts (unfiled place) sight parts) before (bared s) ≡ values_of parts scene s
      → argument_numbers (numbered_parts (unfiled place) sight (part e parts)) before (bared s) ≡ values_of (part e parts) scene s
  both-same e parts none more =
      ap (λ r. values_and r (argument_numbers (numbered_parts (unfiled place) sight parts) before (bared s))) (argument-same e none)
      ∙ ap (values_and (argument_values e scene s)) more

  parts-same :
      (parts : Expressions)
      → parts_faults place sight parts ≡ []
      → argument_numbers (numbered_parts (unfiled place) sight parts) before (bared s) ≡ values_of parts scene s
  parts-same no_parts none = refl
  parts-same (part e parts) none =
      both-same e parts (whole-none e (append-is_nil_left _ _ none)) (parts-same parts (append-is_nil_right (expression_faults place sight e) _ none))

  pub arguments-same :
      (line : ℕ) (word : List ℕ) (variables : List Variable) (parts : Expressions)
      → arguments_faults place sight line word variables parts ≡ []
      → argument_numbers (numbered_parts (unfiled place) sight parts) before (bared s) ≡ values_of parts scene s
  arguments-same line word variables no_parts none = refl
  arguments-same line word [] (part e parts) none = parts-same (part e parts) none
  arguments-same line word (variable ∷ variables) (part e parts) none =
      both-same e parts (argument-none line word variable.length e (append-is_nil_left _ _ none))
      (arguments-same line word variables parts (append-is_nil_right (argument_faults place sight line word variable.length e) _ none))
