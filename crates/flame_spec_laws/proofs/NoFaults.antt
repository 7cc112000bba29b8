-- Where a part has no fault, each part of it has none.
use Rattle.std.proofs.Common.{◌≡◌, ℕ, List, [], ◌∷◌, ◌++◌, Option, Some, None, ap, sym, ◌∙◌}
use Rattle.flame_rows.proofs.Lists.{append-is_nil_left, append-is_nil_right, append-nils}
use Rattle.flame_spec.specs.declared.faults.CheckFault.{CheckFault}
use Rattle.flame_spec.specs.declared.trees.Parameter.{Parameter}
use Rattle.flame_spec.specs.Trees.{Expression, Expressions, no_parts, part, Stored, Indexed, Statements}
use Rattle.flame_spec.specs.Definitions.{Definition, helper_named}
use Rattle.flame_spec.specs.Scopes.{Context, Sight, after_name, after_parameters}
use Rattle.flame_spec.specs.ExpressionFaults.{expression_faults, parts_faults, links_faults}
use Rattle.flame_spec.specs.CallFaults.{Deed, called_by, deed_of, places_of, deed_faults, argument_faults}
use Rattle.flame_spec.specs.CallFaults.{arguments_faults}
use Rattle.flame_spec.specs.StatementFaults.{stored_faults, subscript_faults, assignment_faults, optional_stored_faults}
use Rattle.flame_spec.specs.StatementFaults.{items_faults, parameters_faults, statement_faults, statements_faults}
use Rattle.flame_spec.specs.StatementFaults.{arms_faults}
use Rattle.flame_spec_laws.specs.BodyParts.{Part, value, values, operands, giving, whole, storing, assigning, declaring}
use Rattle.flame_spec_laws.specs.BodyParts.{doing}
use Rattle.flame_spec_laws.specs.BodyParts.{sequence, tests, defining, StandsIn, itself, element_index, field_index}
use Rattle.flame_spec_laws.specs.BodyParts.{under_signs}
use Rattle.flame_spec_laws.specs.BodyParts.{chain_begin, chain_more, all_part, any_part, first_value, later_value}
use Rattle.flame_spec_laws.specs.BodyParts.{first_operand}
use Rattle.flame_spec_laws.specs.BodyParts.{later_operand, single_argument, array_argument, later_argument, plain_argument}
use Rattle.flame_spec_laws.specs.BodyParts.{plain_value}
use Rattle.flame_spec_laws.specs.BodyParts.{called_argument, assigned_index, assigned_value, item_value, later_item}
use Rattle.flame_spec_laws.specs.BodyParts.{declaration}
use Rattle.flame_spec_laws.specs.BodyParts.{assignment, call_argument, block_body, branch_arm, branch_otherwise, while_test}
use Rattle.flame_spec_laws.specs.BodyParts.{while_body}
use Rattle.flame_spec_laws.specs.BodyParts.{for_first, for_test, for_step, for_body, do_body, do_test, loop_body, returned}
use Rattle.flame_spec_laws.specs.BodyParts.{first_statement, later_statement, arm_test, arm_body, later_arm, later_parameter}
use Rattle.flame_spec_laws.specs.BodyParts.{function_body}

-- the faults of a part
abbrev pub part_faults : Context → Part → Sight → List CheckFault
part_faults context (value e) sight = expression_faults context sight e
part_faults context (values parts) sight = parts_faults context sight parts
part_faults context (operands more) sight = links_faults context sight more
part_faults context (giving line word variables arguments) sight =
    arguments_faults context sight line word variables arguments
part_faults context (whole line word length e) sight = argument_faults context sight line word (Some length) e
part_faults context (storing stored) sight = stored_faults context sight stored
part_faults context (assigning a) sight = assignment_faults context sight a
part_faults context (declaring items) sight = items_faults context sight items
part_faults context (doing statement) sight = statement_faults context sight statement
part_faults context (sequence statements) sight = statements_faults context sight statements
part_faults context (tests arms) sight = arms_faults context sight arms
part_faults context (defining parameters body) sight =
    parameters_faults context sight parameters ++ statements_faults context (after_parameters sight parameters) body

parameters-none :
    (context : Context) (sight : Sight) (parameter : Parameter) (parameters : List Parameter) (body : Statements)
    → parameters_faults context sight (parameter ∷ parameters)
    ++ statements_faults context (after_parameters sight (parameter ∷ parameters)) body ≡ []
    → parameters_faults context (after_name sight parameter.name) parameters
    ++ statements_faults context (after_parameters (after_name sight parameter.name) parameters) body ≡ []
parameters-none context sight parameter parameters body none =
    let next : Sight = after_name sight parameter.name in
    let later : parameters_faults context sight (parameter ∷ parameters) ≡ [] = append-is_nil_left _ _ none in
    append-nils (parameters_faults context next parameters)
    (statements_faults context (after_parameters next parameters) body)
    (append-is_nil_right _ _ later) (append-is_nil_right _ _ none)

pub optional_stored_faults-none :
    (context : Context) (sight : Sight) (o : Option Stored) (stored : Stored)
    → o ≡ Some stored
    → optional_stored_faults context sight o ≡ []
    → stored_faults context sight stored ≡ []
optional_stored_faults-none context sight None stored is none = cc
optional_stored_faults-none context sight (Some other) stored is none =
    let same : other ≡ stored = cc in
    sym (ap (stored_faults context sight) same) ∙ none

subscript_faults-none :
    (context : Context) (sight : Sight) (line : ℕ) (word : List ℕ) (o : Option Indexed) (subscript : Indexed)
    → o ≡ Some subscript
    → subscript_faults context sight line word o ≡ []
    → expression_faults context sight subscript.index ≡ []
subscript_faults-none context sight line word None subscript is none = cc
subscript_faults-none context sight line word (Some other) subscript is none =
    let same : other ≡ subscript = cc in
    sym (ap (λ s. expression_faults context sight s.index) same) ∙ append-is_nil_right _ _ none

argument_faults-none :
    (context : Context) (sight : Sight) (line : ℕ) (word : List ℕ) (length wanted : Option ℕ) (e : Expression)
    → length ≡ wanted
    → argument_faults context sight line word length e ≡ []
    → argument_faults context sight line word wanted e ≡ []
argument_faults-none context sight line word length wanted e same none =
    sym (ap (λ o. argument_faults context sight line word o e) same) ∙ none

deed_faults-none :
    (context : Context) (sight : Sight) (o : Option Deed) (deed : Deed) (line : ℕ) (word : List ℕ)
    (arguments : Expressions)
    → o ≡ Some deed
    → deed_faults context sight o line word arguments ≡ []
    → arguments_faults context sight line word (places_of deed) arguments ≡ []
deed_faults-none context sight None deed line word arguments is none = cc
deed_faults-none context sight (Some other) deed line word arguments is none =
    let same : other ≡ deed = cc in
    sym (ap (λ d. arguments_faults context sight line word (places_of d) arguments) same) ∙ append-is_nil_right _ _ none

plain-none :
    (context : Context) (sight : Sight) (line : ℕ) (word : List ℕ) (arguments : Expressions)
    → arguments_faults context sight line word [] arguments ≡ []
    → parts_faults context sight arguments ≡ []
plain-none context sight line word no_parts none = none
plain-none context sight line word (part e more) none = none

called-none :
    (context : Context) (sight : Sight) (found : Option (ℕ × Definition)) (line : ℕ) (word : List ℕ)
    (arguments : Expressions)
    → deed_faults context sight (called_by found) line word arguments ≡ []
    → parts_faults context sight arguments ≡ []
called-none context sight None line word arguments none = cc
called-none context sight (Some found) line word arguments none =
    plain-none context sight line word arguments (append-is_nil_right _ _ none)

module _ (context : Context) (inner : Part) (there : Sight) where
  pub no_faults :
      {outer : Part} {here : Sight}
      → StandsIn context inner there outer here
      → part_faults context outer here ≡ []
      → part_faults context inner there ≡ []
  no_faults itself none = none
  no_faults (element_index line word index_line index s) none = no_faults s (append-is_nil_right _ _ none)
  no_faults (field_index line word variable index_line index s) none = no_faults s (append-is_nil_right _ _ none)
  no_faults (under_signs signs e s) none = no_faults s none
  no_faults {here = here} (chain_begin e more s) none =
      no_faults s (append-is_nil_left (expression_faults context here e) _ none)
  no_faults {here = here} (chain_more e more s) none =
      no_faults s (append-is_nil_right (expression_faults context here e) _ none)
  no_faults (all_part parts s) none = no_faults s none
  no_faults (any_part parts s) none = no_faults s none
  no_faults {here = here} (first_value e more s) none =
      no_faults s (append-is_nil_left (expression_faults context here e) _ none)
  no_faults {here = here} (later_value e more s) none =
      no_faults s (append-is_nil_right (expression_faults context here e) _ none)
  no_faults {here = here} (first_operand op line e more s) none =
      no_faults s (append-is_nil_left (expression_faults context here e) _ none)
  no_faults {here = here} (later_operand op line e more s) none =
      no_faults s (append-is_nil_right (expression_faults context here e) _ none)
  no_faults {here = here} (single_argument line word variable variables e more is s) none =
      no_faults s
      (argument_faults-none context here line word variable.length None e is
      (append-is_nil_left (argument_faults context here line word variable.length e) _ none))
  no_faults {here = here} (array_argument line word variable variables e more length is s) none =
      no_faults s
      (argument_faults-none context here line word variable.length (Some length) e is
      (append-is_nil_left (argument_faults context here line word variable.length e) _ none))
  no_faults {here = here} (later_argument line word variable variables e more s) none =
      no_faults s (append-is_nil_right (argument_faults context here line word variable.length e) _ none)
  no_faults {here = here} (plain_argument line word arguments s) none =
      no_faults s (plain-none context here line word arguments none)
  no_faults (plain_value e s) none = no_faults s none
  no_faults {here = here} (called_argument line word arguments s) none =
      no_faults s (called-none context here (helper_named context.helpers word) line word arguments none)
  no_faults {here = here} (assigned_index a subscript is s) none =
      no_faults s
      (subscript_faults-none context here a.line a.name a.subscript subscript is
      (append-is_nil_right _ (subscript_faults context here a.line a.name a.subscript) (append-is_nil_left _ _ none)))
  no_faults (assigned_value a s) none = no_faults s (append-is_nil_right _ _ none)
  no_faults (item_value item items stored is s) none =
      no_faults s (optional_stored_faults-none context _ item.value stored is (append-is_nil_right _ _ (append-is_nil_left _ _ none)))
  no_faults (later_item item items s) none = no_faults s (append-is_nil_right _ _ none)
  no_faults (declaration items s) none = no_faults s none
  no_faults (assignment a s) none = no_faults s none
  no_faults {here = here} (call_argument line word arguments deed is s) none =
      no_faults s (deed_faults-none context here (deed_of context word) deed line word arguments is none)
  no_faults (block_body body s) none = no_faults s none
  no_faults (branch_arm arms otherwise s) none = no_faults s (append-is_nil_left _ _ none)
  no_faults (branch_otherwise arms otherwise s) none = no_faults s (append-is_nil_right _ _ none)
  no_faults (while_test line test body s) none = no_faults s (append-is_nil_left _ _ none)
  no_faults (while_body line test body s) none = no_faults s (append-is_nil_right _ _ none)
  no_faults (for_first line first test step body s) none =
      no_faults s (append-is_nil_left _ _ (append-is_nil_left _ _ (append-is_nil_left _ _ none)))
  no_faults (for_test line first test step body s) none =
      no_faults s (append-is_nil_right _ _ (append-is_nil_left _ _ (append-is_nil_left _ _ none)))
  no_faults (for_step line first test step body s) none = no_faults s (append-is_nil_right _ _ (append-is_nil_left _ _ none))
  no_faults (for_body line first test step body s) none = no_faults s (append-is_nil_right _ _ none)
  no_faults (do_body line body test s) none = no_faults s (append-is_nil_left _ _ none)
  no_faults (do_test line body test s) none = no_faults s (append-is_nil_right _ _ none)
  no_faults (loop_body line word body end_line end_word s) none = no_faults s (append-is_nil_right _ _ (append-is_nil_left _ _ none))
  no_faults (returned e s) none = no_faults s none
  no_faults (first_statement statement more s) none = no_faults s (append-is_nil_left _ _ none)
  no_faults (later_statement statement more s) none = no_faults s (append-is_nil_right _ _ none)
  no_faults (arm_test test body more s) none = no_faults s (append-is_nil_left _ _ (append-is_nil_left _ _ none))
  no_faults (arm_body test body more s) none = no_faults s (append-is_nil_right _ _ (append-is_nil_left _ _ none))
  no_faults (later_arm test body more s) none = no_faults s (append-is_nil_right _ _ none)
  no_faults {here = here} (later_parameter parameter parameters body s) none =
      no_faults s
      (parameters-none context here parameter parameters body none)
  no_faults (function_body body s) none = no_faults s none
