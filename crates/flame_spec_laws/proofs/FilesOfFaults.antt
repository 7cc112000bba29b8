-- Each fault of a body stands in the body's file, and each body's file is one of the files.
use Rattle.std.proofs.Common.{◌≡◌, ℕ, ◌+◌, ◌<◌, Bool, true, false, not, ◌&&◌, List, [], ◌∷◌, ◌++◌, length, map, codes}
use Rattle.std.proofs.Common.{zero, suc, cond, Contains, Option, Some, None, ◌⊎◌, inl, inr, refl, sym, subst, arith}
use Rattle.std.specs.Prelude.{slice_get}
use Rattle.std.specs.List.{flat_map, filter, list_any, AllByRecursion}
use Rattle.flame_spec.specs.declared.models.Model.{Model}
use Rattle.flame_spec.specs.declared.models.Function.{Function}
use Rattle.flame_spec.specs.declared.models.MessageType.{MessageType}
use Rattle.flame_spec.specs.declared.models.Variable.{Variable}
use Rattle.flame_spec.specs.declared.trees.Unit as file
use Rattle.flame_spec.specs.declared.trees.Def.{Def}
use Rattle.flame_spec.specs.declared.trees.Parameter.{Parameter}
use Rattle.flame_spec.specs.declared.faults.CheckFault.{CheckFault}
use Rattle.flame_spec.specs.declared.faults.CheckKind.{CheckKind}
use Rattle.flame_spec.specs.declared.faults.CheckKind.TheVariants.{MissingFunction, Recursive, DeepCalls}
use Rattle.flame_spec.specs.Lists.{each_from}
use Rattle.flame_spec.specs.KnownNames.{is_among}
use Rattle.flame_spec.specs.Functions.{Place, functions}
use Rattle.flame_spec.specs.LookUps.{message_read, message_looped}
use Rattle.flame_spec.specs.Trees.{Expression, number, name, field, get, field_at, signed, chain, all_of, any_of}
use Rattle.flame_spec.specs.Trees.{at as element}
use Rattle.flame_spec.specs.Trees.{Expressions, no_parts, part, Links, no_links, link, Stored, plain, called, Indexed}
use Rattle.flame_spec.specs.Trees.{Declared, Assigned, Statement, empty, declare, assign, call, block, branch, while}
use Rattle.flame_spec.specs.Trees.{for}
use Rattle.flame_spec.specs.Trees.{do_while, loop_over, return, break, continue, Statements, no_more, also, Arms}
use Rattle.flame_spec.specs.Trees.{no_arms, arm}
use Rattle.flame_spec.specs.Scopes.{Context, Sight, at_entry, in_scope, in_loop, in_value_of, over_none, after_name}
use Rattle.flame_spec.specs.Scopes.{after}
use Rattle.flame_spec.specs.Scopes.{after_all, after_parameters, messages_at}
use Rattle.flame_spec.specs.Definitions.{Definition, definition, definitions_of, definitions, is_idle, is_for}
use Rattle.flame_spec.specs.Definitions.{is_helper, helpers, helper_named}
use Rattle.flame_spec.specs.ExpressionFaults.{fault_where, row_faults_of, row_faults, field_at_faults}
use Rattle.flame_spec.specs.ExpressionFaults.{expression_faults, parts_faults, links_faults, optional_faults}
use Rattle.flame_spec.specs.CallFaults.{Deed, called_by, deed_of, places_of, whole_faults, argument_faults}
use Rattle.flame_spec.specs.CallFaults.{arguments_faults}
use Rattle.flame_spec.specs.CallFaults.{deed_faults}
use Rattle.flame_spec.specs.StatementFaults.{stored_faults, subscript_faults, assignment_faults}
use Rattle.flame_spec.specs.StatementFaults.{optional_assignment_faults}
use Rattle.flame_spec.specs.StatementFaults.{optional_stored_faults, item_faults, items_faults, parameters_faults}
use Rattle.flame_spec.specs.StatementFaults.{start_faults}
use Rattle.flame_spec.specs.StatementFaults.{opened, statement_faults, statements_faults, arms_faults}
use Rattle.flame_spec.specs.HelperFaults.{helper_context, fault_at, recursive_at, recursive_faults, deep_at}
use Rattle.flame_spec.specs.HelperFaults.{deep_faults}
use Rattle.flame_spec.specs.HelperFaults.{name_in, cycle_text, call_cycle, is_called_by, first_deep}
use Rattle.flame_spec.specs.CheckFaults.{twice_where, twice_faults, is_run_by, with_parameters_where}
use Rattle.flame_spec.specs.CheckFaults.{with_parameters_faults}
use Rattle.flame_spec.specs.CheckFaults.{missing_where, missing_faults, context, definition_faults, body_faults}
use Rattle.flame_spec.specs.CheckFaults.{bodies_faults}
use Rattle.flame_spec.specs.CheckFaults.{check_faults}
use Rattle.flame_spec_laws.proofs.Found.{Contains-cases}

-- ---- all elements

all-append :
    {X : Type 0} (P : X → Type 0) (xs ys : List X)
    → AllByRecursion P xs
    → AllByRecursion P ys
    → AllByRecursion P (xs ++ ys)
all-append P [] ys all more = more
all-append P (x ∷ xs) ys all more = (all.0, all-append P xs ys all.1 more)

all-flat_map :
    {X Y : Type 0} (P : X → Type 0) (Q : Y → Type 0) (f : X → List Y) (xs : List X)
    → ((x : X) → P x → AllByRecursion Q (f x))
    → AllByRecursion P xs
    → AllByRecursion Q (flat_map f xs)
all-flat_map P Q f [] gives all = tt
all-flat_map P Q f (x ∷ xs) gives all =
    all-append Q (f x) (flat_map f xs) (gives x all.0) (all-flat_map P Q f xs gives all.1)

all-weaker :
    {X : Type 0} (P Q : X → Type 0) (xs : List X)
    → ((x : X) → P x → Q x)
    → AllByRecursion P xs
    → AllByRecursion Q xs
all-weaker P Q [] weaker all = tt
all-weaker P Q (x ∷ xs) weaker all = (weaker x all.0, all-weaker P Q xs weaker all.1)

all-true : {X : Type 0} (P : X → Type 0) (xs : List X) → ((x : X) → P x) → AllByRecursion P xs
all-true P [] holds = tt
all-true P (x ∷ xs) holds = (holds x, all-true P xs holds)

pub all-Contains : {X : Type 0} (P : X → Type 0) (xs : List X) (y : X) → AllByRecursion P xs → Contains xs y → P y
all-Contains P [] y all (k, below, at) = absurd (omega arith)
all-Contains P (x ∷ xs) y all c = by_place (Contains-cases x xs y c) (all-Contains P xs y all.1)
  where
    by_place : (x ≡ y) ⊎ Contains xs y → (Contains xs y → P y) → P y
    by_place (inl e) later = subst P e all.0
    by_place (inr c') later = later c'

-- ---- faults of bodies

module _ (at : Context) where
  abbrev Here : CheckFault → Type 0
  Here fault = fault.file ≡ at.file

  record AllHere (faults : List CheckFault) : Type 0 where
    each : AllByRecursion Here faults

  none : AllHere []
  none = record { each = tt }

  where-here : (b : Bool) (kind : CheckKind) (line : ℕ) (word : List ℕ) → AllHere (fault_where b at kind line word)
  where-here true kind line word = record { each = (refl, tt) }
  where-here false kind line word = none

  both : (xs ys : List CheckFault) → AllHere xs → AllHere ys → AllHere (xs ++ ys)
  both xs ys all more = record { each = all-append Here xs ys all.each more.each }

  row-here :
      (sight : Sight) (o : Option (ℕ × MessageType)) (line : ℕ) (word variable : List ℕ)
      → AllHere (row_faults_of at sight o line word variable)
  row-here sight None line word variable = where-here true _ line word
  row-here sight (Some found) line word variable =
      both _ _ (where-here _ _ line word) (where-here _ _ line variable)

  rows-here : (sight : Sight) (line : ℕ) (word variable : List ℕ) → AllHere (row_faults at sight line word variable)
  rows-here sight line word variable = row-here sight (message_read (messages_at at) word) line word variable

  mutual
    expression-here : (sight : Sight) (e : Expression) → AllHere (expression_faults at sight e)
    expression-here sight (number n) = none
    expression-here sight (name line word) = both _ _ (where-here _ _ line word) (where-here _ _ line word)
    expression-here sight (field line word variable) =
        both (row_faults at sight line word variable) _ (rows-here sight line word variable)
        (where-here _ _ line variable)
    expression-here sight (get line word) = both _ _ (where-here _ _ line word) (where-here _ _ line word)
    expression-here sight (element line word index_line index) =
        both _ _ (both _ _ (where-here _ _ line word) (where-here _ _ line word)) (expression-here sight index)
    expression-here sight (field_at line word variable index_line index) =
        both (field_at_faults at sight line word variable) _
        (both (row_faults at sight line word variable) _ (rows-here sight line word variable)
        (where-here _ _ line variable))
        (expression-here sight index)
    expression-here sight (signed signs e) = expression-here sight e
    expression-here sight (chain e more) = both _ _ (expression-here sight e) (links-here sight more)
    expression-here sight (all_of parts) = parts-here sight parts
    expression-here sight (any_of parts) = parts-here sight parts

    parts-here : (sight : Sight) (parts : Expressions) → AllHere (parts_faults at sight parts)
    parts-here sight no_parts = none
    parts-here sight (part e parts) = both _ _ (expression-here sight e) (parts-here sight parts)

    links-here : (sight : Sight) (more : Links) → AllHere (links_faults at sight more)
    links-here sight no_links = none
    links-here sight (link op line e more) = both _ _ (expression-here sight e) (links-here sight more)

  whole-here : (sight : Sight) (e : Expression) → AllHere (whole_faults at sight e)
  whole-here sight (name line word) = where-here _ _ line word
  whole-here sight (field line word variable) = rows-here sight line word variable
  whole-here sight (get line word) = where-here _ _ line word
  whole-here sight (number n) = none
  whole-here sight (element line word index_line index) = expression-here sight (element line word index_line index)
  whole-here sight (field_at line word variable index_line index) =
      expression-here sight (field_at line word variable index_line index)
  whole-here sight (signed signs e) = expression-here sight e
  whole-here sight (chain e more) = expression-here sight (chain e more)
  whole-here sight (all_of parts) = parts-here sight parts
  whole-here sight (any_of parts) = parts-here sight parts

  argument-here :
      (sight : Sight) (line : ℕ) (word : List ℕ) (o : Option ℕ) (e : Expression)
      → AllHere (argument_faults at sight line word o e)
  argument-here sight line word None e = expression-here sight e
  argument-here sight line word (Some length) e =
      both (whole_faults at sight e) _ (whole-here sight e) (where-here _ _ line word)

  arguments-here :
      (sight : Sight) (line : ℕ) (word : List ℕ) (variables : List Variable) (arguments : Expressions)
      → AllHere (arguments_faults at sight line word variables arguments)
  arguments-here sight line word [] no_parts = none
  arguments-here sight line word (variable ∷ variables) no_parts = none
  arguments-here sight line word [] (part e parts) = parts-here sight (part e parts)
  arguments-here sight line word (variable ∷ variables) (part e parts) =
      both (argument_faults at sight line word variable.length e) _
      (argument-here sight line word variable.length e) (arguments-here sight line word variables parts)

  deed-here :
      (sight : Sight) (o : Option Deed) (line : ℕ) (word : List ℕ) (arguments : Expressions)
      → AllHere (deed_faults at sight o line word arguments)
  deed-here sight None line word arguments = both _ _ (where-here true _ line word) (parts-here sight arguments)
  deed-here sight (Some deed) line word arguments =
      both _ _
      (both _ _ (both _ _ (where-here _ _ line word) (where-here _ _ line word)) (where-here _ _ line word))
      (arguments-here sight line word (places_of deed) arguments)

  stored-here : (sight : Sight) (stored : Stored) → AllHere (stored_faults at sight stored)
  stored-here sight (plain e) = expression-here sight e
  stored-here sight (called line word arguments) =
      deed-here sight (called_by (helper_named at.helpers word)) line word arguments

  subscript-here :
      (sight : Sight) (line : ℕ) (word : List ℕ) (o : Option Indexed)
      → AllHere (subscript_faults at sight line word o)
  subscript-here sight line word None = where-here _ _ line word
  subscript-here sight line word (Some subscript) =
      both _ _ (where-here _ _ line word) (expression-here sight subscript.index)

  optional-here : (sight : Sight) (o : Option Expression) → AllHere (optional_faults at sight o)
  optional-here sight None = none
  optional-here sight (Some e) = expression-here sight e

  assignment-here : (sight : Sight) (a : Assigned) → AllHere (assignment_faults at sight a)
  assignment-here sight a =
      both _ (stored_faults at sight a.value)
      (both _ (subscript_faults at sight a.line a.name a.subscript)
      (both _ _ (where-here _ _ a.line a.name) (where-here _ _ a.line a.name))
      (subscript-here sight a.line a.name a.subscript))
      (stored-here sight a.value)

  optional-assignment-here : (sight : Sight) (o : Option Assigned) → AllHere (optional_assignment_faults at sight o)
  optional-assignment-here sight None = none
  optional-assignment-here sight (Some a) = assignment-here sight a

  optional-stored-here : (sight : Sight) (o : Option Stored) → AllHere (optional_stored_faults at sight o)
  optional-stored-here sight None = none
  optional-stored-here sight (Some stored) = stored-here sight stored

  item-here : (sight : Sight) (item : Declared) → AllHere (item_faults at sight item)
  item-here sight item =
      both _ _ (where-here _ _ item.line item.name) (optional-stored-here (in_value_of item.name sight) item.value)

  items-here : (sight : Sight) (items : List Declared) → AllHere (items_faults at sight items)
  items-here sight [] = none
  items-here sight (item ∷ items) = both _ _ (item-here sight item) (items-here (after_name sight item.name) items)

  parameters-here : (sight : Sight) (parameters : List Parameter) → AllHere (parameters_faults at sight parameters)
  parameters-here sight [] = none
  parameters-here sight (parameter ∷ parameters) =
      both _ _ (where-here _ _ parameter.line parameter.name)
      (parameters-here (after_name sight parameter.name) parameters)

  start-here :
      (sight : Sight) (o : Option (ℕ × MessageType)) (line : ℕ) (word : List ℕ)
      → AllHere (start_faults at sight o line word)
  start-here sight None line word = where-here true _ line word
  start-here sight (Some found) line word = both _ _ (where-here _ _ line word) (where-here _ _ line word)

  mutual
    statement-here : (sight : Sight) (statement : Statement) → AllHere (statement_faults at sight statement)
    statement-here sight empty = none
    statement-here sight (declare items) = items-here sight items
    statement-here sight (assign a) = assignment-here sight a
    statement-here sight (call line word arguments) =
        deed-here sight (deed_of at word) line word arguments
    statement-here sight (block body) = statements-here (in_scope sight) body
    statement-here sight (branch arms otherwise) =
        both _ _ (arms-here sight arms) (statements-here (in_scope sight) otherwise)
    statement-here sight (while line test body) =
        both _ _ (expression-here sight test) (statements-here (in_loop over_none sight) body)
    statement-here sight (for line first test step body) =
        both _ _
        (both _ _
        (both _ _ (statements-here (in_scope sight) first) (optional-here (after_all (in_scope sight) first) test))
        (optional-assignment-here (after_all (in_scope sight) first) step))
        (statements-here (in_loop over_none (after_all (in_scope sight) first)) body)
    statement-here sight (do_while line body test) =
        both _ _ (statements-here (in_loop over_none sight) body) (expression-here sight test)
    statement-here sight (loop_over line word body end_line end_word) =
        both _ _
        (both _ _
        (start-here sight (message_looped (messages_at at) word) line word)
        (statements-here (in_loop (opened (message_looped (messages_at at) word)) sight) body))
        (where-here _ _ end_line end_word)
    statement-here sight (return e) = expression-here sight e
    statement-here sight (break line) = where-here _ _ line (codes "break")
    statement-here sight (continue line) = where-here _ _ line (codes "continue")

    statements-here : (sight : Sight) (statements : Statements) → AllHere (statements_faults at sight statements)
    statements-here sight no_more = none
    statements-here sight (also statement statements) =
        both _ _ (statement-here sight statement) (statements-here (after sight statement) statements)

    arms-here : (sight : Sight) (arms : Arms) → AllHere (arms_faults at sight arms)
    arms-here sight no_arms = none
    arms-here sight (arm test body arms) =
        both _ _ (both _ _ (expression-here sight test) (statements-here (in_scope sight) body)) (arms-here sight arms)

-- ---- files of C functions

definitions-within :
    (i : ℕ) (units : List file.Unit)
    → AllByRecursion (λ d. d.file < i + length units) (each_from definitions_of i units)
definitions-within i [] = tt
definitions-within i (unit ∷ units) =
    all-append _ (definitions_of i unit) _ (of_file unit.functions)
    (all-weaker _ _ _ (λ d within. omega arith) (definitions-within (i + 1) units))
  where
    of_file : (defs : List Def) → AllByRecursion (λ d. d.file < i + length (unit ∷ units)) (map (definition i) defs)
    of_file [] = tt
    of_file (def ∷ defs) = (omega arith, of_file defs)

module _ (n : ℕ) where
  -- the fault stands in one of n files, or tells of a function that none of them has
  abbrev pub Placed : CheckFault → Type 0
  Placed fault = (fault.file < n) ⊎ (fault.kind ≡ MissingFunction)

  abbrev Within : Definition → Type 0
  Within d = d.file < n

  twice_where-placed : (b : Bool) (d : Definition) → Within d → AllByRecursion Placed (twice_where b d)
  twice_where-placed true d within = (inl within, tt)
  twice_where-placed false d within = tt

  twice-placed :
      (earlier : List (List ℕ)) (ds : List Definition)
      → AllByRecursion Within ds
      → AllByRecursion Placed (twice_faults earlier ds)
  twice-placed earlier [] all = tt
  twice-placed earlier (d ∷ ds) all =
      all-append Placed (twice_where (is_among d.name earlier) d) _
      (twice_where-placed (is_among d.name earlier) d all.0)
      (twice-placed (d.name ∷ earlier) ds all.1)

  missing-placed : (b : Bool) (function : Function) → AllByRecursion Placed (missing_where b function)
  missing-placed true function = (inr refl, tt)
  missing-placed false function = tt

  definition-placed : (at : Context) (d : Definition) → at.file < n → AllByRecursion Placed (definition_faults at d)
  definition-placed at d within =
      all-weaker (Here at) Placed _
      (λ fault here. let P : ℕ → Type 0 = λ k. k < n in inl (subst P (sym here) within))
      (both at (parameters_faults at at_entry d.parameters) _
      (parameters-here at at_entry d.parameters)
      (statements-here at (after_parameters at_entry d.parameters) d.body)).each

  body-placed :
      (b : Bool) (model : Model) (hs : List Definition) (d : Definition) (place : Place)
      → Within d
      → AllByRecursion Placed (cond b (definition_faults (context model hs d place) d) [])
  body-placed true model hs d place within = definition-placed (context model hs d place) d within
  body-placed false model hs d place within = tt

  bodies-placed :
      (b : Bool) (model : Model) (hs : List Definition) (d : Definition)
      → Within d
      → AllByRecursion Placed
      (cond b (definition_faults (helper_context model hs d) d) (flat_map (body_faults model hs d) (functions model)))
  bodies-placed true model hs d within = definition-placed (helper_context model hs d) d within
  bodies-placed false model hs d within =
      all-flat_map (λ place. Unit {0}) Placed (body_faults model hs d) (functions model)
      (λ place u. body-placed (is_run_by d place) model hs d place within)
      (all-true (λ place. Unit {0}) (functions model) (λ place. tt))

  with_parameters-placed : (b : Bool) (d : Definition) → Within d → AllByRecursion Placed (with_parameters_where b d)
  with_parameters-placed true d within = (inl within, tt)
  with_parameters-placed false d within = tt

  fault_at-placed :
      (kind : CheckKind) (word : List ℕ) (hs : List Definition) (k : ℕ)
      → AllByRecursion Within hs
      → AllByRecursion Placed (fault_at kind word (slice_get hs k))
  fault_at-placed kind word [] k all = tt
  fault_at-placed kind word (d ∷ hs) zero all = (inl all.0, tt)
  fault_at-placed kind word (d ∷ hs) (suc k) all = fault_at-placed kind word hs k all.1

  recursive-placed :
      (hs : List Definition) (cycle : List ℕ)
      → AllByRecursion Within hs
      → AllByRecursion Placed (recursive_at hs cycle)
  recursive-placed hs [] all = tt
  recursive-placed hs (h ∷ more) all = fault_at-placed Recursive (cycle_text hs (h ∷ more)) hs h all

  deep-placed :
      (hs : List Definition) (o : Option ℕ)
      → AllByRecursion Within hs
      → AllByRecursion Placed (deep_at hs o)
  deep-placed hs None all = tt
  deep-placed hs (Some h) all = fault_at-placed DeepCalls (name_in (slice_get hs h)) hs h all

  all-filter :
      (p : Definition → Bool) (ds : List Definition)
      → AllByRecursion Within ds
      → AllByRecursion Within (filter p ds)
  all-filter p [] all = tt
  all-filter p (d ∷ ds) all = by_test (p d) (all-filter p ds all.1)
    where
      by_test :
          (b : Bool)
          → AllByRecursion Within (filter p ds)
          → AllByRecursion Within (cond b (d ∷ filter p ds) (filter p ds))
      by_test true rest = (all.0, rest)
      by_test false rest = rest

pub faults-placed :
    (model : Model) (units : List file.Unit)
    → AllByRecursion (Placed (length units)) (check_faults model units)
faults-placed model units =
    all-append P (a ++ b ++ c ++ r ++ e) _
    (all-append P (a ++ b ++ c ++ r) e
    (all-append P (a ++ b ++ c) r
    (all-append P (a ++ b) c
    (all-append P a b (twice-placed n [] ds within)
    (all-flat_map (Within n) P (with_parameters_faults model) ds
    (λ d below. with_parameters-placed n _ d below) within))
    (all-flat_map (λ place. Unit {0}) P (missing_faults ds) (functions model)
    (λ place u. missing-placed n
    (not (is_idle place.function) && not (list_any (is_for place.function) ds)) place.function)
    (all-true (λ place. Unit {0}) (functions model) (λ place. tt))))
    (recursive-placed n hs (call_cycle (length hs) (is_called_by model hs)) helping))
    (deep-placed n hs (first_deep model hs) helping))
    (all-flat_map (Within n) P (bodies_faults model hs) ds
    (λ d below. bodies-placed n (is_helper model d) model hs d below) within)
  where
    n : ℕ
    n = length units

    P : CheckFault → Type 0
    P = Placed n

    ds : List Definition
    ds = definitions units

    hs : List Definition
    hs = helpers model units

    within : AllByRecursion (Within n) ds
    within = all-weaker _ _ ds (λ d below. omega arith) (definitions-within 0 units)

    helping : AllByRecursion (Within n) hs
    helping = all-filter n (is_helper model) ds within

    a : List CheckFault
    a = twice_faults [] ds

    b : List CheckFault
    b = flat_map (with_parameters_faults model) ds

    c : List CheckFault
    c = flat_map (missing_faults ds) (functions model)

    r : List CheckFault
    r = recursive_faults model hs

    e : List CheckFault
    e = deep_faults model hs
