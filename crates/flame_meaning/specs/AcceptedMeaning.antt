-- What holds where a function runs whose source has no check faults: no default of the meaning is met. [own]
use Rattle.std.specs.Prelude.{◌≡◌, ℕ, ◌==◌, ℤ, List, [], length, ◌||◌, Option, Some, None, Contains, is_some}
use Rattle.std.specs.Prelude.{slice_get, Ok, IsTrue}
use Rattle.std.specs.List.{list_any}
use Rattle.flame_spec.specs.declared.models.Model.{Model}
use Rattle.flame_spec.specs.declared.models.MessageType.{MessageType}
use Rattle.flame_spec.specs.declared.outcomes.Source.{Source}
use Rattle.flame_spec.specs.declared.trees.Unit as file
use Rattle.flame_spec.specs.CallFaults.{Deed, sets, sends, bears, calls, deed_of, call_faults}
use Rattle.flame_spec.specs.CheckFaults.{check_faults}
use Rattle.flame_spec.specs.Columns.{width}
use Rattle.flame_spec.specs.Definitions.{Definition, helpers, helper_named, body_of}
use Rattle.flame_spec.specs.ExpressionFaults.{expression_faults, is_found_array, member_read}
use Rattle.flame_spec.specs.Functions.{Place, functions}
use Rattle.flame_spec.specs.HelperFaults.{helper_context}
use Rattle.flame_spec.specs.LookUps.{memory_got, memory_named, message_read, message_looped}
use Rattle.flame_spec.specs.Scopes.{Context, over_none, Sight, at_entry, after_parameters, after_name, after, input_found}
use Rattle.flame_spec.specs.Scopes.{after_all}
use Rattle.flame_spec.specs.Scopes.{in_value_of, in_loop, memory_at, messages_at, given_at}
use Rattle.flame_spec.specs.Scopes.{in_scope as scoped}
use Rattle.flame_spec.specs.StatementFaults.{stored_faults, assignment_faults, item_faults, parameters_faults, opened}
use Rattle.flame_spec.specs.StatementFaults.{start_faults, statement_faults, statements_faults}
use Rattle.flame_spec.specs.Trees.{Expression, number, name, field, get, at, field_at, signed, chain, all_of, any_of}
use Rattle.flame_spec.specs.Trees.{Expressions, no_parts, part, Links, no_links, link}
use Rattle.flame_spec.specs.Trees.{Stored, plain, called, Indexed, Declared, Assigned, Statement, Statements}
use Rattle.flame_meaning.specs.Scenes.{Scene, Progress, Current, Calls, local_value, array_named}
use Rattle.flame_meaning.specs.Expressions.{values_of}
use Rattle.flame_meaning.specs.Ends.{End, went_on, broke, continued, returned, faulted, as_scope}
use Rattle.flame_meaning.specs.Statements.{with_local, fitted, loop_currents, inside, meaning, meanings}
use Rattle.flame_meaning.specs.HelperCalls.{helper_scene, entered}
use Rattle.flame_meaning.specs.Outcomes.{start, scene_of}
use Rattle.flame_meaning.specs.Agreement.{Agrees}

-- ---- what runs is checked

-- where the function of this place is checked, in the file of this number
abbrev pub place_in : Model → List file.Unit → Place → ℕ → Context
place_in model units place source_file =
    record { model = model; helpers = helpers model units; runs = Some place; file = source_file }

-- the body of each function has no check faults where it is checked
abbrev pub FunctionsAreChecked : Type 0
FunctionsAreChecked =
    (model : Model) (units : List file.Unit) (place : Place) (function : ℕ)
    → check_faults model units ≡ []
    → slice_get (functions model) function ≡ Some place
    → (in_file : ℕ)
    × (statements_faults (place_in model units place in_file) at_entry (body_of units place.function) ≡ [])

-- the parameters and the body of each helper have none
abbrev pub HelpersAreChecked : Type 0
HelpersAreChecked =
    (model : Model) (units : List file.Unit) (d : Definition) (helper : ℕ)
    → check_faults model units ≡ []
    → slice_get (helpers model units) helper ≡ Some d
    → (parameters_faults (helper_context model (helpers model units) d) at_entry d.parameters ≡ [])
    × (statements_faults
    (helper_context model (helpers model units) d)
    (after_parameters at_entry d.parameters)
    d.body
    ≡ [])

-- ---- a function and a helper begin in agreement

-- a function begins in agreement with the place where it is checked
abbrev pub FunctionsBeginInAgreement : Type 0
FunctionsBeginInAgreement =
    (source : Source) (place : Place) (in_file : ℕ) (memory : List ℤ) (readings : List (List (List ℤ)))
    (constants : List ℤ) (iteration : ℤ) (fuel : ℕ)
    → Agrees
    (place_in source.model source.units place in_file)
    at_entry
    (scene_of source place readings constants iteration)
    (start memory fuel)

-- a helper whose parameters have no check faults begins in agreement with the place where it is checked
abbrev pub HelpersBeginInAgreement : Type 0
HelpersBeginInAgreement =
    (model : Model) (hs : List Definition) (d : Definition) (values constants : List ℤ) (iteration : ℤ) (calls : Calls)
    (fuel : ℕ)
    → parameters_faults (helper_context model hs d) at_entry d.parameters ≡ []
    → Agrees
    (helper_context model hs d)
    (after_parameters at_entry d.parameters)
    (helper_scene model hs constants iteration calls)
    (entered d.parameters values fuel)

-- ---- and stay in agreement

-- where it went on, the progress agrees with what is seen there
abbrev pub WentOnAgrees : Context → Sight → Scene → End → Type 0
WentOnAgrees place sight scene (went_on t) = Agrees place sight scene t
WentOnAgrees place sight scene _ = Unit {0}

-- however it ended, the progress agrees with what is seen there
abbrev pub EndAgrees : Context → Sight → Scene → End → Type 0
EndAgrees place sight scene (went_on t) = Agrees place sight scene t
EndAgrees place sight scene (broke t) = Agrees place sight scene t
EndAgrees place sight scene (continued t) = Agrees place sight scene t
EndAgrees place sight scene (returned v t) = Agrees place sight scene t
EndAgrees place sight scene (faulted fault) = Unit {0}

-- after a statement without check faults the progress agrees with what is seen after it
abbrev pub StatementsAgree : Type 0
StatementsAgree =
    (place : Context) (sight : Sight) (scene : Scene) (s : Progress) (statement : Statement)
    → Agrees place sight scene s
    → statement_faults place sight statement ≡ []
    → WentOnAgrees place (after sight statement) scene (meaning statement scene s)

-- after statements without check faults it agrees with what is seen after them
abbrev pub SequencesAgree : Type 0
SequencesAgree =
    (place : Context) (sight : Sight) (scene : Scene) (s : Progress) (statements : Statements)
    → Agrees place sight scene s
    → statements_faults place sight statements ≡ []
    → WentOnAgrees place (after_all sight statements) scene (meanings statements scene s)

-- after a scope, however it ended, it agrees with what was seen before it
abbrev pub ScopesAgree : Type 0
ScopesAgree =
    (place : Context) (sight : Sight) (scene : Scene) (s : Progress) (body : Statements)
    → Agrees place sight scene s
    → EndAgrees place sight scene (as_scope (meanings body scene) s)

-- once an item without check faults is declared, it agrees with what the next item sees
abbrev pub ItemsAgree : Type 0
ItemsAgree =
    (place : Context) (sight : Sight) (scene : Scene) (s : Progress) (item : Declared) (v : ℤ)
    → Agrees place sight scene s
    → item_faults place sight item ≡ []
    → Agrees place (after_name sight item.name) scene (with_local item.name v s)

-- it agrees with what is seen at the beginning of a scope and of the body of a loop over no message, and in an item's
-- value
abbrev pub PlacesInsideAgree : Type 0
PlacesInsideAgree =
    (place : Context) (sight : Sight) (scene : Scene) (s : Progress) (name : List ℕ)
    → Agrees place sight scene s
    → Agrees place (scoped sight) scene s
    × Agrees place (in_loop over_none sight) scene s
    × Agrees place (in_value_of name sight) scene s

-- it agrees with what is seen at the beginning of the body of a loop over a message, at each row
abbrev pub TurnsAgree : Type 0
TurnsAgree =
    (place : Context) (sight : Sight) (scene : Scene) (s : Progress) (word : List ℕ) (found : ℕ × MessageType)
    (current : Current)
    → Agrees place sight scene s
    → message_looped (messages_at place) word ≡ Some found
    → Contains (loop_currents word scene) current
    → Agrees place (in_loop (opened (Some found)) sight) (inside current scene) s

-- ---- what is read is found

-- a local has the name, or the model gives a meaning to it
abbrev pub IsNamed : List ℕ → Scene → Progress → Type 0
IsNamed word scene s = IsTrue (is_some (local_value word s.locals) || is_some (given_at scene.context word))

-- the name is an array of the memory
abbrev pub IsArrayNamed : List ℕ → Scene → Progress → Type 0
IsArrayNamed word scene s = IsTrue (is_found_array (array_named word scene s))

-- one of these loops is over the message of this number
abbrev pub IsOverOne : ℕ → List Current → Type 0
IsOverOne message open_loops = IsTrue (list_any (λ current. current.message == message) open_loops)

-- `word->variable` reads a variable of a message over which a loop is open
pub record IsRowRead (word variable : List ℕ) (scene : Scene) : Type 0 where
  pub message : ℕ × MessageType
  pub found : message_read (messages_at scene.context) word ≡ Some message
  pub stands : IsOverOne message.0 scene.open_loops
  pub member : IsTrue (is_some (member_read scene.context word variable))

abbrev mutual
  -- each name and each field that the expression reads is found
  pub Finds : Expression → Scene → Progress → Type 0
  Finds (number n) scene s = Unit {0}
  Finds (name line word) scene s = IsNamed word scene s
  Finds (field line word variable) scene s = IsRowRead word variable scene
  Finds (get line word) scene s = IsTrue (is_some (memory_got (memory_at scene.context) word))
  Finds (at line word index_line index) scene s = IsArrayNamed word scene s × Finds index scene s
  Finds (field_at line word variable index_line index) scene s =
      IsRowRead word variable scene
      × IsTrue (is_found_array (member_read scene.context word variable))
      × Finds index scene s
  Finds (signed signs e) scene s = Finds e scene s
  Finds (chain e more) scene s = Finds e scene s × LinksFind more scene s
  Finds (all_of parts) scene s = PartsFind parts scene s
  Finds (any_of parts) scene s = PartsFind parts scene s

  -- each of these expressions
  pub PartsFind : Expressions → Scene → Progress → Type 0
  PartsFind no_parts scene s = Unit {0}
  PartsFind (part e parts) scene s = Finds e scene s × PartsFind parts scene s

  -- each operand
  pub LinksFind : Links → Scene → Progress → Type 0
  LinksFind no_links scene s = Unit {0}
  LinksFind (link op line e links) scene s = Finds e scene s × LinksFind links scene s

-- an expression without check faults finds what it reads
abbrev pub ExpressionsFind : Type 0
ExpressionsFind =
    (place : Context) (sight : Sight) (scene : Scene) (s : Progress) (e : Expression)
    → Agrees place sight scene s
    → expression_faults place sight e ≡ []
    → Finds e scene s

-- ---- calls

-- how many numbers it takes: one; as many as the row of the message or of the agent is wide; or one for each parameter
abbrev pub room : Deed → ℕ
room (sets column variable) = 1
room (sends n message) = width message.variables
room (bears n type) = width type.memory
room (calls n helper) = length helper.parameters

-- the arguments find what they read, and stand for as many numbers as the deed takes
pub record Fits (deed : Deed) (arguments : Expressions) (scene : Scene) (s : Progress) : Type 0 where
  pub find : PartsFind arguments scene s
  pub fit : (values : List ℤ) → values_of arguments scene s ≡ Ok values → length values ≡ room deed

-- a call statement without check faults does something, and its arguments fit
abbrev pub CallsDo : Type 0
CallsDo =
    (place : Context) (sight : Sight) (scene : Scene) (s : Progress) (line : ℕ) (word : List ℕ)
    (arguments : Expressions)
    → Agrees place sight scene s
    → call_faults place sight line word arguments ≡ []
    → (deed : Deed) × (deed_of scene.context word ≡ Some deed) × Fits deed arguments scene s

-- as many values as a row is wide stand in it as they are: none is cut off, and no 0 is added
abbrev pub FittedIsWhole : Type 0
FittedIsWhole = (n : ℕ) (values : List ℤ) → length values ≡ n → fitted n values ≡ values

-- ---- what is stored

-- what is stored finds what it reads; a word that is called names a helper, which gets a value for each parameter
abbrev pub StoredFinds : Stored → Scene → Progress → Type 0
StoredFinds (plain e) scene s = Finds e scene s
StoredFinds (called line word arguments) scene s =
    (found : ℕ × Definition)
    × (helper_named scene.context.helpers word ≡ Some found)
    × Fits (calls found.0 found.1) arguments scene s

-- what is stored without check faults finds what it reads
abbrev pub StoredAlwaysFinds : Type 0
StoredAlwaysFinds =
    (place : Context) (sight : Sight) (scene : Scene) (s : Progress) (stored : Stored)
    → Agrees place sight scene s
    → stored_faults place sight stored ≡ []
    → StoredFinds stored scene s

-- what is assigned to without an index is a local or a memory variable; with an index it is an array, and the index
-- finds what it reads
abbrev pub PlaceFinds : List ℕ → Option Indexed → Scene → Progress → Type 0
PlaceFinds word None scene s =
    IsTrue (is_some (local_value word s.locals) || is_some (memory_named (memory_at scene.context) word))
PlaceFinds word (Some subscript) scene s = IsArrayNamed word scene s × Finds subscript.index scene s

-- an assignment without check faults finds what it assigns to and what it stores
abbrev pub AssignmentsFind : Type 0
AssignmentsFind =
    (place : Context) (sight : Sight) (scene : Scene) (s : Progress) (a : Assigned)
    → Agrees place sight scene s
    → assignment_faults place sight a ≡ []
    → IsNamed a.name scene s × PlaceFinds a.name a.subscript scene s × StoredFinds a.value scene s

-- ---- loops over messages

-- a loop over a message without check faults at its START has an input
abbrev pub LoopsHaveInputs : Type 0
LoopsHaveInputs =
    (place : Context) (sight : Sight) (scene : Scene) (s : Progress) (line : ℕ) (word : List ℕ)
    → Agrees place sight scene s
    → start_faults place sight (message_looped (messages_at place) word) line word ≡ []
    → IsTrue (is_some (input_found scene.context.runs (message_looped (messages_at scene.context) word)))
