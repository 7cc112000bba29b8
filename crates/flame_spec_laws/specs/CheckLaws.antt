-- What holds of check faults, and of function files without them. [own]
use Rattle.std.specs.Prelude.{◌≡◌, ◌≢◌, ℕ, ◌<◌, List, [], ◌∷◌, ◌++◌, length, codes, count_by, Contains, ◌⊎◌, Some, None}
use Rattle.std.specs.Prelude.{IsTrue, IsFalse}
use Rattle.flame_spec.specs.declared.models.Model.{Model}
use Rattle.flame_spec.specs.declared.models.Variable.{Variable}
use Rattle.flame_spec.specs.declared.models.MessageType.{MessageType}
use Rattle.flame_spec.specs.declared.models.AgentType.{AgentType}
use Rattle.flame_spec.specs.declared.models.Input.{Input}
use Rattle.flame_spec.specs.declared.trees.Parameter.{Parameter}
use Rattle.flame_spec.specs.declared.trees.Unit as file
use Rattle.flame_spec.specs.declared.faults.CheckFault.{CheckFault}
use Rattle.flame_spec.specs.declared.faults.CheckKind.TheVariants.{MissingFunction}
use Rattle.flame_ops.specs.Ascii.{capitals}
use Rattle.flame_spec.specs.Functions.{Place, functions}
use Rattle.flame_spec.specs.Trees.{Expression, name, get, field, field_at, Expressions, Indexed, Declared, Assigned}
use Rattle.flame_spec.specs.Trees.{called}
use Rattle.flame_spec.specs.Trees.{call, Statements, loop_over, break, continue}
use Rattle.flame_spec.specs.Trees.{at as element}
use Rattle.flame_spec.specs.Definitions.{Definition, definitions, helpers, is_for, body_of}
use Rattle.flame_spec.specs.LookUps.{constant, iteration, message_looped}
use Rattle.flame_spec.specs.Scopes.{Context, memory_at, messages_at, given_at, over_message, Sight, at_entry, in_loop}
use Rattle.flame_spec.specs.Scopes.{is_local}
use Rattle.flame_spec.specs.ExpressionFaults.{names_array}
use Rattle.flame_spec.specs.CallFaults.{count, length_given}
use Rattle.flame_spec.specs.StatementFaults.{opened}
use Rattle.flame_spec.specs.HelperFaults.{helper_context}
use Rattle.flame_spec.specs.CheckFaults.{context, check_faults}
use Rattle.flame_spec_laws.specs.BodyParts.{Part, value, whole, storing, assigning, declaring, doing, sequence, defining}
use Rattle.flame_spec_laws.specs.BodyParts.{StandsIn}

-- ---- faults

-- each fault stands in one of the files, or tells of a function that none of them has
abbrev pub FaultsStandInFiles : Type 0
FaultsStandInFiles =
    (model : Model) (units : List file.Unit) (fault : CheckFault)
    → Contains (check_faults model units) fault
    → (fault.file < length units) ⊎ (fault.kind ≡ MissingFunction)

-- ---- C functions

-- each function of the model other than `idle` has exactly one C function
abbrev pub FunctionsAreDefinedOnce : Type 0
FunctionsAreDefinedOnce =
    (model : Model) (units : List file.Unit) (place : Place)
    → check_faults model units ≡ []
    → Contains (functions model) place
    → place.function.name ≢ codes "idle"
    → count_by (is_for place.function) (definitions units) ≡ 1

-- the C function has the name of the function of the model, which is not `idle`
pub record IsBodyOf (model : Model) (units : List file.Unit) (place : Place) (d : Definition) : Type 0 where
  pub defined : Contains (definitions units) d
  pub listed : Contains (functions model) place
  pub named : d.name ≡ place.function.name
  pub has_body : place.function.name ≢ codes "idle"

-- the body of such a C function is the body of the function of the model
abbrev pub FunctionsHaveOneBody : Type 0
FunctionsHaveOneBody =
    (model : Model) (units : List file.Unit) (place : Place) (d : Definition)
    → check_faults model units ≡ []
    → IsBodyOf model units place d
    → body_of units place.function ≡ d.body

-- such a C function has no parameters
abbrev pub FunctionsHaveNoParameters : Type 0
FunctionsHaveNoParameters =
    (model : Model) (units : List file.Unit) (place : Place) (d : Definition)
    → check_faults model units ≡ []
    → IsBodyOf model units place d
    → d.parameters ≡ []

-- ---- parts

-- the C function is checked there: for a function of the model, or as a helper
pub data IsChecked (model : Model) (units : List file.Unit) (d : Definition) (at : Context) : Type 0 where
  for_function :
      (place : Place)
      → IsBodyOf model units place d
      → at ≡ context model (helpers model units) d place
      → IsChecked model units d at
  for_helper :
      Contains (helpers model units) d
      → at ≡ helper_context model (helpers model units) d
      → IsChecked model units d at

-- what holds wherever this part stands in a C function that is checked, of a model and function files without check
-- faults
abbrev pub Everywhere : Part → (Context → Sight → Type 0) → Type 0
Everywhere inner Holds =
    (model : Model) (units : List file.Unit) (d : Definition) (at : Context) (sight : Sight)
    → check_faults model units ≡ []
    → IsChecked model units d at
    → StandsIn at inner sight (defining d.parameters d.body) at_entry
    → Holds at sight

-- ---- names

-- the word is a local there, a memory variable or a constant in capitals, or `iteration_loop`
pub data Means (at : Context) (sight : Sight) (word : List ℕ) : Type 0 where
  names_local : IsTrue (is_local sight word) → Means at sight word
  names_memory :
      (variable : Variable)
      → Contains (memory_at at) variable
      → word ≡ capitals variable.name
      → Means at sight word
  names_constant :
      (constant : List ℕ)
      → Contains at.model.constants constant
      → word ≡ capitals constant
      → Means at sight word
  names_iteration : word ≡ codes "iteration_loop" → Means at sight word

-- the word means something there, and it is not the name of the item in whose value it stands
pub record IsReadable (at : Context) (sight : Sight) (word : List ℕ) : Type 0 where
  pub means : Means at sight word
  pub other : sight.own ≢ Some word

-- each name that is read without an index may be read there, and is no array
abbrev pub NamesReadAreVisible : Type 0
NamesReadAreVisible =
    (line : ℕ) (word : List ℕ)
    → Everywhere (value (name line word)) (λ at sight. IsReadable at sight word × IsFalse (names_array at word))

-- each name that is read with an index may be read there, and is an array
abbrev pub NamesIndexedAreArrays : Type 0
NamesIndexedAreArrays =
    (line : ℕ) (word : List ℕ) (index_line : ℕ) (index : Expression)
    → Everywhere
    (value (element line word index_line index))
    (λ at sight. IsReadable at sight word × IsTrue (names_array at word))

-- the word is a memory variable in capitals
abbrev pub IsMemory : Context → List ℕ → Type 0
IsMemory at word = (variable : Variable) × Contains (memory_at at) variable × (word ≡ capitals variable.name)

-- the word is a local there or a memory variable in capitals, and stands for no constant and not for `iteration_loop`
pub record IsAssignable (at : Context) (sight : Sight) (word : List ℕ) : Type 0 where
  pub stands : IsTrue (is_local sight word) ⊎ IsMemory at word
  pub no_constant : (number : ℕ) → given_at at word ≢ Some (constant number)
  pub no_iteration : given_at at word ≢ Some iteration

-- each name that is assigned may be assigned to; it is an array exactly where it has an index
abbrev pub NamesAssignedAreAssignable : Type 0
NamesAssignedAreAssignable =
    (a : Assigned)
    → Everywhere
    (assigning a)
    (λ at sight.
    IsAssignable at sight a.name
    × (a.subscript ≡ None → IsFalse (names_array at a.name))
    × ((subscript : Indexed) → a.subscript ≡ Some subscript → IsTrue (names_array at a.name)))

-- the word is new in its scope, and the model gives it no meaning
pub record IsNew (at : Context) (sight : Sight) (word : List ℕ) : Type 0 where
  pub scope : ¬ Contains sight.scope word
  pub given : given_at at word ≡ None

-- each name that is declared is new
abbrev pub NamesDeclaredAreNew : Type 0
NamesDeclaredAreNew =
    (item : Declared) (items : List Declared)
    → Everywhere (declaring (item ∷ items)) (λ at sight. IsNew at sight item.name)

-- each parameter is new
abbrev pub ParametersAreNew : Type 0
ParametersAreNew =
    (parameter : Parameter) (parameters : List Parameter) (body : Statements)
    → Everywhere (defining (parameter ∷ parameters) body) (λ at sight. IsNew at sight parameter.name)

-- ---- calls

-- the word is `get_` and a memory variable that is no array
abbrev pub IsGetter : Context → List ℕ → Type 0
IsGetter at word =
    (variable : Variable)
    × Contains (memory_at at) variable
    × (word ≡ codes "get_" ++ variable.name)
    × (variable.length ≡ None)

-- each form `word()` gets a memory variable
abbrev pub GettersGet : Type 0
GettersGet = (line : ℕ) (word : List ℕ) → Everywhere (value (get line word)) (λ at sight. IsGetter at word)

-- the word is the name of a helper, and there is an argument for each of its parameters
pub record IsHelperCall (at : Context) (word : List ℕ) (arguments : Expressions) : Type 0 where
  pub helper : Definition
  pub known : Contains at.helpers helper
  pub named : word ≡ helper.name
  pub counted : count arguments ≡ length helper.parameters

-- each call as a value names a helper
abbrev pub CalledAreHelpers : Type 0
CalledAreHelpers =
    (line : ℕ) (word : List ℕ) (arguments : Expressions)
    → Everywhere (storing (called line word arguments)) (λ at sight. IsHelperCall at word arguments)

-- the call stores one value in a memory variable that is no array, sends an output with an argument for each of its
-- variables, bears an agent with an argument for each of its variables, or calls a helper
pub data IsCall (at : Context) (word : List ℕ) (arguments : Expressions) : Type 0 where
  stores_value :
      (variable : Variable)
      → Contains (memory_at at) variable
      → word ≡ codes "set_" ++ variable.name
      → variable.length ≡ None
      → count arguments ≡ 1
      → IsCall at word arguments
  sends_output :
      (place : Place) (message : MessageType)
      → at.runs ≡ Some place
      → Contains at.model.messages message
      → word ≡ codes "add_" ++ (message.name ++ codes "_message")
      → count arguments ≡ length message.variables
      → Contains place.function.outputs message.name
      → IsCall at word arguments
  bears_agent :
      (place : Place) (type : AgentType)
      → at.runs ≡ Some place
      → Contains at.model.agents type
      → word ≡ codes "add_" ++ (type.name ++ codes "_agent")
      → count arguments ≡ length type.memory
      → IsCall at word arguments
  calls_helper : IsHelperCall at word arguments → IsCall at word arguments

-- each call statement is one of the four forms
abbrev pub CallsAreForms : Type 0
CallsAreForms =
    (line : ℕ) (word : List ℕ) (arguments : Expressions)
    → Everywhere (doing (call line word arguments)) (λ at sight. IsCall at word arguments)

-- ---- loops

-- the word is the name of an input in capitals, no loop over it is open, and FINISH has the same word
pub record IsLoop (at : Context) (sight : Sight) (word end_word : List ℕ) (message : MessageType) : Type 0 where
  pub known : Contains (messages_at at) message
  pub named : word ≡ capitals message.name
  pub place : Place
  pub runs : at.runs ≡ Some place
  pub input : (input : Input) × Contains place.function.inputs input × (input.message ≡ message.name)
  pub first : ¬ Contains sight.loops (over_message message.name)
  pub ended : end_word ≡ word

-- each message loop is over an input over which no loop is open
abbrev pub LoopsAreOverInputs : Type 0
LoopsAreOverInputs =
    (line : ℕ) (word : List ℕ) (body : Statements) (end_line : ℕ) (end_word : List ℕ)
    → Everywhere
    (doing (loop_over line word body end_line end_word))
    (λ at sight. (message : MessageType) × IsLoop at sight word end_word message)

-- `word->variable` reads this variable of a message over which a loop is open
pub record IsField (at : Context) (sight : Sight) (word variable : List ℕ) (read : Variable) : Type 0 where
  pub message : MessageType
  pub known : Contains (messages_at at) message
  pub named : word ≡ message.name ++ codes "_message"
  pub has : Contains message.variables read
  pub is : variable ≡ read.name
  pub within : Contains sight.loops (over_message message.name)

-- each field that is read without an index is read in a loop over its message, and is no array
abbrev pub FieldsStandInLoops : Type 0
FieldsStandInLoops =
    (line : ℕ) (word variable : List ℕ)
    → Everywhere
    (value (field line word variable))
    (λ at sight. (read : Variable) × IsField at sight word variable read × (read.length ≡ None))

-- each field that is read with an index is read in a loop over its message, and is an array
abbrev pub FieldsIndexedAreArrays : Type 0
FieldsIndexedAreArrays =
    (line : ℕ) (word variable : List ℕ) (index_line : ℕ) (index : Expression)
    → Everywhere
    (value (field_at line word variable index_line index))
    (λ at sight. (read : Variable) × IsField at sight word variable read × (read.length ≢ None))

-- the argument is an array of this length: one of the memory in capitals, or one of the row of an open message loop
pub data IsArray (at : Context) (sight : Sight) (size : ℕ) (e : Expression) : Type 0 where
  of_memory :
      (line : ℕ) (word : List ℕ)
      → e ≡ name line word
      → IsReadable at sight word
      → length_given (given_at at word) ≡ Some size
      → IsArray at sight size e
  of_row :
      (line : ℕ) (word variable : List ℕ) (read : Variable)
      → e ≡ field line word variable
      → IsField at sight word variable read
      → read.length ≡ Some size
      → IsArray at sight size e

-- each argument for an array is an array of its length
abbrev pub ArgumentsAreArrays : Type 0
ArgumentsAreArrays =
    (line : ℕ) (word : List ℕ) (size : ℕ) (e : Expression)
    → Everywhere (whole line word size e) (λ at sight. IsArray at sight size e)

-- each `break` stands in a loop
abbrev pub BreaksStandInLoops : Type 0
BreaksStandInLoops = (line : ℕ) → Everywhere (doing (break line)) (λ at sight. sight.loops ≢ [])

-- each `continue` stands in a loop
abbrev pub ContinuesStandInLoops : Type 0
ContinuesStandInLoops = (line : ℕ) → Everywhere (doing (continue line)) (λ at sight. sight.loops ≢ [])

-- no message loop stands in the body of another over the same message
abbrev pub NoLoopNestsInItself : Type 0
NoLoopNestsInItself =
    (line : ℕ) (word : List ℕ) (body : Statements) (end_line : ℕ) (end_word : List ℕ)
    → (inner_line : ℕ) (inner_word : List ℕ) (inner_body : Statements) (inner_end : ℕ) (inner_end_word : List ℕ)
    → Everywhere
    (doing (loop_over line word body end_line end_word))
    (λ at sight.
    (there : Sight)
    → StandsIn at (doing (loop_over inner_line inner_word inner_body inner_end inner_end_word)) there
    (sequence body) (in_loop (opened (message_looped (messages_at at) word)) sight)
    → inner_word ≢ word)
