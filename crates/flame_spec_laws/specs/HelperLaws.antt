-- What holds of helpers in function files without check faults. [own]
use Rattle.std.specs.Prelude.{◌≡◌, ℕ, ◌<◌, ◌≤◌, Bool, true, List, [], length, codes, Contains, Some, None, IsTrue}
use Rattle.flame_spec.specs.declared.models.Model.{Model}
use Rattle.flame_spec.specs.declared.trees.Unit as file
use Rattle.flame_spec.specs.ModelOrder.{first_left}
use Rattle.flame_ops.specs.Ascii.{capitals}
use Rattle.flame_spec.specs.Trees.{Expression, name, get, field, field_at, Expressions, Assigned, call, Statements}
use Rattle.flame_spec.specs.Trees.{loop_over}
use Rattle.flame_spec.specs.Trees.{at as element}
use Rattle.flame_spec.specs.Definitions.{helpers}
use Rattle.flame_spec.specs.Scopes.{Context, Sight, is_local}
use Rattle.flame_spec.specs.HelperFaults.{is_called_by, call_cycle, call_height}
use Rattle.flame_spec.specs.CheckFaults.{check_faults}
use Rattle.flame_spec_laws.specs.OrderLaws.{IsChain, IsRound, IsCycle, AreFunctions}
use Rattle.flame_spec_laws.specs.BodyParts.{Part, value, assigning, doing}
use Rattle.flame_spec_laws.specs.CheckLaws.{Everywhere, IsHelperCall}

-- what holds wherever this part stands in a helper, of a model and function files without check faults
abbrev pub InHelpers : Part → (Context → Sight → Type 0) → Type 0
InHelpers inner Holds = Everywhere inner (λ at sight. at.runs ≡ None → Holds at sight)

-- this part stands in no helper
abbrev pub InNoHelper : Part → Type 0
InNoHelper inner = InHelpers inner (λ at sight. ⊥)

-- ---- what a helper does not do

-- the word is a local there, a constant in capitals, or `iteration_loop`
pub data MeansAside (at : Context) (sight : Sight) (word : List ℕ) : Type 0 where
  aside_local : IsTrue (is_local sight word) → MeansAside at sight word
  aside_constant :
      (constant : List ℕ)
      → Contains at.model.constants constant
      → word ≡ capitals constant
      → MeansAside at sight word
  aside_iteration : word ≡ codes "iteration_loop" → MeansAside at sight word

-- a helper reads locals, constants and `iteration_loop`, and no memory
abbrev pub HelpersReadNoMemory : Type 0
HelpersReadNoMemory =
    (line : ℕ) (word : List ℕ)
    → InHelpers (value (name line word)) (λ at sight. MeansAside at sight word)

-- a helper reads no element of an array
abbrev pub HelpersReadNoElement : Type 0
HelpersReadNoElement =
    (line : ℕ) (word : List ℕ) (index_line : ℕ) (index : Expression)
    → InNoHelper (value (element line word index_line index))

-- a helper has no form `get_x()`
abbrev pub HelpersGetNothing : Type 0
HelpersGetNothing = (line : ℕ) (word : List ℕ) → InNoHelper (value (get line word))

-- a helper reads no message's row
abbrev pub HelpersReadNoRow : Type 0
HelpersReadNoRow = (line : ℕ) (word variable : List ℕ) → InNoHelper (value (field line word variable))

-- a helper reads no element of an array of a message's row
abbrev pub HelpersReadNoRowElement : Type 0
HelpersReadNoRowElement =
    (line : ℕ) (word variable : List ℕ) (index_line : ℕ) (index : Expression)
    → InNoHelper (value (field_at line word variable index_line index))

-- a helper assigns to locals, without an index
abbrev pub HelpersAssignLocals : Type 0
HelpersAssignLocals =
    (a : Assigned) → InHelpers (assigning a) (λ at sight. IsTrue (is_local sight a.name) × (a.subscript ≡ None))

-- a helper's call statements call helpers: they set, send and bear nothing
abbrev pub HelpersOnlyCallHelpers : Type 0
HelpersOnlyCallHelpers =
    (line : ℕ) (word : List ℕ) (arguments : Expressions)
    → InHelpers (doing (call line word arguments)) (λ at sight. IsHelperCall at word arguments)

-- a helper has no message loop
abbrev pub HelpersOpenNoLoop : Type 0
HelpersOpenNoLoop =
    (line : ℕ) (word : List ℕ) (body : Statements) (end_line : ℕ) (end_word : List ℕ)
    → InNoHelper (doing (loop_over line word body end_line end_word))

-- ---- who calls whom

-- the helper of number g has a call of that of number h, of the helpers of these files
abbrev pub calls_in : Model → List file.Unit → ℕ → ℕ → Bool
calls_in model units g h = is_called_by model (helpers model units) h g

-- where a helper is left over there is a cycle from caller to called helper, each once, begun with the first one in
-- source order
abbrev pub CallsComeRound : Type 0
CallsComeRound =
    (n : ℕ) (before : ℕ → ℕ → Bool) (g : ℕ)
    → first_left n before ≡ Some g
    → IsCycle n (λ caller called. before called caller) (call_cycle n before)

-- helpers call each other in no round
abbrev pub HelpersCallInNoRound : Type 0
HelpersCallInNoRound =
    (model : Model) (units : List file.Unit) (round : List ℕ)
    → check_faults model units ≡ []
    → AreFunctions (length (helpers model units)) round
    → IsRound (is_called_by model (helpers model units)) round
    → ⊥

-- a helper is higher than each that it calls, and none is higher than 64
abbrev pub HelpersHaveHeights : Type 0
HelpersHaveHeights =
    (model : Model) (units : List file.Unit) (g : ℕ)
    → check_faults model units ≡ []
    → g < length (helpers model units)
    → (call_height model (helpers model units) g ≤ 64)
    × ((h : ℕ)
    → h < length (helpers model units)
    → calls_in model units g h ≡ true
    → call_height model (helpers model units) h < call_height model (helpers model units) g)

-- at most 64 helpers are at work at once: no more of them each call the next one
abbrev pub HelpersCallAtMost64Deep : Type 0
HelpersCallAtMost64Deep =
    (model : Model) (units : List file.Unit) (chain : List ℕ)
    → check_faults model units ≡ []
    → AreFunctions (length (helpers model units)) chain
    → IsChain (calls_in model units) chain
    → length chain ≤ 64
