-- The promise: what was read holds, passes and sorts exactly as what is written does.
use Rattle.std.specs.Prelude.{◌≡◌, ℤ, pos, List, [], Bool, Option, Some, None}
use Rattle.std.specs.List.{AllZip}
use Rattle.flame_spec.specs.declared.conditions.Condition.{Condition}
use Rattle.flame_spec.specs.declared.models.Model.{Model}
use Rattle.flame_spec.specs.declared.models.TimeUnit.{TimeUnit}
use Rattle.flame_spec.specs.declared.models.AgentType.{AgentType}
use Rattle.flame_spec.specs.declared.models.MessageType.{MessageType}
use Rattle.flame_spec.specs.declared.models.Sort.{Sort}
use Rattle.flame_spec.specs.Conditions.{agent_scope, input_scope, condition_holds, filter_passes}
use Rattle.flame_spec.specs.Functions.{functions}
use Rattle.flame_spec.specs.Views.{Key, key_of}
use Rattle.flame_cond.specs.declared.forms.Test.{Test}
use Rattle.flame_cond.specs.declared.keys.SortBy.{SortBy}
use Rattle.flame_cond.specs.TestForms.{form_of, test_of}
use Rattle.flame_cond.specs.Tests.{moment, answer}

-- whether the condition that was read holds of a memory in an iteration [FLAME User Manual]
abbrev pub holds : Test → List ℤ → ℤ → Bool
holds test memory iteration = answer test (moment memory [] iteration)

-- whether a row passes the filter that was read, with a memory [XMML]
abbrev pub passes : Test → List ℤ → List ℤ → Bool
passes test memory row = answer test (moment memory row (pos 0))

-- the key that was read: its column and its direction [libmboard]
abbrev pub key_by : SortBy → Key
key_by by = record { column = by.variable; descending = by.descending }

-- what was read is the condition of a function as it is written [own]
abbrev pub IsWrittenCondition : Test → Condition → AgentType → List TimeUnit → Type 0
IsWrittenCondition test condition agent units = form_of test ≡ test_of (agent_scope agent units) condition

-- what was read is the filter of an input as it is written [own]
abbrev pub IsWrittenFilter : Test → Condition → AgentType → MessageType → Type 0
IsWrittenFilter test condition agent message = form_of test ≡ test_of (input_scope agent message) condition

-- what was read says what is written, of every memory in every iteration [own]
abbrev pub SaysCondition : Test → Condition → AgentType → List TimeUnit → Type 0
SaysCondition test condition agent units =
    (memory : List ℤ) (iteration : ℤ)
    → holds test memory iteration ≡ condition_holds agent units condition memory iteration

-- what was read says what is written, of every memory and every row [own]
abbrev pub SaysFilter : Test → Condition → AgentType → MessageType → Type 0
SaysFilter test condition agent message =
    (memory row : List ℤ) → passes test memory row ≡ filter_passes agent message condition memory row

-- what was read is the key of the sort that is written [own]
abbrev pub SaysKey : SortBy → Sort → MessageType → Type 0
SaysKey by sort message = key_by by ≡ key_of message sort

-- ---- what may be missing

-- a condition was read from what is written, or there is neither [own]
abbrev pub IsConditionOf : Option Test → Option Condition → AgentType → List TimeUnit → Type 0
IsConditionOf None None agent units = Unit {0}
IsConditionOf (Some test) (Some condition) agent units = SaysCondition test condition agent units
IsConditionOf _ _ agent units = ⊥

-- a filter was read from what is written, or there is neither [own]
abbrev pub IsFilterOf : Option Test → Option Condition → AgentType → MessageType → Type 0
IsFilterOf None None agent message = Unit {0}
IsFilterOf (Some filter) (Some condition) agent message = SaysFilter filter condition agent message
IsFilterOf _ _ agent message = ⊥

-- a key was read from the sort that is written, or there is neither [own]
abbrev pub IsKeyOf : Option SortBy → Option Sort → MessageType → Type 0
IsKeyOf None None message = Unit {0}
IsKeyOf (Some by) (Some sort) message = SaysKey by sort message
IsKeyOf _ _ message = ⊥

-- the conditions of the model's functions in document order, as they were read [own]
abbrev pub AreConditionsOf : List (Option Test) → Model → Type 0
AreConditionsOf conditions model =
    AllZip
    (λ place read. IsConditionOf read place.function.condition place.type model.units) (functions model) conditions
