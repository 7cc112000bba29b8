-- Small models with name faults, worked by hand. [own]
use Rattle.std.specs.Prelude.{◌≡◌, ℕ, ℤ, pos, List, [], ◌∷◌, codes, map, false, Some, None}
use Rattle.flame_ops.specs.declared.integers.Op.TheVariants.{Eq}
use Rattle.flame_spec.specs.declared.conditions.Condition.{Condition, Compare, And, Time}
use Rattle.flame_spec.specs.declared.conditions.Operand.TheVariants.{Number, Agent, Message}
use Rattle.flame_spec.specs.declared.models.Model.{Model}
use Rattle.flame_spec.specs.declared.models.Variable.{Variable}
use Rattle.flame_spec.specs.declared.models.Function.{Function}
use Rattle.flame_spec.specs.declared.models.TimeUnit.{TimeUnit}
use Rattle.flame_spec.specs.declared.faults.NameKind.TheVariants.{Clash, UnknownUnit, LongUnit, NotSingle, TooWide}
use Rattle.flame_spec.specs.Refusals.{name_fault}
use Rattle.flame_spec.specs.TimeUnits.{unit_length}
use Rattle.flame_spec.specs.NameFaults.{name_faults}

-- a variable of one number
abbrev pub variable : List ℕ → Variable
variable name = record { name = name; length = None }

-- a constant x, and a type whose memory has X
abbrev pub constant_and_variable : Model
constant_and_variable = record {
  constants = codes "x" ∷ [];
  files = [];
  units = [];
  messages = [];
  agents = record { name = codes "A"; memory = variable (codes "X") ∷ []; functions = [] } ∷ [];
}

-- function files could not tell the two apart
abbrev pub ConstantAndVariableClash : Type 0
ConstantAndVariableClash =
    name_faults constant_and_variable ≡ name_fault Clash (codes "/xmodel/agents/0/memory/0/name") (codes "X") ∷ []

-- a time unit: so many of another one
abbrev pub unit : List ℕ → List ℕ → ℤ → TimeUnit
unit name measure period = record { name = name; unit = measure; period = period }

-- a unit that is measured in a later one, and one of 50,000 times 50,000 iterations
abbrev pub unit_of_later : Model
unit_of_later = record {
  constants = [];
  files = [];
  units =
      unit (codes "day") (codes "hour") (pos 24)
      ∷ unit (codes "hour") (codes "iteration") (pos 50000)
      ∷ unit (codes "age") (codes "hour") (pos 50000)
      ∷ [];
  messages = [];
  agents = [];
}

-- the first has no measure yet, and the last is too long
abbrev pub UnitsAreMeasured : Type 0
UnitsAreMeasured =
    name_faults unit_of_later
    ≡ name_fault UnknownUnit (codes "/xmodel/environment/timeUnits/0/unit") (codes "hour")
    ∷ name_fault LongUnit (codes "/xmodel/environment/timeUnits/2/period") (codes "age")
    ∷ []

-- an hour of 4 iterations, a day of 24 hours and a week of 7 days
abbrev pub calendar : Model
calendar = record {
  constants = [];
  files = [];
  units =
      unit (codes "hour") (codes "iteration") (pos 4)
      ∷ unit (codes "day") (codes "hour") (pos 24)
      ∷ unit (codes "week") (codes "day") (pos 7)
      ∷ [];
  messages = [];
  agents = [];
}

-- a unit of a unit has as many iterations as the periods multiply to, and a name that is no unit has none
abbrev pub CalendarIsMeasured : Type 0
CalendarIsMeasured =
    (name_faults calendar ≡ [])
    × (map (unit_length calendar.units)
    (codes "iteration" ∷ codes "hour" ∷ codes "day" ∷ codes "week" ∷ codes "year" ∷ [])
    ≡ Some (pos 1) ∷ Some (pos 4) ∷ Some (pos 96) ∷ Some (pos 672) ∷ None ∷ [])

-- ---- arrays

-- an array of so many numbers
abbrev pub array : List ℕ → ℕ → Variable
array name size = record { name = name; length = Some size }

-- a.x = a.xs, in an iteration whose number is a.xs
abbrev pub reads_memory_array : Condition
reads_memory_array =
    And (Compare Eq (Agent (codes "x")) (Agent (codes "xs"))) (Time (codes "iteration") (Agent (codes "xs")) (pos 1))

-- m.vs = 0
abbrev pub reads_message_array : Condition
reads_message_array = Compare Eq (Message (codes "vs")) (Number (pos 0))

-- a function with that condition, which reads m with that filter, by the key vs
abbrev pub reads_arrays : Function
reads_arrays = record {
  name = codes "f";
  current = codes "s";
  next = codes "e";
  condition = Some reads_memory_array;
  inputs =
      record {
        message = codes "m";
        random = false;
        filter = Some reads_message_array;
        sort = Some (record { key = codes "vs"; descending = false });
      }
      ∷ [];
  outputs = [];
}

-- the message m(v, vs[3]) and the type A(x, xs[2]) with that function
abbrev pub arrays_in_conditions : Model
arrays_in_conditions = record {
  constants = [];
  files = [];
  units = [];
  messages = record { name = codes "m"; variables = variable (codes "v") ∷ array (codes "vs") 3 ∷ [] } ∷ [];
  agents =
      record {
        name = codes "A";
        memory = variable (codes "x") ∷ array (codes "xs") 2 ∷ [];
        functions = reads_arrays ∷ [];
      }
      ∷ [];
}

-- an array is no number, neither where it is compared, nor as a phase, nor as the key of a sort
abbrev pub ArraysAreNotSingle : Type 0
ArraysAreNotSingle =
    name_faults arrays_in_conditions
    ≡ name_fault NotSingle (codes "/xmodel/agents/0/functions/0/condition/lhs/rhs/value") (codes "a.xs")
    ∷ name_fault NotSingle (codes "/xmodel/agents/0/functions/0/condition/rhs/time/phase") (codes "a.xs")
    ∷ name_fault NotSingle (codes "/xmodel/agents/0/functions/0/inputs/0/filter/lhs/value") (codes "m.vs")
    ∷ name_fault NotSingle (codes "/xmodel/agents/0/functions/0/inputs/0/sort/key") (codes "vs")
    ∷ []

-- four arrays of 1000, and then these variables
abbrev pub behind_4000 : List Variable → List Variable
behind_4000 variables =
    array (codes "a") 1000
    ∷ array (codes "b") 1000
    ∷ array (codes "c") 1000
    ∷ array (codes "d") 1000
    ∷ variables

-- a message of 4,096 numbers, one of 4,097, and a type with 4,096, a single variable and a last array
abbrev pub wide_rows : Model
wide_rows = record {
  constants = [];
  files = [];
  units = [];
  messages =
      record { name = codes "m"; variables = behind_4000 (array (codes "e") 96 ∷ []) }
      ∷ record { name = codes "n"; variables = behind_4000 (array (codes "e") 97 ∷ []) }
      ∷ [];
  agents =
      record {
        name = codes "A";
        memory = behind_4000 (array (codes "e") 96 ∷ variable (codes "x") ∷ array (codes "y") 1 ∷ []);
        functions = [];
      }
      ∷ [];
}

-- an array may end with the row's number 4,096 and not behind it; a single variable may
abbrev pub RowsAreTooWide : Type 0
RowsAreTooWide =
    name_faults wide_rows
    ≡ name_fault TooWide (codes "/xmodel/messages/1/variables/4/length") (codes "e")
    ∷ name_fault TooWide (codes "/xmodel/agents/0/memory/6/length") (codes "y")
    ∷ []
