-- The faults of single values: what each want wants.
use Rattle.std.specs.Prelude.{ℕ, List}
use Rattle.serde_json.specs.Data.{Data}
use Rattle.flame_xmml.specs.declared.faults.Shape.{Shape}
use Rattle.flame_xmml.specs.declared.faults.Want.TheVariants.{Empty, Name, State, FileName, Int, Positive, Truth}
use Rattle.flame_xmml.specs.declared.faults.Want.TheVariants.{Order, Op, Operand, Phase, Length}
use Rattle.flame_xmml.specs.ValueParts.{leaf}
use Rattle.flame_xmml.specs.Wants.{empty_of, name_of, filled_of, int_type_of, positive_of, truth_of, order_of}
use Rattle.flame_xmml.specs.Wants.{connective_of, operand_of, phase_of, length_of}

-- a list that has no member is wanted [own]
abbrev pub empty_faults : List ℕ → Data → List Shape
empty_faults = leaf Empty empty_of

-- a name is wanted [XMML]
abbrev pub name_faults : List ℕ → Data → List Shape
name_faults = leaf Name name_of

-- a state is wanted [XMML]
abbrev pub state_faults : List ℕ → Data → List Shape
state_faults = leaf State filled_of

-- the name of a function file is wanted [XMML]
abbrev pub file_faults : List ℕ → Data → List Shape
file_faults = leaf FileName filled_of

-- the type int is wanted [XMML]
abbrev pub int_faults : List ℕ → Data → List Shape
int_faults = leaf Int int_type_of

-- a whole number from 1 is wanted [XMML]
abbrev pub positive_faults : List ℕ → Data → List Shape
positive_faults = leaf Positive positive_of

-- the length of an array is wanted [own]
abbrev pub length_faults : List ℕ → Data → List Shape
length_faults = leaf Length length_of

-- a truth is wanted [XMML]
abbrev pub truth_faults : List ℕ → Data → List Shape
truth_faults = leaf Truth truth_of

-- an order is wanted [XMML]
abbrev pub order_faults : List ℕ → Data → List Shape
order_faults = leaf Order order_of

-- an operator is wanted [XMML]
abbrev pub op_faults : List ℕ → Data → List Shape
op_faults = leaf Op connective_of

-- what is compared is wanted [XMML]
abbrev pub operand_faults : List ℕ → Data → List Shape
operand_faults = leaf Operand operand_of

-- a phase is wanted [XMML]
abbrev pub phase_faults : List ℕ → Data → List Shape
phase_faults = leaf Phase phase_of
