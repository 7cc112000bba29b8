-- Sources that are accepted, and what well-formed models and start states are, worked by hand. [own]
use Rattle.std.specs.Prelude.{◌≡◌, ℕ, List, [], ◌∷◌, map, codes, true, false, pos, Option, Some, None}
use Rattle.flame_ops.specs.declared.integers.Op.TheVariants.{Add, Eq}
use Rattle.flame_spec.specs.declared.conditions.Condition.{Condition, Compare, Time}
use Rattle.flame_spec.specs.declared.conditions.Operand.TheVariants.{Number, Agent, Message}
use Rattle.flame_spec.specs.declared.models.Model.{Model}
use Rattle.flame_spec.specs.declared.outcomes.Source.{Source}
use Rattle.flame_spec.specs.declared.trees.Expr as tree
use Rattle.flame_spec.specs.declared.trees.Stmt as form
use Rattle.flame_spec.specs.Names.{is_name}
use Rattle.flame_spec.specs.WellFormed.{is_positive_int, is_well_formed_phase, is_well_formed_condition}
use Rattle.flame_spec.specs.WellFormed.{is_well_formed_filter, is_well_formed_variable}
use Rattle.flame_spec.specs.declared.models.Variable.{Variable}
use Rattle.flame_spec_laws.specs.SmallModels.{agent_type, function, lone_model, lone_file}
use Rattle.flame_spec.specs.Accepted.{has_one_start, IsAccepted}

-- no constants, files, units, messages or types
abbrev pub empty_model : Model
empty_model = record { constants = []; files = []; units = []; messages = []; agents = [] }

-- a model of nothing is accepted
abbrev pub NothingIsAccepted : Type 0
NothingIsAccepted = IsAccepted (record { model = empty_model; units = [] })

-- int f() { return 0; }
abbrev pub lone_source : Source
lone_source = record { model = lone_model; units = lone_file (form.Return (tree.Number (pos 0)) ∷ []) }

-- a model of one function from one state to another, and its body
abbrev pub LoneFunctionIsAccepted : Type 0
LoneFunctionIsAccepted = IsAccepted lone_source

-- `0 = 0`; a comparison by an operator that compares nothing; a time condition, and one that never holds
abbrev pub some_conditions : List Condition
some_conditions =
    Compare Eq (Number (pos 0)) (Number (pos 0))
    ∷ Compare Add (Number (pos 0)) (Number (pos 0))
    ∷ Time (codes "iteration") (Number (pos 0)) (pos 1)
    ∷ Time (codes "iteration") (Number (pos 0)) (pos 0)
    ∷ []

-- names, periods, phases, conditions and filters that are well formed, and others
abbrev pub FormedCase : Type 0
FormedCase =
    (map is_name (codes "_a1" ∷ codes "Z" ∷ codes "" ∷ codes "1a" ∷ codes "a-b" ∷ [])
    ≡ true ∷ true ∷ false ∷ false ∷ false ∷ [])
    × (map is_positive_int (pos 0 ∷ pos 1 ∷ pos 2147483647 ∷ pos 2147483648 ∷ []) ≡ false ∷ true ∷ true ∷ false ∷ [])
    × (map is_well_formed_phase (Number (pos 0) ∷ Agent (codes "x") ∷ Message (codes "x") ∷ [])
    ≡ true ∷ true ∷ false ∷ [])
    × (map is_well_formed_condition some_conditions ≡ true ∷ false ∷ true ∷ false ∷ [])
    × (map is_well_formed_filter some_conditions ≡ true ∷ false ∷ false ∷ false ∷ [])

-- a variable of this length, or a single one
abbrev pub variable_of : Option ℕ → Variable
variable_of length = record { name = codes "x"; length = length }

-- an array has 1 to 1000 elements
abbrev pub LengthsCase : Type 0
LengthsCase =
    map (λ length. is_well_formed_variable (variable_of length))
    (None ∷ Some 0 ∷ Some 1 ∷ Some 1000 ∷ Some 1001 ∷ [])
    ≡ true ∷ false ∷ true ∷ true ∷ false ∷ []

-- a type without functions has one start state, one whose functions leave two states has two, and one whose only
-- function enters the state that it leaves has none
abbrev pub StartsCase : Type 0
StartsCase =
    (has_one_start (agent_type (codes "A") (codes "x") []) ≡ true)
    × (has_one_start (agent_type (codes "A") (codes "x") (
    function (codes "f") (codes "s") (codes "e") [] []
    ∷ function (codes "g") (codes "t") (codes "e") [] []
    ∷ [])) ≡ false)
    × (has_one_start (agent_type (codes "A") (codes "x") (
    function (codes "f") (codes "s") (codes "s") [] []
    ∷ [])) ≡ false)
