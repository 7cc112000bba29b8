-- What holds of numbered trees: without check faults an expression and the body of a C function fit, and calls have the
-- arguments that their helpers take.
use Rattle.std.specs.Prelude.{◌≡◌, ℕ, List, [], map, length, slice_get, Bool, true, None, Some, is_some}
use Rattle.flame_spec.specs.declared.models.Input.{Input}
use Rattle.flame_spec.specs.declared.models.MessageType.{MessageType}
use Rattle.flame_spec.specs.CheckFaults.{definition_faults}
use Rattle.flame_spec.specs.Definitions.{Definition}
use Rattle.flame_spec.specs.ExpressionFaults.{expression_faults}
use Rattle.flame_spec.specs.HelperFaults.{statements_call}
use Rattle.flame_spec.specs.Scopes.{Context, context_for, input_in, given_at}
use Rattle.flame_spec.specs.Scopes.{Sight, at_entry, after_parameters, is_local, is_open_over}
use Rattle.flame_spec.specs.Trees.{Expression, Statements}
use Rattle.flame_body.specs.declared.slots.SlotStmt.{SlotStmt}
use Rattle.flame_body.specs.FunctionBodies.{widths_in}
use Rattle.flame_body.specs.NumberedTrees.{numbered, numbered_statements}
use Rattle.flame_body.specs.BodyCalls.{tree_calls_pass, tree_calls_fit}
use Rattle.flame_body.specs.BodyFits.{Around, is_inside, fits, tree_fits}

-- what a place has round it is that of what it sees: the widths are those of its function; no local has a name that the
-- model gives a meaning to; and each open loop over a message is over an input, and inside it [own]
pub record Suits (context : Context) (sight : Sight) (around : Around) : Type 0 where
  pub widths : around.widths ≡ widths_in context.model context.runs
  pub fresh : (word : List ℕ) → is_local sight word ≡ true → given_at context word ≡ None
  pub inputs : (message : MessageType) → is_open_over sight message ≡ true
      → is_some (input_in context.runs message) ≡ true
  pub inside : (message : MessageType) (n : ℕ) (input : Input) → is_open_over sight message ≡ true
      → input_in context.runs message ≡ Some (n, input) → is_inside n around ≡ true

-- what the words of a body go by there, whatever its file [own]
abbrev pub unfiled : Context → Context
unfiled context = context_for context.model context.helpers context.runs

-- an expression without check faults fits, with numbers in place of names [own]
abbrev pub ExpressionsFit : Type 0
ExpressionsFit =
    (context : Context) (sight : Sight) (around : Around) (e : Expression)
    → Suits context sight around
    → expression_faults context sight e ≡ []
    → fits around (numbered (unfiled context) sight e) ≡ true

-- the body of a C function with numbers in place of names, which begins with its parameters as locals [C, 6.9.1]
abbrev pub numbered_definition : Context → Definition → List SlotStmt
numbered_definition context d =
    numbered_statements (unfiled context) (after_parameters at_entry d.parameters) d.body

-- a C function without check faults fits the widths of the function that it is checked for, with numbers in place of
-- names [own]
abbrev pub DefinitionsFit : Type 0
DefinitionsFit =
    (context : Context) (d : Definition)
    → definition_faults context d ≡ []
    → tree_fits (widths_in context.model context.runs) (numbered_definition context d) ≡ true

-- the test holds of each helper that the body calls, by its number, and of how many parameters it has [own]
abbrev pub CalledPass : (ℕ → ℕ → Bool) → Context → Statements → Type 0
CalledPass passes context body =
    (h : ℕ) (helper : Definition)
    → slice_get context.helpers h ≡ Some helper
    → statements_call context h body ≡ true
    → passes h (length helper.parameters) ≡ true

-- in a C function without check faults, a test that holds of each helper that its body calls, and of how many parameters
-- it has, holds of each call of the numbered body, and of how many arguments it has [C, 6.5.2.2]
abbrev pub CallsPass : Type 0
CallsPass =
    (passes : ℕ → ℕ → Bool) (context : Context) (d : Definition)
    → definition_faults context d ≡ []
    → CalledPass passes context d.body
    → tree_calls_pass passes (numbered_definition context d) ≡ true

-- in a C function without check faults each call of a helper has as many arguments as the helper has parameters
-- [C, 6.5.2.2]
abbrev pub CallsFit : Type 0
CallsFit =
    (context : Context) (d : Definition)
    → definition_faults context d ≡ []
    → tree_calls_fit (map (λ h. length h.parameters) context.helpers) (numbered_definition context d) ≡ true
