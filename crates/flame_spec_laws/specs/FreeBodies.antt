-- Bodies that spend no fuel: without loops, and without calls of helpers. [own]
use Rattle.std.specs.Prelude.{◌≡◌, ◌≢◌, ℕ, ℤ, List, Option, Some, None}
use Rattle.flame_ops.specs.declared.integers.Cause.TheVariants.{Fuel}
use Rattle.flame_spec.specs.declared.faults.Fault.{Fault}
use Rattle.flame_spec.specs.declared.outcomes.Source.{Source}
use Rattle.flame_spec.specs.declared.outcomes.Effect.{Effect}
use Rattle.flame_spec.specs.declared.outcomes.Outcome.TheVariants.{Ended, Faulted}
use Rattle.flame_spec.specs.CallFaults.{Deed, sets, sends, bears, calls, deed_of}
use Rattle.flame_spec.specs.Definitions.{helpers, body_of}
use Rattle.flame_spec.specs.Functions.{Place}
use Rattle.flame_spec.specs.Scopes.{Context, context_for}
use Rattle.flame_spec.specs.Trees.{Stored, plain, called, Statement, empty, declare, assign, call, block, branch}
use Rattle.flame_spec.specs.Trees.{while, for, do_while, loop_over, return, break, continue}
use Rattle.flame_spec.specs.Trees.{Statements, no_more, also, Arms, no_arms, arm}
use Rattle.flame_meaning.specs.RangeLaws.{Each, IfAny}
use Rattle.flame_meaning.specs.Outcomes.{place_of, outcome_over}

-- what is stored is the value of an expression, and not that of a helper
abbrev pub IsPlain : Stored → Type 0
IsPlain (plain e) = Unit {0}
IsPlain (called line word arguments) = ⊥

-- a word that calls no helper
abbrev pub CallsNone : Option Deed → Type 0
CallsNone None = Unit {0}
CallsNone (Some (sets column variable)) = Unit {0}
CallsNone (Some (sends number message)) = Unit {0}
CallsNone (Some (bears number type)) = Unit {0}
CallsNone (Some (calls number helper)) = ⊥

abbrev mutual
  -- a statement without loops and without calls of helpers, where words go by this
  pub IsFree : Context → Statement → Type 0
  IsFree at empty = Unit {0}
  IsFree at (declare items) = Each (λ item. IfAny IsPlain item.value) items
  IsFree at (assign a) = IsPlain a.value
  IsFree at (call line word arguments) = CallsNone (deed_of at word)
  IsFree at (block body) = AreFree at body
  IsFree at (branch tests otherwise) = ArmsAreFree at tests × AreFree at otherwise
  IsFree at (while line test body) = ⊥
  IsFree at (for line first test step body) = ⊥
  IsFree at (do_while line body test) = ⊥
  IsFree at (loop_over line word body end_line end_word) = ⊥
  IsFree at (return e) = Unit {0}
  IsFree at (break line) = Unit {0}
  IsFree at (continue line) = Unit {0}

  -- such statements
  pub AreFree : Context → Statements → Type 0
  AreFree at no_more = Unit {0}
  AreFree at (also x xs) = IsFree at x × AreFree at xs

  -- tests whose bodies are such
  pub ArmsAreFree : Context → Arms → Type 0
  ArmsAreFree at no_arms = Unit {0}
  ArmsAreFree at (arm test body more) = AreFree at body × ArmsAreFree at more

-- a function whose body has neither leaves all its fuel where it ends
abbrev pub FreeFunctionsSpendNothing : Type 0
FreeFunctionsSpendNothing =
    (source : Source) (function : ℕ) (place : Place) (memory : List ℤ) (readings : List (List (List ℤ)))
    (constants : List ℤ) (iteration : ℤ) (fuel : ℕ) (effect : Effect)
    → place_of source function ≡ Some place
    → AreFree
    (context_for source.model (helpers source.model source.units) (Some place))
    (body_of source.units place.function)
    → outcome_over source function memory readings constants iteration fuel ≡ Ended effect
    → effect.fuel ≡ fuel

-- and it faults for no want of fuel
abbrev pub FreeFunctionsNeverLackFuel : Type 0
FreeFunctionsNeverLackFuel =
    (source : Source) (function : ℕ) (place : Place) (memory : List ℤ) (readings : List (List (List ℤ)))
    (constants : List ℤ) (iteration : ℤ) (fuel : ℕ) (fault : Fault)
    → place_of source function ≡ Some place
    → AreFree
    (context_for source.model (helpers source.model source.units) (Some place))
    (body_of source.units place.function)
    → outcome_over source function memory readings constants iteration fuel ≡ Faulted fault
    → fault.cause ≢ Fuel
