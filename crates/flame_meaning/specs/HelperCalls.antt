-- How calls of helpers end. A helper sees its parameters, its locals, the constants, the number of the iteration and
-- the other helpers; it has no memory and no messages.
use Rattle.std.specs.Prelude.{ℕ, zero, suc, ℤ, pos, List, [], ◌∷◌, None}
use Rattle.flame_spec.specs.declared.models.Model.{Model}
use Rattle.flame_spec.specs.declared.trees.Parameter.{Parameter}
use Rattle.flame_spec.specs.Definitions.{Definition}
use Rattle.flame_spec.specs.HelperFaults.{deepest_calls}
use Rattle.flame_spec.specs.Scopes.{context_for}
use Rattle.flame_meaning.specs.Scenes.{Scene, Progress, Local, Gave, gave, failed, Calls}
use Rattle.flame_meaning.specs.Ends.{End, went_on, broke, continued, returned, faulted, no_fuel}
use Rattle.flame_meaning.specs.Statements.{meanings}

-- what a body gives to its caller: what it returned, or 0 where it did not; and the fuel that is left
-- [C, 6.9.1; without `return`: own]
abbrev pub gives : End → Gave
gives (went_on s) = gave (pos 0) s.fuel
gives (broke s) = gave (pos 0) s.fuel
gives (continued s) = gave (pos 0) s.fuel
gives (returned v s) = gave v s.fuel
gives (faulted fault) = failed fault

-- the parameters with the values of the arguments, each newer than these locals and those before it; an accepted source
-- gives one for each, and else a missing one is 0 and a further one is passed over [C, 6.9.1; missing, further: own]
abbrev pub parameter_locals : List Parameter → List ℤ → List Local → List Local
parameter_locals [] values locals = locals
parameter_locals (parameter ∷ more) [] locals =
    parameter_locals more [] (record { name = parameter.name; value = pos 0 } ∷ locals)
parameter_locals (parameter ∷ more) (v ∷ values) locals =
    parameter_locals more values (record { name = parameter.name; value = v } ∷ locals)

-- a helper begins with its parameters as its only locals, without a memory, with nothing added, and with this fuel
-- [C, 6.9.1; fuel: own]
abbrev pub entered : List Parameter → List ℤ → ℕ → Progress
entered parameters values fuel = record {
  memory = [];
  locals = parameter_locals parameters values [];
  sent = [];
  born = [];
  fuel = fuel;
}

-- what a helper has before it: it is no function of the model, reads no messages, and no loop is open [own]
abbrev pub helper_scene : Model → List Definition → List ℤ → ℤ → Calls → Scene
helper_scene model helpers constants iteration calls = record {
  context = context_for model helpers None;
  constants = constants;
  iteration = iteration;
  readings = [];
  open_loops = [];
  answers = calls;
}

-- how calls end where so many may be open inside one another: a call takes one unit of fuel, or has none to take, and
-- then runs the helper's body with what is left. A call inside the last that may be open faults as one without fuel
-- does [C, 6.5.2.2; fuel: own]
abbrev pub calls_within : ℕ → Model → List Definition → List ℤ → ℤ → Calls
calls_within levels model helpers constants iteration line helper values zero = failed (no_fuel line)
calls_within zero model helpers constants iteration line helper values (suc fuel) = failed (no_fuel line)
calls_within (suc levels) model helpers constants iteration line helper values (suc fuel) =
    gives
    (meanings helper.body
    (helper_scene model helpers constants iteration (calls_within levels model helpers constants iteration))
    (entered helper.parameters values fuel))

-- how calls end: in an accepted source at most 64 are open inside one another, the greatest height of helpers [own]
abbrev pub helper_calls : Model → List Definition → List ℤ → ℤ → Calls
helper_calls model helpers constants iteration = calls_within deepest_calls model helpers constants iteration
