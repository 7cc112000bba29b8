-- The outcome of a numbered body, and how calls of numbered helpers end.
use Rattle.std.specs.Prelude.{ℕ, zero, suc, ℤ, pos, List, [], map, reverse, Option, Some, None, slice_get}
use Rattle.flame_spec.specs.declared.outcomes.Outcome.{Outcome}
use Rattle.flame_spec.specs.declared.outcomes.Widths.{Widths}
use Rattle.flame_spec.specs.HelperFaults.{deepest_calls}
use Rattle.flame_body.specs.FunctionBodies.{NumberedBody}
use Rattle.flame_meaning.specs.Scenes.{Progress, Gave, gave, failed}
use Rattle.flame_meaning.specs.Ends.{no_fuel}
use Rattle.flame_meaning.specs.HelperCalls.{gives}
use Rattle.flame_meaning.specs.Outcomes.{start, finished}
use Rattle.flame_number_laws.specs.NumberedScenes.{Answers, NumberedScene, nameless}
use Rattle.flame_number_laws.specs.NumberedMeaning.{runs_of}

-- what a body of these widths has before it at its beginning: no loop is open [own]
abbrev pub beginning : Widths → List ℤ → ℤ → List (List (List ℤ)) → Answers → NumberedScene
beginning widths constants iteration readings answers = record {
  widths = widths;
  constants = constants;
  iteration = iteration;
  readings = readings;
  current_rows = λ input. [];
  answers = answers;
}

-- ---- helpers

-- a helper begins with the values of its arguments as its locals, the first of them with number 0; an accepted source
-- gives one for each parameter. It has no memory, nothing added, and this fuel [C, 6.9.1; fuel: own]
abbrev pub entered : List ℤ → ℕ → Progress
entered values fuel = record { memory = []; locals = reverse (map nameless values); sent = []; born = []; fuel = fuel }

-- what the body that was found gives; where there is none, 0 [C, 6.5.2.2; without one: own]
abbrev pub body_gives : Option NumberedBody → List ℤ → ℤ → Answers → List ℤ → ℕ → Gave
body_gives None constants iteration answers values fuel = gave (pos 0) fuel
body_gives (Some body) constants iteration answers values fuel =
    gives (runs_of body.tree (beginning body.widths constants iteration [] answers) (entered values fuel))

-- how calls of these helpers end where so many may be open inside one another: a call takes one unit of fuel, or has
-- none to take, and then runs the helper's body with what is left. A call inside the last that may be open faults as
-- one without fuel does [C, 6.5.2.2; fuel: own]
abbrev pub answers_within : ℕ → List NumberedBody → List ℤ → ℤ → Answers
answers_within levels helpers constants iteration line helper values zero = failed (no_fuel line)
answers_within zero helpers constants iteration line helper values (suc fuel) = failed (no_fuel line)
answers_within (suc levels) helpers constants iteration line helper values (suc fuel) =
    body_gives (slice_get helpers helper) constants iteration
    (answers_within levels helpers constants iteration) values fuel

-- how calls end: in an accepted source at most 64 are open inside one another, the greatest height of helpers [own]
abbrev pub helper_answers : List NumberedBody → List ℤ → ℤ → Answers
helper_answers helpers constants iteration = answers_within deepest_calls helpers constants iteration

-- ---- outcomes

-- the outcome of a body with these helpers, for an agent with this memory, where loops over its inputs give these rows,
-- an entry for each input in order, with these constants, in this iteration, with this fuel [FLAME User Manual]
abbrev pub numbered_outcome :
    List NumberedBody → NumberedBody → List ℤ → List (List (List ℤ)) → List ℤ → ℤ → ℕ → Outcome
numbered_outcome helpers body memory readings constants iteration fuel =
    finished
    (runs_of body.tree
    (beginning body.widths constants iteration readings (helper_answers helpers constants iteration))
    (start memory fuel))
