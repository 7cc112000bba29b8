-- The end of a body, and what the whole code of a body comes to.
use Rattle.std.proofs.Common.{◌≡◌, ℕ, ◌+◌, ◌≤◌, Bool, true, false, not, cond, List, [], ◌∷◌, ◌++◌, length, map, Option, Some, None, refl, sym, ap, ◌∙◌, subst, arith}
use Rattle.std.specs.Prelude.{ℤ, pos, slice_get}
use Rattle.std.specs.Ordering.{int_eq}
use Rattle.flame_spec.specs.declared.outcomes.Outcome.{Outcome}
use Rattle.flame_spec.specs.declared.outcomes.Outcome.TheVariants.{Ended}
use Rattle.flame_body.specs.BodyFits.{at_beginning, tree_fits}
use Rattle.flame_body.specs.FunctionBodies.{NumberedBody}
use Rattle.flame_code.specs.declared.instrs.Instr.TheVariants.{Push, Return}
use Rattle.flame_code.specs.Machine.{Given, Config, act, returned as given_back, faulted as fell}
use Rattle.flame_code.specs.Machine as machine
use Rattle.flame_code.specs.Meanings.{last, entry, outcome_of}
use Rattle.flame_code.specs.Routines.{Routine}
use Rattle.flame_compile.specs.Emit.{statements}
use Rattle.flame_compile.proofs.SizedBlocks.{statements_sized}
use Rattle.flame_meaning.specs.Scenes.{Progress}
use Rattle.flame_meaning.specs.Ends.{End, went_on, broke, continued, returned, faulted}
use Rattle.flame_meaning.specs.HelperCalls.{gives}
use Rattle.flame_meaning.specs.Outcomes.{finished}
use Rattle.flame_number_laws.specs.NumberedScenes.{NumberedScene}
use Rattle.flame_number_laws.specs.NumberedMeaning.{runs_of}
use Rattle.flame_code_laws.specs.CodeRuns.{Running, HasAt, at, Ends}
use Rattle.flame_code_laws.specs.LocalNumbers.{tree_numbered, all_add, numbering}
use Rattle.flame_code_laws.specs.Standings.{AnswerRuns, Frame, IsSound, Follows, Reached, Returned, Comes}
use Rattle.flame_code_laws.specs.CodeOutcomes.{code_of}
use Rattle.flame_code_laws.proofs.Going.{has_left, has_right, has_first, has_rest, performed}
use Rattle.flame_code_laws.proofs.FaithfulStatements.{statements-run}

-- ---- the end

-- the run of a body returns what the body returns, or 0 where it does not, or ends in its fault
abbrev pub Closed : Running → Config → End → Type 0
Closed run c (went_on s) = Returned run c (pos 0) s
Closed run c (broke s) = Returned run c (pos 0) s
Closed run c (continued s) = Returned run c (pos 0) s
Closed run c (returned v s) = Returned run c v s
Closed run c (faulted fault) = Ends run c (fell fault)

-- the end of the code returns 0
end_returns :
    (run : Running) (f : Frame) (c : Config) (s : Progress) (q : ℕ)
    → HasAt run q (Push (pos 0) ∷ Return ∷ []) → Reached run f c s q → Returned run c (pos 0) s
end_returns run f c s q has reached = record {
  there = at (q + 1) f.stack reached.there;
  memory = reached.follows.memory;
  sent = reached.follows.sent;
  born = reached.follows.born;
  fuel = reached.follows.fuel;
  ends =
      let value = at (q + 1) (pos 0 ∷ f.stack) reached.there in
      let end = given_back (pos 0) (at (q + 1) f.stack reached.there) in
      reached.leads end
      (performed run (at q f.stack reached.there) value (Push (pos 0))
      (has_first run q (Push (pos 0)) (Return ∷ []) has) refl end
      (last (ap (λ o. act run.given run.routine.widths o value)
      (has_first run (q + 1) Return [] (has_rest run q (Push (pos 0)) (Return ∷ []) has)))));
}

-- what comes to the end is closed
comes_closed :
    (run : Running) (f : Frame) (c : Config) (n q : ℕ) (e : End)
    → f.leave ≡ q → f.again ≡ q
    → HasAt run q (Push (pos 0) ∷ Return ∷ []) → Comes run f c n q e → Closed run c e
comes_closed run f c n q (went_on s) leave again has comes = end_returns run f c s q has comes.0
comes_closed run f c n q (broke s) leave again has comes =
    end_returns run f c s q has (subst (λ place. Reached run f c s place) leave comes)
comes_closed run f c n q (continued s) leave again has comes =
    end_returns run f c s q has (subst (λ place. Reached run f c s place) again comes)
comes_closed run f c n q (returned v s) leave again has comes = comes
comes_closed run f c n q (faulted fault) leave again has comes = comes

-- ---- whole bodies

-- the run of a body's code
abbrev pub running : Given → List Routine → NumberedBody → Running
running g helpers body = record { given = g; helpers = helpers; routine = code_of body }

-- where a body begins
abbrev pub opened : NumberedBody → NumberedScene → Config → Frame
opened body before c = record {
  around = at_beginning body.widths;
  before = before;
  feeds = c.feeds;
  least = 0;
  most = c.fuel;
  stack = [];
  leave = (statements body.tree).size;
  again = (statements body.tree).size;
}

-- the code of a body comes to what the body comes to
pub body_closed :
    (g : Given) (helpers : List Routine) (body : NumberedBody) (before : NumberedScene) (s : Progress) (c : Config)
    → IsSound (running g helpers body) (opened body before c)
    → Follows (opened body before c) s c
    → tree_fits body.widths body.tree ≡ true
    → tree_numbered (length s.locals) body.tree ≡ true
    → Closed (running g helpers body) (at 0 [] c) (runs_of body.tree before s)
body_closed g helpers body before s c sound follows fit_all low_all =
    let run = running g helpers body in
    let f = opened body before c in
    let size = (statements body.tree).size in
    let front = (statements body.tree).code size size 0 in
    let back = Push (pos 0) ∷ Return ∷ [] in
    let same : (k : ℕ) → k ≡ 0 + k = λ k. omega arith in
    let has : HasAt run 0 (front ++ back) =
    λ k i e. subst (λ q. slice_get run.routine.instrs q ≡ Some i) (same k) e in
    comes_closed run f (at 0 [] c) (length s.locals + all_add (map numbering body.tree)) (0 + size)
    (runs_of body.tree before s) (same size) (same size)
    (subst (λ n. HasAt run (0 + n) back) (statements_sized body.tree size size 0) (has_right run 0 front back has))
    (statements-run run f sound body.tree s c 0 follows fit_all low_all (has_left run 0 front back has))

-- ---- what is left

-- what a helper returned, with no more fuel than there was
returned_answers :
    (run : Running) (values : List ℤ) (fuel : ℕ) (v : ℤ) (s : Progress)
    → ((w : ℤ) (d : Config) → Ends run (entry values fuel) (given_back w d) → d.fuel ≤ fuel)
    → Returned run (entry values fuel) v s
    → (d : Config) × (d.fuel ≡ s.fuel) × (s.fuel ≤ fuel) × Ends run (entry values fuel) (given_back v d)
returned_answers run values fuel v s falls done =
    let less = falls v done.there done.ends in
    (done.there, done.fuel, omega (arith, less, done.fuel), done.ends)

-- the answer of a helper's body
pub closed_answers :
    (run : Running) (values : List ℤ) (fuel : ℕ) (e : End)
    → ((w : ℤ) (d : Config) → Ends run (entry values fuel) (given_back w d) → d.fuel ≤ fuel)
    → Closed run (entry values fuel) e
    → AnswerRuns run run.routine values fuel (gives e)
closed_answers run values fuel (went_on s) falls done = returned_answers run values fuel (pos 0) s falls done
closed_answers run values fuel (broke s) falls done = returned_answers run values fuel (pos 0) s falls done
closed_answers run values fuel (continued s) falls done = returned_answers run values fuel (pos 0) s falls done
closed_answers run values fuel (returned v s) falls done = returned_answers run values fuel v s falls done
closed_answers run values fuel (faulted fault) falls done = done

-- the run ends with this outcome
abbrev pub Finishes : Running → Config → Outcome → Type 0
Finishes run c o = (end : machine.End) × Ends run c end × (o ≡ outcome_of end)

-- an end that has the same has the same outcome
ended_same :
    (memory : Option (List ℤ)) (s : Progress) (d : Config)
    → d.sent ≡ s.sent → d.born ≡ s.born → d.fuel ≡ s.fuel
    → Ended (record { memory = memory; sent = s.sent; born = s.born; fuel = s.fuel })
    ≡ Ended (record { memory = memory; sent = d.sent; born = d.born; fuel = d.fuel })
ended_same memory s d sent born fuel =
    sym (ap (λ sent. Ended (record { memory = memory; sent = sent; born = d.born; fuel = d.fuel })) sent
    ∙ ap (λ born. Ended (record { memory = memory; sent = s.sent; born = born; fuel = d.fuel })) born
    ∙ ap (λ fuel. Ended (record { memory = memory; sent = s.sent; born = s.born; fuel = fuel })) fuel)

-- a value that was returned keeps the memory where it is 0
returned_same :
    (b : Bool) (s : Progress) (d : Config)
    → d.memory ≡ s.memory → d.sent ≡ s.sent → d.born ≡ s.born → d.fuel ≡ s.fuel
    → cond (not b)
    (Ended (record { memory = None; sent = s.sent; born = s.born; fuel = s.fuel }))
    (Ended (record { memory = Some s.memory; sent = s.sent; born = s.born; fuel = s.fuel }))
    ≡ Ended (record { memory = cond b (Some d.memory) None; sent = d.sent; born = d.born; fuel = d.fuel })
returned_same true s d memory sent born fuel =
    ended_same (Some s.memory) s d sent born fuel
    ∙ sym (ap (λ memory. Ended (record { memory = Some memory; sent = d.sent; born = d.born; fuel = d.fuel })) memory)
returned_same false s d memory sent born fuel = ended_same None s d sent born fuel

-- a returned value finishes the body
returned_finishes :
    (run : Running) (c : Config) (v : ℤ) (s : Progress)
    → Returned run c v s → Finishes run c (finished (returned v s))
returned_finishes run c v s done = (
  given_back v done.there,
  done.ends,
  returned_same (int_eq v (pos 0)) s done.there done.memory done.sent done.born done.fuel,
)

-- the outcome of a body
pub closed_finishes : (run : Running) (c : Config) (e : End) → Closed run c e → Finishes run c (finished e)
closed_finishes run c (went_on s) done = returned_finishes run c (pos 0) s done
closed_finishes run c (broke s) done = returned_finishes run c (pos 0) s done
closed_finishes run c (continued s) done = returned_finishes run c (pos 0) s done
closed_finishes run c (returned v s) done = returned_finishes run c v s done
closed_finishes run c (faulted fault) done = (fell fault, done, refl)
