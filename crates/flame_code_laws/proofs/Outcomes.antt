-- How calls of helpers end, level by level, and the outcome of the code of a body.
use Rattle.std.proofs.Common.{◌≡◌, ℕ, zero, suc, ◌<◌, ◌≤◌, false, true, List, [], length, Option, Some, None, refl, sym, ap, ◌∙◌, subst, arith}
use Rattle.std.specs.Prelude.{ℤ, slice_get, slice_index, option_map}
use Rattle.std.proofs.lemmas.Bool.{ltb-true}
use Rattle.std.proofs.lemmas.Option.{slice_get-map}
use Rattle.flame_rows.proofs.Lists.{slice_index-there}
use Rattle.flame_spec.specs.declared.outcomes.Outcome.{Outcome}
use Rattle.flame_spec.specs.HelperFaults.{deepest_calls}
use Rattle.flame_body.specs.FunctionBodies.{NumberedBody}
use Rattle.flame_code.specs.declared.instrs.Instr.TheVariants.{Call}
use Rattle.flame_code.specs.HelperCodes.{HelperCodes, calls_fit}
use Rattle.flame_code.specs.InputRows.{rows_of, HaveWidths}
use Rattle.flame_code.specs.Machine.{Given, Config, returned as given_back}
use Rattle.flame_code.specs.Meanings.{Entry, Means, begun, entry}
use Rattle.flame_code.specs.Routines.{Routine}
use Rattle.flame_code.specs.Validity.{IsValid}
use Rattle.flame_code.proofs.Endings.{AreValid, call_counts, call_falls, call_named, entry_stands, run_fell, given}
use Rattle.flame_code.proofs.Uniqueness.{one_meaning}
use Rattle.flame_compile.proofs.LabelledBodies.{emitted_valid}
use Rattle.flame_meaning.specs.Scenes.{Gave, gave, failed}
use Rattle.flame_meaning.specs.Outcomes.{start}
use Rattle.flame_number_laws.specs.NumberedScenes.{Answers, NumberedScene}
use Rattle.flame_number_laws.specs.NumberedMeaning.{runs_of}
use Rattle.flame_number_laws.specs.NumberedOutcomes.{beginning, entered, body_gives, answers_within, numbered_outcome}
use Rattle.flame_code_laws.specs.CodeRuns.{Ends}
use Rattle.flame_code_laws.specs.LocalNumbers.{tree_numbered}
use Rattle.flame_code_laws.specs.CodeOutcomes.{code_of, AreHelperBodies, IsFunctionBody, OutcomesRun}
use Rattle.flame_code_laws.specs.Standings.{AnswerRuns, Answered, Helps, IsSound, Follows}
use Rattle.flame_code_laws.proofs.OutcomeLocals.{entry_read, entry_long}
use Rattle.flame_code_laws.proofs.OutcomeEnds.{running, opened, body_closed, closed_answers, closed_finishes}

-- a body has before it what it has at its beginning
abbrev scene : Given → NumberedBody → List (List (List ℤ)) → Answers → NumberedScene
scene g body readings answers = beginning body.widths g.constants g.iteration readings answers

-- at the beginning of a body what is before it is sound
begins_sound :
    (g : Given) (helpers : List Routine) (body : NumberedBody) (readings : List (List (List ℤ))) (answers : Answers)
    (c : Config)
    → HaveWidths body.widths.inputs readings
    → Helps (running g helpers body) (scene g body readings answers)
    → IsSound (running g helpers body) (opened body (scene g body readings answers) c)
begins_sound g helpers body readings answers c rows helps = record {
  constants = refl;
  iteration = refl;
  widths = refl;
  same_widths = refl;
  rows = rows;
  current = λ input inside. absurd (let bad : false ≡ true = inside in cc);
  helps = helps;
}

module _ (g : Given) (helpers : HelperCodes) (bodies : List NumberedBody) (are : AreHelperBodies helpers bodies) where
  -- the height of a helper
  abbrev height : ℕ → ℕ
  height h = slice_index are.helping.heights h

  -- how calls end where so many may be open
  abbrev answers : ℕ → Answers
  answers levels = answers_within levels bodies g.constants g.iteration

  -- the code calls no helper of a greater height
  abbrev Within : ℕ → Routine → Type 0
  Within levels r = (p line h n : ℕ) → slice_get r.instrs p ≡ Some (Call line h n) → height h ≤ levels

  -- calls in such code end as they have to
  abbrev Helping : ℕ → Type 0
  Helping levels =
      (body : NumberedBody) (readings : List (List (List ℤ)))
      → calls_fit helpers.parameters (code_of body) ≡ true
      → Within levels (code_of body)
      → Helps (running g helpers.routines body) (scene g body readings (answers levels))

  -- a helper is the code of the body of its number
  body_found :
      (h : ℕ) (helper : Routine) → slice_get helpers.routines h ≡ Some helper
      → option_map code_of (slice_get bodies h) ≡ Some helper
  body_found h helper named =
      sym (slice_get-map code_of bodies h) ∙ sym (ap (λ rs. slice_get rs h) are.codes) ∙ named

  -- a body that was found has that code
  code_found : (h : ℕ) (body : NumberedBody) → slice_get bodies h ≡ Some body
      → slice_get helpers.routines h ≡ Some (code_of body)
  code_found h body e =
      ap (λ rs. slice_get rs h) are.codes ∙ slice_get-map code_of bodies h ∙ ap (option_map code_of) e

  -- the codes of helpers are valid
  valid_by :
      (h : ℕ) (helper : Routine) (o : Option NumberedBody)
      → slice_get bodies h ≡ o → option_map code_of o ≡ Some helper → IsValid helper
  valid_by h helper None e same = absurd (let bad : None ≡ Some helper = same in cc)
  valid_by h helper (Some body) e same =
      let is : code_of body ≡ helper = (let some : Some (code_of body) ≡ Some helper = same in cc) in
      subst IsValid is (emitted_valid body.widths body.tree (are.fitting h body e))

  all_valid : AreValid helpers
  all_valid h helper named = valid_by h helper (slice_get bodies h) refl (body_found h helper named)

  -- a helper that returned leaves no more fuel than it had
  helper_falls :
      (h : ℕ) (body : NumberedBody) → slice_get bodies h ≡ Some body
      → (values : List ℤ) (fuel : ℕ) (v : ℤ) (d : Config)
      → Ends (running g helpers.routines body) (entry values fuel) (given_back v d) → d.fuel ≤ fuel
  helper_falls h body e values fuel v d runs =
      let named = code_found h body e in
      run_fell g helpers are.helping all_valid (code_of body) (entry values fuel) (given_back v d)
      (all_valid h (code_of body) named)
      (entry_stands (code_of body) values fuel (are.helping.blind h (code_of body) named)) runs

  -- the helper's code ends as its body answers
  body_answers :
      (levels : ℕ) → Helping levels
      → (h : ℕ) (body : NumberedBody) → slice_get bodies h ≡ Some body
      → height h ≤ suc levels
      → (values : List ℤ) → slice_get helpers.parameters h ≡ Some (length values)
      → (fuel : ℕ)
      → AnswerRuns (running g helpers.routines body) (code_of body) values fuel
      (body_gives (Some body) g.constants g.iteration (answers levels) values fuel)
  body_answers levels below h body e low values counted fuel =
      let named = code_found h body e in
      let run = running g helpers.routines body in
      let before = scene g body [] (answers levels) in
      let rows = (entry_stands (code_of body) values fuel (are.helping.blind h (code_of body) named)).rows in
      let within : Within levels (code_of body) = λ p line k n there.
      let lower : height k < height h =
      call_falls are.helping.heights (height h) (code_of body) p line k n (are.helping.bounded h (code_of body) named).1
      there in
      omega (arith, lower, low) in
      let helps = below body [] (are.helping.fitting h (code_of body) named) within in
      let follows : Follows (opened body before (entry values fuel)) (entered values fuel) (entry values fuel) =
      record {
        memory = refl;
        locals = λ k within. entry_read values k;
        sent = refl;
        born = refl;
        fuel = refl;
        readings = refl;
        kept = λ input inside. refl;
        least = omega arith;
        most = omega arith;
      } in
      let many : slice_index helpers.parameters h ≡ length (entered values fuel).locals =
      slice_index-there helpers.parameters h (length values) counted ∙ sym (entry_long values) in
      closed_answers run values fuel (runs_of body.tree before (entered values fuel))
      (helper_falls h body e values fuel)
      (body_closed g helpers.routines body before (entered values fuel) (entry values fuel)
      (begins_sound g helpers.routines body [] (answers levels) (entry values fuel) rows helps) follows
      (are.fitting h body e)
      (subst (λ n. tree_numbered n body.tree ≡ true) many (are.numbered h body e)))

  -- the answer of a helper is the same for every caller
  answers_moved :
      (caller body : NumberedBody) (r : Routine) (values : List ℤ) (fuel : ℕ) (answer : Gave)
      → AnswerRuns (running g helpers.routines body) r values fuel answer
      → AnswerRuns (running g helpers.routines caller) r values fuel answer
  answers_moved caller body r values fuel (gave v left) runs = runs
  answers_moved caller body r values fuel (failed fault) runs = runs

  -- so does the helper that was found
  found_answers :
      (levels : ℕ) → Helping levels
      → (caller : NumberedBody) (h : ℕ) (helper : Routine) (o : Option NumberedBody)
      → slice_get bodies h ≡ o → option_map code_of o ≡ Some helper
      → height h ≤ suc levels
      → (values : List ℤ) → slice_get helpers.parameters h ≡ Some (length values)
      → (fuel : ℕ)
      → AnswerRuns (running g helpers.routines caller) helper values fuel
      (body_gives o g.constants g.iteration (answers levels) values fuel)
  found_answers levels below caller h helper None e same low values counted fuel =
      absurd (let bad : None ≡ Some helper = same in cc)
  found_answers levels below caller h helper (Some body) e same low values counted fuel =
      let is : code_of body ≡ helper = (let some : Some (code_of body) ≡ Some helper = same in cc) in
      subst (λ r. AnswerRuns (running g helpers.routines caller) r values fuel
      (body_gives (Some body) g.constants g.iteration (answers levels) values fuel)) is
      (answers_moved caller body (code_of body) values fuel
      (body_gives (Some body) g.constants g.iteration (answers levels) values fuel)
      (body_answers levels below h body e low values counted fuel))

  -- where no call may be open the code calls none
  none_answered :
      (body : NumberedBody) (line h : ℕ) (helper : Routine) → slice_get helpers.routines h ≡ Some helper
      → height h ≤ 0
      → (values : List ℤ) (fuel : ℕ)
      → Answered (running g helpers.routines body) line h values fuel (answers 0 line h values fuel)
  none_answered body line h helper named low values zero = refl
  none_answered body line h helper named low values (suc fuel) =
      let high = (are.helping.bounded h helper named).0.0 in
      absurd (omega (arith, high, low))

  -- a call ends as its answer says
  call_answered :
      (levels : ℕ) → Helping levels
      → (body : NumberedBody) (line h : ℕ) (helper : Routine) → slice_get helpers.routines h ≡ Some helper
      → height h ≤ suc levels
      → (values : List ℤ) → slice_get helpers.parameters h ≡ Some (length values)
      → (fuel : ℕ)
      → Answered (running g helpers.routines body) line h values fuel (answers (suc levels) line h values fuel)
  call_answered levels below body line h helper named low values counted zero = refl
  call_answered levels below body line h helper named low values counted (suc fuel) = (
    helper,
    named,
    found_answers levels below body h helper (slice_get bodies h) refl (body_found h helper named) low values counted
        fuel,
  )

  -- calls end as they have to, however many may be open
  helping : (levels : ℕ) → Helping levels
  helping zero body readings fit within = record {
    answered = λ p line h n there values long fuel.
        let named = call_named helpers (code_of body) p line h n are.helping fit there in
        none_answered body line h named.0 named.1 (within p line h n there) values fuel;
  }
  helping (suc levels) body readings fit within = record {
    answered = λ p line h n there values long fuel.
        let named = call_named helpers (code_of body) p line h n are.helping fit there in
        call_answered levels (helping levels) body line h named.0 named.1 (within p line h n there) values
        (call_counts helpers.parameters (code_of body) p line h n fit there ∙ ap Some (sym long)) fuel;
  }

  -- no helper has a greater height than there may be
  all_within :
      (body : NumberedBody) → calls_fit helpers.parameters (code_of body) ≡ true → Within deepest_calls (code_of body)
  all_within body fit p line h n there =
      let named = call_named helpers (code_of body) p line h n are.helping fit there in
      (are.helping.bounded h named.0 named.1).0.1

-- the outcome of the body
abbrev outcome_from : List NumberedBody → NumberedBody → Entry → Outcome
outcome_from bodies body from =
    numbered_outcome bodies body from.memory (rows_of from.feeds) from.constants from.iteration from.fuel

-- the code means it
outcome_meant :
    (helpers : HelperCodes) (bodies : List NumberedBody) → AreHelperBodies helpers bodies
    → (body : NumberedBody) (from : Entry) → IsFunctionBody helpers body from
    → Means helpers.routines (code_of body) from (outcome_from bodies body from)
outcome_meant helpers bodies are body from is =
    let g = given from in
    let run = running g helpers.routines body in
    let readings = rows_of from.feeds in
    let all = answers g helpers bodies are deepest_calls in
    let before = scene g body readings all in
    let c = begun from.memory from.feeds from.fuel in
    let helps =
    helping g helpers bodies are deepest_calls body readings is.calling
    (all_within g helpers bodies are body is.calling) in
    let follows : Follows (opened body before c) (start from.memory from.fuel) c =
    record {
      memory = refl;
      locals = λ k within. absurd (let bad : k < 0 = ltb-true k 0 within in omega (arith, bad));
      sent = refl;
      born = refl;
      fuel = refl;
      readings = refl;
      kept = λ input inside. refl;
      least = omega arith;
      most = omega arith;
    } in
    let done =
    closed_finishes run c (runs_of body.tree before (start from.memory from.fuel))
    (body_closed g helpers.routines body before (start from.memory from.fuel) c
    (begins_sound g helpers.routines body readings all c is.entry.rows helps) follows is.fitting is.numbered) in
    record { end = done.0; runs = done.1; same = done.2 }

-- it means that and no other
pub outcomes-run : OutcomesRun
outcomes-run helpers bodies are body from is o =
    let meant = outcome_meant helpers bodies are body from is in (
      λ means. one_meaning helpers.routines (code_of body) from o (outcome_from bodies body from) means meant,
      λ same. subst (λ p. Means helpers.routines (code_of body) from p) (sym same) meant,
    )
