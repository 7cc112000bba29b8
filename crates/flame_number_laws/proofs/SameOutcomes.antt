-- Calls of helpers end, and functions come out, the same with numbers in place of names.
use Rattle.std.proofs.Common.{◌≡◌, ℕ, zero, suc, true, List, [], ◌∷◌, ◌++◌, map, length, Some, None, refl, sym, ap, ◌∙◌, subst, arith}
use Rattle.std.specs.Prelude.{ℤ, slice_get, reverse, option_map}
use Rattle.std.specs.List.{list_any}
use Rattle.std.specs.Str.{bytes_eq}
use Rattle.std.proofs.lemmas.List.{reverse-append, append_assoc, append-nil}
use Rattle.flame_spec.specs.declared.models.Model.{Model}
use Rattle.flame_spec.specs.declared.models.MessageType.{MessageType}
use Rattle.flame_spec.specs.declared.trees.Parameter.{Parameter}
use Rattle.flame_spec.specs.declared.trees.Unit as file
use Rattle.flame_spec.specs.CheckFaults.{check_faults}
use Rattle.flame_spec.specs.Definitions.{Definition, helpers, helper_named, body_of}
use Rattle.flame_spec.specs.HelperFaults.{helper_context, deepest_calls}
use Rattle.flame_spec.specs.Scopes.{Context, Sight, is_over, at_entry, after_parameters, after_name}
use Rattle.flame_spec.specs.StatementFaults.{parameters_faults, statements_faults}
use Rattle.flame_body.specs.declared.slots.SlotStmt.{SlotStmt}
use Rattle.flame_body.specs.FunctionBodies.{widths_in, helper_body, helper_bodies}
use Rattle.flame_body.proofs.Columned.{numbered-at}
use Rattle.flame_body.proofs.NumberedBodies.{bodies-by-number}
use Rattle.flame_meaning.specs.Scenes.{Scene, Local}
use Rattle.flame_meaning.specs.Ends.{End, went_on, broke, continued, returned, faulted}
use Rattle.flame_meaning.specs.Statements.{meanings}
use Rattle.flame_meaning.specs.HelperCalls.{gives, parameter_locals, helper_scene, entered as entered_named, calls_within}
use Rattle.flame_meaning.specs.Outcomes.{start, finished, scene_of, outcome_at}
use Rattle.flame_meaning.specs.Agreement.{Agrees}
use Rattle.flame_meaning.specs.AcceptedMeaning.{place_in}
use Rattle.flame_meaning.proofs.Agreeing.{function_begins, helper_begins}
use Rattle.flame_meaning.proofs.Checked.{function_checked, helper_checked}
use Rattle.flame_number_laws.specs.NumberedScenes.{NumberedScene, nameless}
use Rattle.flame_number_laws.specs.NumberedMeaning.{runs_of}
use Rattle.flame_number_laws.specs.NumberedOutcomes.{beginning, entered, body_gives, answers_within, helper_answers}
use Rattle.flame_number_laws.specs.NumberedLaws.{OutcomesAreNumbered}
use Rattle.flame_number_laws.proofs.BaredLocals.{bare}
use Rattle.flame_number_laws.proofs.BaredEnds.{bared, bared_end}
use Rattle.flame_number_laws.proofs.SameWords.{Matches}
use Rattle.flame_number_laws.proofs.SameStatements.{statements-same}

gives-bared : (e : End) → gives (bared_end e) ≡ gives e
gives-bared (went_on s) = refl
gives-bared (broke s) = refl
gives-bared (continued s) = refl
gives-bared (returned v s) = refl
gives-bared (faulted fault) = refl

finished-bared : (e : End) → finished (bared_end e) ≡ finished e
finished-bared (went_on s) = refl
finished-bared (broke s) = refl
finished-bared (continued s) = refl
finished-bared (returned v s) = refl
finished-bared (faulted fault) = refl

-- the parameters are the values of the arguments, the newest first
parameters-bare :
    (parameters : List Parameter) (values : List ℤ) (locals : List Local)
    → length values ≡ length parameters
    → bare (parameter_locals parameters values locals) ≡ reverse (map nameless values) ++ bare locals
parameters-bare [] [] locals h = refl
parameters-bare [] (v ∷ values) locals h = absurd (omega (arith, h))
parameters-bare (parameter ∷ more) [] locals h = absurd (omega (arith, h))
parameters-bare (parameter ∷ more) (v ∷ values) locals h =
    parameters-bare more values (record { name = parameter.name; value = v } ∷ locals) (omega (arith, h))
    ∙ sym (reverse-more (nameless v) (map nameless values) (bare locals))
  where
    reverse-more : (x : Local) (xs ys : List Local) → reverse (x ∷ xs) ++ ys ≡ reverse xs ++ x ∷ ys
    reverse-more x xs ys = ap (λ l. l ++ ys) (reverse-append (x ∷ []) xs) ∙ append_assoc (reverse xs) (x ∷ []) ys

entered-bare :
    (parameters : List Parameter) (values : List ℤ) (fuel : ℕ)
    → length values ≡ length parameters
    → bared (entered_named parameters values fuel) ≡ entered values fuel
entered-bare parameters values fuel h =
    ap (λ l. record { memory = []; locals = l; sent = []; born = []; fuel = fuel })
    (parameters-bare parameters values [] h ∙ append-nil (reverse (map nameless values)))

parameters-loops : (sight : Sight) (parameters : List Parameter) → (after_parameters sight parameters).loops ≡ sight.loops
parameters-loops sight [] = refl
parameters-loops sight (parameter ∷ parameters) = parameters-loops (after_name sight parameter.name) parameters

-- no loop is opens
no-loop : (message : MessageType) → list_any (is_over message) [] ≡ true → ⊥
no-loop message h = cc

-- the helper of a name has its number
helper-there :
    (hs : List Definition) (word : List ℕ) (found : ℕ × Definition)
    → helper_named hs word ≡ Some found
    → slice_get hs found.0 ≡ Some found.1
helper-there hs word found is =
    let at = numbered-at (λ (d : Definition). bytes_eq d.name word) 0 hs found.0 found.1 is in
    let number : found.0 ≡ at.place = omega (arith, at.number) in
    ap (slice_get hs) number ∙ at.there

module _ (model : Model) (units : List file.Unit) (none : check_faults model units ≡ []) where
  -- how a call of a helper that is found ends
  pub answers-same :
      (levels : ℕ) (constants : List ℤ) (iteration : ℤ) (word : List ℕ) (found : ℕ × Definition) (line : ℕ)
      (values : List ℤ) (fuel : ℕ)
      → helper_named (helpers model units) word ≡ Some found
      → length values ≡ length found.1.parameters
      → answers_within levels (helper_bodies model units) constants iteration line found.0 values fuel
      ≡ calls_within levels model (helpers model units) constants iteration line found.1 values fuel
  answers-same zero constants iteration word found line values zero is fit = refl
  answers-same (suc levels) constants iteration word found line values zero is fit = refl
  answers-same zero constants iteration word found line values (suc fuel) is fit = refl
  answers-same (suc levels) constants iteration word found line values (suc fuel) is fit =
      ap (λ o. body_gives o constants iteration (answers_within levels (helper_bodies model units) constants iteration) values fuel)
      (bodies-by-number.helper_at model units found.0 ∙ ap (option_map (helper_body model units found.0)) there)
      ∙ ap (λ s. gives (runs_of tree before s)) (sym (entered-bare d.parameters values fuel fit))
      ∙ ap gives (sym (statements-same place here scene before (entered_named d.parameters values fuel) d.body agrees
      (matches (λ other x l vs f h n. answers-same levels constants iteration other x l vs f h n)) checked.1))
      ∙ gives-bared (meanings d.body scene (entered_named d.parameters values fuel))
    where
      d : Definition
      d = found.1

      there : slice_get (helpers model units) found.0 ≡ Some found.1
      there = helper-there (helpers model units) word found is

      place : Context
      place = helper_context model (helpers model units) d

      here : Sight
      here = after_parameters at_entry d.parameters

      scene : Scene
      scene = helper_scene model (helpers model units) constants iteration (calls_within levels model (helpers model units) constants iteration)

      tree : List SlotStmt
      tree = (helper_body model units found.0 d).tree

      before : NumberedScene
      before =
          beginning (widths_in model None) constants iteration []
          (answers_within levels (helper_bodies model units) constants iteration)

      checked : (parameters_faults place at_entry d.parameters ≡ []) × (statements_faults place here d.body ≡ [])
      checked = helper_checked model units none d found.0 there

      agrees : Agrees place here scene (entered_named d.parameters values fuel)
      agrees =
          helper_begins model (helpers model units) d values constants iteration
          (calls_within levels model (helpers model units) constants iteration) fuel checked.0

      Answered : Type 0
      Answered =
          (other : List ℕ) (x : ℕ × Definition) (l : ℕ) (vs : List ℤ) (f : ℕ)
          → helper_named (helpers model units) other ≡ Some x
          → length vs ≡ length x.1.parameters
          → answers_within levels (helper_bodies model units) constants iteration l x.0 vs f
          ≡ calls_within levels model (helpers model units) constants iteration l x.1 vs f

      matches : Answered → Matches place here.loops scene before
      matches more =
          subst (λ loops. Matches place loops scene before) (sym (parameters-loops at_entry d.parameters))
          (record {
            widths = refl;
            constants = refl;
            same_iteration = refl;
            readings = refl;
            inputs = λ message opens. absurd (no-loop message opens);
            current_rows = λ number message named opens. absurd (no-loop message opens);
            answers = more;
          })

-- a function comes out as its numbered body does
pub outcomes-are-numbered : OutcomesAreNumbered
outcomes-are-numbered source function place memory readings constants iteration fuel none listed =
    ap (λ o. outcome_at o source memory readings constants iteration fuel) listed
    ∙ sym (finished-bared (meanings (body_of source.units place.function) scene (start memory fuel)))
    ∙ ap finished (statements-same at at_entry scene before (start memory fuel) (body_of source.units place.function) agrees matches checked.1)
  where
    checked : (number : ℕ) × (statements_faults (place_in source.model source.units place number) at_entry (body_of source.units place.function) ≡ [])
    checked = function_checked source.model source.units none place function listed

    at : Context
    at = place_in source.model source.units place checked.0

    scene : Scene
    scene = scene_of source place readings constants iteration

    before : NumberedScene
    before =
        beginning (widths_in source.model (Some place)) constants iteration readings
        (helper_answers (helper_bodies source.model source.units) constants iteration)

    agrees : Agrees at at_entry scene (start memory fuel)
    agrees = function_begins source place checked.0 memory readings constants iteration fuel

    matches : Matches at [] scene before
    matches = record {
      widths = refl;
      constants = refl;
      same_iteration = refl;
      readings = refl;
      inputs = λ message opens. absurd (no-loop message opens);
      current_rows = λ number message named opens. absurd (no-loop message opens);
      answers = λ other x l vs f h n. answers-same source.model source.units none deepest_calls constants iteration other x l vs f h n;
    }
