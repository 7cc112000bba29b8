-- What makes a source accepted, and what acceptance gives.
use Rattle.std.proofs.Common.{◌≡◌, ℕ, ◌+◌, Bool, true, false, List, [], ◌∷◌, map, length, Some, refl, sym, ap, ◌∙◌, arith, cond}
use Rattle.std.specs.Prelude.{◌==◌, ◌||◌, slice_get}
use Rattle.std.specs.List.{list_all}
use Rattle.std.specs.Str.{bytes_eq}
use Rattle.std.proofs.lemmas.Bool.{and_from, eqb-true}
use Rattle.std.proofs.lemmas.Bool.Decides.{Decides-eqb}
use Rattle.std.proofs.lemmas.Slice.Eq.{bytes_eq-Decides}
use Rattle.std.proofs.lemmas.Option.{same_Some}
use Rattle.flame_rows.proofs.Lists.{list_all-at, list_all-each}
use Rattle.flame_spec.specs.declared.models.AgentType.{AgentType}
use Rattle.flame_spec.specs.declared.models.MessageType.{MessageType}
use Rattle.flame_spec.specs.declared.outcomes.Source.{Source}
use Rattle.flame_spec.specs.Accepted.{IsAccepted, has_one_start}
use Rattle.flame_spec.specs.Columns.{width}
use Rattle.flame_spec.specs.Functions.{Place, functions}
use Rattle.flame_spec.specs.KnownNames.{is_among, message_names, variables_in}
use Rattle.flame_spec.specs.Lists.{numbered_from}
use Rattle.flame_spec.specs.States.{start_states}
use Rattle.flame_body.specs.FunctionBodies.{NumberedBody, widths_in, helper_bodies}
use Rattle.flame_body.proofs.Columned.{never}
use Rattle.flame_code.specs.HelperCodes.{calls_fit, fits}
use Rattle.flame_code.specs.Routines.{Routine}
use Rattle.flame_depend.specs.Plans.{lone, starts_of}
use Rattle.flame_code_laws.specs.CodeOutcomes.{code_of}
use Rattle.flame_spec_laws.proofs.UsedKnown.{used_declared}
use Rattle.flame_route.specs.ModelRoutes.{ReadMessages}
use Rattle.flame_program.specs.SourceCodes.{function_codes, helper_codes}
use Rattle.flame_program.specs.AcceptanceLaws.{PlannedAreAccepted, IsRunnable, AcceptedAreRunnable}
use Rattle.flame_program.proofs.SourceBodies.{mapped, helper-at, function-is, function-calls}
use Rattle.flame_program.proofs.ProgramOutcomes.{code-at}
use Rattle.flame_program.proofs.TypePlaces.{stands-in}

-- ---- acceptance

-- types whose start states are listed one each have one each
ones : (starts : List (List ℕ)) (types : List AgentType) → map lone starts ≡ map starts_of types → list_all has_one_start types ≡ true
ones [] [] e = refl
ones [] (type ∷ types) e = absurd (cc)
ones (state ∷ starts) [] e = absurd (cc)
ones (state ∷ starts) (type ∷ types) e =
    let first : lone state ≡ starts_of type = cc in
    let more : map lone starts ≡ map starts_of types = cc in
    and_from (has_one_start type) (list_all has_one_start types) (ap (λ states. length states == 1) (sym first))
    (ones starts types more)

pub planned-are-accepted : PlannedAreAccepted
planned-are-accepted source plan formed named checked planned = record {
  formed = formed;
  named = named;
  checked = checked;
  ordered = planned.acyclic;
  started = ones plan.starts source.model.agents planned.starts;
}

-- ---- lists

-- a list of one
one-state : (states : List (List ℕ)) → length states ≡ 1 → (state : List ℕ) × (states ≡ state ∷ [])
one-state [] one = absurd (omega (arith, one))
one-state (state ∷ []) one = (state, refl)
one-state (state ∷ other ∷ states) one = absurd (omega (arith, one))

-- a message that is declared is found by its name
found-by-name :
    (from : ℕ) (messages : List MessageType) (name : List ℕ)
    → is_among name (message_names messages) ≡ true
    → (found : ℕ × MessageType) × (numbered_from (λ message. bytes_eq message.name name) from messages ≡ Some found)
found-by-name from [] name among = absurd (cc)
found-by-name from (message ∷ messages) name among =
    by_test (bytes_eq message.name name) refl (found-by-name (from + 1) messages name)
  where
    later :
        (b : Bool) → bytes_eq name message.name ≡ b → bytes_eq message.name name ≡ false
        → (b || is_among name (message_names messages)) ≡ true
        → is_among name (message_names messages) ≡ true
    later false same differs h = h
    later true same differs h =
        let equal : name ≡ message.name = (bytes_eq-Decides name message.name).0 same in
        never (sym differs ∙ (bytes_eq-Decides message.name name).1 (sym equal))

    by_test :
        (b : Bool) → bytes_eq message.name name ≡ b
        → (is_among name (message_names messages) ≡ true
        → (found : ℕ × MessageType)
        × (numbered_from (λ message. bytes_eq message.name name) (from + 1) messages ≡ Some found))
        → (found : ℕ × MessageType)
        × (numbered_from (λ message. bytes_eq message.name name) from (message ∷ messages) ≡ Some found)
    by_test true is more = (
      (from, message),
      ap (λ b. cond b (Some (from, message)) (numbered_from (λ m. bytes_eq m.name name) (from + 1) messages)) is,
    )
    by_test false is more =
        let behind = more (later (bytes_eq name message.name) refl is among) in (
          behind.0,
          ap (λ b. cond b (Some (from, message)) (numbered_from (λ m. bytes_eq m.name name) (from + 1) messages)) is
              ∙ behind.1,
        )

-- its variables are those of the name
pub variables-found :
    (from : ℕ) (messages : List MessageType) (name : List ℕ) (found : ℕ × MessageType)
    → numbered_from (λ message. bytes_eq message.name name) from messages ≡ Some found
    → variables_in messages name ≡ found.1.variables
variables-found from [] name found is = absurd (cc)
variables-found from (message ∷ messages) name found is =
    by_test (bytes_eq message.name name) refl is (variables-found (from + 1) messages name found)
  where
    by_test :
        (b : Bool) → bytes_eq message.name name ≡ b
        → cond b (Some (from, message)) (numbered_from (λ m. bytes_eq m.name name) (from + 1) messages) ≡ Some found
        → (numbered_from (λ m. bytes_eq m.name name) (from + 1) messages ≡ Some found
        → variables_in messages name ≡ found.1.variables)
        → variables_in (message ∷ messages) name ≡ found.1.variables
    by_test true same h more =
        let equal : message.name ≡ name = (bytes_eq-Decides message.name name).0 same in
        let this : (from, message) ≡ found = same_Some (from, message) found h in
        ap (λ b. cond b message.variables (variables_in messages name))
        ((bytes_eq-Decides name message.name).1 (sym equal))
        ∙ ap (λ (f : ℕ × MessageType). f.1.variables) this
    by_test false same h more =
        ap (λ b. cond b message.variables (variables_in messages name)) (differs (bytes_eq name message.name) refl)
        ∙ more h
      where
        differs : (b : Bool) → bytes_eq name message.name ≡ b → bytes_eq name message.name ≡ false
        differs false other = other
        differs true other =
            let equal : name ≡ message.name = (bytes_eq-Decides name message.name).0 other in
            never (sym same ∙ (bytes_eq-Decides message.name name).1 (sym equal))

-- ---- what acceptance gives

module _ (source : Source) (accepted : IsAccepted source) where
  -- the code of a function sees the rows that its body sees
  code-widths :
      (function : ℕ) (place : Place) (code : Routine)
      → slice_get (functions source.model) function ≡ Some place
      → slice_get (function_codes source) function ≡ Some code
      → code.widths ≡ widths_in source.model (Some place)
  code-widths function place code there at =
      let c = code-at source function code at in
      let same : c.place ≡ place = same_Some c.place place (sym c.there ∙ there) in
      ap (λ (r : Routine). r.widths) c.is ∙ ap (λ p. widths_in source.model (Some p)) same

  -- each helper sees as many constants as the code of a function
  constants-alike :
      (function : ℕ) (code : Routine)
      → slice_get (function_codes source) function ≡ Some code
      → list_all (λ (helper : Routine). helper.widths.constants == code.widths.constants) (helper_codes source).routines ≡ true
  constants-alike function code at = list_all-each
      (λ (helper : Routine). helper.widths.constants == code.widths.constants) (helper_codes source).routines one
    where
      one :
          (h : ℕ) (helper : Routine) → slice_get (helper_codes source).routines h ≡ Some helper
          → (helper.widths.constants == code.widths.constants) ≡ true
      one h helper found =
          let m = mapped code_of (helper_bodies source.model source.units) h helper found in
          let d = helper-at source.model source.units accepted.checked h m.from m.there in
          let c = code-at source function code at in
          let theirs : helper.widths.constants ≡ length source.model.constants =
          ap (λ (r : Routine). r.widths.constants) m.is ∙ ap (λ (b : NumberedBody). b.widths.constants) d.is in
          let its : code.widths.constants ≡ length source.model.constants =
          ap (λ (r : Routine). r.widths.constants) c.is in
          (Decides-eqb helper.widths.constants code.widths.constants).1 (theirs ∙ sym its)

  -- its calls are of the helpers
  code-fits :
      (function : ℕ) (code : Routine)
      → slice_get (function_codes source) function ≡ Some code
      → fits (helper_codes source) code ≡ true
  code-fits function code at =
      let c = code-at source function code at in
      let is = function-is source.model source.units accepted.checked function c.place c.there in
      and_from (calls_fit (helper_codes source).parameters code) _
      (ap (calls_fit (helper_codes source).parameters) c.is
      ∙ function-calls source.model source.units accepted.checked function c.place is)
      (constants-alike function code at)

  pub runnable : IsRunnable source
  runnable = record {
    starts = λ agent type at.
        one-state (start_states type.functions)
        (eqb-true (length (start_states type.functions)) 1
        (list_all-at has_one_start source.model.agents agent type accepted.started at));
    widths = code-widths;
    calls = code-fits;
    reads = λ function input place form there at.
        let s = stands-in source.model function place there in
        let known =
        used_declared source.model place.agent s.number place.type place.function accepted.named s.type s.function in
        let named = found-by-name 0 source.model.messages form.message (known.inputs input form at).message in
        record {
          found = named.0;
          named = named.1;
          wide = ap width (variables-found 0 source.model.messages form.message named.0 named.1);
        };
  }

pub accepted-are-runnable : AcceptedAreRunnable
accepted-are-runnable source accepted = runnable source accepted

-- the inputs of an accepted source's functions read messages of its model
pub messages-read : (source : Source) → IsAccepted source → ReadMessages source.model
messages-read source accepted function place at = record {
  each = λ i input there.
      let reads = (accepted-are-runnable source accepted).reads function i place input at there in
      record { found = reads.found; named = reads.named };
}
