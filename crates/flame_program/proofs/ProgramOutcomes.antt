-- The code of a function of an accepted source means the function's outcome.
use Rattle.std.proofs.Common.{◌≡◌, ℕ, Some, sym, ap, ◌∙◌, subst, refl}
use Rattle.std.specs.Prelude.{slice_get}
use Rattle.flame_spec.specs.declared.outcomes.Source.{Source}
use Rattle.flame_spec.specs.Functions.{Place, functions}
use Rattle.flame_body.specs.FunctionBodies.{NumberedBody, function_body, function_bodies, helper_bodies}
use Rattle.flame_body.proofs.NumberedBodies.{bodies-by-number}
use Rattle.flame_code.specs.InputRows.{rows_of}
use Rattle.flame_code.specs.Meanings.{FitsEntry, Means}
use Rattle.flame_code.specs.Routines.{Routine}
use Rattle.flame_code_laws.specs.CodeOutcomes.{code_of}
use Rattle.flame_code_laws.proofs.Outcomes.{outcomes-run}
use Rattle.flame_number_laws.proofs.SameOutcomes.{outcomes-are-numbered}
use Rattle.flame_program.specs.SourceCodes.{function_codes, helper_codes}
use Rattle.flame_program.specs.ProgramMeaning.{ProgramsMean}
use Rattle.flame_program.proofs.SourceBodies.{mapped, was-mapped, helper-bodies, function-is, function-fits, function-numbered, function-calls}

-- the code is that of the function's body
pub record CodeAt (source : Source) (function : ℕ) (code : Routine) : Type 0 where
  pub place : Place
  pub there : slice_get (functions source.model) function ≡ Some place
  pub is : code ≡ code_of (function_body source.model source.units function place)

pub code-at :
    (source : Source) (function : ℕ) (code : Routine)
    → slice_get (function_codes source) function ≡ Some code
    → CodeAt source function code
code-at source function code at =
    let m = mapped code_of (function_bodies source.model source.units) function code at in
    let p =
    was-mapped (function_body source.model source.units function) (slice_get (functions source.model) function)
    (functions source.model) function m.from refl
    (sym (bodies-by-number.function_at source.model source.units function) ∙ m.there) in
    record { place = p.from; there = p.there; is = m.is ∙ ap code_of p.is }

pub programs-mean : ProgramsMean
programs-mean source function code from o accepted at fits =
    let c = code-at source function code at in
    let body : NumberedBody = function_body source.model source.units function c.place in
    let is = function-is source.model source.units accepted.checked function c.place c.there in
    let entry : FitsEntry (code_of body) from = subst (λ r. FitsEntry r from) c.is fits in
    let runs =
    outcomes-run (helper_codes source) (helper_bodies source.model source.units)
    (helper-bodies source.model source.units accepted.checked) body from
    (record {
      fitting = function-fits source.model source.units accepted.checked function c.place is;
      numbered = function-numbered source.model source.units accepted.checked function c.place is;
      calling = function-calls source.model source.units accepted.checked function c.place is;
      entry = entry;
    }) o in
    let same =
    outcomes-are-numbered source function c.place from.memory (rows_of from.feeds) from.constants from.iteration from.fuel
    accepted.checked c.there in (
      λ means. runs.0 (subst (λ r. Means (helper_codes source).routines r from o) c.is means) ∙ sym same,
      λ outcome. subst (λ r. Means (helper_codes source).routines r from o) (sym c.is) (runs.1 (outcome ∙ same)),
    )
