-- The codes of an accepted source's helpers are helpers of one another.
use Rattle.std.proofs.Common.{◌≡◌, ℕ, List, map, length, ap, sym, ◌∙◌, subst}
use Rattle.flame_spec.specs.Definitions.{Definition}
use Rattle.flame_code.specs.HelperCodes.{AreHelpers}
use Rattle.flame_code.specs.Routines.{Routine}
use Rattle.flame_code_laws.specs.CodeOutcomes.{code_of}
use Rattle.flame_program.specs.SourceCodes.{helper_codes}
use Rattle.flame_program.proofs.SourceBodies.{helper-bodies}
use Rattle.flame_program.proofs.parts.helpers_of.Goals as goal

pub make-requires : goal.make-requires
make-requires c =
    let source = c.args.source.now in
    let own = helper_codes source in
    let codes : c.of.result ≡ own.routines =
    c.of.ensures ∙ c.in_ok-codes.ensures ∙ ap (map code_of) c.requires.bodies in
    let parameters : c.of-2.result ≡ own.parameters =
    c.of-2.ensures ∙ c.in_ok-parameters.ensures ∙ ap (map (λ (d : Definition). length d.parameters)) c.requires.functions in
    let With : List Routine → List ℕ → Type 0 = λ rs ps. AreHelpers (record { routines = rs; parameters = ps }) in
    subst (λ rs. With rs c.of-2.result) (sym codes)
    (subst (λ ps. With own.routines ps) (sym parameters)
    (helper-bodies source.model source.units c.requires.accepted.checked).helping)
