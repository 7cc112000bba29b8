-- An accepted source that can be numbered can be read by columns, and its inputs read messages.
use Rattle.std.proofs.Common.{◌∙◌, map, ap, sym, subst}
use Rattle.flame_cond.specs.Said.{AreConditionsOf}
use Rattle.flame_code_laws.specs.CodeOutcomes.{code_of}
use Rattle.flame_program.specs.SourceInputs.{AreSelectors}
use Rattle.flame_program.proofs.Acceptances.{messages-read}
use Rattle.flame_program.proofs.Readables.{readable}
use Rattle.flame_program.proofs.parts.parts_by.Goals as goal

pub conditions_of-requires-clause-readable : goal.conditions_of-requires-clause-readable
conditions_of-requires-clause-readable c =
    readable c.args.source.now c.requires.accepted c.requires.counted

pub selectors_of-requires-clause-readable : goal.selectors_of-requires-clause-readable
selectors_of-requires-clause-readable c =
    readable c.args.source.now c.requires.accepted c.requires.counted

pub of-requires : goal.of-requires
of-requires c = messages-read c.args.source.now c.requires.accepted

pub returns : goal.returns
returns c =
    let model = c.args.source.now.model in
    record {
      coded = c.of-2.ensures ∙ c.in_ok-codes.ensures ∙ ap (map code_of) c.requires.bodies;
      helping = c.in_ok-helpers.ensures;
      conditioned =
          subst (λ conditions. AreConditionsOf conditions model) (sym c.of-3.ensures) c.in_ok-conditions.ensures;
      read = subst (λ selectors. AreSelectors model selectors) (sym c.of-4.ensures) c.in_ok-selectors.ensures;
      routed = c.in_ok-routes.ensures;
    }
