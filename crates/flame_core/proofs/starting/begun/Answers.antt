-- A core begins.
use Rattle.std.proofs.Common.{List, ap, map, subst, sym, ◌∙◌}
use Rattle.std.specs.Prelude.{slice_index_or}
use Rattle.flame_spec.specs.Functions.{functions}
use Rattle.flame_pieces.specs.declared.statuses.Status.{Status}
use Rattle.flame_pieces.specs.declared.statuses.Status.TheVariants as is
use Rattle.flame_pieces.specs.KeptStatuses.{status_of, HasOutputs}
use Rattle.flame_core.proofs.Openings.{all_wait, none_has}
use Rattle.flame_core.proofs.starting.begun.Goals as goal

pub returns-clause-core : goal.returns-clause-core
returns-clause-core c =
    let statuses = ap (map status_of) c.in_ok-statuses.ensures.statuses
    ∙ all_wait c.functions.result (functions c.args.program.now.model) c.functions.ensures in
    λ i. record {
      statuses = statuses i;
      field = c.in_ok-field.ensures.field i;
      frozen = c.in_ok-field.ensures.marks i;
    }

pub returns-clause-outputs : goal.returns-clause-outputs
returns-clause-outputs c = λ f outputs.
    let P : List Status → Type 0 = λ l. HasOutputs outputs (slice_index_or l f is.Waiting) in
    subst P (sym c.in_ok-statuses.ensures.statuses) (none_has c.functions.result f outputs)
