use Rattle.std.proofs.Common.{◌∙◌, List, ap, map, sym}
use Rattle.std.specs.Prelude.{ℤ}
use Rattle.std.specs.List.{filter_map}
use Rattle.flame_rows.specs.Bags.{ascending}
use Rattle.flame_spec.specs.Lists.{first}
use Rattle.flame_spec.specs.declared.outcomes.Outcome.{Outcome}
use Rattle.flame_spec.specs.declared.outcomes.Source.{Source}
use Rattle.flame_meaning.specs.Outcomes.{place_of, outputs_at}
use Rattle.flame_world.specs.AgentRuns.{born_from, fault_by, kept, sent_from}
use Rattle.flame_world.specs.Meaning.{outcome_under, part_for}
use Rattle.flame_case_runs.proofs.shares.share_of.Goals as goal

pub new-requires : goal.new-requires
new-requires c =
    let left = c.in_ok-left.ensures in
    let rows = c.rows.ensures.rows in
    let run : List ℤ → Outcome = outcome_under c.args.setting c.args.piece.function in
    let outputs = c.outputs_of-outputs.ensures
    ∙ ap (λ (s : Source). outputs_at (place_of s c.args.piece.function) s.model) (sym c.requires.source) in
    let sent = c.as_slice.ensures.value ∙ left.sent ∙ ap (sent_from run) rows in
    record {
      survivors_are = c.in_ok-of_rows.ensures ∙ ap ascending (left.kept ∙ ap (filter_map (λ m. kept (run m))) rows);
      births_are = c.of.ensures ∙ left.born ∙ ap (born_from run) rows;
      fault_is =
          c.first_of.ensures
          ∙ ap first
          (left.faults ∙ ap (filter_map (λ m. fault_by c.args.setting.iteration c.args.piece.function m (run m))) rows);
      parts_are = c.of-2.ensures ∙ c.in_ok-parts.ensures ∙ (λ i. map (part_for c.args.piece (sent i)) (outputs i));
    }
