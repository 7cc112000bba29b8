use Rattle.std.proofs.Common.{◌≡◌, ◌∙◌, List, ap, length, map, subst, sym}
use Rattle.std.specs.Prelude.{ℤ}
use Rattle.std.specs.List.{All, filter_map}
use Rattle.flame_rows.specs.Bags.{ascending}
use Rattle.flame_rows.proofs.BagLaws.{ascending-IsAscending}
use Rattle.flame_spec.specs.declared.outcomes.Outcome.{Outcome}
use Rattle.flame_spec.specs.declared.outcomes.Source.{Source}
use Rattle.flame_spec.specs.Columns.{width}
use Rattle.flame_meaning.specs.Outcomes.{place_of, outputs_at}
use Rattle.flame_world.specs.declared.pieces.Rest.{Rest}
use Rattle.flame_world.specs.AgentRuns.{born_from, kept, least_fault, sent_from}
use Rattle.flame_world.specs.Meaning.{outcome_under, part_for}
use Rattle.flame_world.proofs.Eachs.{each_all}
use Rattle.flame_agent.specs.FunctionFits.{FitsFunction}
use Rattle.flame_share.proofs.runs.share_of.Goals as goal

pub run_agents-requires-clause-fits : goal.run_agents-requires-clause-fits
run_agents-requires-clause-fits c =
    let fits = c.requires.fits in
    let wide = each_all (λ (row : List ℤ). length row ≡ width fits.place.type.memory) c.args.piece.agents fits.memories in
    subst
    (All (λ memory. FitsFunction c.args.program.now.model c.args.piece.function c.args.setting memory))
    (sym c.rows-rows.ensures.rows)
    (λ k d less. record {
      place = fits.place;
      there = fits.there;
      wide = wide k d less;
      count = fits.known;
      boards = fits.wide;
    })

pub parts_of-requires : goal.parts_of-requires
parts_of-requires c = record { place = c.requires.fits.place; at = c.requires.fits.there }

pub new-requires : goal.new-requires
new-requires c =
    let left = c.in_ok-leaving.ensures in
    let rows = c.rows-rows.ensures.rows in
    let run : List ℤ → Outcome = outcome_under c.args.setting c.args.piece.function in
    let sent = left.sent ∙ ap (sent_from run) rows in
    let outputs = ap (λ (s : Source). outputs_at (place_of s c.args.piece.function) s.model) (sym c.requires.source) in
    record {
      survivors_are =
          ap (λ (r : Rest). r.survivors) c.in_ok-rest.ensures
          ∙ ap ascending (left.survivors ∙ ap (filter_map (λ m. kept (run m))) rows);
      births_are = ap (λ (r : Rest). r.born) c.in_ok-rest.ensures ∙ left.born ∙ ap (born_from run) rows;
      fault_is =
          ap (λ (r : Rest). r.fault) c.in_ok-rest.ensures
          ∙ left.fault
          ∙ ap (least_fault c.args.setting.iteration c.args.piece.function run)
          (ap ascending rows ∙ ascending-IsAscending c.args.piece.agents c.rows-rows.ensures.order);
      parts_are = c.of.ensures ∙ c.in_ok-parts.ensures ∙ (λ i. map (part_for c.args.piece (sent i)) (outputs i));
    }
