use Rattle.std.proofs.Common.{◌≡◌, ◌<◌, ◌∙◌, ap, sym, subst, length, Some}
use Rattle.std.proofs.lemmas.Option.{slice_get-get_or}
use Rattle.std.specs.Prelude.{slice_index}
use Rattle.flame_spec.specs.declared.outcomes.Source.{Source}
use Rattle.flame_spec.specs.Before.{before, function_count}
use Rattle.flame_spec.specs.Counted.{is_counted}
use Rattle.flame_spec.specs.ModelOrder.{model_order, rank}
use Rattle.flame_spec.proofs.Counts.{has_few}
use Rattle.flame_depend.specs.Edges.{edges_of}
use Rattle.flame_events.proofs.Serial.{order_is_whole}
use Rattle.flame_flow.specs.KeptWays.{has_edge}
use Rattle.flame_flow.proofs.Places.{edges_are}
use Rattle.flame_flow.proofs.ways.ways_of.Goals as goal

pub edges-requires : goal.edges-requires
edges-requires c =
    (has_few c.source-2.result.now.model
    (ap (λ (s : Source). is_counted s.model) (c.source-2.ensures.same ∙ sym c.source.ensures.same) ∙ sym c.if-not-is_counted.ensures)).functions

pub returns : goal.returns
returns c =
    let model = c.args.program.now.model in
    let n = function_count model in
    let same = c.items.ensures ∙ c.in_ok-edges.ensures ∙ ap (λ (s : Source). edges_of s.model) c.source-2.ensures.same in
    record {
      ranks_are = λ f less.
          let within = order_is_whole model c.source.ensures.accepted.ordered f less in
          let at = c.ranks.ensures.at_rank n (before model) f within in
          let is : slice_index c.in_ok-ranks.ranks.items f ≡ rank n (before model) f =
          ap (slice_index c.in_ok-ranks.ranks.items) (sym at.1) ∙ c.in_ok-ranks.ensures (rank n (before model) f) at.0 in
          slice_get-get_or (model_order model) (slice_index c.in_ok-ranks.ranks.items f) 0 (subst (λ r. r < length (model_order model)) (sym is) at.0)
          ∙ ap Some (ap (slice_index (model_order model)) is ∙ at.1);
      next_are = λ f g less.
          c.in_ok-next.ensures f g (subst (λ m. f < m) (sym c.functions.ensures) less) ∙ ap (has_edge f g) same ∙ edges_are model f g less;
    }
