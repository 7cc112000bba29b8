-- The functions of a layer may be opened when it begins.
use Rattle.std.proofs.Common.{◌≡◌, ℕ, ◌<◌, true, List, Option, sym, ap, ◌∙◌, arith}
use Rattle.std.specs.List.{list_all}
use Rattle.std.proofs.lemmas.Bool.{and_from, lt-ltb}
use Rattle.std.proofs.lemmas.Option.{slice_get_within}
use Rattle.flame_rows.proofs.Lists.{slice_get-some}
use Rattle.flame_spec.specs.Accepted.{IsAccepted}
use Rattle.flame_spec.specs.Before.{before, function_count}
use Rattle.flame_spec.specs.Below.{is_in}
use Rattle.flame_spec.specs.Functions.{functions}
use Rattle.flame_world.specs.Fields.{Field}
use Rattle.flame_world.specs.Iterations.{Round}
use Rattle.flame_events.specs.declared.events.Event.TheVariants as event
use Rattle.flame_events.specs.CoreStates.{is_waiting, is_shut, status_of, is_frozen}
use Rattle.flame_events.specs.LegalEvents.{predecessors, inputs_at, inputs_of, outputs_of, writers, are_shut, is_legal}
use Rattle.flame_events.proofs.Weights.{Rows}
use Rattle.flame_events.proofs.Spots.{input_named, writes_before}
use Rattle.flame_events.proofs.GoingOn.{list_all-is_in}
use Rattle.flame_layers.specs.declared.stops.Stop.{Stop}
use Rattle.flame_layers.specs.LayerStates.{HasComeTo}
use Rattle.flame_layers.proofs.WantedFunctions.{below_in, wanted_closed, still_is_wanted, layers_rise, wanted_in, IsHere, is_here}

module _ (round : Round) (agents : List Rows) (here : ℕ) (stop : Option Stop) (field : Field) (accepted : IsAccepted round.source)
    (come : HasComeTo round agents here stop field) (f : ℕ) (within : is_in f (wanted_in round.source.model come.core here) ≡ true) where
  own : IsHere round.source.model come.core here f
  own = is_here round.source.model come.core here f within

  shut_before : (g : ℕ) → g < function_count round.source.model → before round.source.model g f ≡ true → is_shut (status_of come.core g) ≡ true
  shut_before g less stands =
      let model = round.source.model in
      come.earlier g (omega (arith, own.layer_is, layers_rise model g f accepted.ordered less own.below stands))
      (ap (is_in g) (still_is_wanted model come.core stop come.rank_is) ∙ wanted_closed model come.core f g own.wants less stands)

  pub fed_here : list_all (is_frozen come.core) (inputs_of round.source.model f) ≡ true
  fed_here =
      let model = round.source.model in
      let place = slice_get-some (functions model) f own.below in
      list_all-is_in (is_frozen come.core) (inputs_of model f)
      (λ m reads.
      let input = input_named model place.0 m (sym (ap (λ o. is_in m (inputs_at o model)) place.1) ∙ reads) in
      come.frozen m (slice_get_within model.messages m input.named.message input.named.there)
      (list_all-is_in (λ g. is_shut (status_of come.core g)) (writers model m)
      (λ g writes.
      let writer = below_in (λ g. is_in m (outputs_of model g)) (function_count model) g writes in
      shut_before g writer.0 (writes_before model g f m writer.0 own.below writer.1 reads))))

  pub may_open_here : is_legal round.source.model come.core (event.Open f) ≡ true
  may_open_here =
      let model = round.source.model in
      let shut : are_shut come.core (predecessors model f) ≡ true =
      list_all-is_in (λ g. is_shut (status_of come.core g)) (predecessors model f)
      (λ g earlier. let both = below_in (λ g. before model g f) (function_count model) g earlier in shut_before g both.0 both.1) in
      and_from _ _ (and_from _ _ (and_from _ _ (lt-ltb f (function_count model) own.below) (ap is_waiting (come.later f own.below (omega (arith, own.layer_is))))) shut) fed_here
