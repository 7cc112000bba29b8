-- From a layer to the next.
use Rattle.std.proofs.Common.{◌≡◌, ℕ, ◌+◌, ◌<◌, ◌≤◌, ⊎_elim, true, false, List, length, map, Option, Some, None, refl, sym, ap, ◌∙◌, arith, subst}
use Rattle.std.specs.Prelude.{◌==◌, slice_index_or, option_map}
use Rattle.std.specs.Option.{option_or}
use Rattle.std.specs.List.{filter}
use Rattle.std.proofs.lemmas.Bool.{cases_eq, eq-eqb, true≢false}
use Rattle.std.proofs.lemmas.Option.{none-some}
use Rattle.flame_spec.specs.Accepted.{IsAccepted}
use Rattle.flame_spec.specs.Before.{function_count}
use Rattle.flame_spec.specs.Below.{is_in}
use Rattle.flame_spec.specs.ModelOrder.{model_order}
use Rattle.flame_spec_laws.specs.NameLaws.{MessagesDiffer}
use Rattle.flame_world.specs.declared.faults.SimFault.{SimFault}
use Rattle.flame_world.specs.AgentRuns.{least_fault}
use Rattle.flame_world.specs.Fields.{Field}
use Rattle.flame_world.specs.Iterations.{Round, outcome_in}
use Rattle.flame_events.specs.CoreEnds.{first_fault, least_fault_rank, wanted}
use Rattle.flame_events.specs.CoreStates.{Waiting, is_shut, fault_of, Core, status_of}
use Rattle.flame_events.specs.EventSteps.{done_with}
use Rattle.flame_events.proofs.Weights.{Rows}
use Rattle.flame_layers.specs.declared.stops.Stop.{Stop}
use Rattle.flame_layers.specs.LayerFields.{takers_in, all_takers, brought_by_all, layer_field, first_stop, layer_stop}
use Rattle.flame_layers.specs.LayerFunctions.{layer_of, still_run, runs_in_layer}
use Rattle.flame_layers.specs.LayerLaws.{LayersLeadOn}
use Rattle.flame_layers.specs.LayerStates.{HasComeTo}
use Rattle.flame_layers.proofs.FaultedStops.{faults_in, stop_in, stop_fault, stop_rank, core_stop, stop_next, first_stop_is}
use Rattle.flame_layers.proofs.WantedFunctions.{AreApart, not_in, to_filter, unfaulted_none, unfaulted_fewer, still_is_wanted, wanted_in, here_apart, is_here}
use Rattle.flame_layers.proofs.LayerOpenings.{fed_here, may_open_here}
use Rattle.flame_layers.proofs.OpenedLayers.{AreOpened, all_takers_are, open_all}
use Rattle.flame_layers.proofs.LayerRuns.{HaveRun, run_all}
use Rattle.flame_layers.proofs.FrozenLayers.{AreFrozen, freeze_all}

done_fault : (o : Option SimFault) → fault_of (done_with o) ≡ o
done_fault None = refl
done_fault (Some fault) = refl

module _ (differ : MessagesDiffer) (round : Round) (bags : List Rows) (here : ℕ) (stop : Option Stop) (field : Field) (accepted : IsAccepted round.source)
    (has_bags : length bags ≡ length round.source.model.agents) (come : HasComeTo round bags here stop field) where
  abbrev core : Core
  core = come.core

  abbrev order : List ℕ
  order = model_order round.source.model

  -- the functions that run
  abbrev fs : List ℕ
  fs = wanted_in round.source.model come.core here

  abbrev taken : ℕ → Rows
  taken g = takers_in round g come.core.field

  abbrev fault_now : ℕ → Option SimFault
  fault_now g = least_fault round.iteration g (outcome_in round g come.core.field) (taken g)

  apart : AreApart fs
  apart = here_apart round.source.model come.core here

  -- ---- what happens

  all_opened : (next : Core) × AreOpened round bags core core fs next
  all_opened =
      open_all round bags core core fs
      (record { accepted = accepted; has_bags = has_bags; events = come.events; leads = come.leads; other_events = come.events; other_leads = come.leads })
      apart (λ f within. may_open_here round bags here stop field accepted come f within)

  all_ran : (next : Core) × HaveRun differ round bags core taken all_opened.0 fs next
  all_ran =
      run_all differ round bags core taken all_opened.0 fs all_opened.1.both apart all_opened.1.marks
      (λ f within. ((is_here round.source.model core here f within).below, fed_here round bags here stop field accepted come f within, all_opened.1.begun f within))

  all_frozen : (next : Core) × AreFrozen round bags core all_ran.0 (length round.source.model.messages) next
  all_frozen = freeze_all round bags core all_ran.0 (length round.source.model.messages) all_ran.1.both (omega arith)

  abbrev last : Core
  last = all_frozen.0

  -- ---- how far the functions are then

  status_else : (g : ℕ) → is_in g fs ≡ false → status_of last g ≡ status_of core g
  status_else g out = ap (λ l. slice_index_or l g Waiting) all_frozen.1.statuses ∙ all_ran.1.others g out ∙ all_opened.1.others g out

  status_here : (g : ℕ) → is_in g fs ≡ true → status_of last g ≡ done_with (fault_now g)
  status_here g within = ap (λ l. slice_index_or l g Waiting) all_frozen.1.statuses ∙ all_ran.1.done g within

  faults_here : (g : ℕ) → is_in g fs ≡ true → faults_in last g ≡ fault_now g
  faults_here g within = ap fault_of (status_here g within) ∙ done_fault (fault_now g)

  out_of_layer : (g : ℕ) → (layer_of round.source.model g ≡ here → ⊥) → is_in g fs ≡ false
  out_of_layer g apart = not_in g fs (λ within. apart (is_here round.source.model core here g within).layer_is)

  faults_stay : (g : ℕ) (fault : SimFault) → faults_in core g ≡ Some fault → faults_in last g ≡ Some fault
  faults_stay g fault is =
      let out : is_in g fs ≡ false =
      not_in g fs (λ within. none-some fault (sym (unfaulted_none core g order (is_here round.source.model core here g within).wants) ∙ is)) in
      ap fault_of (status_else g out) ∙ is

  faults_else : (g : ℕ) → (layer_of round.source.model g == here) ≡ false → faults_in last g ≡ faults_in core g
  faults_else g else =
      ap fault_of (status_else g (out_of_layer g (λ same. true≢false (sym (eq-eqb (layer_of round.source.model g) here same) ∙ else))))

  -- ---- the field, and where it stops

  takers_are : all_takers round fs core.field ≡ map taken fs
  takers_are = all_takers_are round taken fs core.field apart (λ g within. refl)

  field_last : last.field ≡ layer_field round fs core.field
  field_last = all_frozen.1.field ∙ all_ran.1.field ∙ (λ i. brought_by_all round core.field fs (sym takers_are i) (all_opened.1.field i))

  abbrev stop_last : Option Stop
  stop_last = layer_stop round fs core.field stop

  stop_is : stop_in round.source.model (faults_in last) order ≡ stop_last
  stop_is =
      let model = round.source.model in
      let firsts : stop_in model (faults_in last) fs ≡ first_stop round core.field fs (all_takers round fs core.field) =
      sym (ap (first_stop round core.field fs) takers_are ∙ first_stop_is round core.field taken (faults_in last) fs faults_here) in
      stop_next model core (faults_in last) (λ f. layer_of model f == here) faults_stay faults_else order
      ∙ (λ i. option_or (firsts i) (core_stop model core stop come.rank_is come.fault_is i))

  rank_last : least_fault_rank round.source.model last ≡ option_map (λ (stop : Stop). stop.rank) stop_last
  rank_last = stop_rank round.source.model last ∙ ap (option_map (λ (stop : Stop). stop.rank)) stop_is

  fault_last : first_fault last order ≡ option_map (λ (stop : Stop). stop.fault) stop_last
  fault_last = sym (stop_fault round.source.model (faults_in last) order) ∙ ap (option_map (λ (stop : Stop). stop.fault)) stop_is

  -- ---- the next layer

  later_wait : (f : ℕ) → f < function_count round.source.model → here + 1 ≤ layer_of round.source.model f → status_of last f ≡ Waiting
  later_wait f less later = status_else f (out_of_layer f (λ same. omega (arith, same, later))) ∙ come.later f less (omega (arith, later))

  earlier_shut : (f : ℕ) → layer_of round.source.model f < here + 1 → is_in f (still_run round.source.model stop_last) ≡ true → is_shut (status_of last f) ≡ true
  earlier_shut f early still =
      let model = round.source.model in
      let wants : is_in f (wanted model last) ≡ true = sym (ap (is_in f) (still_is_wanted model last stop_last rank_last)) ∙ still in
      let wanted_once : is_in f (wanted model core) ≡ true = unfaulted_fewer core last faults_stay order f wants in
      let none : faults_in last f ≡ None = unfaulted_none last f order wants in
      ⊎_elim
      (λ (same : layer_of model f ≡ here).
      let within : is_in f fs ≡ true = to_filter (λ g. layer_of model g == here) f (wanted model core) (eq-eqb (layer_of model f) here same) wanted_once in
      ap is_shut (status_here f within ∙ ap done_with (sym (faults_here f within) ∙ none)))
      (λ (else : layer_of model f ≡ here → ⊥).
      ap is_shut (status_else f (out_of_layer f else))
      ∙ come.earlier f (omega (arith, early, else)) (ap (is_in f) (still_is_wanted model core stop come.rank_is) ∙ wanted_once))
      (cases_eq (layer_of model f) here)

  pub comes_next : HasComeTo round bags (here + 1) (layer_stop round fs core.field stop) (layer_field round fs core.field)
  comes_next = record {
    core = last;
    events = all_frozen.1.both.other_events;
    leads = all_frozen.1.both.other_leads;
    field_is = field_last;
    rank_is = rank_last;
    fault_is = fault_last;
    later = later_wait;
    earlier = earlier_shut;
    frozen = all_frozen.1.frozen;
  }

pub layers_lead_on : MessagesDiffer → LayersLeadOn
layers_lead_on differ round bags here stop field accepted has_bags come =
    let model = round.source.model in
    let next = comes_next differ round bags here stop field accepted has_bags come in
    let fs = wanted_in model come.core here in
    let are : fs ≡ runs_in_layer model here stop = ap (filter (λ f. layer_of model f == here)) (sym (still_is_wanted model come.core stop come.rank_is)) in
    subst (λ (l : List ℕ). HasComeTo round bags (here + 1) (layer_stop round l field stop) (layer_field round l field)) are
    (subst (λ (x : Field). HasComeTo round bags (here + 1) (layer_stop round fs x stop) (layer_field round fs x)) come.field_is next)
