-- An iteration comes to its first layer, and behind its last one to its end.
use Rattle.std.proofs.Common.{◌≡◌, ℕ, true, List, [], ◌∷◌, length, None, refl, sym, ap, ◌∙◌, arith, subst}
use Rattle.std.specs.Prelude.{slice_index_or, option_map}
use Rattle.flame_rows.proofs.Lists.{slice_index_or-map_one}
use Rattle.std.specs.Option.{option_or}
use Rattle.flame_spec.specs.declared.models.Model.{Model}
use Rattle.flame_spec.specs.Below.{is_in}
use Rattle.flame_spec.specs.Functions.{functions}
use Rattle.flame_spec.specs.ModelOrder.{model_order}
use Rattle.flame_spec_laws.specs.NameLaws.{MessagesDiffer}
use Rattle.flame_world.specs.Iterations.{Round, unless_faulted, turn_of, round_of, iteration}
use Rattle.flame_events.specs.CoreEnds.{is_complete, wanted, ending}
use Rattle.flame_events.specs.CoreStates.{Waiting, is_shut, fault_of, Core, status_of, opening_core}
use Rattle.flame_events.proofs.EveryOrders.{every_order_is_the_iteration}
use Rattle.flame_events.proofs.GoingOn.{list_all-is_in}
use Rattle.flame_layers.specs.declared.stops.Stop.{Stop}
use Rattle.flame_layers.specs.LayerLaws.{IterationsBegin, LayersEnd}
use Rattle.flame_layers.proofs.FaultedStops.{Faults, faults_in, stop_at, stop_in, stop_fault, stop_rank}
use Rattle.flame_layers.proofs.WantedFunctions.{wanted_below, still_is_wanted}
use Rattle.flame_layers.proofs.OpenedLayers.{HaveCome}
use Rattle.flame_layers.proofs.FrozenLayers.{freeze_all}

-- ---- it begins

no_stops : (model : Model) (faults : Faults) → ((g : ℕ) → faults g ≡ None) → (fs : List ℕ) → stop_in model faults fs ≡ None
no_stops model faults none [] = refl
no_stops model faults none (f ∷ fs) =
    ap (λ o. option_or (stop_at model f o) (stop_in model faults fs)) (none f) ∙ no_stops model faults none fs

pub iterations_begin : IterationsBegin
iterations_begin round bags accepted has_bags =
    let model = round.source.model in
    let core : Core = opening_core model bags in
    let start : HaveCome round bags core core = record {
      accepted = accepted;
      has_bags = has_bags;
      events = [];
      leads = record { legal = refl; left = refl };
      other_events = [];
      other_leads = record { legal = refl; left = refl };
    } in
    let frozen = freeze_all round bags core core (length model.messages) start (omega arith) in
    let last = frozen.0 in
    let waits : (g : ℕ) → status_of last g ≡ Waiting = λ g. ap (λ l. slice_index_or l g Waiting) frozen.1.statuses ∙ slice_index_or-map_one Waiting (functions model) g in
    let stop : stop_in model (faults_in last) (model_order model) ≡ None = no_stops model (faults_in last) (λ g. ap fault_of (waits g)) (model_order model) in
    record {
      core = last;
      events = frozen.1.both.other_events;
      leads = frozen.1.both.other_leads;
      field_is = frozen.1.field;
      rank_is = stop_rank model last ∙ ap (option_map (λ (stop : Stop). stop.rank)) stop;
      fault_is = sym (stop_fault model (faults_in last) (model_order model)) ∙ ap (option_map (λ (stop : Stop). stop.fault)) stop;
      later = λ f less later. waits f;
      earlier = λ f early still. absurd (omega (arith, early));
      frozen = frozen.1.frozen;
    }

-- ---- it ends

pub layers_end : MessagesDiffer → LayersEnd
layers_end differ source world number fuel layers stop field accepted has_bags all come =
    let round : Round = round_of source world number fuel in
    let model = source.model in
    let core = come.core in
    let complete : is_complete model core ≡ true =
    list_all-is_in (λ g. is_shut (status_of core g)) (wanted model core)
    (λ g wants. come.earlier g (all g (wanted_below model core g wants)) (ap (is_in g) (still_is_wanted model core stop come.rank_is) ∙ wants)) in
    let every = every_order_is_the_iteration differ source world number fuel 1 come.events accepted has_bags (omega arith) come.leads.legal in
    let end : ending round core ≡ iteration source world number fuel =
    subst (λ (c : Core). is_complete model c ≡ true → ending round c ≡ iteration source world number fuel) (sym come.leads.left) every.0 complete in
    sym end ∙ (λ i. turn_of world.constants (unless_faulted (come.fault_is i) (come.field_is i)))
