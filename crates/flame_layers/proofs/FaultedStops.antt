-- Where functions that are faulted stop an iteration.
use Rattle.std.proofs.Common.{◌≡◌, ℕ, zero, suc, ◌<◌, Bool, true, false, cond, List, [], ◌∷◌, map, Option, Some, None, refl, sym, ap, ◌∙◌, arith}
use Rattle.std.specs.Prelude.{not, is_some, slice_get, option_map}
use Rattle.std.specs.Option.{option_or}
use Rattle.std.specs.List.{filter, filter_map}
use Rattle.std.proofs.lemmas.Option.{get_or_from_slice_get, slice_get_within}
use Rattle.flame_rows.proofs.Truths.{is_some-false}
use Rattle.flame_spec.specs.declared.models.Model.{Model}
use Rattle.flame_spec.specs.Before.{before, function_count}
use Rattle.flame_spec.specs.Below.{is_in}
use Rattle.flame_spec.specs.Lists.{first}
use Rattle.flame_spec.specs.ModelOrder.{model_order}
use Rattle.flame_spec.proofs.Numbered.{first-cons_option}
use Rattle.flame_spec_laws.proofs.FirstPlace.{position-earlier}
use Rattle.flame_spec_laws.proofs.Places.{rank_is_place}
use Rattle.flame_world.specs.declared.faults.SimFault.{SimFault}
use Rattle.flame_world.specs.AgentRuns.{least_fault}
use Rattle.flame_world.specs.Fields.{Field}
use Rattle.flame_world.specs.Iterations.{Round, outcome_in}
use Rattle.flame_events.specs.CoreStates.{fault_of, Core, status_of}
use Rattle.flame_events.specs.CoreEnds.{is_faulted, least_fault_rank, unfaulted, first_fault}
use Rattle.flame_events.proofs.Weights.{Rows}
use Rattle.flame_events.proofs.LeastRanks.{least_rank_has_first_fault}
use Rattle.flame_events.proofs.Ends.{unfaulted-cons}
use Rattle.flame_events.proofs.Serial.{is_in-self, is_in-later}
use Rattle.flame_layers.specs.declared.stops.Stop.{Stop}
use Rattle.flame_layers.specs.LayerFields.{rank_of, stop_by, first_stop}

abbrev pub Faults : Type 0
Faults = ℕ → Option SimFault

abbrev pub faults_in : Core → Faults
faults_in core f = fault_of (status_of core f)

-- ---- the first of these functions that is faulted

abbrev pub stop_at : Model → ℕ → Option SimFault → Option Stop
stop_at model f fault = option_map (λ (fault : SimFault). record { rank = rank_of model f; fault = fault }) fault

abbrev pub stop_in : Model → Faults → List ℕ → Option Stop
stop_in model faults [] = None
stop_in model faults (f ∷ fs) = option_or (stop_at model f (faults f)) (stop_in model faults fs)

stop_fault_by : (model : Model) (faults : Faults) (f : ℕ) (fs : List ℕ) (o : Option SimFault)
    → option_map (λ (stop : Stop). stop.fault) (stop_in model faults fs) ≡ first (filter_map faults fs)
    → option_map (λ (stop : Stop). stop.fault) (option_or (stop_at model f o) (stop_in model faults fs)) ≡ option_or o (first (filter_map faults fs))
stop_fault_by model faults f fs None rest = rest
stop_fault_by model faults f fs (Some fault) rest = refl

pub stop_fault : (model : Model) (faults : Faults) (fs : List ℕ) → option_map (λ (stop : Stop). stop.fault) (stop_in model faults fs) ≡ first (filter_map faults fs)
stop_fault model faults [] = refl
stop_fault model faults (f ∷ fs) =
    stop_fault_by model faults f fs (faults f) (stop_fault model faults fs) ∙ sym (first-cons_option (faults f) (filter_map faults fs))

-- where the function at this place is faulted, and none before it
stop_found : (model : Model) (faults : Faults) (fs : List ℕ) (k f : ℕ) (fault : SimFault) → slice_get fs k ≡ Some f → faults f ≡ Some fault
    → ((j g : ℕ) → j < k → slice_get fs j ≡ Some g → faults g ≡ None)
    → stop_in model faults fs ≡ stop_at model f (Some fault)
stop_found model faults [] k f fault there own earlier = absurd cc
stop_found model faults (g ∷ fs) zero f fault there own earlier =
    let same : g ≡ f = cc in
    ap (λ h. option_or (stop_at model h (faults h)) (stop_in model faults fs)) same
    ∙ ap (λ o. option_or (stop_at model f o) (stop_in model faults fs)) own
stop_found model faults (g ∷ fs) (suc k) f fault there own earlier =
    ap (λ o. option_or (stop_at model g o) (stop_in model faults fs)) (earlier 0 g (omega arith) refl)
    ∙ stop_found model faults fs k f fault there own (λ j h less at. earlier (suc j) h (omega (arith, less)) at)

-- ---- along model order

same_stop : (one other : Option Stop) → option_map (λ (stop : Stop). stop.rank) one ≡ option_map (λ (stop : Stop). stop.rank) other
    → option_map (λ (stop : Stop). stop.fault) one ≡ option_map (λ (stop : Stop). stop.fault) other → one ≡ other
same_stop None None ranks faults = refl
same_stop None (Some other) ranks faults = absurd cc
same_stop (Some one) None ranks faults = absurd cc
same_stop (Some one) (Some other) ranks faults =
    let rank : one.rank ≡ other.rank = cc in
    let fault : one.fault ≡ other.fault = cc in
    λ i. Some (record { rank = rank i; fault = fault i })

no_stop : (o : Option Stop) → option_map (λ (stop : Stop). stop.fault) o ≡ None → None ≡ option_map (λ (stop : Stop). stop.rank) o
no_stop None none = refl
no_stop (Some stop) none = absurd cc

pub stop_rank : (model : Model) (core : Core) → least_fault_rank model core ≡ option_map (λ (stop : Stop). stop.rank) (stop_in model (faults_in core) (model_order model))
stop_rank model core = by (least_fault_rank model core) refl
  where
    by : (o : Option ℕ) → least_fault_rank model core ≡ o → o ≡ option_map (λ (stop : Stop). stop.rank) (stop_in model (faults_in core) (model_order model))
    by None is =
        no_stop (stop_in model (faults_in core) (model_order model))
        (stop_fault model (faults_in core) (model_order model) ∙ (least_rank_has_first_fault model core).1 is)
    by (Some k) is =
        let order = model_order model in
        let found = (least_rank_has_first_fault model core).0 k is in
        let f = found.function in
        let place : rank_of model f ≡ k =
        ap (rank_of model) (sym (get_or_from_slice_get order k f 0 found.there))
        ∙ rank_is_place (function_count model) (before model) k (slice_get_within order k f found.there) in
        sym (ap (option_map (λ (stop : Stop). stop.rank))
        (stop_found model (faults_in core) order k f found.fault found.there found.own
        (λ j g less at. is_some-false (faults_in core g) (position-earlier (is_faulted core) order k j g is less at)))
        ∙ ap Some place)

pub core_stop : (model : Model) (core : Core) (stop : Option Stop) → least_fault_rank model core ≡ option_map (λ (stop : Stop). stop.rank) stop
    → first_fault core (model_order model) ≡ option_map (λ (stop : Stop). stop.fault) stop
    → stop_in model (faults_in core) (model_order model) ≡ stop
core_stop model core stop rank fault =
    same_stop (stop_in model (faults_in core) (model_order model)) stop
    (sym (stop_rank model core) ∙ rank)
    (stop_fault model (faults_in core) (model_order model) ∙ fault)

-- ---- some more functions are done

-- of those that are here, before the first that was faulted, some are now
pub stop_next : (model : Model) (core : Core) (now : Faults) (here : ℕ → Bool)
    → ((g : ℕ) (fault : SimFault) → faults_in core g ≡ Some fault → now g ≡ Some fault)
    → ((g : ℕ) → here g ≡ false → now g ≡ faults_in core g)
    → (fs : List ℕ)
    → stop_in model now fs ≡ option_or (stop_in model now (filter here (unfaulted core fs))) (stop_in model (faults_in core) fs)
stop_next model core now here old else [] = refl
stop_next model core now here old else (f ∷ fs) =
    by (faults_in core f) refl (stop_next model core now here old else fs)
    ∙ ap (λ l. option_or (stop_in model now (filter here l)) (stop_in model (faults_in core) (f ∷ fs))) (sym (unfaulted-cons core f fs))
  where
    later : Option Stop
    later = stop_in model (faults_in core) fs

    front : Option Stop
    front = stop_in model now (filter here (unfaulted core fs))

    or_or : (a : Option Stop) → option_or a (option_or front later) ≡ option_or (option_or a front) later
    or_or None = refl
    or_or (Some stop) = refl

    passing : (b : Bool) → here f ≡ b → now f ≡ now f → faults_in core f ≡ None → stop_in model now fs ≡ option_or front later
        → option_or (stop_at model f (now f)) (stop_in model now fs)
        ≡ option_or (stop_in model now (cond b (f ∷ filter here (unfaulted core fs)) (filter here (unfaulted core fs)))) later
    passing true is same none rest = ap (option_or (stop_at model f (now f))) rest ∙ or_or (stop_at model f (now f))
    passing false is same none rest = ap (λ o. option_or (stop_at model f o) (stop_in model now fs)) (else f is ∙ none) ∙ rest

    by : (o : Option SimFault) → faults_in core f ≡ o → stop_in model now fs ≡ option_or front later
        → option_or (stop_at model f (now f)) (stop_in model now fs)
        ≡ option_or (stop_in model now (filter here (cond (not (is_some (faults_in core f))) (f ∷ unfaulted core fs) []))) (option_or (stop_at model f (faults_in core f)) later)
    by None is rest =
        passing (here f) refl refl is rest
        ∙ ap (λ o. option_or (stop_in model now (filter here (cond (not (is_some o)) (f ∷ unfaulted core fs) []))) (option_or (stop_at model f o) later)) (sym is)
    by (Some fault) is rest =
        ap (λ o. option_or (stop_at model f o) (stop_in model now fs)) (old f fault is)
        ∙ ap (λ o. option_or (stop_in model now (filter here (cond (not (is_some o)) (f ∷ unfaulted core fs) []))) (option_or (stop_at model f o) later)) (sym is)

-- ---- functions that ran with these agents

pub first_stop_is : (round : Round) (read : Field) (agents : ℕ → Rows) (now : Faults) (fs : List ℕ)
    → ((g : ℕ) → is_in g fs ≡ true → now g ≡ least_fault round.iteration g (outcome_in round g read) (agents g))
    → first_stop round read fs (map agents fs) ≡ stop_in round.source.model now fs
first_stop_is round read agents now [] ran = refl
first_stop_is round read agents now (f ∷ fs) ran =
    let own : stop_by round read f (agents f) ≡ stop_at round.source.model f (now f) = ap (stop_at round.source.model f) (sym (ran f (is_in-self f fs))) in
    let rest = first_stop_is round read agents now fs (λ g within. ran g (is_in-later g f fs within)) in
    λ i. option_or (own i) (rest i)
