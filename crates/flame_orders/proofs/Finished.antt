-- What a function came to stays, and the least rank of a faulted function stays until one more is shut with a fault.
use Rattle.std.proofs.Common.{◌≡◌, ℕ, zero, suc, ⊎_elim, true, List, [], ◌∷◌, None, refl, sym, ap, ◌∙◌, subst, get_or-set_other}
use Rattle.std.specs.Prelude.{is_some, slice_get, slice_set, slice_index_or, position}
use Rattle.std.proofs.lemmas.Bool.{cases_eq}
use Rattle.std.proofs.lemmas.Option.{none-some}
use Rattle.flame_spec.specs.declared.models.Model.{Model}
use Rattle.flame_spec.specs.Functions.{functions}
use Rattle.flame_spec.specs.ModelOrder.{model_order}
use Rattle.flame_world.specs.Iterations.{Round}
use Rattle.flame_events.specs.declared.events.Event.{Event}
use Rattle.flame_events.specs.declared.events.Event.TheVariants as event
use Rattle.flame_events.specs.CoreStates.{Work, Status, Waiting, Open, works_of, fault_of, fault_in, Core, status_of, work_of}
use Rattle.flame_events.specs.CoreEnds.{least_fault_rank}
use Rattle.flame_events.specs.LegalEvents.{outputs_of, is_legal}
use Rattle.flame_events.specs.EventSteps.{done_with, after}
use Rattle.flame_orders.specs.LastingEnds.{ShutFunctionsStay, FaultsStay, shut_by, RanksStayUntilShut, RanksStayWithoutFault}
use Rattle.flame_orders.proofs.Untouched.{other_functions_stay, opened_sees, next_sees, handed_sees}
use Rattle.flame_orders.proofs.Lasting.{finds_faultless, shut_lasts}

pub shut_functions_stay : ShutFunctionsStay
shut_functions_stay round pieces f e core legal shut = shut_lasts round pieces core e f legal shut

pub faults_stay : FaultsStay
faults_stay round pieces f fault e core legal faulted =
    ap fault_of (other_functions_stay round pieces f e core
    (λ own. none-some fault (sym (finds_faultless round.source.model core e f legal own) ∙ faulted)))
    ∙ faulted

-- ---- all faults

-- where a function that has no fault gets pieces
faults_put : (statuses : List Status) (f g : ℕ) (works : List Work) → fault_of (slice_index_or statuses f Waiting) ≡ None
    → fault_of (slice_index_or (slice_set statuses f (Open works)) g Waiting) ≡ fault_of (slice_index_or statuses g Waiting)
faults_put [] f g works none = refl
faults_put (s ∷ statuses) zero zero works none = sym none
faults_put (s ∷ statuses) zero (suc g) works none = refl
faults_put (s ∷ statuses) (suc f) zero works none = refl
faults_put (s ∷ statuses) (suc f) (suc g) works none = faults_put statuses f g works none

abbrev SameFaults : Core → Core → Type 0
SameFaults core next = (g : ℕ) → fault_of (status_of next g) ≡ fault_of (status_of core g)

faults_until_shut : (round : Round) (pieces : ℕ) (e : Event) (core : Core) → is_legal round.source.model core e ≡ true → shut_by e ≡ None
    → SameFaults core (after round pieces core e)
faults_until_shut round pieces (event.Open f) core legal none g =
    let was = finds_faultless round.source.model core (event.Open f) f legal refl in
    opened_sees fault_of core f g (λ works. faults_put core.statuses f g works was) round pieces (slice_get (functions round.source.model) f)
faults_until_shut round pieces (event.Agent f k) core legal none g =
    let was = finds_faultless round.source.model core (event.Agent f k) f legal refl in
    next_sees fault_of core f g (λ works. faults_put core.statuses f g works was) round k (slice_get (functions round.source.model) f) (work_of core f k)
faults_until_shut round pieces (event.HandIn f k m) core legal none g =
    let was = finds_faultless round.source.model core (event.HandIn f k m) f legal refl in
    handed_sees fault_of core f g (λ works. faults_put core.statuses f g works was) k m (outputs_of round.source.model f) (work_of core f k)
faults_until_shut round pieces (event.Shut f) core legal none g = absurd cc
faults_until_shut round pieces (event.Freeze m) core legal none g = refl

faults_when_shut : (round : Round) (pieces f : ℕ) (core : Core) → is_legal round.source.model core (event.Shut f) ≡ true
    → fault_of (status_of (after round pieces core (event.Shut f)) f) ≡ None → SameFaults core (after round pieces core (event.Shut f))
faults_when_shut round pieces f core legal none g =
    let next = after round pieces core (event.Shut f) in
    let was = finds_faultless round.source.model core (event.Shut f) f legal refl in
    ⊎_elim
    (λ (same : g ≡ f). subst (λ h. fault_of (status_of next h) ≡ fault_of (status_of core h)) (sym same) (none ∙ sym was))
    (λ (else : g ≡ f → ⊥). ap fault_of (get_or-set_other core.statuses f g (done_with (fault_in (works_of (status_of core f)))) Waiting else))
    (cases_eq g f)

-- ---- the least rank

same_ranks : (model : Model) (core next : Core) → SameFaults core next → least_fault_rank model next ≡ least_fault_rank model core
same_ranks model core next same = λ i. position (λ g. is_some (same g i)) (model_order model)

pub ranks_stay_until_shut : RanksStayUntilShut
ranks_stay_until_shut round pieces e core legal none = same_ranks round.source.model core (after round pieces core e) (faults_until_shut round pieces e core legal none)

pub ranks_stay_without_fault : RanksStayWithoutFault
ranks_stay_without_fault round pieces f core legal none =
    same_ranks round.source.model core (after round pieces core (event.Shut f)) (faults_when_shut round pieces f core legal none)
