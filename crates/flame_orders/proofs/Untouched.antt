-- What an event leaves as it was.
use Rattle.std.proofs.Common.{◌≡◌, ℕ, ⊎_elim, true, false, List, [], Option, Some, None, refl, sym, ap, ◌∙◌, subst, get_or-set_same, get_or-set_other}
use Rattle.std.specs.Prelude.{slice_get, slice_set, slice_index_or}
use Rattle.std.proofs.lemmas.Bool.{cases_eq, false≢true}
use Rattle.flame_rows.proofs.Lists.{slice_get-slice_set_other}
use Rattle.flame_spec.specs.Functions.{Place, functions}
use Rattle.flame_world.specs.Iterations.{Round}
use Rattle.flame_events.specs.declared.events.Event.TheVariants as event
use Rattle.flame_events.specs.CoreStates.{Work, Status, Waiting, Open, works_of, part_in, Core, status_of, work_of}
use Rattle.flame_events.specs.LegalEvents.{outputs_of}
use Rattle.flame_events.specs.EventSteps.{opened, with_work, ran_agent, ran_next, joined_board, handed_in}
use Rattle.flame_events.proofs.Weights.{Row, Rows}
use Rattle.flame_events.proofs.CoreWidths.{status_below}
use Rattle.flame_orders.specs.UntouchedParts.{OtherFunctionsStay, OtherPiecesStay, OtherMarksStay}

-- ---- other functions

-- where this is seen of g whatever pieces f gets, it is seen after an event of f too
module _ {A : Type 0} (see : Status → A) (core : Core) (f g : ℕ)
    (same : (works : List Work) → see (slice_index_or (slice_set core.statuses f (Open works)) g Waiting) ≡ see (status_of core g)) where
  pub opened_sees : (round : Round) (pieces : ℕ) (place : Option Place) → see (status_of (opened round pieces f place core) g) ≡ see (status_of core g)
  opened_sees round pieces None = refl
  opened_sees round pieces (Some place) = same _

  agent_sees : (round : Round) (k : ℕ) (place : Place) (work : Work) (memory : Option Row) → see (status_of (ran_agent round f k place work memory core) g) ≡ see (status_of core g)
  agent_sees round k place work None = refl
  agent_sees round k place work (Some memory) = same _

  pub next_sees : (round : Round) (k : ℕ) (place : Option Place) (work : Option Work) → see (status_of (ran_next round f k place work core) g) ≡ see (status_of core g)
  next_sees round k None work = refl
  next_sees round k (Some place) None = refl
  next_sees round k (Some place) (Some work) = agent_sees round k place work (slice_get work.agents work.ran)

  joined_sees : (k m : ℕ) (outs : List ℕ) (work : Work) (part : Option Rows) → see (status_of (joined_board f k m outs work part core) g) ≡ see (status_of core g)
  joined_sees k m outs work None = refl
  joined_sees k m outs work (Some rows) = same _

  pub handed_sees : (k m : ℕ) (outs : List ℕ) (work : Option Work) → see (status_of (handed_in f k m outs work core) g) ≡ see (status_of core g)
  handed_sees k m outs None = refl
  handed_sees k m outs (Some work) = joined_sees k m outs work (part_in outs work.parts m)

else_same : (core : Core) (f g : ℕ) → (Some f ≡ Some g → ⊥) → (works : List Work) → slice_index_or (slice_set core.statuses f (Open works)) g Waiting ≡ status_of core g
else_same core f g apart works = get_or-set_other core.statuses f g (Open works) Waiting (λ same. apart (ap Some (sym same)))

pub other_functions_stay : OtherFunctionsStay
other_functions_stay round pieces g (event.Open f) core apart =
    opened_sees (λ s. s) core f g (else_same core f g apart) round pieces (slice_get (functions round.source.model) f)
other_functions_stay round pieces g (event.Agent f k) core apart =
    next_sees (λ s. s) core f g (else_same core f g apart) round k (slice_get (functions round.source.model) f) (work_of core f k)
other_functions_stay round pieces g (event.HandIn f k m) core apart =
    handed_sees (λ s. s) core f g (else_same core f g apart) k m (outputs_of round.source.model f) (work_of core f k)
other_functions_stay round pieces g (event.Shut f) core apart = get_or-set_other core.statuses f g _ Waiting (λ same. apart (ap Some (sym same)))
other_functions_stay round pieces g (event.Freeze m) core apart = refl

-- ---- other pieces

work_else : (core : Core) (f k g j : ℕ) (work new : Work) → work_of core f k ≡ Some work → (j ≡ k → ⊥)
    → slice_get (works_of (slice_index_or (with_work core f k new) g Waiting)) j ≡ work_of core g j
work_else core f k g j work new at apart = ⊎_elim
    (λ (same : g ≡ f).
    subst (λ h. slice_get (works_of (slice_index_or (with_work core f k new) h Waiting)) j ≡ work_of core h j) (sym same)
    (ap (λ s. slice_get (works_of s) j)
    (get_or-set_same core.statuses f (Open (slice_set (works_of (status_of core f)) k new)) Waiting (status_below core f k work at))
    ∙ slice_get-slice_set_other (works_of (status_of core f)) k j new apart))
    (λ (else : g ≡ f → ⊥). ap (λ s. slice_get (works_of s) j) (get_or-set_other core.statuses f g _ Waiting else))
    (cases_eq g f)

agent_leaves : (round : Round) (f k g j : ℕ) (place : Place) (work : Work) (memory : Option Row) (core : Core) → work_of core f k ≡ Some work → (j ≡ k → ⊥)
    → work_of (ran_agent round f k place work memory core) g j ≡ work_of core g j
agent_leaves round f k g j place work None core at apart = refl
agent_leaves round f k g j place work (Some memory) core at apart = work_else core f k g j work _ at apart

next_leaves : (round : Round) (f k g j : ℕ) (place : Option Place) (work : Option Work) (core : Core) → work_of core f k ≡ work → (j ≡ k → ⊥)
    → work_of (ran_next round f k place work core) g j ≡ work_of core g j
next_leaves round f k g j None work core at apart = refl
next_leaves round f k g j (Some place) None core at apart = refl
next_leaves round f k g j (Some place) (Some work) core at apart = agent_leaves round f k g j place work (slice_get work.agents work.ran) core at apart

joined_leaves : (f k m g j : ℕ) (outs : List ℕ) (work : Work) (part : Option Rows) (core : Core) → work_of core f k ≡ Some work → (j ≡ k → ⊥)
    → work_of (joined_board f k m outs work part core) g j ≡ work_of core g j
joined_leaves f k m g j outs work None core at apart = refl
joined_leaves f k m g j outs work (Some rows) core at apart = work_else core f k g j work _ at apart

handed_leaves : (f k m g j : ℕ) (outs : List ℕ) (work : Option Work) (core : Core) → work_of core f k ≡ work → (j ≡ k → ⊥)
    → work_of (handed_in f k m outs work core) g j ≡ work_of core g j
handed_leaves f k m g j outs None core at apart = refl
handed_leaves f k m g j outs (Some work) core at apart = joined_leaves f k m g j outs work (part_in outs work.parts m) core at apart

pub other_pieces_stay : OtherPiecesStay
other_pieces_stay round pieces g j (event.Open f) core kind apart = absurd (false≢true kind)
other_pieces_stay round pieces g j (event.Agent f k) core kind apart =
    next_leaves round f k g j (slice_get (functions round.source.model) f) (work_of core f k) core refl (λ same. apart (ap Some (sym same)))
other_pieces_stay round pieces g j (event.HandIn f k m) core kind apart =
    handed_leaves f k m g j (outputs_of round.source.model f) (work_of core f k) core refl (λ same. apart (ap Some (sym same)))
other_pieces_stay round pieces g j (event.Shut f) core kind apart = absurd (false≢true kind)
other_pieces_stay round pieces g j (event.Freeze m) core kind apart = absurd (false≢true kind)

-- ---- marks

opened_marks : (round : Round) (pieces f : ℕ) (place : Option Place) (core : Core) → (opened round pieces f place core).frozen ≡ core.frozen
opened_marks round pieces f None core = refl
opened_marks round pieces f (Some place) core = refl

agent_marks : (round : Round) (f k : ℕ) (place : Place) (work : Work) (memory : Option Row) (core : Core) → (ran_agent round f k place work memory core).frozen ≡ core.frozen
agent_marks round f k place work None core = refl
agent_marks round f k place work (Some memory) core = refl

next_marks : (round : Round) (f k : ℕ) (place : Option Place) (work : Option Work) (core : Core) → (ran_next round f k place work core).frozen ≡ core.frozen
next_marks round f k None work core = refl
next_marks round f k (Some place) None core = refl
next_marks round f k (Some place) (Some work) core = agent_marks round f k place work (slice_get work.agents work.ran) core

joined_marks : (f k m : ℕ) (outs : List ℕ) (work : Work) (part : Option Rows) (core : Core) → (joined_board f k m outs work part core).frozen ≡ core.frozen
joined_marks f k m outs work None core = refl
joined_marks f k m outs work (Some rows) core = refl

handed_marks : (f k m : ℕ) (outs : List ℕ) (work : Option Work) (core : Core) → (handed_in f k m outs work core).frozen ≡ core.frozen
handed_marks f k m outs None core = refl
handed_marks f k m outs (Some work) core = joined_marks f k m outs work (part_in outs work.parts m) core

pub other_marks_stay : OtherMarksStay
other_marks_stay round pieces i (event.Open f) core apart =
    ap (λ marks. slice_index_or marks i false) (opened_marks round pieces f (slice_get (functions round.source.model) f) core)
other_marks_stay round pieces i (event.Agent f k) core apart =
    ap (λ marks. slice_index_or marks i false) (next_marks round f k (slice_get (functions round.source.model) f) (work_of core f k) core)
other_marks_stay round pieces i (event.HandIn f k m) core apart =
    ap (λ marks. slice_index_or marks i false) (handed_marks f k m (outputs_of round.source.model f) (work_of core f k) core)
other_marks_stay round pieces i (event.Shut f) core apart = refl
other_marks_stay round pieces i (event.Freeze m) core apart = get_or-set_other core.frozen m i true false (λ same. apart (ap Some (sym same)))
