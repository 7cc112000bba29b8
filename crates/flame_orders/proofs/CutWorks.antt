-- The pieces of an open function are a cut of its agents, whatever events led there.
use Rattle.std.proofs.Common.{◌≡◌, ℕ, zero, suc, ◌<◌, List, [], ◌∷◌, ◌++◌, map, Option, Some, None, refl, sym, ap, ◌∙◌, subst}
use Rattle.std.specs.Prelude.{slice_get, slice_set, slice_index_or}
use Rattle.std.specs.List.{flat_map}
use Rattle.std.proofs.lemmas.Option.{same_Some}
use Rattle.flame_rows.specs.Cuts.{cut}
use Rattle.flame_rows.proofs.Lists.{slice_index_or-map_one}
use Rattle.flame_spec.specs.declared.models.Model.{Model}
use Rattle.flame_spec.specs.Functions.{Place, functions}
use Rattle.flame_world.specs.declared.faults.SimFault.{SimFault}
use Rattle.flame_world.specs.Iterations.{Round, taking, outcome_in}
use Rattle.flame_events.specs.declared.events.Event.{Event}
use Rattle.flame_events.specs.declared.events.Event.TheVariants as event
use Rattle.flame_events.specs.CoreStates.{Work, Status, Waiting, Open, works_of, part_in, fault_in, Core, status_of, work_of, opening_core}
use Rattle.flame_events.specs.EventSteps.{fresh_work, opened, with_agent, with_work, ran_agent, ran_next, joined_board, handed_in, done_with, after, replay}
use Rattle.flame_events.specs.LegalEvents.{outputs_of}
use Rattle.flame_events.proofs.EvenCuts.{cuts_are_even}
use Rattle.flame_events.proofs.Weights.{Row, Rows}
use Rattle.flame_events.proofs.Works.{its_agents, without}

pub record IsCutUp (pieces : ℕ) (works : List Work) : Type 0 where
  pub rows : Rows
  pub bags : map its_agents works ≡ cut pieces rows

abbrev pub AreCutUp : ℕ → List Status → Type 0
AreCutUp pieces statuses = (f : ℕ) → IsCutUp pieces (works_of (slice_index_or statuses f Waiting))

nothing_cut : (pieces : ℕ) → IsCutUp pieces []
nothing_cut zero = record { rows = []; bags = refl }
nothing_cut (suc pieces) = record { rows = []; bags = refl }

done_cut : (pieces : ℕ) (o : Option SimFault) → IsCutUp pieces (works_of (done_with o))
done_cut pieces None = nothing_cut pieces
done_cut pieces (Some fault) = nothing_cut pieces

-- ---- one status changes

set_cut : (pieces : ℕ) (statuses : List Status) (f : ℕ) (v : Status) → IsCutUp pieces (works_of v) → AreCutUp pieces statuses → AreCutUp pieces (slice_set statuses f v)
set_cut pieces [] f v new old g = old g
set_cut pieces (s ∷ statuses) zero v new old zero = new
set_cut pieces (s ∷ statuses) zero v new old (suc g) = old (suc g)
set_cut pieces (s ∷ statuses) (suc f) v new old zero = old zero
set_cut pieces (s ∷ statuses) (suc f) v new old (suc g) = set_cut pieces statuses f v new (λ k. old (suc k)) g

same_bags : (works : List Work) (k : ℕ) (work new : Work) → slice_get works k ≡ Some work → new.agents ≡ work.agents
    → map its_agents (slice_set works k new) ≡ map its_agents works
same_bags [] k work new at same = refl
same_bags (w ∷ works) zero work new at same = ap (λ l. l ∷ map its_agents works) (same ∙ ap its_agents (sym (same_Some w work at)))
same_bags (w ∷ works) (suc k) work new at same = ap (λ l. w.agents ∷ l) (same_bags works k work new at same)

work_cut : (pieces : ℕ) (core : Core) (f k : ℕ) (work new : Work) → AreCutUp pieces core.statuses → work_of core f k ≡ Some work → new.agents ≡ work.agents
    → AreCutUp pieces (with_work core f k new)
work_cut pieces core f k work new old at same =
    let works = works_of (status_of core f) in
    set_cut pieces core.statuses f (Open (slice_set works k new)) (record { rows = (old f).rows; bags = same_bags works k work new at same ∙ (old f).bags }) old

-- ---- one event

fresh_bags : (outs : List ℕ) (bags : List Rows) → map its_agents (map (fresh_work outs) bags) ≡ bags
fresh_bags outs [] = refl
fresh_bags outs (bag ∷ bags) = ap (λ l. bag ∷ l) (fresh_bags outs bags)

opened_cut : (round : Round) (pieces f : ℕ) (place : Option Place) (core : Core) → AreCutUp pieces core.statuses → AreCutUp pieces (opened round pieces f place core).statuses
opened_cut round pieces f None core old = old
opened_cut round pieces f (Some place) core old =
    let outs = outputs_of round.source.model f in
    let agents = taking round f place core.field in
    set_cut pieces core.statuses f (Open (map (fresh_work outs) (cut pieces agents))) (record { rows = agents; bags = fresh_bags outs (cut pieces agents) }) old

agent_cut : (round : Round) (pieces f k : ℕ) (place : Place) (work : Work) (memory : Option Row) (core : Core) → AreCutUp pieces core.statuses → work_of core f k ≡ Some work
    → AreCutUp pieces (ran_agent round f k place work memory core).statuses
agent_cut round pieces f k place work None core old at = old
agent_cut round pieces f k place work (Some memory) core old at =
    work_cut pieces core f k work (with_agent round f work memory (outcome_in round f core.field memory)) old at refl

next_cut : (round : Round) (pieces f k : ℕ) (place : Option Place) (work : Option Work) (core : Core) → AreCutUp pieces core.statuses → work_of core f k ≡ work
    → AreCutUp pieces (ran_next round f k place work core).statuses
next_cut round pieces f k None work core old at = old
next_cut round pieces f k (Some place) None core old at = old
next_cut round pieces f k (Some place) (Some work) core old at = agent_cut round pieces f k place work (slice_get work.agents work.ran) core old at

joined_cut : (pieces f k m : ℕ) (outs : List ℕ) (work : Work) (part : Option Rows) (core : Core) → AreCutUp pieces core.statuses → work_of core f k ≡ Some work
    → AreCutUp pieces (joined_board f k m outs work part core).statuses
joined_cut pieces f k m outs work None core old at = old
joined_cut pieces f k m outs work (Some rows) core old at = work_cut pieces core f k work (without outs m work) old at refl

handed_cut : (pieces f k m : ℕ) (outs : List ℕ) (work : Option Work) (core : Core) → AreCutUp pieces core.statuses → work_of core f k ≡ work
    → AreCutUp pieces (handed_in f k m outs work core).statuses
handed_cut pieces f k m outs None core old at = old
handed_cut pieces f k m outs (Some work) core old at = joined_cut pieces f k m outs work (part_in outs work.parts m) core old at

after_cut : (round : Round) (pieces : ℕ) (core : Core) (e : Event) → AreCutUp pieces core.statuses → AreCutUp pieces (after round pieces core e).statuses
after_cut round pieces core (event.Open f) old = opened_cut round pieces f (slice_get (functions round.source.model) f) core old
after_cut round pieces core (event.Agent f k) old = next_cut round pieces f k (slice_get (functions round.source.model) f) (work_of core f k) core old refl
after_cut round pieces core (event.HandIn f k m) old = handed_cut pieces f k m (outputs_of round.source.model f) (work_of core f k) core old refl
after_cut round pieces core (event.Shut f) old =
    set_cut pieces core.statuses f (done_with (fault_in (works_of (status_of core f)))) (done_cut pieces (fault_in (works_of (status_of core f)))) old
after_cut round pieces core (event.Freeze m) old = old

-- ---- all events

pub replay_cut : (round : Round) (pieces : ℕ) (core : Core) (events : List Event) → AreCutUp pieces core.statuses → AreCutUp pieces (replay round pieces core events).statuses
replay_cut round pieces core [] old = old
replay_cut round pieces core (e ∷ events) old = replay_cut round pieces (after round pieces core e) events (after_cut round pieces core e old)

pub opening_cut : (model : Model) (pieces : ℕ) (agents : List Rows) → AreCutUp pieces (opening_core model agents).statuses
opening_cut model pieces agents f =
    subst (λ s. IsCutUp pieces (works_of s)) (sym (slice_index_or-map_one Waiting (functions model) f)) (nothing_cut pieces)

-- ---- of what it is a cut

laid_out : (works : List Work) → flat_map its_agents works ≡ flat_map (λ bag. bag) (map its_agents works)
laid_out [] = refl
laid_out (work ∷ works) = ap (λ l. work.agents ++ l) (laid_out works)

pub cut_of_all : (pieces : ℕ) (works : List Work) → 0 < pieces → IsCutUp pieces works → map its_agents works ≡ cut pieces (flat_map its_agents works)
cut_of_all pieces works some is =
    let whole : flat_map its_agents works ≡ is.rows = laid_out works ∙ ap (λ bags. flat_map (λ bag. bag) bags) is.bags ∙ (cuts_are_even is.rows pieces some).whole in
    is.bags ∙ ap (cut pieces) (sym whole)
