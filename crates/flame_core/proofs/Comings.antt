-- What events that run agents leave, put together from what the body makes.
use Rattle.std.proofs.Common.{◌≡◌, ℕ, ◌+◌, ◌<◌, true, false, Vec, ⊎_elim, get_or-set_same, get_or-set_other, List, [], ◌∷◌, ◌++◌, length, map, Option, Some, None, refl, sym, ap, ◌∙◌, subst, append-nil, Result, IfOk}
use Rattle.std.specs.Global.{Global}
use Rattle.std.specs.Prelude.{ℤ, option_map, slice_get, slice_index_or, slice_set}
use Rattle.std.specs.Option.{option_or}
use Rattle.std.specs.List.{All, cons_option}
use Rattle.std.proofs.lemmas.Bool.{and_from, cases_eq}
use Rattle.std.proofs.lemmas.List.{length-map}
use Rattle.std.proofs.lemmas.Result.{IfOk-weaker}
use Rattle.std.proofs.lemmas.Slice.Zip.{AllZip-long}
use Rattle.flame_rows.specs.Bags.{ascending, merge}
use Rattle.flame_spec.specs.declared.models.Model.{Model}
use Rattle.flame_spec.specs.Accepted.{IsAccepted}
use Rattle.flame_spec.specs.Functions.{Place, functions}
use Rattle.flame_world.specs.declared.turns.Turn.{Turn}
use Rattle.flame_spec.specs.declared.outcomes.Sent.{Sent}
use Rattle.flame_world.specs.AgentRuns.{born_by, births_of, fault_by, kept, messages_of, sent_by}
use Rattle.flame_spec.specs.States.{state_place}
use Rattle.flame_spec.proofs.Numbered.{first-cons_option_nil}
use Rattle.flame_world.specs.Fields.{changed_pool, joined}
use Rattle.flame_world.specs.Iterations.{Round, iteration, outcome_in, staying, taking}
use Rattle.flame_meaning.specs.Outcomes.{outputs_at}
use Rattle.flame_events.specs.declared.events.Event.{Event}
use Rattle.flame_events.specs.declared.events.Event.TheVariants as event
use Rattle.flame_rows.specs.Cuts.{cut}
use Rattle.flame_events.specs.CoreEnds.{ending, is_complete}
use Rattle.flame_events.specs.CoreFits.{FitsCore}
use Rattle.flame_events.specs.CoreStates.{Work, Status, Waiting, Open, Shut, Faulted, is_shut, is_waiting, Core, status_of, work_of}
use Rattle.flame_events.specs.EventSteps.{after, fresh_work, opened, ran_agent, ran_next, replay, with_agent, with_sent, with_work}
use Rattle.flame_events.specs.EveryOrder.{CanGoOn, EveryOrderIsTheIteration}
use Rattle.flame_events.specs.Histories.{Leads}
use Rattle.flame_events.specs.LegalEvents.{is_legal, outputs_of}
use Rattle.flame_events.proofs.CoreWidths.{fitting_cores_open}
use Rattle.flame_events.proofs.Growing.{histories_fit, histories_grow}
use Rattle.flame_pieces.specs.declared.works.Work as run
use Rattle.flame_pieces.specs.declared.statuses.Status as kept
use Rattle.flame_pieces.specs.declared.statuses.Status.TheVariants as is
use Rattle.flame_field.specs.declared.pools.Pool.{Pool}
use Rattle.flame_field.specs.KeptPools.{pools_of, AreDealt}
use Rattle.flame_field.proofs.Borne.{none_same}
use Rattle.flame_pieces.specs.KeptWorks.{outputs_in, with_lists}
use Rattle.flame_pieces.specs.KeptStatuses.{FitOutputs, HasOutputs}
use Rattle.flame_progress.specs.declared.counts.Counts.{Counts}
use Rattle.flame_leaving.specs.declared.leavings.Leaving.{Leaving}
use Rattle.flame_leaving.specs.Leavings.{AreLeft}
use Rattle.flame_progress.specs.declared.progress.Progress.{Progress}
use Rattle.flame_progress.specs.KeptCores.{core_of}
use Rattle.flame_progress.specs.KeptCounts.{Counted}
use Rattle.flame_progress.specs.KeptWorkEvents.{added}
use Rattle.flame_progress.specs.declared.leavings.PartedLeaving.{PartedLeaving}
use Rattle.flame_progress.specs.Tallying.{Came, Tallies}
use Rattle.flame_progress.proofs.Tallied.{came, counted_kept, status_kept}
use Rattle.flame_round.specs.Choices.{choice_at}
use Rattle.flame_core.specs.declared.ranks.Ranks.{Ranks}
use Rattle.flame_core.specs.KeptShares.{ArePartsOf}
use Rattle.flame_core.specs.FunctionRanks.{AreRanksOf}
use Rattle.flame_core.specs.KeptReady.{IsKeptCore}
use Rattle.flame_core.specs.SeenCores.{Seen, IsReached, round_in, start_in, when_came}

-- ---- a function is opened

-- no births of any type
abbrev none_of : Vec (Vec Pool Global) Global → List (List (List ℤ))
none_of pools = map (λ own. []) pools.items

-- the core where pools are these, of as many types
pub core_with : (progress : Progress) (pools : Vec (Vec Pool Global) Global) (bags : List (List (List (List ℤ))))
    → pools_of pools ≡ bags
    → none_of pools ≡ none_of progress.field.pools
    → core_of (record progress { field = record progress.field { pools = pools } })
    ≡ record (core_of progress) { field = record (core_of progress).field { pools = bags } }
core_with progress pools bags is same = λ i. record {
  statuses = (core_of progress).statuses;
  field = record {
    pools = is i;
    born = joined (births_of progress.field.born.items) (same i);
    boards = (core_of progress).field.boards;
  };
  frozen = (core_of progress).frozen;
}

-- agents that chose rest where they did
pub stays_with : (model : Model) (progress : Progress) (counts : Counts) (pools : Vec (Vec Pool Global) Global)
    → pools_of pools ≡ pools_of progress.field.pools → Tallies model progress counts
    → Came model (core_of progress) (record progress { field = record progress.field { pools = pools } }) counts
stays_with model progress counts pools same tallies =
    came model progress (record progress { field = record progress.field { pools = pools } }) counts counts
    (core_of progress) (core_with progress pools (pools_of progress.field.pools) same (none_same progress.field.pools pools (ap length same)))
    refl refl (λ g has. has) tallies tallies.counted

pub open_is : (round : Round) (pieces f : ℕ) (place : Place) (core : Core) (works : List Work) (agents : List (List ℤ))
    (pools : List (List (List (List ℤ))))
    → slice_get (functions round.source.model) f ≡ Some place
    → works ≡ map (fresh_work (outputs_at (Some place) round.source.model)) (cut pieces agents)
    → agents ≡ taking round f place core.field
    → pools ≡ changed_pool place.agent (state_place place.type place.function.current) (staying round f place) core.field.pools
    → (let next : Core = record core {
      statuses = slice_set core.statuses f (Open works);
      field = record core.field { pools = pools };
    } in next)
    ≡ after round pieces core (event.Open f)
open_is round pieces f place core works agents pools at works_are takers_are pools_are =
    let model = round.source.model in
    let outputs : outputs_at (Some place) model ≡ outputs_of model f = ap (λ o. outputs_at o model) (sym at) in
    let all = works_are ∙ (λ i. map (fresh_work (outputs i)) (cut pieces (takers_are i))) in
    let made_is : (let made : Core = record core {
      statuses = slice_set core.statuses f (Open works);
      field = record core.field { pools = pools };
    } in made) ≡ opened round pieces f (Some place) core =
    λ i. record {
      statuses = slice_set core.statuses f (Open (all i));
      field = record { pools = pools_are i; born = core.field.born; boards = core.field.boards };
      frozen = core.frozen;
    } in
    made_is ∙ sym (ap (λ o. opened round pieces f o core) at)

-- ---- an agent runs

-- lists of messages that join parts join them as what was sent does
pub parts_sent : (outputs : List ℕ) (sent : List Sent) (own : ℕ → List (List ℤ)) (parts : List (Option (List (List ℤ))))
    → ((m : ℕ) (rows : List (List ℤ)) → merge rows (own m) ≡ merge rows (messages_of sent m))
    → with_lists (map own outputs) parts ≡ with_sent outputs sent parts
parts_sent [] sent own parts same = refl
parts_sent (m ∷ outputs) sent own [] same = refl
parts_sent (m ∷ outputs) sent own (part ∷ parts) same =
    let here = by part in
    λ i. here i ∷ parts_sent outputs sent own parts same i
  where
    by : (part : Option (List (List ℤ)))
        → option_map (λ rows. merge rows (own m)) part ≡ option_map (λ rows. merge rows (messages_of sent m)) part
    by None = refl
    by (Some rows) = ap Some (same m rows)

-- pieces with these outputs have as many
pub fit_outputs : (outputs : List ℕ) (count : ℕ) (status : kept.Status) → count ≡ length outputs → HasOutputs outputs status
    → FitOutputs count status
fit_outputs outputs count is.Waiting long has = tt
fit_outputs outputs count (is.Open works) long has = λ k d less. ap length (has k d less) ∙ sym long
fit_outputs outputs count is.Shut long has = tt
fit_outputs outputs count (is.Faulted fault) long has = tt

-- a list for each output
pub parts_long : (outputs : List ℕ) (leaving : Leaving) (left : PartedLeaving) → ArePartsOf outputs leaving left
    → length left.parts.items ≡ length outputs
parts_long outputs leaving left parted =
    sym (length-map left.parts.items (λ rows. rows.items))
    ∙ ap length parted.parts_are
    ∙ length-map outputs (messages_of leaving.sent.items)

pub agent_is : (round : Round) (pieces f k : ℕ) (place : Place) (core : Core) (work : Work) (memory : List ℤ) (leaving : Leaving) (left : PartedLeaving)
    (agent to : ℕ)
    → slice_get (functions round.source.model) f ≡ Some place
    → work_of core f k ≡ Some work
    → slice_get work.agents work.ran ≡ Some memory
    → agent ≡ place.agent
    → to ≡ state_place place.type place.function.next
    → AreLeft round.iteration f (outcome_in round f core.field) (memory ∷ []) leaving
    → ArePartsOf (outputs_of round.source.model f) leaving left
    → (let next : Core = record core {
      statuses = with_work core f k (added left work);
      field = record core.field {
        pools = changed_pool agent to (λ pool. merge pool (ascending left.survivors.items)) core.field.pools;
        born = joined (births_of left.born.items) core.field.born;
      };
    } in next)
    ≡ after round pieces core (event.Agent f k)
agent_is round pieces f k place core work memory leaving left agent to at there next agent_same to_same came_of parted =
    let outcome = outcome_in round f core.field memory in
    let outputs = outputs_of round.source.model f in
    let parts : with_lists (map (λ rows. rows.items) left.parts.items) work.parts ≡ with_sent outputs (sent_by outcome) work.parts =
    ap (λ more. with_lists more work.parts) parted.parts_are
    ∙ parts_sent outputs leaving.sent.items (messages_of leaving.sent.items) work.parts (λ m rows. refl)
    ∙ ap (λ sent. with_sent outputs sent work.parts) (came_of.sent ∙ append-nil (sent_by outcome)) in
    let ran_is : left.ran ≡ 1 = parted.ran_is ∙ came_of.ran in
    let fault_is : left.fault ≡ fault_by round.iteration f memory outcome =
    parted.fault_is ∙ came_of.fault ∙ first-cons_option_nil (fault_by round.iteration f memory outcome) in
    let ran : added left work ≡ with_agent round f work memory outcome =
    λ i. record {
      agents = work.agents;
      ran = work.ran + ran_is i;
      parts = parts i;
      fault = option_or work.fault (fault_is i);
    } in
    let pools : changed_pool agent to (λ pool. merge pool (ascending left.survivors.items)) core.field.pools
    ≡ changed_pool place.agent (state_place place.type place.function.next) (λ pool. merge pool (ascending (cons_option (kept outcome) []))) core.field.pools =
    λ i. changed_pool (agent_same i) (to_same i) (λ pool. merge pool (ascending ((parted.survivors_are ∙ came_of.survivors) i))) core.field.pools in
    let born : joined (births_of left.born.items) core.field.born ≡ joined (births_of (born_by outcome ++ [])) core.field.born =
    ap (λ l. joined (births_of l) core.field.born) (parted.births_are ∙ came_of.born) in
    let made_is : (let made : Core = record core {
      statuses = with_work core f k (added left work);
      field = record core.field {
        pools = changed_pool agent to (λ pool. merge pool (ascending left.survivors.items)) core.field.pools;
        born = joined (births_of left.born.items) core.field.born;
      };
    } in made) ≡ ran_agent round f k place work (Some memory) core =
    λ i. record {
      statuses = with_work core f k (ran i);
      field = record { pools = pools i; born = born i; boards = core.field.boards };
      frozen = core.frozen;
    } in
    made_is
    ∙ sym (ap (λ o. ran_next round f k o (work_of core f k) core) at
    ∙ ap (λ o. ran_next round f k (Some place) o core) there
    ∙ ap (λ o. ran_agent round f k place work o core) next)

-- ---- what is kept stands

pub reached_fits : (seen : Seen) → IsReached seen → FitsCore seen.source.model seen.core
reached_fits seen reached =
    histories_fit (round_in seen) seen.pieces (start_in seen) seen.core reached.events
    (fitting_cores_open seen.source.model seen.world reached.fits) reached.leads

-- a core to which events led, and further ones
pub reached_on : (seen : Seen) (events : List Event) (core : Core) → IsReached seen → Leads (round_in seen) seen.pieces seen.core events core
    → IsReached (record seen { core = core })
reached_on seen events core reached leads = record {
  fits = reached.fits;
  some = reached.some;
  events = reached.events ++ events;
  leads = histories_grow (round_in seen) seen.pieces (start_in seen) seen.core core reached.events events reached.leads leads;
}

-- these events came, each legal when it did
pub stands_on : (seen : Seen) (earlier progress : Progress) (counted counts : Counts) (before ranks : Ranks) (events : List Event) (core : Core)
    → IsKeptCore seen earlier counted before → Leads (round_in seen) seen.pieces seen.core events core → Came seen.source.model core progress counts
    → AreDealt (choice_at seen.source.model seen.iteration) progress.field.pools
    → AreRanksOf seen.source.model (core_of progress) ranks
    → IsKeptCore (record seen { core = core_of progress }) progress counts ranks
stands_on seen earlier progress counted counts before ranks events core stands leads came dealt ranked = record {
  reached =
      subst (λ (k : Core). IsReached (record seen { core = k })) (sym came.core)
      (reached_on seen events core stands.reached leads);
  numbered = stands.numbered;
  tallies = came.tallies;
  dealt = dealt;
  ranked = ranked;
}

pub one_leads : (round : Round) (pieces : ℕ) (core : Core) (e : Event) → is_legal round.source.model core e ≡ true
    → Leads round pieces core (e ∷ []) (after round pieces core e)
one_leads round pieces core e legal = record { legal = and_from (is_legal round.source.model core e) true legal refl; left = refl }

-- nothing came
pub stands_still : (seen : Seen) (earlier progress : Progress) (counted counts : Counts) (ranks : Ranks)
    → IsKeptCore seen earlier counted ranks → Came seen.source.model seen.core progress counts
    → AreDealt (choice_at seen.source.model seen.iteration) progress.field.pools
    → IsKeptCore (record seen { core = core_of progress }) progress counts ranks
stands_still seen earlier progress counted counts ranks stands came dealt = record {
  reached = subst (λ (k : Core). IsReached (record seen { core = k })) (sym came.core) stands.reached;
  numbered = stands.numbered;
  tallies = came.tallies;
  dealt = dealt;
  ranked = subst (λ (k : Core). AreRanksOf seen.source.model k ranks) (sym came.core) stands.ranked;
}

-- ---- how a core is seen

pub seen_so : (seen : Seen) (core : Core) → core ≡ seen.core → record seen { core = core } ≡ seen
seen_so seen core same = λ i. record seen { core = same i }

pub seen_when : (seen : Seen) (events : List Event) (core : Core) → core ≡ replay (round_in seen) seen.pieces seen.core events
    → record seen { core = core } ≡ when_came events seen
seen_when seen events core same = λ i. record seen { core = same i }

-- ---- what a core comes to

pub ending-iteration : EveryOrderIsTheIteration → (seen : Seen) → IsAccepted seen.source → IsReached seen
    → is_complete seen.source.model seen.core ≡ true
    → ending (round_in seen) seen.core ≡ iteration seen.source seen.world seen.iteration seen.fuel
ending-iteration every seen accepted reached complete =
    let round = round_in seen in
    let start = start_in seen in
    let left = reached.leads.left in
    let many = sym ((sym (AllZip-long _ seen.source.model.agents seen.world.agents reached.fits.agents))) in
    ap (ending round) left
    ∙ (every seen.source seen.world seen.iteration seen.fuel seen.pieces reached.events accepted many reached.some reached.leads.legal).0
    (ap (is_complete seen.source.model) (sym left) ∙ complete)

pub goes_on : EveryOrderIsTheIteration → (seen : Seen) → IsAccepted seen.source → IsReached seen
    → is_complete seen.source.model seen.core ≡ false
    → CanGoOn seen.source.model seen.core
goes_on every seen accepted reached less =
    let left = reached.leads.left in
    let many = sym ((sym (AllZip-long _ seen.source.model.agents seen.world.agents reached.fits.agents))) in
    subst (λ (core : Core). CanGoOn seen.source.model core) (sym left)
    ((every seen.source seen.world seen.iteration seen.fuel seen.pieces reached.events accepted many reached.some reached.leads.legal).1
    (ap (is_complete seen.source.model) (sym left) ∙ less))

pub finished : {E : Type 0} → EveryOrderIsTheIteration → (seen entry : Seen) → seen ≡ entry → IsAccepted seen.source → IsReached seen
    → is_complete entry.source.model entry.core ≡ true → (r : Result Turn E)
    → IfOk r (λ turn. turn ≡ ending (round_in seen) seen.core)
    → IfOk r (λ turn. turn ≡ iteration entry.source entry.world entry.iteration entry.fuel)
finished every seen entry same accepted reached complete r ends =
    IfOk-weaker r (λ turn. turn ≡ ending (round_in seen) seen.core)
    (λ turn. turn ≡ iteration entry.source entry.world entry.iteration entry.fuel)
    (λ turn is.
    is
    ∙ ending-iteration every seen accepted reached (ap (λ (s : Seen). is_complete s.source.model s.core) same ∙ complete)
    ∙ ap (λ (s : Seen). iteration s.source s.world s.iteration s.fuel) same)
    ends

-- ---- what is kept when a function is opened

pub opened_has : (statuses : List kept.Status) (f : ℕ) (works : Vec run.Work Global) (outputs : ℕ → List ℕ) → f < length statuses
    → All (λ work. outputs_in work ≡ outputs f) works.items
    → ((g : ℕ) → HasOutputs (outputs g) (slice_index_or statuses g is.Waiting))
    → (g : ℕ) → HasOutputs (outputs g) (slice_index_or (slice_set statuses f (is.Open works)) g is.Waiting)
opened_has statuses f works outputs less all has g = ⊎_elim
    (λ (here : g ≡ f).
    subst (λ k. HasOutputs (outputs k) (slice_index_or (slice_set statuses f (is.Open works)) k is.Waiting)) (sym here)
    (let P : kept.Status → Type 0 = λ s. HasOutputs (outputs f) s in
    subst P (sym (get_or-set_same statuses f (is.Open works) is.Waiting less)) all))
    (λ (apart : g ≡ f → ⊥).
    let P : kept.Status → Type 0 = λ s. HasOutputs (outputs g) s in
    subst P (sym (get_or-set_other statuses f g (is.Open works) is.Waiting apart)) (has g))
    (cases_eq g f)

-- nothing is done by it
pub opened_counted : (model : Model) (core next : Core) (counts : Counts) (f : ℕ) (works : List Work)
    → f < length core.statuses → is_waiting (status_of core f) ≡ true
    → next.statuses ≡ slice_set core.statuses f (Open works) → next.frozen ≡ core.frozen
    → Counted model core counts → Counted model next counts
opened_counted model core next counts f works less waits put marks counted =
    counted_kept model core next counts
    (λ g.
    ap (λ l. is_shut (slice_index_or l g Waiting)) put
    ∙ status_kept is_shut core.statuses f (Open works) less (sym (not_shut (status_of core f) waits)) g)
    marks counted
  where
    not_shut : (status : Status) → is_waiting status ≡ true → is_shut status ≡ false
    not_shut Waiting waits = refl
    not_shut (Open works) waits = refl
    not_shut Shut waits = sym waits
    not_shut (Faulted fault) waits = refl
